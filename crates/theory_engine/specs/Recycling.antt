-- The unique table and its recycling queue as code has them, in the cells of lent records: numbers linked both ways in the queue and in
-- buckets, looking a node up, the number for a new node, storing it. Definitions only; Buckets, Finding and Placing tie them to UniqueTable.
-- Assumes nothing.
use Rattle.std.specs.Prelude.{Bool, not, cond, ◌&&◌, ◌||◌, List, ℕ, zero, suc, ◌+◌, ◌-◌, eqb, ltb}
use Rattle.theory_writing.specs.Links.{stops}
use Rattle.theory_engine.specs.Cells.{cell, put_cell}
use Rattle.writer_numbers.specs.Hashing.{bucket_of}
use Rattle.writer_numbers.specs.Numbers.{one_more}
use Rattle.writer_records.specs.Fields.{level_field, first_field, second_field, complement_field, stamp_field, parents_field}
use Rattle.writer_records.specs.Fields.{queue_field, bucket_field, head_field, tail_field}
use Rattle.node_records.specs.declared.WriterRecord.{WriterRecord}

-- ---- Numbers linked both ways ----------------------------------------------------------------

-- the records, and the first and the last of the numbers that are linked (0: none)
pub record Lane : Type 0 where
  pub table : List WriterRecord
  pub first : ℕ
  pub last : ℕ

abbrev pub lane : List WriterRecord → ℕ → ℕ → Lane
lane t f l = record { table = t; first = f; last = l }

-- Cell j has the number after, cell j + 1 the number before. k leaves: its neighbours are tied together
unfoldable pub unlink_in : List WriterRecord → ℕ → ℕ → ℕ → ℕ → Lane
unlink_in t j f l k =
    let p = cell t (j + 1) k in
    let x = cell t j k in
    lane (put_cell (put_cell t j p x) (j + 1) x p) (cond (eqb p 0) x f) (cond (eqb x 0) p l)

-- k joins at the end
unfoldable pub link_in : List WriterRecord → ℕ → ℕ → ℕ → ℕ → Lane
link_in t j f l k = lane (put_cell (put_cell (put_cell t j k 0) j l k) (j + 1) k l) (cond (eqb l 0) k f) k

-- the first of the queue that is neither a nor b, 0 if there is none: at most three are looked at
unfoldable pub free_of : List WriterRecord → ℕ → ℕ → ℕ → ℕ
free_of t x a b =
    let y = cell t queue_field x in
    cond (stops a b x) x (cond (stops a b y) y (cell t queue_field y))

-- ---- Looking up ------------------------------------------------------------------------------

-- the bucket of the node which has number k
abbrev pub bucket_at : List WriterRecord → ℕ → ℕ
bucket_at t k = bucket_of (cell t level_field k) (cell t first_field k) (cell t second_field k) (cell t complement_field k)

-- number k has this level, these children, this complement
abbrev pub fits_at : List WriterRecord → ℕ → ℕ → ℕ → ℕ → ℕ → Bool
fits_at t k i a b c =
    eqb (cell t level_field k) i && (eqb (cell t first_field k) a && (eqb (cell t second_field k) b && eqb (cell t complement_field k) c))

-- the first that fits, from k on in its bucket, 0 if there is none: at most m are looked at
unfoldable pub search_in : List WriterRecord → ℕ → ℕ → ℕ → ℕ → ℕ → ℕ → ℕ
search_in t zero k i a b c = 0
search_in t (suc m) k i a b c = cond (eqb k 0) 0 (cond (fits_at t k i a b c) k (search_in t m (cell t bucket_field k) i a b c))

-- the number of the node among z numbers, or 0
unfoldable pub find_in : List WriterRecord → ℕ → ℕ → ℕ → ℕ → ℕ → ℕ
find_in t z i a b c = search_in t z (cell t head_field (bucket_of i a b c)) i a b c

-- a bucket, the one of place h, gets new ends
abbrev pub ends_to : ℕ → Lane → List WriterRecord
ends_to h e = put_cell (put_cell e.table head_field h e.first) tail_field h e.last

-- k joins its bucket; k leaves it
unfoldable pub insert_in : List WriterRecord → ℕ → List WriterRecord
insert_in t k = let h = bucket_at t k in ends_to h (link_in t bucket_field (cell t head_field h) (cell t tail_field h) k)

unfoldable pub remove_in : List WriterRecord → ℕ → List WriterRecord
remove_in t k = let h = bucket_at t k in ends_to h (unlink_in t bucket_field (cell t head_field h) (cell t tail_field h) k)

-- ---- Parents ---------------------------------------------------------------------------------

unfoldable pub more_in : List WriterRecord → ℕ → List WriterRecord
more_in t c = put_cell t parents_field c (one_more (cell t parents_field c))

unfoldable pub fewer_in : List WriterRecord → ℕ → List WriterRecord
fewer_in t c = put_cell t parents_field c (cell t parents_field c - 1)

-- ---- Storing ---------------------------------------------------------------------------------

-- c joins the queue if it has no parent
unfoldable pub orphan_in : List WriterRecord → ℕ → ℕ → ℕ → Lane
orphan_in t f l c = cond (eqb c 0 || not (eqb (cell t parents_field c) 0)) (lane t f l) (link_in t queue_field f l c)

-- the old children x and y lose a parent, and join the queue if they have none left
unfoldable pub orphans_in : List WriterRecord → ℕ → ℕ → ℕ → ℕ → Lane
orphans_in t f l x y =
    let e = orphan_in (fewer_in (fewer_in t x) y) f l x in
    cond (eqb x y) e (orphan_in e.table e.first e.last y)

-- number k is taken from its node: it leaves the queue and its bucket
unfoldable pub release_in : List WriterRecord → ℕ → ℕ → ℕ → Lane
release_in t f l k =
    let e = unlink_in t queue_field f l k in
    let u = remove_in e.table k in
    orphans_in u e.first e.last (cell u first_field k) (cell u second_field k)

-- c gets a parent more and leaves the queue if it had none
unfoldable pub adopt_in : List WriterRecord → ℕ → ℕ → ℕ → Lane
adopt_in t f l c = cond (eqb c 0 || not (eqb (cell t parents_field c) 0)) (lane (more_in t c) f l) (unlink_in (more_in t c) queue_field f l c)

-- the record of number k gets a node, and a stamp one more
unfoldable pub note_in : List WriterRecord → ℕ → ℕ → ℕ → ℕ → ℕ → List WriterRecord
note_in t k i a b c =
    put_cell (put_cell (put_cell (put_cell (put_cell t level_field k i) first_field k a) second_field k b) complement_field k c)
    stamp_field k (one_more (cell t stamp_field k))

-- the new node gets number k: its children, its record, its bucket, the queue
unfoldable pub place_in : List WriterRecord → ℕ → ℕ → ℕ → ℕ → ℕ → ℕ → ℕ → Lane
place_in t f l k i a b c =
    let p = adopt_in t f l a in
    let q = adopt_in p.table p.first p.last b in
    link_in (insert_in (note_in q.table k i a b c) k) queue_field q.first q.last k

-- of z numbers given out, k is reused, or it is the next
unfoldable pub store_in : List WriterRecord → ℕ → ℕ → ℕ → ℕ → ℕ → ℕ → ℕ → ℕ → Lane
store_in t z f l k i a b c =
    let e = cond (ltb z k) (lane t f l) (release_in t f l k) in
    place_in e.table e.first e.last k i a b c

-- the number for a new node with children a and b, 0 if there is none
unfoldable pub next_in : List WriterRecord → ℕ → ℕ → ℕ → ℕ → ℕ → ℕ
next_in t z f size a b = cond (ltb z size) (z + 1) (free_of t f a b)
