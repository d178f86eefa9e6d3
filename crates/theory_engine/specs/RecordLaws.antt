-- A record that is read, changed by value and put back: the cells that are then put. Assumes nothing.
use Rattle.std.specs.Prelude.{◌≡◌, refl, ◌≢◌, Bool, List, [], ◌∷◌, ◌++◌, ℕ, zero, suc, ◌+◌, ◌-◌, min, ◌≤◌, ◌<◌, length, get_or, set, drop, replicate}
use Rattle.std.proofs.Common.{sym, ap, ◌∙◌, ⊎_elim, arith, length-set, drop_of_length-le, get_or-set_same, get_or-set_other, set-set}
use Rattle.std.proofs.Math.Seq.{set_out}
use Rattle.std.proofs.lemmas.List.{set_comm}
use Rattle.theory_lists.specs.Lists.{decide_eq, decide-le}
use Rattle.node_records.specs.Records.{no_writer_record}
use Rattle.record_tables.specs.Entries.{entry_at, put_entry, clear_to, entry-put-here}
use Rattle.node_records.specs.declared.WriterRecord.{WriterRecord}
use Rattle.writer_records.specs.Fields.{fields_of, record_with, with_field, fields-with}
use Rattle.theory_engine.specs.Cells.{cell, put_cell, cell_at, put-at}
use Rattle.writer_records.specs.Fields.{level_field, first_field, second_field, complement_field, stamp_field, parents_field, head_field, tail_field}
use Rattle.theory_engine.specs.Recycling.{fits_at, more_in, fewer_in, note_in}
use Rattle.writer_numbers.specs.Numbers.{one_more}
use Rattle.writer_records.specs.Records.{with_node, is_node}

-- ---- One record ------------------------------------------------------------------------------

-- two fields are put in any order
field-swap : (x : WriterRecord) (i v j w : ℕ) → i ≢ j → with_field (with_field x i v) j w ≡ with_field (with_field x j w) i v
field-swap x i v j w d =
    ap (λ (a : List ℕ). record_with (set a j w)) (fields-with (set (fields_of x) i v) (length-set (fields_of x) i v))
    ∙ ap record_with (set_comm (fields_of x) i j v w d)
    ∙ ap (λ (a : List ℕ). record_with (set a i v)) (sym (fields-with (set (fields_of x) j w) (length-set (fields_of x) j w)))

put-suc : (t : List WriterRecord) (k : ℕ) (x : WriterRecord) → put_entry t (suc k) x ≡ set t k x
put-suc t k x =
    let e : suc k - 1 ≡ k = omega arith in
    sym (entry-put-here t (suc k) x (λ z. omega (arith, z))) ∙ ap (λ (p : ℕ). set t p x) e

-- a field more of the record that is put
pub put-more : (t : List WriterRecord) (k : ℕ) (x : WriterRecord) (j v : ℕ) → put_entry t k (with_field x j v) ≡ put_cell (put_entry t k x) j k v
unfolding put_cell
put-more t zero x j v = refl
put-more t (suc k) x j v =
    put-suc t k (with_field x j v)
    ∙ ⊎_elim (λ (l : length t ≤ k). set_out t k (with_field x j v) l ∙ sym (set_out t k (with_field (get_or (set t k x) k no_writer_record) j v) l))
    (λ (l : k < length t). ap (λ (y : WriterRecord). set t k (with_field y j v)) (sym (get_or-set_same t k x no_writer_record l)))
    (decide-le (length t) k)
    ∙ sym (set-set t k x (with_field (get_or (set t k x) k no_writer_record) j v))
    ∙ ap (λ (u : List WriterRecord). set u k (with_field (get_or u k no_writer_record) j v)) (sym (put-suc t k x))

-- ---- Two cells -------------------------------------------------------------------------------

-- of one number
put_both : (t : List WriterRecord) (k i v j w : ℕ)
    → put_cell (put_cell t i k v) j k w ≡ put_entry t k (with_field (with_field (entry_at no_writer_record t k) i v) j w)
put_both t k i v j w =
    ap (λ (u : List WriterRecord). put_cell u j k w) (sym (put-at t i k v))
    ∙ sym (put-more t k (with_field (entry_at no_writer_record t k) i v) j w)

swap-same : (t : List WriterRecord) (i k v j p w : ℕ) → i ≢ j → k ≡ p → put_cell (put_cell t i k v) j p w ≡ put_cell (put_cell t j p w) i k v
swap-same t i k v j p w d e =
    ap (λ (q : ℕ). put_cell (put_cell t i k v) j q w) (sym e)
    ∙ put_both t k i v j w
    ∙ ap (put_entry t k) (field-swap (entry_at no_writer_record t k) i v j w d)
    ∙ sym (put_both t k j w i v)
    ∙ ap (λ (q : ℕ). put_cell (put_cell t j q w) i k v) e

swap-other : (t : List WriterRecord) (i k v j p w : ℕ) → k ≢ p → put_cell (put_cell t i k v) j p w ≡ put_cell (put_cell t j p w) i k v
unfolding put_cell
swap-other t i zero v j p w d = refl
swap-other t i (suc k) v j zero w d = refl
swap-other t i (suc k) v j (suc p) w d =
    let x = with_field (get_or t k no_writer_record) i v in
    let y = with_field (get_or t p no_writer_record) j w in
    let n : k ≢ p = λ e. d (ap suc e) in
    ap (λ (r : WriterRecord). set (set t k x) p (with_field r j w)) (get_or-set_other t k p x no_writer_record (λ e. n (sym e)))
    ∙ set_comm t k p x y n
    ∙ ap (λ (r : WriterRecord). set (set t p y) k (with_field r i v)) (sym (get_or-set_other t p k y no_writer_record n))

-- of two fields: they are put in any order
pub put-swap : (t : List WriterRecord) (i k v j p w : ℕ) → i ≢ j → put_cell (put_cell t i k v) j p w ≡ put_cell (put_cell t j p w) i k v
put-swap t i k v j p w d =
    ⊎_elim (λ (e : k ≡ p). swap-same t i k v j p w d e) (λ (n : k ≢ p). swap-other t i k v j p w n) (decide_eq k p)

-- ---- What the code gets and puts --------------------------------------------------------------

-- a field v of the record x that was got
pub got-field : (t : List WriterRecord) (j k : ℕ) {x : WriterRecord} {v : ℕ} → x ≡ entry_at no_writer_record t k → v ≡ get_or (fields_of x) j 0
    → v ≡ cell t j k
got-field t j k a b = b ∙ ap (λ (r : WriterRecord). get_or (fields_of r) j 0) a ∙ cell_at t j k

-- the record x that was got is put with a field changed, y
pub put-field : (t : List WriterRecord) (j k v : ℕ) {u : List WriterRecord} {x y : WriterRecord} → x ≡ entry_at no_writer_record t k
    → y ≡ with_field x j v → u ≡ put_entry t k y → u ≡ put_cell t j k v
put-field t j k v a b c = c ∙ ap (put_entry t k) (b ∙ ap (λ (r : WriterRecord). with_field r j v) a) ∙ put-at t j k v

-- with two, z
pub put-fields : (t : List WriterRecord) (i j k v w : ℕ) {u : List WriterRecord} {x y z : WriterRecord} → x ≡ entry_at no_writer_record t k
    → y ≡ with_field x i v → z ≡ with_field y j w → u ≡ put_entry t k z → u ≡ put_cell (put_cell t i k v) j k w
put-fields t i j k v w a b c d =
    d ∙ ap (put_entry t k) (c ∙ ap (λ (r : WriterRecord). with_field r j w) (b ∙ ap (λ (r : WriterRecord). with_field r i v) a))
    ∙ sym (put_both t k i v j w)

-- k joins a lane after l: its own two links, then that of l
pub put_linked : (t : List WriterRecord) (j l k : ℕ)
    → put_cell (put_cell (put_cell t j k 0) (j + 1) k l) j l k ≡ put_cell (put_cell (put_cell t j k 0) j l k) (j + 1) k l
put_linked t j l k = put-swap (put_cell t j k 0) (j + 1) k l j l k (λ e. omega (arith, e))

-- a bucket's ends
pub put-ends : (t : List WriterRecord) (h f l : ℕ) {u : List WriterRecord} {x y : WriterRecord} → x ≡ entry_at no_writer_record t h
    → y ≡ with_field (with_field x head_field f) tail_field l → u ≡ put_entry t h y → u ≡ put_cell (put_cell t head_field h f) tail_field h l
put-ends t h f l {x = x} a b c = put-fields t head_field tail_field h f l {y = with_field x head_field f} a refl b c

-- a parent more, a parent less
pub put-one-more : (t : List WriterRecord) (c : ℕ) {u : List WriterRecord} {x y : WriterRecord} {p : ℕ} → x ≡ entry_at no_writer_record t c
    → p ≡ one_more x.parents → y ≡ with_field x parents_field p → u ≡ put_entry t c y → u ≡ more_in t c
unfolding more_in
put-one-more t c {p = p} e f g h =
    put-field t parents_field c p e g h ∙ ap (put_cell t parents_field c) (f ∙ ap one_more (got-field t parents_field c e refl))

pub put-one-less : (t : List WriterRecord) (c : ℕ) {u : List WriterRecord} {x y : WriterRecord} {p : ℕ} → x ≡ entry_at no_writer_record t c
    → p ≡ x.parents - 1 → y ≡ with_field x parents_field p → u ≡ put_entry t c y → u ≡ fewer_in t c
unfolding fewer_in
put-one-less t c {p = p} e f g h =
    put-field t parents_field c p e g h
    ∙ ap (put_cell t parents_field c) (f ∙ ap (λ (q : ℕ). q - 1) (got-field t parents_field c e refl))

-- a node
node-put : (t : List WriterRecord) (k i a b c : ℕ) → put_entry t k (with_node (entry_at no_writer_record t k) i a b c) ≡ note_in t k i a b c
unfolding note_in
node-put t k i a b c =
    let x = entry_at no_writer_record t k in
    let y = with_field (with_field x level_field i) first_field a in
    let z = with_field (with_field y second_field b) complement_field c in
    put-more t k z stamp_field (one_more (get_or (fields_of x) stamp_field 0))
    ∙ ap (λ (u : List WriterRecord). put_cell u stamp_field k (one_more (get_or (fields_of x) stamp_field 0)))
    (put-more t k (with_field y second_field b) complement_field c
    ∙ ap (λ (u : List WriterRecord). put_cell u complement_field k c) (put-more t k y second_field b
    ∙ ap (λ (u : List WriterRecord). put_cell u second_field k b) (sym (put_both t k level_field i first_field a))))
    ∙ ap (λ (g : ℕ). put_cell (put_cell (put_cell (put_cell (put_cell t level_field k i) first_field k a) second_field k b) complement_field k c)
    stamp_field k (one_more g)) (cell_at t stamp_field k)

pub put-node : (t : List WriterRecord) (k i a b c : ℕ) {u : List WriterRecord} {x y : WriterRecord} → x ≡ entry_at no_writer_record t k
    → y ≡ with_node x i a b c → u ≡ put_entry t k y → u ≡ note_in t k i a b c
put-node t k i a b c e f g =
    g ∙ ap (put_entry t k) (f ∙ ap (λ (r : WriterRecord). with_node r i a b c) e) ∙ node-put t k i a b c

-- it has the node
pub node-fits : (t : List WriterRecord) (k i a b c : ℕ) {x : WriterRecord} {r : Bool} → x ≡ entry_at no_writer_record t k → r ≡ is_node x i a b c
    → r ≡ fits_at t k i a b c
node-fits t k i a b c e f =
    f ∙ rw (
      got-field t level_field k e refl,
      got-field t first_field k e refl,
      got-field t second_field k e refl,
      got-field t complement_field k e refl,
    ) refl

-- ---- All records -----------------------------------------------------------------------------

-- all are cleared
pub clear_whole : (t : List WriterRecord) → clear_to no_writer_record t (length t) ≡ replicate (length t) no_writer_record
clear_whole t =
    let e : min (length t) (length t) ≡ length t = omega arith in
    ap (λ (m : ℕ). replicate m no_writer_record ++ drop (length t) t) e
    ∙ ap (λ (d : List WriterRecord). replicate (length t) no_writer_record ++ d) (drop_of_length-le t {i = length t} (omega arith))
    ∙ end (replicate (length t) no_writer_record)
  where
    end : (l : List WriterRecord) → l ++ [] ≡ l
    end [] = refl
    end (x ∷ l) = ap (λ (r : List WriterRecord). x ∷ r) (end l)
