-- The writer's engine as code has it: what it knows of a part, how two halves meet by rules 1 to 5, and the walk over a truth table.
-- Definitions only; Walking ties them to the walk of Online. Assumes nothing.
use Rattle.std.specs.Prelude.{Bool, true, false, not, cond, ◌&&◌, ◌||◌, List, [], ◌∷◌, ℕ, zero, suc, ◌+◌, ◌-◌, ◌/◌, ◌^◌, eqb, ltb, length, get_or, take}
use Rattle.theory_lists.specs.Lists.{differ}
use Rattle.theory_reading.specs.Bytes.{opener, dot}
use Rattle.theory_writing.specs.Texts.{tilde_if}
use Rattle.theory_writing.specs.Run.{head}
use Rattle.theory_writing.specs.Calls.{truth_at}
use Rattle.theory_engine.specs.Cells.{cell}
use Rattle.writer_records.specs.Fields.{stamp_field}
use Rattle.theory_engine.specs.Recycling.{Lane, find_in, store_in, next_in}
use Rattle.writer_numbers.specs.Numbers.{one_more}
use Rattle.theory_engine.specs.Pending.{push_all, wait_in, close_in, sent_to, written_to}
use Rattle.node_records.specs.declared.WriterRecord.{WriterRecord}

-- ---- What is known ---------------------------------------------------------------------------

-- What a part came to: the number (0 for the constant, and for a temporary node), its stamp, the levels skipped; whether it is temporary;
-- its complement; whether a node was written out
pub record Half : Type 0 where
  pub number : ℕ
  pub stamp : ℕ
  pub skipped : ℕ
  pub temporary : Bool
  pub complement : Bool
  pub wrote : Bool

-- How far the writer is: the numbers given out, the first and the last of the queue, the bytes written; more was sent than the output
-- holds
pub record Progress : Type 0 where
  pub given : ℕ
  pub first : ℕ
  pub last : ℕ
  pub written : ℕ
  pub full : Bool

-- after a part: the records, the output, what waits
pub record Walked : Type 0 where
  pub half : Half
  pub progress : Progress
  pub table : List WriterRecord
  pub output : List ℕ
  pub waits : List ℕ

-- ---- Parts that are one step -----------------------------------------------------------------

-- the constant v
abbrev pub constant_half : Bool → Half
constant_half v = record { number = 0; stamp = 0; skipped = 0; temporary = false; complement = v; wrote = false }

-- the number k of stamp g, j levels below, complemented if v
abbrev pub number_half : ℕ → ℕ → ℕ → Bool → Bool → Half
number_half k g j v wrote = record { number = k; stamp = g; skipped = j; temporary = false; complement = v; wrote = wrote }

-- a temporary node
abbrev pub temporary_half : Bool → Half
temporary_half v = record { number = 0; stamp = 0; skipped = 0; temporary = true; complement = v; wrote = true }

-- ---- What the rules ask ----------------------------------------------------------------------

abbrev pub is_constant : Half → Bool
is_constant a = eqb a.number 0 && not a.temporary

-- its number was given out again since
abbrev pub is_stale : List WriterRecord → Half → Bool
is_stale t a = not (eqb a.number 0) && not (eqb (cell t stamp_field a.number) a.stamp)

-- rule 1, rule 2, rule 3; v: the `~` between the halves
abbrev pub alike_constant : Bool → Half → Half → Bool
alike_constant v a b = is_constant a && (is_constant b && not v)

abbrev pub alike_number : List WriterRecord → Bool → Half → Half → Bool
alike_number t v a b =
    not (eqb a.number 0) && (eqb a.number b.number && (not v && (not (is_stale t a) && not (is_stale t b))))

abbrev pub barred_half : List WriterRecord → Half → Bool
barred_half t a = a.temporary || is_stale t a

-- a space between the halves
abbrev pub spaced : Bool → Half → Half → Bool
spaced v a b = not v && ((not a.temporary && eqb a.skipped 0) && (not b.wrote && eqb b.skipped 0))

-- ---- Two halves meet -------------------------------------------------------------------------

-- what goes out: how much is then written, more was sent than the output holds, the output, and the bytes that waited
pub record Sent : Type 0 where
  pub written : ℕ
  pub full : Bool
  pub output : List ℕ
  pub waits : List ℕ

-- the first m bytes of w go out, after `at` that are written
abbrev pub send_text : List ℕ → List ℕ → ℕ → ℕ → Sent
send_text out w at m =
    let x = take m w in
    record {
      written = written_to out at (length x);
      full = ltb (length out - at) (length x);
      output = sent_to out at x;
      waits = w;
    }

-- The two-child node of a and b goes out with its number k (0: none). m: how much waits
abbrev pub send_node : ℕ → Bool → Half → Half → ℕ → List ℕ → List ℕ → ℕ → Sent
send_node m v a b k out w at =
    let q = close_in w m (spaced v a b) b.wrote b.skipped b.number k in
    send_text out q.bytes at q.count

-- Then the part is h, the records and the ends of the queue are e, and z numbers are given out.
abbrev pub sent_as : Half → ℕ → Lane → Sent → Walked
sent_as h z e x =
    record {
      half = h;
      progress = record { given = z; first = e.first; last = e.last; written = x.written; full = x.full };
      table = e.table;
      output = x.output;
      waits = x.waits;
    }

unfoldable pub write_node : ℕ → Bool → Half → Half → ℕ → Half → ℕ → Lane → List ℕ → List ℕ → Progress → Walked
write_node m v a b k h z e out w progress = sent_as h z e (send_node m v a b k out w progress.written)

-- nothing goes out
abbrev pub kept : Half → List WriterRecord → List ℕ → List ℕ → Progress → Walked
kept h t out w progress = record { half = h; progress = progress; table = t; output = out; waits = w }

abbrev pub lane_of : List WriterRecord → Progress → Lane
lane_of t progress = record { table = t; first = progress.first; last = progress.last }

-- a node without a number
abbrev pub write_temporary : ℕ → Bool → Half → Half → List WriterRecord → List ℕ → List ℕ → Progress → Walked
write_temporary m v a b t out w progress =
    write_node m v a b 0 (temporary_half a.complement) progress.given (lane_of t progress) out w progress

-- rule 5: k is the number to give out, 0 if there is none
unfoldable pub give_in : ℕ → ℕ → ℕ → Bool → Half → Half → List WriterRecord → List ℕ → List ℕ → Progress → Walked
give_in k i m v a b t out w progress =
    let e = store_in t progress.given progress.first progress.last k i a.number b.number (cond v 1 0) in
    cond (eqb k 0) (write_temporary m v a b t out w progress)
    (write_node m v a b k (number_half k (cell e.table stamp_field k) 0 a.complement true)
    (cond (ltb progress.given k) k progress.given) e out w progress)

-- rule 4: k is the number found, 0 if there is none
unfoldable pub known_in : ℕ → ℕ → ℕ → ℕ → Bool → Half → Half → List WriterRecord → List ℕ → List ℕ → Progress → Walked
known_in k size i m v a b t out w progress =
    cond (eqb k 0)
    (give_in (next_in t progress.given progress.first size a.number b.number) i m v a b t out w progress)
    (kept (number_half k (cell t stamp_field k) 0 a.complement false) t out w progress)

-- rules 1 to 5
unfoldable pub meet_in : ℕ → ℕ → ℕ → Bool → Half → Half → List WriterRecord → List ℕ → List ℕ → Progress → Walked
meet_in size i m v a b t out w progress =
    cond (alike_constant v a b) (kept (constant_half a.complement) t out w progress)
    (cond (alike_number t v a b)
    (kept (number_half a.number a.stamp (one_more a.skipped) a.complement a.wrote) t out w progress)
    (cond (barred_half t a || barred_half t b) (write_temporary m v a b t out w progress)
    (known_in (find_in t progress.given i a.number b.number (cond v 1 0)) size i m v a b t out w progress)))

-- ---- The walk over a truth table -------------------------------------------------------------

-- all of the c bytes from p on are b
unfoldable pub same_bytes : List ℕ → ℕ → ℕ → ℕ → Bool
same_bytes v b p zero = true
same_bytes v b p (suc c) = eqb (get_or v p 0) b && same_bytes v b (p + 1) c

-- the words at .. at + 2 ^ m - 1 are all no, or all yes: told from whole bytes
abbrev pub all_bytes : List ℕ → ℕ → ℕ → ℕ → Bool
all_bytes v b m at = not (ltb m 3) && same_bytes v b (at / 8) (2 ^ m / 8)

-- the c bytes from q on are those from p on, or those turned about if u
unfoldable pub alike_bytes : List ℕ → Bool → ℕ → ℕ → ℕ → Bool
alike_bytes v u p q zero = true
alike_bytes v u p q (suc c) =
    cond u (eqb (get_or v q 0 + get_or v p 0) 255) (eqb (get_or v q 0) (get_or v p 0)) && alike_bytes v u (p + 1) (q + 1) c

-- so are the 2 ^ d words from `mid` on, which follow the 2 ^ d words from `at` on: told from whole bytes
abbrev pub repeats : List ℕ → Bool → ℕ → ℕ → ℕ → Bool
repeats v u d at mid = not (ltb d 3) && alike_bytes v u (at / 8) (mid / 8) (2 ^ d / 8)

-- the first half (h) came to a number, and the second repeats it
abbrev pub again_half : List ℕ → Bool → ℕ → ℕ → ℕ → Half → Bool
again_half v u d at mid h = not (eqb h.number 0) && repeats v u d at mid

-- after the second half (b): the halves meet, unless more was sent than the output holds
abbrev pub second_in : ℕ → ℕ → ℕ → Bool → Half → Walked → Walked
second_in size i m v a b =
    cond b.progress.full b (meet_in size i m v a b.half b.table b.output b.waits b.progress)

-- The part of level i whose words are at .. at + 2 ^ d - 1, after m bytes that wait. A second half that repeats a first half which
-- came to a number is that number again
unfoldable pub walk_in : List ℕ → ℕ → ℕ → ℕ → ℕ → ℕ → List WriterRecord → List ℕ → List ℕ → Progress → Walked
walk_in v size zero i at m t out w progress = kept (constant_half (truth_at v at)) t out w progress
walk_in v size (suc d) i at m t out w progress =
    let p = push_all w m (opener ∷ []) in
    let a = walk_in v size d (i + 1) at p.count t out p.bytes progress in
    let complement = differ a.half.complement (truth_at v (at + 2 ^ d)) in
    let q = wait_in a.waits p.count a.half.wrote a.half.skipped a.half.number in
    let r = push_all q.bytes q.count (tilde_if complement) in
    let b = cond (again_half v complement d at (at + 2 ^ d) a.half)
    (kept (number_half a.half.number a.half.stamp a.half.skipped (truth_at v (at + 2 ^ d)) false) a.table a.output
    r.bytes a.progress)
    (walk_in v size d (i + 1) (at + 2 ^ d) r.count a.table a.output r.bytes a.progress) in
    cond (all_bytes v 0 (suc d) at) (kept (constant_half false) t out w progress)
    (cond (all_bytes v 255 (suc d) at) (kept (constant_half true) t out w progress)
    (cond a.progress.full a (second_in size i r.count complement a.half b)))

-- ---- The whole stream ------------------------------------------------------------------------

-- no number is given out; what x says is written
abbrev pub progress_after : Sent → Progress
progress_after x = record { given = 0; first = 0; last = 0; written = x.written; full = x.full }

-- the outermost node is done: what waits of it, and the point
abbrev pub end_in : ℕ → Walked → Sent
end_in m r =
    let q = wait_in r.waits m r.half.wrote r.half.skipped r.half.number in
    let e = push_all q.bytes q.count (dot ∷ []) in
    send_text r.output e.bytes r.progress.written e.count

-- after the walk, unless more was sent than the output holds
abbrev pub done_in : ℕ → Walked → Sent
done_in m r =
    cond r.progress.full (record { written = r.progress.written; full = r.progress.full; output = r.output; waits = r.waits }) (end_in m r)

-- after the size and its LF, likewise
abbrev pub body_in : ℕ → ℕ → List ℕ → List WriterRecord → Sent → Sent
body_in n size v t x =
    let m = push_all x.waits 0 (tilde_if (truth_at v 0)) in
    cond x.full x (done_in m.count (walk_in v size n 1 0 m.count t x.output m.bytes (progress_after x)))

-- the stream of a truth table
unfoldable pub stream_in : ℕ → ℕ → List ℕ → List WriterRecord → List ℕ → List ℕ → Sent
stream_in n size v t out w =
    let a = push_all w 0 (head size) in
    body_in n size v t (send_text out a.bytes 0 a.count)
