-- What a lent output holds after a run, and that lengthening the inputs or the output only lengthens the written bytes.
use Rattle.std.specs.Prelude.{◌≡◌, Bool, cond, List, ◌++◌, ℕ, ◌≤◌, ◌<◌, ◌^◌, min, eqb, length, take, drop}
use Rattle.std.proofs.Common.{ap, ◌∙◌, append-nil, arith, length-append, length-take, drop_of_length-le, length-drop, take_all, lt-ltb}
use Rattle.std.proofs.Math.Path.{subst⁻¹}
use Rattle.std.proofs.lemmas.List.{take-append-le}
use Rattle.std.proofs.Math.Seq.{take-append_seam, drop-append_seam}
use Rattle.theory_lists.specs.Prefixes.{Begins, begins-take, take_begins}
use Rattle.theory_writing.specs.Run.{run_text, written_bytes, output_after, whole, input_ended, output_full, ending_of, answer_of}
use Rattle.theory_writing.specs.Grows.{run-stable, run-grows}

-- ---- The written bytes -----------------------------------------------------------------------

pub written-length : (text out : List ℕ) → length (written_bytes text out) ≡ min (length out) (length text)
unfolding written_bytes
written-length text out = length-take (length out) text

pub written-begins : (text out : List ℕ) → Begins (written_bytes text out) text
unfolding written_bytes
written-begins text out = take_begins (length out) text

pub written_all : (text out : List ℕ) → length text ≤ length out → written_bytes text out ≡ text
unfolding written_bytes
written_all text out h = take_all (length out) text h

-- ---- The output after a run ------------------------------------------------------------------

pub output-length : (text out : List ℕ) → length (output_after text out) ≡ length out
unfolding output_after
output-length text out =
    let w = written_bytes text out in
    length-append w (drop (length w) out) ∙ omega (arith, length-drop (length w) out, written-length text out)

-- its first bytes, as many as are answered, are the written ones
pub output-written : (text out : List ℕ) → take (length (written_bytes text out)) (output_after text out) ≡ written_bytes text out
unfolding output_after
output-written text out = let w = written_bytes text out in take-append_seam w (drop (length w) out)

-- "Bytes beyond those written keep their content."
pub output-beyond : (text out : List ℕ) → let k = length (written_bytes text out) in drop k (output_after text out) ≡ drop k out
unfolding output_after
output-beyond text out = let w = written_bytes text out in drop-append_seam w (drop (length w) out)

-- ---- Two runs --------------------------------------------------------------------------------

-- The second run decides the covered words alike and covers no fewer.
pub runs-begin : (n size c c' : ℕ) (f g : ℕ → Bool) → c ≤ c' → c' ≤ 2 ^ n → ((w : ℕ) → w < c → f w ≡ g w)
    → Begins (run_text n size c f) (run_text n size c' g)
runs-begin n size c c' f g h h' e =
    subst⁻¹ (λ (t : List ℕ). Begins t (run_text n size c' g)) (run-stable n size c f g e) (run-grows n size c c' g h h')

-- Its output is no shorter either.
pub runs-written : (n size c c' : ℕ) (f g : ℕ → Bool) (out out' : List ℕ) → c ≤ c' → c' ≤ 2 ^ n → length out ≤ length out'
    → ((w : ℕ) → w < c → f w ≡ g w) → Begins (written_bytes (run_text n size c f) out) (written_bytes (run_text n size c' g) out')
unfolding written_bytes
runs-written n size c c' f g out out' h h' l e =
    begins-take (length out) (length out') (run_text n size c f) (run_text n size c' g) l (runs-begin n size c c' f g h h' e)

-- ---- Stopping --------------------------------------------------------------------------------

-- what a text that is longer than the output writes, any longer text writes
pub full-written : (x y out : List ℕ) → Begins x y → length out ≤ length x → written_bytes y out ≡ written_bytes x out
unfolding written_bytes
full-written x y out b l = ap (take (length out)) b.1 ∙ take-append-le (length out) x b.0 l

pub full-output : (text out : List ℕ) → length out ≤ length text → output_after text out ≡ written_bytes text out
unfolding output_after
full-output text out l =
    let w = written_bytes text out in
    ap (λ (t : List ℕ). w ++ t) (drop_of_length-le out {i = length w} (omega (arith, written-length text out))) ∙ append-nil w

pub full-answer : (n c : ℕ) (x y out : List ℕ) → Begins x y → length out < length x
    → answer_of n c y out ≡ record { written = length out; covered = c; ending = output_full }
unfolding answer_of
full-answer n c x y out b l =
    let more : length out < length y = omega (arith, ap length b.1, length-append x b.0) in
    let count : length (written_bytes y out) ≡ length out = omega (arith, written-length y out) in
    ap (λ (k : ℕ). record { written = k; covered = c; ending = ending_of n c y out }) count
    ∙ ap (λ (u : Bool). record {
      written = length out;
      covered = c;
      ending = cond u output_full (cond (eqb c (2 ^ n)) whole input_ended);
    })
    (lt-ltb (length out) (length y) more)

-- A walk may stop as soon as what is released is longer than the output: the bytes and the answer of the whole run are settled.
pub may-stop : (n size c c' : ℕ) (f g : ℕ → Bool) (out : List ℕ) → c ≤ c' → c' ≤ 2 ^ n → ((w : ℕ) → w < c → f w ≡ g w)
    → length out < length (run_text n size c f)
    → (output_after (run_text n size c' g) out ≡ written_bytes (run_text n size c f) out)
    × (answer_of n c' (run_text n size c' g) out ≡ record { written = length out; covered = c'; ending = output_full })
may-stop n size c c' f g out h h' e l =
    let x = run_text n size c f in
    let y = run_text n size c' g in
    let b = runs-begin n size c c' f g h h' e in (
      full-output y out (omega (arith, ap length b.1, length-append x b.0)) ∙ full-written x y out b (omega arith),
      full-answer n c' x y out b l,
    )
