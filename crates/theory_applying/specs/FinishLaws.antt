-- The text of a run over inputs, whole and cut, by what the walk of Online sends. Assumes nothing.
use Rattle.std.specs.Prelude.{◌≡◌, refl, Bool, true, false, List, [], ◌∷◌, ◌++◌, ℕ, ◌+◌, ◌≤◌, ◌<◌, ◌^◌, eqb, length}
use Rattle.std.proofs.Common.{sym, ap, ◌∙◌, ⊎_elim, append-nil, arith, pow_mono, eqb-true, ltb-true, ltb-false}
use Rattle.std.proofs.lemmas.Bool.{eqb-false}
use Rattle.theory_lists.specs.Lists.{decide-le, pow_pos}
use Rattle.theory_lists.specs.Prefixes.{Begins}
use Rattle.theory_reading.specs.Limits.{option_limit}
use Rattle.theory_reading.specs.LimitLaws.{few-stamps}
use Rattle.theory_reading.specs.Bytes.{dot}
use Rattle.theory_reading.specs.Nodes.{stamp}
use Rattle.theory_writing.specs.UniqueTable.{start}
use Rattle.theory_writing.specs.Texts.{tilde_if}
use Rattle.theory_writing.specs.Run.{head, run_text, written_bytes}
use Rattle.theory_writing.specs.Output.{written-length, written_all}
use Rattle.theory_writing.specs.Online.{Went, waiting, online}
use Rattle.theory_writing.specs.OnlineRuns.{cut, run-online, run-cut-online}
use Rattle.theory_engine.specs.Streaming.{Wrote, start-stamp}
use Rattle.theory_applying.specs.ApplyLaws.{jointly}
use Rattle.theory_applying.specs.Operands.{Applied}
use Rattle.theory_applying.specs.OperandLaws.{Cutly, cut-none}
use Rattle.theory_applying.specs.Finishing.{sent_by}

-- ---- The text of a run -----------------------------------------------------------------------

-- at most so many words, and not as many
fewer : (c e : ℕ) → c ≤ e → eqb c e ≡ false → c < e
fewer c e l z = ⊎_elim (λ g. absurd (eqb-false c e z (omega (arith, l, g)))) (λ g. g) (decide-le e c)

-- c: how many words the run covers
module _ (op : List Bool → Bool) (n size c : ℕ) (xs : List (ℕ → Bool)) (e : c ≤ 2 ^ n) where
  -- what the walk begins with
  abbrev pub lead : List ℕ
  lead = tilde_if (jointly op xs 0)

  -- the walk of Online
  abbrev pub walk : Went
  walk = online size n 1 0 lead (jointly op xs) start

  -- of a whole run
  pub text-whole : c ≡ 2 ^ n → run_text n size c (jointly op xs) ≡ head size ++ ((walk.sent ++ waiting lead 1 walk) ++ (dot ∷ []))
  text-whole h = ap (λ (k : ℕ). run_text n size k (jointly op xs)) h ∙ run-online n size (jointly op xs)

  -- of a cut one
  pub text-short : c < 2 ^ n → run_text n size c (jointly op xs) ≡ head size ++ cut c size n 1 0 lead (jointly op xs) start
  text-short l = run-cut-online n size c (jointly op xs) l

  -- of one with no word covered
  pub text-none : c ≡ 0 → run_text n size c (jointly op xs) ≡ head size
  text-none z =
      text-short (omega (arith, z, pow_pos n))
      ∙ ap (λ (l : List ℕ). head size ++ l) (cut-none c size n 1 0 lead (jointly op xs) start (omega (arith, z)))
      ∙ append-nil (head size)

  -- not all words are covered
  pub covered-fewer : eqb c (2 ^ n) ≡ false → c < 2 ^ n
  covered-fewer z = fewer c (2 ^ n) e z

  -- each begins with the size and its LF
  pub text-begins : Begins (head size) (run_text n size c (jointly op xs))
  text-begins = go (eqb c (2 ^ n)) refl
    where
      go : (u : Bool) → eqb c (2 ^ n) ≡ u → Begins (head size) (run_text n size c (jointly op xs))
      go true z = (_, text-whole (eqb-true c (2 ^ n) z))
      go false z = (_, text-short (covered-fewer z))

-- ---- The start -------------------------------------------------------------------------------

-- stamps are small at the start
pub start-young : (n : ℕ) → n ≤ option_limit → (k : ℕ) → stamp start.table k + 2 ^ n ≤ 4294967296
start-young n h k = omega (arith, start-stamp k, pow_mono {i = n} {j = option_limit} h, few-stamps)

-- ---- A cut run -------------------------------------------------------------------------------

-- what a cut run sends is all that goes out
pub cutly-wrote : {BlockReader : Type 0} (o T x : List ℕ) (r : Applied BlockReader) → Cutly o T x r → Wrote o (T ++ x) (sent_by r.walked)
cutly-wrote o T x r h = record { written = go r.walked.progress.full refl; full = h.full; output = h.output }
  where
    go : (u : Bool) → r.walked.progress.full ≡ u → r.walked.progress.written ≡ length (written_bytes (T ++ x) o)
    go true f =
        let over : length o < length (T ++ x) = ltb-true (length o) (length (T ++ x)) (sym h.full ∙ f) in
        h.all f ∙ omega (arith, over, written-length (T ++ x) o)
    go false f =
        let fits : length (T ++ x) ≤ length o = ltb-false (length o) (length (T ++ x)) (sym h.full ∙ f) in
        (h.rest f).1 ∙ ap length (sym (written_all (T ++ x) o fits))
