-- The call of combining, past the tests and the reading of both streams: a refusal, or the run and its answer. Assumes nothing.
use Rattle.std.specs.Prelude.{◌≡◌, refl, Bool, cond, List, [], ◌∷◌, ℕ, ◌≤◌, ◌^◌, eqb, length, replicate}
use Rattle.std.proofs.Common.{sym, ap, ◌∙◌, subst, arith}
use Rattle.std.proofs.Math.Path.{subst⁻¹}
use Rattle.std.proofs.Math.Option.{none}
use Rattle.theory_reading.specs.Limits.{option_limit, table_limit}
use Rattle.theory_reading.specs.Causes.{Refusal, Result, refused, done}
use Rattle.theory_reading.specs.Reading.{reading}
use Rattle.theory_reading.specs.Deciding.{decision}
use Rattle.theory_reading.specs.Calls.{Checked, check}
use Rattle.theory_reading.specs.Covered.{covered}
use Rattle.theory_writing.specs.Run.{operate, joint, or_no, run_covered, run_text, whole, input_ended, output_full, Answer}
use Rattle.theory_writing.proofs.Inputs.{covered-settled, outcome-any}
use Rattle.theory_writing.specs.Calls.{combine_text, combine}
use Rattle.theory_engine.specs.Engine.{Sent}
use Rattle.theory_engine.specs.Streaming.{Wrote}
use Rattle.blocks.specs.Load.{LoadTo, load}
use Rattle.blocks.specs.LoadLaws.{load-answer}
use Rattle.theory_combining.specs.CombineCorrect.{BothCovered, both_covered, both_in, combine-faulty, combine-clean, combine-tables, combine-finish}
use Rattle.theory_combining.specs.Entering.{Makes}
use Rattle.node_records.specs.declared.NodeRecord.{NodeRecord}
use Rattle.node_records.specs.declared.WriterRecord.{WriterRecord}
use Rattle.node_records.specs.Records.{no_record, no_writer_record}

-- how many words a run over two streams covers
abbrev pub run_count : ℕ → ℕ → List ℕ → List ℕ → ℕ
run_count n op x y = run_covered (operate op) n (decision n x ∷ decision n y ∷ [])

-- what it decides, word by word; no where that is not settled
abbrev pub joint_by : ℕ → ℕ → List ℕ → List ℕ → ℕ → Bool
joint_by n op x y w = or_no (joint (operate op) (decision n x ∷ decision n y ∷ []) w)

-- the operator makes this of any values that the two may have
pub count-makes : (n op : ℕ) (x y : List ℕ) (c : ℕ) → c ≡ run_count n op x y → Makes n op x y c (joint_by n op x y)
count-makes n op x y c e w l a b p q =
    let s = covered-settled (operate op) n (decision n x ∷ decision n y ∷ []) w (omega (arith, e, l)) in
    outcome-any (operate op) (decision n x w ∷ decision n y w ∷ []) s.0 s.1 (a ∷ b ∷ []) (p, (q, tt)) ∙ sym (ap or_no s.1)

-- its text is that of what it decides
combined-text : (n op size : ℕ) (x y : List ℕ) → combine_text n op size (x ∷ y ∷ []) ≡ run_text n size (run_count n op x y) (joint_by n op x y)
unfolding combine_text
combined-text n op size x y = refl

-- X and Y: what loading the streams came to
module _ (n op size : ℕ) (x y out : List ℕ) (t₁ t₂ : List NodeRecord) (t : List WriterRecord) (few : n ≤ option_limit) (code : op ≤ 15) (fits : size ≤ table_limit)
    (room₁ : table_limit ≤ length t₁) (room₂ : table_limit ≤ length t₂) (room : table_limit ≤ length t) (X Y : LoadTo) (loaded₁ : X ≡ load n x t₁)
    (loaded₂ : Y ≡ load n y t₂) where
  -- as checking them has it
  checked : (s : List ℕ) (t : List NodeRecord) (Z : LoadTo) → Z ≡ load n s t
      → record { answer = Z.answer; table = (check no_record n s t).table } ≡ check no_record n s t
  checked s t Z e =
      ap (λ (a : Result Checked). record { answer = a; table = (check no_record n s t).table })
      (ap (λ (z : LoadTo). z.answer) e ∙ load-answer n s t)

  abbrev u₁ : List NodeRecord
  u₁ = (check no_record n x t₁).table

  abbrev u₂ : List NodeRecord
  u₂ = (check no_record n y t₂).table

  -- A STREAM HAS A FAULT, and all tables are cleared;
  pub called-faulty : (f : Refusal) → refused f ≡ both_in X.answer Y.answer → (v₁ v₂ : List NodeRecord) (v : List WriterRecord)
      → v₁ ≡ replicate (length t₁) no_record → v₂ ≡ replicate (length t₂) no_record → v ≡ replicate (length t) no_writer_record
      → record { answer = refused f; first = v₁; second = v₂; third = v; output = out }
      ≡ combine no_record no_writer_record n op size x y out t₁ t₂ t
  called-faulty f e v₁ v₂ v e₁ e₂ e₃ =
      let a = combine-tables n op size x y out t₁ t₂ t few code fits room₁ room₂ room X.answer Y.answer u₁ u₂
      (checked x t₁ X loaded₁) (checked y t₂ Y loaded₂) in
      combine-faulty n op size x y out t₁ t₂ t few code fits room₁ room₂ room X.answer Y.answer u₁ u₂ (checked x t₁ X loaded₁)
      (checked y t₂ Y loaded₂) f e v₁ v₂ v (e₁ ∙ sym a.0) (e₂ ∙ sym a.1) e₃

  -- or neither has.
  module _ (k : BothCovered) (clean : done k ≡ both_in X.answer Y.answer) where
    pub called-clean : ((reading n x).fault ≡ none) × ((reading n y).fault ≡ none) × (k ≡ both_covered (covered n x) (covered n y))
    called-clean =
        combine-clean n op size x y out t₁ t₂ t few code fits room₁ room₂ room X.answer Y.answer u₁ u₂ (checked x t₁ X loaded₁)
        (checked y t₂ Y loaded₂) k clean

    -- THE RUN AND ITS ANSWER; s: what is sent, c: how many words the run covers
    pub called-finish : (c : ℕ) → c ≡ run_count n op x y → (s : Sent) → Wrote out (run_text n size c (joint_by n op x y)) s → (r : Answer)
        → r ≡ record { written = s.written; covered = c; ending = cond s.full output_full (cond (eqb c (2 ^ n)) whole input_ended) }
        → (v₁ v₂ : List NodeRecord) (v : List WriterRecord) → v₁ ≡ replicate (length t₁) no_record → v₂ ≡ replicate (length t₂) no_record
        → v ≡ replicate (length t) no_writer_record
        → record { answer = done r; first = v₁; second = v₂; third = v; output = s.output }
        ≡ combine no_record no_writer_record n op size x y out t₁ t₂ t
    called-finish c e s w r re v₁ v₂ v e₁ e₂ e₃ =
        combine-finish n op size x y out t₁ t₂ t few code fits room₁ room₂ room X.answer Y.answer u₁ u₂ (checked x t₁ X loaded₁)
        (checked y t₂ Y loaded₂) k clean c e s
        (subst⁻¹ (λ (text : List ℕ). Wrote out text s) (combined-text n op size x y)
        (subst (λ (c : ℕ). Wrote out (run_text n size c (joint_by n op x y)) s) e w)) r re v₁ v₂ v e₁ e₂ e₃
