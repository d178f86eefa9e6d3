-- What the calls of one iteration come to: a barred `:`, and the table that an element leaves. Assumes nothing.
use Rattle.std.specs.Prelude.{◌≡◌, refl, Bool, true, false, ◌&&◌, ◌||◌, List, ℕ, ◌<◌, length, get_or, Option, Some, None, Result, Ok, Err}
use Rattle.std.proofs.Common.{sym, ap, ap₂, ◌∙◌, ne_eqb}
use Rattle.theory_reading.specs.Bytes.{colon}
use Rattle.theory_reading.specs.Reading.{is_two}
use Rattle.theory_reading.specs.StepLaws.{digit_place}
use Rattle.kinds.specs.Kinds.{kind_table}
use Rattle.elements.specs.Abstraction.{context_of}
use Rattle.scanner.specs.TokenView.{outcome_in, next_token, next_token_view}
use Rattle.elements.specs.declared.Element.{Element}
use Rattle.elements.specs.declared.Fault.{Fault}
use Rattle.scanner.specs.declared.NextToken.{NextToken}
use Rattle.elements.specs.declared.Open.{Open}
use Rattle.cursors.specs.declared.Run.{Run}
use Rattle.node_records.specs.declared.NodeRecord.{NodeRecord}
use Rattle.reader.specs.declared.Taken.{Taken}
use Rattle.reader.specs.Taking.{TakenView, taken_view, placed_at, taken_of, taken-placed}
use Rattle.reader.specs.Tokens.{outcome_as}
use Rattle.work_table.specs.Table.{get_in, store_at}
use Rattle.reader.specs.Advance.{bars_by, barred_by, record_to, updated_to, taken_at, iteration_view, went_by, Iterates, out, fault, took}

module _ (t : List NodeRecord) (r : Run) (b : ℕ) where
  pub barred-other : (b ≡ colon → ⊥) → false ≡ barred_by t r b
  barred-other h = rw (ne_eqb b colon h) (go (is_two (context_of r.context)))
    where
      go : (m : Bool) → false ≡ ((m && false) && (bars_by t r.size r.pair.first || bars_by t r.size r.pair.second))
      go true = refl
      go false = refl

-- a storing puts its record
pub updated-stored : (t : List NodeRecord) (r : Run) (d k : ℕ) (x w : NodeRecord) (y : TakenView) → y.stores ≡ true → w ≡ record_to r d x
    → store_at t r.size k w ≡ updated_to r d k x y t
updated-stored t r d k x w y s e = rw s (ap (store_at t r.size k) e)

-- ---- What an iteration comes to --------------------------------------------------------------

-- no element is taken: a fault, or the bytes ran out
pub iterates-none : (n : ℕ) (bytes : List ℕ) (r : Run) (d : ℕ) (low : Open) (t : List NodeRecord) → barred_by t r (get_or bytes r.at 0) ≡ false
    → (x : NextToken) → next_token_view x ≡ next_token kind_table bytes r.at (context_of r.context) r.last d low
    → (f : Option Fault) → outcome_as (Err f) ≡ outcome_in x → Iterates n bytes r d low t (iteration_view r d low (Err f)) t
iterates-none n bytes r d low t free x seen None e = out free x seen (sym e) refl refl
iterates-none n bytes r d low t free x seen (Some f) e = fault free x seen f.cause f.byte (sym e) refl refl

-- The element e is taken, which comes to y; u: the table after it.
pub iterates-took : (n : ℕ) (bytes : List ℕ) (r : Run) (d : ℕ) (low : Open) (t : List NodeRecord) → r.at < length bytes
    → barred_by t r (get_or bytes r.at 0) ≡ false
    → (x : NextToken) → next_token_view x ≡ next_token kind_table bytes r.at (context_of r.context) r.last d low
    → (e : Element) → outcome_as (Ok e) ≡ outcome_in x → (g : ℕ) → g ≡ digit_place r.at (get_or bytes r.at 0)
    → (w : NodeRecord) → w ≡ get_in t r.size x.number → (y : Result Taken Fault) → taken_view r y ≡ taken_of n r d low g e w r.at r.context
    → (u : List NodeRecord) → let z = placed_at x.at x.context (taken_view r y) in
    u ≡ updated_to r d x.number w z t → Iterates n bytes r d low t (went_by r d low z x.depth x.low) u
iterates-took n bytes r d low t l free x seen e got g digit w row y taken u lent =
    let same : placed_at x.at x.context (taken_view r y) ≡ taken_at n bytes r d low t x e =
    ap (placed_at x.at x.context) taken ∙ taken-placed n r d low g w x.at x.context e
    ∙ ap₂ (λ (i : ℕ) (v : NodeRecord). taken_of n r d low i e v x.at x.context) digit row in
    took l free x seen e (sym got) (ap (λ (z : TakenView). went_by r d low z x.depth x.low) same)
    (lent ∙ ap₂ (λ (v : NodeRecord) (z : TakenView). updated_to r d x.number v z t) row same)
