-- One law for each way through code that keeps an operation cache. Assumes nothing.
use Rattle.std.specs.Prelude.{◌≡◌, refl, Bool, true, false, cond, not, ◌&&◌, ◌||◌, List, [], ℕ, ◌+◌, ◌-◌, ◌*◌, ◌%◌, ◌<◌, eqb, length, get_or, Option, None, Some}
use Rattle.std.proofs.Common.{sym, ap, ap₂, ◌∙◌, eq-eqb, ne_eqb}
use Rattle.std.proofs.Math.Bool.{beq}
use Rattle.std.proofs.lemmas.List.{get_or-map}
use Rattle.theory_lists.specs.Lists.{bit}
use Rattle.theory_engine.specs.Cells.{cell}
use Rattle.writer_numbers.specs.Hashing.{edge_span, stir}
use Rattle.theory_engine.specs.Engine as E
use Rattle.theory_applying.specs.Memo.{is_young, complement_in, cache_entries, slot_from, slot_of}
use Rattle.meeting.specs.Abstraction.{half_of}
use Rattle.meeting.specs.declared.Half.{Half}
use Rattle.operation_cache.specs.Abstraction.{key_cells, row_of, rows_of, holds, tells_by}
use Rattle.operation_cache.specs.declared.Entry.{Entry}
use Rattle.operation_cache.specs.declared.Key.{Key}
use Rattle.node_records.specs.declared.WriterRecord.{WriterRecord}

-- ---- The place of a key ----------------------------------------------------------------------

-- one input after the other
abbrev pub mixed_by : ℕ → ℕ → ℕ → Bool → ℕ
mixed_by v k g c = stir 2654435769 (v % 4294967296 + (g * edge_span + k * 2 + bit c))

pub slot-pair : (k : Key) → mixed_by (mixed_by 0 k.number1 k.stamp1 k.complement1) k.number2 k.stamp2 k.complement2 % cache_entries ≡ slot_of (key_cells k)
unfolding slot_from
slot-pair k = refl

-- ---- What a row tells ------------------------------------------------------------------------

-- the row p, in which code found e
pub row-here : (c : List (Option Entry)) (p : ℕ) (x : Option Entry) (e : Entry) → p < length c → ((d : Option Entry) → x ≡ get_or c p d) → x ≡ Some e
    → get_or (rows_of c) p [] ≡ row_of (Some e)
row-here c p x e l f g = get_or-map row_of c p x [] l ∙ ap row_of (sym (f x) ∙ g)

pub not-is : (a b : Bool) → a ≡ not b → b ≡ not a
not-is a true e = sym (ap not e)
not-is a false e = sym (ap not e)

-- nothing tells nothing
pub tells-none : (r : List ℕ) (k : Key) (i : ℕ) (t : List WriterRecord) → holds r k ≡ false → tells_by None r k i t
tells-none r k i t e = (sym (ap (λ (b : Bool). b && is_young r t) e), refl)

bit-plus : (b : Bool) → eqb (bit b + 1) 0 ≡ false
bit-plus true = refl
bit-plus false = refl

bit-two : (b : Bool) → b ≡ eqb (bit b + 1) 2
bit-two true = refl
bit-two false = refl

bit-same : (a b : Bool) → eqb (bit a) (bit b) ≡ beq a b
bit-same true true = refl
bit-same true false = refl
bit-same false true = refl
bit-same false false = refl

-- two keys are the same, as a derived test has it
abbrev pub alike : Key → Key → Bool
alike a b = eqb a.number1 b.number1 && (eqb a.stamp1 b.stamp1 && (eqb a.number2 b.number2 && (eqb a.stamp2 b.stamp2
    && (beq a.complement1 b.complement1 && beq a.complement2 b.complement2))))

in-order : (a b x c d y : Bool) → (a && (b && (x && (c && (d && y))))) ≡ (a && (b && (c && (d && (x && y)))))
in-order false b x c d y = refl
in-order true false x c d y = refl
in-order true true true c d y = refl
in-order true true false false d y = refl
in-order true true false true false y = refl
in-order true true false true true y = refl

module _ (e : Entry) (k : Key) (i : ℕ) (t : List WriterRecord) where
  abbrev row : List ℕ
  row = row_of (Some e)

  pub holds-alike : holds row k ≡ alike e.key k
  holds-alike =
      ap₂ (λ (z u : Bool). not z && (eqb e.key.number1 k.number1 && (eqb e.key.stamp1 k.stamp1 && (u && (eqb e.key.number2 k.number2
      && (eqb e.key.stamp2 k.stamp2 && eqb (bit e.key.complement2) (bit k.complement2))))))) (bit-plus e.complement) (bit-same e.key.complement1 k.complement1)
      ∙ ap (λ (u : Bool). eqb e.key.number1 k.number1 && (eqb e.key.stamp1 k.stamp1 && (beq e.key.complement1 k.complement1 && (eqb e.key.number2 k.number2
      && (eqb e.key.stamp2 k.stamp2 && u))))) (bit-same e.key.complement2 k.complement2)
      ∙ in-order (eqb e.key.number1 k.number1) (eqb e.key.stamp1 k.stamp1) (beq e.key.complement1 k.complement1) (eqb e.key.number2 k.number2)
      (eqb e.key.stamp2 k.stamp2) (beq e.key.complement2 k.complement2)

  -- another key
  pub tells-other : alike e.key k ≡ false → tells_by None row k i t
  tells-other h = tells-none row k i t (holds-alike ∙ h)

  module _ (same : alike e.key k ≡ true) where
    held : (b : Bool) → b ≡ (holds row k && b)
    held b = sym (ap (λ (z : Bool). z && b) (holds-alike ∙ same))

    -- the constant
    pub tells-constant : (h : Half) → h ≡ record { number = 0; stamp = 0; skipped = 0; temporary = false; complement = e.complement; wrote = false }
        → e.number ≡ 0 → tells_by (Some h) row k i t
    tells-constant h f z = (
      sym (ap (λ (b : Bool). b || eqb (cell t 4 e.number) e.stamp) (eq-eqb e.number 0 z)) ∙ held _,
      ap half_of f ∙ ap E.constant_half (bit-two e.complement)
          ∙ sym (ap (λ (b : Bool). cond b (E.constant_half (complement_in row))
          (E.number_half e.number e.stamp (cell t 0 e.number - i) (complement_in row) false)) (eq-eqb e.number 0 z)),
    )

    -- its number was given out again; s: its stamp now
    pub tells-old : (s : ℕ) → (e.number ≡ 0 → ⊥) → s ≡ cell t 4 e.number → (s ≡ e.stamp → ⊥) → tells_by None row k i t
    tells-old s z f g = (
      sym (ap₂ ◌||◌ (ne_eqb e.number 0 z) (ne_eqb (cell t 4 e.number) e.stamp (λ h. g (f ∙ h)))) ∙ held _,
      refl,
    )

    -- a number that still has its stamp; s, l: its stamp and level
    pub tells-number : (h : Half) (s l : ℕ) → h ≡ record { number = e.number; stamp = e.stamp; skipped = l - i; temporary = false; complement = e.complement; wrote = false }
        → (e.number ≡ 0 → ⊥) → s ≡ cell t 4 e.number → s ≡ e.stamp → l ≡ cell t 0 e.number → tells_by (Some h) row k i t
    tells-number h s l f z p q u = (
      sym (ap₂ ◌||◌ (ne_eqb e.number 0 z) (eq-eqb (cell t 4 e.number) e.stamp (sym p ∙ q))) ∙ held _,
      ap half_of f ∙ ap₂ (λ (l : ℕ) (v : Bool). E.number_half e.number e.stamp (l - i) v false) u (bit-two e.complement)
          ∙ sym (ap (λ (b : Bool). cond b (E.constant_half (complement_in row))
          (E.number_half e.number e.stamp (cell t 0 e.number - i) (complement_in row) false)) (ne_eqb e.number 0 z)),
    )
