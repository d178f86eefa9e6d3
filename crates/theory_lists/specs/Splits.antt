-- Facts on lists taken apart, and on tests. Assumes nothing.
use Rattle.std.specs.Prelude.{◌≡◌, refl, Bool, true, false, ◌&&◌, List, [], ◌∷◌, ◌++◌, ℕ, zero, suc, ◌+◌, length, drop}
use Rattle.std.proofs.Common.{sym, ap, ◌∙◌, true≢false, arith, drop-drop}
use Rattle.std.proofs.lemmas.Bool.{false≢true}
use Rattle.std.proofs.Math.Option.{none, some}
use Rattle.std.proofs.Math.ListN.{get_elem?}
use Rattle.std.proofs.Math.Seq.{drop-append_seam}

-- ---- Tests -----------------------------------------------------------------------------------

pub clash : {A : Type 0} {t : Bool} → t ≡ true → t ≡ false → A
clash p q = absurd (true≢false (sym p ∙ q))

pub and-not : (a b : Bool) → (a && b) ≡ false → a ≡ true → b ≡ false
and-not true b e h = e
and-not false b e h = absurd (false≢true h)

-- ---- Equal lists -----------------------------------------------------------------------------

pub nil-cons : {A B : Type 0} {a : A} {xs : List A} → ◌≡◌ {A = List A} [] (a ∷ xs) → B
nil-cons e = let z : ◌≡◌ {A = ℕ} 0 1 = cc in absurd (omega arith)

pub head-same : {A : Type 0} {a b : A} {xs ys : List A} → a ∷ xs ≡ b ∷ ys → a ≡ b
head-same e = cc

pub tail-same : {A : Type 0} {a b : A} {xs ys : List A} → a ∷ xs ≡ b ∷ ys → xs ≡ ys
tail-same e = cc

-- ---- Behind a place --------------------------------------------------------------------------

-- behind w
pub drop_past : {A : Type 0} (l w ys : List A) (a e : ℕ) → drop a l ≡ w ++ ys → e ≡ a + length w → drop e l ≡ ys
drop_past l w ys a e h k =
    ap (λ (i : ℕ). drop i l) k
    ∙ sym (drop-drop (length w) a l)
    ∙ ap (drop (length w)) h
    ∙ drop-append_seam w ys

-- the element at a place
pub head_at : {A : Type 0} (l : List A) (a : ℕ) (b : A) (bs : List A) → drop a l ≡ b ∷ bs → get_elem? l a ≡ some b
head_at [] zero b bs h = nil-cons h
head_at [] (suc a) b bs h = nil-cons h
head_at (x ∷ l) zero b bs h = let e : x ≡ b = cc in ap some e
head_at (x ∷ l) (suc a) b bs h = head_at l a b bs h

-- no element at a place
pub none-at : {A : Type 0} (l : List A) (a : ℕ) → drop a l ≡ [] → get_elem? l a ≡ none
none-at [] a h = refl
none-at (x ∷ l) zero h = nil-cons (sym h)
none-at (x ∷ l) (suc a) h = none-at l a h
