-- Where reading stands, at most n nodes are open, and the covered words are those of some nodes of the level there: their count
-- is a multiple of such a node's. Assumes nothing.
use Rattle.std.specs.Prelude.{◌≡◌, refl, Bool, true, false, List, [], ◌∷◌, ◌++◌, map, ℕ, suc, ◌+◌, ◌-◌, ◌*◌, ◌≤◌, ◌^◌, length}
use Rattle.std.proofs.Common.{sym, ap, ◌∙◌, subst, mul-add, add-mul, one-mul, arith, length-append}
use Rattle.std.proofs.lemmas.List.{length-map}
use Rattle.theory_lists.specs.Lists.{differ}
use Rattle.theory_reading.specs.Element.{Open, in_first, in_second}
use Rattle.theory_reading.specs.Reading.{State, Reading}
use Rattle.theory_reading.specs.Deciding.{Diagram, top, below, Drawing, trace_on, ended}
use Rattle.theory_reading.specs.Words.{Full, bits, length-bits}
use Rattle.theory_reading.specs.Covered.{parity}
use Rattle.theory_reading.proofs.Covered.{before, passed_by, Nest, under, Good}
use Rattle.theory_reading.proofs.TableWalk.{tied_on}
use Rattle.theory_reading.proofs.Passing.{start_trace}
use Rattle.theory_reading.proofs.Reaching.{At}

-- so many words are some nodes of m options
abbrev pub Multiple : ℕ → ℕ → Type 0
Multiple m c = (k : ℕ) × (c ≡ k * 2 ^ m)

-- a node is two of a level deeper
multiple-halves : (m c : ℕ) → Multiple (suc m) c → Multiple m c
multiple-halves m c h = (h.0 + h.0, omega (arith, h.1, add-mul h.0 h.0 (2 ^ m), twice))
  where
    twice : h.0 * 2 ^ suc m ≡ h.0 * 2 ^ m + h.0 * 2 ^ m
    twice =
        let e : 2 ^ suc m ≡ 2 ^ m + 2 ^ m = omega arith in
        ap (λ (v : ℕ). h.0 * v) e ∙ mul-add h.0 (2 ^ m) (2 ^ m)

-- one node more
multiple-more : (m c : ℕ) → Multiple m c → Multiple m (c + 2 ^ m)
multiple-more m c h = (h.0 + 1, omega (arith, h.1, add-mul h.0 1 (2 ^ m), one-mul (2 ^ m)))

-- at a level deeper
multiple-deeper : (n l c : ℕ) → suc l ≤ n → Multiple (n - l) c → Multiple (n - suc l) c
multiple-deeper n l c h m =
    let e : n - l ≡ suc (n - suc l) = omega (arith, h) in
    multiple-halves (n - suc l) c (subst (λ (j : ℕ). Multiple j c) e m)

-- words and then those of a whole node
multiple-node : (m : ℕ) (xs : List Bool) (p : Bool) (d : Diagram) → Full d m → Multiple m (length xs)
    → Multiple m (length (xs ++ map (differ p) (bits d m)))
multiple-node m xs p d f h =
    let e : length (xs ++ map (differ p) (bits d m)) ≡ length xs + 2 ^ m = omega (
      arith,
      length-append xs (map (differ p) (bits d m)),
      length-map (bits d m) (differ p),
      length-bits d m f,
    ) in
    subst (Multiple m) (sym e) (multiple-more m (length xs) h)

-- the words before the node at the place
before-multiple : (n : ℕ) (o : List Open) (x : List Diagram) → Nest n o x → Multiple (n - length o) (length (before n o x))
unfolding before
before-multiple n [] x h = (0, omega arith)
before-multiple n (in_first ∷ o) x h =
    multiple-deeper n (length o) (length (before n o x)) h.0 (before-multiple n o x h.1)
before-multiple n (in_second r t ∷ o) x h =
    let y = before n o (below x) in
    multiple-node (n - suc (length o)) y (parity o) (top x) h.1
    (multiple-deeper n (length o) (length y) h.0 (before-multiple n o (below x) h.2))

-- the words passed so far
passed-multiple : (n : ℕ) (u : Bool) (o : List Open) (x : List Diagram) → Nest n o (under u x)
    → (u ≡ true → Full (top x) (n - length o)) → Multiple (n - length o) (length (passed_by n u o x))
unfolding passed_by
passed-multiple n true o x h f =
    multiple-node (n - length o) (before n o (below x)) (parity o) (top x) (f refl) (before-multiple n o (below x) h)
passed-multiple n false o x h f = before-multiple n o x h

-- the open nodes are at most n
nest-most : (n : ℕ) (o : List Open) (x : List Diagram) → Nest n o x → length o ≤ n
nest-most n [] x h = omega arith
nest-most n (in_first ∷ o) x h = h.0
nest-most n (in_second r t ∷ o) x h = h.0

-- a good state's
good-nested : (n : ℕ) (s : State) (d : Drawing) → Good n s d → length s.place.opens ≤ n
good-nested n s d g = nest-most n s.place.opens (under (ended s.place.context) d.stack) g.nest

good-aligned : (n : ℕ) (s : State) (d : Drawing) → Good n s d → Multiple (n - length s.place.opens) s.covered
good-aligned n s d g =
    let o = s.place.opens in
    subst (Multiple (n - length o)) (sym g.count)
    (passed-multiple n (ended s.place.context) o d.stack g.nest g.whole)

module _ (n : ℕ) (bytes : List ℕ) (f : ℕ) (s : State) (h : At n bytes f s) where
  here-good : Good n s (trace_on f n bytes start_trace).drawing
  here-good =
      subst (λ (x : State). Good n x (trace_on f n bytes start_trace).drawing) (ap (λ (r : Reading). r.state) h)
      (tied_on f n bytes).good

  -- WHERE READING STANDS at most n nodes are open,
  pub at_nested : length s.place.opens ≤ n
  at_nested = good-nested n s _ here-good

  -- and the covered count is a multiple of the words of a node there.
  pub at_aligned : Multiple (n - length s.place.opens) s.covered
  at_aligned = good-aligned n s _ here-good
