-- Where the inputs of a walk over texts stand: at a part, at its halves and after it; and what a part that is covered leads to, and one
-- within which the covered words end. Assumes nothing.
use Rattle.std.specs.Prelude.{◌≡◌, refl, ◌⊎◌, Bool, true, false, cond, ◌||◌, List, [], ◌∷◌, ◌++◌, ℕ, zero, suc, ◌+◌, ◌-◌, ◌*◌, ◌≤◌, ◌<◌, ◌^◌, eqb, ltb, length}
use Rattle.std.proofs.Common.{sym, ap, ap₂, ◌∙◌, subst, inl, inr, ⊎_elim, true≢false, append_assoc, mul_assoc, mul_comm, add-mul, one-mul, mul-le-mul_right, arith, length-append, pow-add, eqb-true, ltb-true, lt-ltb, le-ltb}
use Rattle.std.proofs.Math.Path.{subst⁻¹}
use Rattle.std.proofs.lemmas.Bool.{eqb-false}
use Rattle.theory_lists.specs.Lists.{differ, or_l, or_r, or-false, or_left, or_right, decide-le, pow_pos}
use Rattle.theory_lists.specs.Prefixes.{Begins, begins-left}
use Rattle.theory_reading.specs.Bytes.{opener}
use Rattle.theory_reading.specs.Nodes.{node}
use Rattle.theory_reading.specs.Deciding.{options, decided}
use Rattle.theory_reading.proofs.Lasting.{Lasts, Ordered}
use Rattle.theory_writing.specs.UniqueTable.{State}
use Rattle.theory_writing.specs.Texts.{tilde_if}
use Rattle.theory_writing.specs.Run.{output_after}
use Rattle.theory_writing.specs.Output.{full-written, full-output}
use Rattle.theory_writing.specs.Online.{Went, waiting, online}
use Rattle.theory_writing.specs.OnlineRuns.{cut}
use Rattle.theory_engine.specs.Leading.{Leads}
use Rattle.theory_applying.specs.Applying.{Source, passes, first_source, second_source}
use Rattle.theory_applying.specs.ApplyLaws.{Shows, ShowsAll, decisions_at, decisions_from, constant-walk, shows_first, shows_second, shows-start}
use Rattle.theory_applying.specs.Sitting.{Sits}
use Rattle.theory_applying.specs.Operands.{Operand, Applied, on_reader, at_edge, at_terminal, any_text, readers_of, resume, halted, ended_at, edge_of, edges_of}
use Rattle.theory_applying.specs.Operands.{settle, first_operand, second_operand, first_operands, second_operands, first_values_of}

-- ---- Block readers ---------------------------------------------------------------------------

-- WHAT THE WALK ASKS of block readers. Reads τ at x: the block reader τ, of the input x, stands at the block that begins with word `at`, of
-- 2 ^ (n - deep_of τ) words; Ends τ e x: it has come to the end of its text, and the input decides no from word e on
pub record ReaderLaws {BlockReader : Type 0} (deep_of : BlockReader → ℕ) (source_of : BlockReader → Source) (ended_of : BlockReader → Bool)
    (next : BlockReader → BlockReader) (n : ℕ)
    (Reads Ends : BlockReader → ℕ → (ℕ → Bool) → Type 0) : Type 0 where
  -- no more nodes are open around the block than there are options, and it begins after some blocks of as many words;
  pub reads-deep : (τ : BlockReader) (at : ℕ) (x : ℕ → Bool) → Reads τ at x → deep_of τ ≤ n
  pub reads-aligned : (τ : BlockReader) (at : ℕ) (x : ℕ → Bool) → Reads τ at x → (k : ℕ) × (at ≡ k * 2 ^ (n - deep_of τ))
  -- its edge shows what the input decides there, and sits at the block's level, in an ordered table;
  pub reads-shows : (τ : BlockReader) (at : ℕ) (x : ℕ → Bool) → Reads τ at x
      → Shows (source_of τ) (n - deep_of τ) (deep_of τ + 1) (λ w. x (at + w))
  pub reads-sits : (τ : BlockReader) (at : ℕ) (x : ℕ → Bool) → Reads τ at x → Sits (deep_of τ + 1) (source_of τ)
  -- the next block begins where it ends, or the text ends there, and the table lasts till then
  pub reads_on : (τ : BlockReader) (at : ℕ) (x : ℕ → Bool) → Reads τ at x → ended_of τ ≡ false
  pub reads-next : (τ : BlockReader) (at : ℕ) (x : ℕ → Bool) → Reads τ at x
      → Reads (next τ) (at + 2 ^ (n - deep_of τ)) x ⊎ Ends (next τ) (at + 2 ^ (n - deep_of τ)) x
  pub reads-lasts : (τ : BlockReader) (at : ℕ) (x : ℕ → Bool) → Reads τ at x → Lasts (source_of τ).table (source_of (next τ)).table
  -- At the end of its text a block reader stays, with an ordered table.
  pub ends-over : (τ : BlockReader) (e : ℕ) (x : ℕ → Bool) → Ends τ e x → ended_of τ ≡ true
  pub ends-stays : (τ : BlockReader) (e : ℕ) (x : ℕ → Bool) → Ends τ e x → next τ ≡ τ
  pub ends-no : (τ : BlockReader) (e : ℕ) (x : ℕ → Bool) → Ends τ e x → (w : ℕ) → e ≤ w → x w ≡ false
  pub ends-later : (τ : BlockReader) (e j : ℕ) (x : ℕ → Bool) → Ends τ e x → e ≤ j → Ends τ j x
  pub ends-ordered : (τ : BlockReader) (e : ℕ) (x : ℕ → Bool) → Ends τ e x → Ordered (source_of τ).table

-- ---- Where the inputs stand ------------------------------------------------------------------

module _ {BlockReader : Type 0} (deep_of : BlockReader → ℕ) (source_of : BlockReader → Source) (ended_of : BlockReader → Bool)
    (next : BlockReader → BlockReader) (n : ℕ)
    (Reads Ends : BlockReader → ℕ → (ℕ → Bool) → Type 0) where
  -- an input at the part of level i with d options and first word `at`: in its text at a smaller block, or at an edge for it
  abbrev pub FedBy : Bool → BlockReader → Source → ℕ → ℕ → ℕ → (ℕ → Bool) → Type 0
  FedBy true τ y i d at x = Reads τ at x × (i ≤ deep_of τ)
  FedBy false τ y i d at x = Shows y d i (λ w. x (at + w))

  abbrev pub Fed : ℕ → ℕ → ℕ → Operand BlockReader → (ℕ → Bool) → Type 0
  Fed i d at f x = FedBy f.in_text f.reader (edge_of deep_of source_of ended_of next f) i d at x

  -- all inputs
  abbrev pub AllFed : ℕ → ℕ → ℕ → List (Operand BlockReader) → List (ℕ → Bool) → Type 0
  AllFed i d at [] [] = Unit {0}
  AllFed i d at [] (x ∷ xs) = ⊥
  AllFed i d at (f ∷ fs) [] = ⊥
  AllFed i d at (f ∷ fs) (x ∷ xs) = Fed i d at f x × AllFed i d at fs xs

  -- the block reader has come to word `at`: to the block that begins there, or to the end of its text
  abbrev pub Comes : BlockReader → ℕ → (ℕ → Bool) → Type 0
  Comes τ at x = Reads τ at x ⊎ Ends τ at x

  -- it stands at the block that ends before word e
  abbrev pub StandsTo : BlockReader → ℕ → (ℕ → Bool) → Type 0
  StandsTo τ e x = (at : ℕ) × (Reads τ at x × (at + 2 ^ (n - deep_of τ) ≡ e))

  -- or its text ends before that
  abbrev pub ReadTo : BlockReader → ℕ → (ℕ → Bool) → Type 0
  ReadTo τ e x = StandsTo τ e x ⊎ Ends τ e x

  -- after the part that ends before word e: an input in its text has a block reader at the block that ends there, or at the end of its text;
  -- at an edge, its own
  abbrev pub PassedBy : Bool → BlockReader → ℕ → (ℕ → Bool) → BlockReader → Type 0
  PassedBy true τ e x υ = ReadTo υ e x
  PassedBy false τ e x υ = υ ≡ τ

  abbrev pub Passed : ℕ → Operand BlockReader → (ℕ → Bool) → BlockReader → Type 0
  Passed e f x υ = PassedBy f.in_text f.reader e x υ

  -- all inputs
  abbrev pub AllPassed : ℕ → List (Operand BlockReader) → List (ℕ → Bool) → List BlockReader → Type 0
  AllPassed e [] [] [] = Unit {0}
  AllPassed e [] [] (υ ∷ υs) = ⊥
  AllPassed e [] (x ∷ xs) υs = ⊥
  AllPassed e (f ∷ fs) [] υs = ⊥
  AllPassed e (f ∷ fs) (x ∷ xs) [] = ⊥
  AllPassed e (f ∷ fs) (x ∷ xs) (υ ∷ υs) = Passed e f x υ × AllPassed e fs xs υs

-- the words of a part that are covered are what op makes of the decisions
abbrev pub Operates : (List Bool → Bool) → ℕ → ℕ → ℕ → List (ℕ → Bool) → (ℕ → Bool) → Type 0
Operates op c d at xs f = (w : ℕ) → at ≤ w → w < at + 2 ^ d → w < c → f w ≡ op (decisions_at xs w)

-- the first of them, from where the inputs decide
pub operates-first : (op : List Bool → Bool) (c d at : ℕ) (xs : List (ℕ → Bool)) (f : ℕ → Bool) → at < c → Operates op c d at xs f
    → f at ≡ op (decisions_at xs at)
operates-first op c d at xs f l mk = mk at (omega arith) (omega (arith, pow_pos d)) l

-- those of the halves
pub operates-former : (op : List Bool → Bool) (c d at : ℕ) (xs : List (ℕ → Bool)) (f : ℕ → Bool) → Operates op c (suc d) at xs f
    → Operates op c d at xs f
operates-former op c d at xs f mk w l r = mk w l (omega (arith, r))

pub operates-latter : (op : List Bool → Bool) (c d at : ℕ) (xs : List (ℕ → Bool)) (f : ℕ → Bool) → Operates op c (suc d) at xs f
    → Operates op c d (at + 2 ^ d) xs f
operates-latter op c d at xs f mk w l r = mk w (omega (arith, l)) (omega (arith, r))

-- ---- What a part leads to --------------------------------------------------------------------

-- The part of level i that ends before word e, all covered, leads to r; x: what the walk of Online knows of it
pub record Wholly {BlockReader : Type 0} (deep_of : BlockReader → ℕ) (source_of : BlockReader → Source) (ended_of : BlockReader → Bool)
    (next : BlockReader → BlockReader) (n : ℕ)
    (Reads Ends : BlockReader → ℕ → (ℕ → Bool) → Type 0) (size i m e : ℕ)
    (o T p w : List ℕ) (fs : List (Operand BlockReader)) (xs : List (ℕ → Bool)) (r : Applied BlockReader) (x : Went) : Type 0 where
  pub goes_on : r.ended ≡ false
  pub leads : Leads n size i m o T p w r.walked x
  pub passed : r.walked.progress.full ≡ false → AllPassed deep_of source_of ended_of next n Reads Ends e fs xs r.readers

-- the part within which the covered words end leads to r; x: what a cut run sends of it
pub record Cutly {BlockReader : Type 0} (o T x : List ℕ) (r : Applied BlockReader) : Type 0 where
  pub output : r.walked.output ≡ output_after (T ++ x) o
  pub full : r.walked.progress.full ≡ ltb (length o) (length (T ++ x))
  pub all : r.walked.progress.full ≡ true → r.walked.progress.written ≡ length o
  pub rest : r.walked.progress.full ≡ false → (r.ended ≡ true) × (r.walked.progress.written ≡ length (T ++ x))

-- ---- All inputs at edges ---------------------------------------------------------------------

module _ {BlockReader : Type 0} (deep_of : BlockReader → ℕ) (source_of : BlockReader → Source) (ended_of : BlockReader → Bool)
    (next : BlockReader → BlockReader) (n : ℕ)
    (Reads Ends : BlockReader → ℕ → (ℕ → Bool) → Type 0) where
  -- they show what they decide
  pub edges-show : (i d at : ℕ) (fs : List (Operand BlockReader)) (xs : List (ℕ → Bool)) → any_text fs ≡ false
      → AllFed deep_of source_of ended_of next n Reads Ends i d at fs xs
      → ShowsAll (edges_of deep_of source_of ended_of next fs) d i (decisions_from at xs)
  edges-show i d at [] [] e h = tt
  edges-show i d at [] (x ∷ xs) e h = h
  edges-show i d at (f ∷ fs) [] e h = h
  edges-show i d at (f ∷ fs) (x ∷ xs) e h =
      let u = or_l f.in_text (any_text fs) e in (
        subst (λ (u : Bool). FedBy deep_of source_of ended_of next n Reads Ends u f.reader (edge_of deep_of source_of ended_of next f) i d at x) u h.0,
        edges-show i d at fs xs (or_r f.in_text (any_text fs) e) h.1,
      )

  -- their block readers stay
  pub edges-passed : (i d at e : ℕ) (fs : List (Operand BlockReader)) (xs : List (ℕ → Bool)) → any_text fs ≡ false
      → AllFed deep_of source_of ended_of next n Reads Ends i d at fs xs → AllPassed deep_of source_of ended_of next n Reads Ends e fs xs (readers_of fs)
  edges-passed i d at e [] [] z h = tt
  edges-passed i d at e [] (x ∷ xs) z h = h
  edges-passed i d at e (f ∷ fs) [] z h = h
  edges-passed i d at e (f ∷ fs) (x ∷ xs) z h =
      let u = or_l f.in_text (any_text fs) z in (
        subst⁻¹ (λ (u : Bool). PassedBy deep_of source_of ended_of next n Reads Ends u f.reader e x f.reader) u refl,
        edges-passed i d at e fs xs (or_r f.in_text (any_text fs) z) h.1,
      )

-- ---- Cut runs --------------------------------------------------------------------------------

-- a cut run whose covered words end in the first half
pub cut-former : (c size d i at : ℕ) (p : List ℕ) (f : ℕ → Bool) (s : State) → c < at + 2 ^ d
    → cut c size (suc d) i at p f s ≡ cut c size d (suc i) at (p ++ (opener ∷ [])) f s
unfolding cut
cut-former c size d i at p f s l = rw (lt-ltb c (at + 2 ^ d) l, cut) refl

-- in the second half
pub cut-latter : (c size d i at : ℕ) (p : List ℕ) (f : ℕ → Bool) (s : State) → at + 2 ^ d ≤ c →
    let x = online size d (suc i) at (p ++ (opener ∷ [])) f s in
    let q = waiting (p ++ (opener ∷ [])) (suc i) x ++ tilde_if (differ x.complement (f (at + 2 ^ d))) in
    cut c size (suc d) i at p f s ≡ x.sent ++ cut c size d (suc i) (at + 2 ^ d) q f x.state
unfolding cut
cut-latter c size d i at p f s l = rw (le-ltb c (at + 2 ^ d) l, cut) refl

-- with no word covered nothing is sent
pub cut-none : (c size d i at : ℕ) (p : List ℕ) (f : ℕ → Bool) (s : State) → c ≤ at → cut c size d i at p f s ≡ []
unfolding cut
cut-none c size zero i at p f s l = refl
cut-none c size (suc d) i at p f s l =
    cut-former c size d i at p f s (omega (arith, l, pow_pos d)) ∙ cut-none c size d (suc i) at (p ++ (opener ∷ [])) f s l

module _ {BlockReader : Type 0} where
  -- after it nothing is walked
  pub cutly-halted : (o T x : List ℕ) (r : Applied BlockReader) → Cutly o T x r → halted r ≡ true
  cutly-halted o T x r h = go r.walked.progress.full refl
    where
      go : (u : Bool) → r.walked.progress.full ≡ u → halted r ≡ true
      go true e = or_right r.ended r.walked.progress.full e
      go false e = or_left r.ended r.walked.progress.full (h.rest e).0

  -- more was sent than the output holds by a half whose text begins what the cut run sends
  pub cutly-full : (n size i m : ℕ) (o T p w x : List ℕ) (r : Applied BlockReader) (y : Went) → Leads n size i m o T p w r.walked y
      → r.walked.progress.full ≡ true → Begins y.sent x → Cutly o T x r
  cutly-full n size i m o T p w x r y h f b =
      let e = begins-left T y.sent x b in
      let over : length o < length (T ++ y.sent) = ltb-true (length o) (length (T ++ y.sent)) (sym h.full ∙ f) in
      let more : length o < length (T ++ x) = omega (arith, over, ap length e.1, length-append (T ++ y.sent) e.0) in
      record {
        output =
            h.output ∙ full-output (T ++ y.sent) o (omega (arith, over))
            ∙ sym (full-written (T ++ y.sent) (T ++ x) o e (omega (arith, over)))
            ∙ sym (full-output (T ++ x) o (omega (arith, more)));
        full = f ∙ sym (lt-ltb (length o) (length (T ++ x)) more);
        all = h.all;
        rest = λ g. absurd (true≢false (sym f ∙ g));
      }

  -- not more was, and the half's text is all that the cut run sends
  pub cutly-ended : (n size i m : ℕ) (o T p w : List ℕ) (r : Applied BlockReader) (y : Went) → Leads n size i m o T p w r.walked y
      → Cutly o T y.sent (ended_at r)
  cutly-ended n size i m o T p w r y h =
      record { output = h.output; full = h.full; all = h.all; rest = λ g. (refl, (h.after g).stands.written) }

  -- after a half that was covered
  pub cutly-after : (o T x y : List ℕ) (r : Applied BlockReader) → Cutly o (T ++ x) y r → Cutly o T (x ++ y) r
  cutly-after o T x y r h =
      let e = append_assoc T x y in
      record {
        output = h.output ∙ ap (λ (l : List ℕ). output_after l o) e;
        full = h.full ∙ ap (λ (l : List ℕ). ltb (length o) (length l)) e;
        all = h.all;
        rest = λ g. ((h.rest g).0, (h.rest g).1 ∙ ap length e);
      }

-- ---- Blocks ----------------------------------------------------------------------------------

-- the other of two, if the first is not
pub or-other : (u v : Bool) → u ≡ false → (u || v) ≡ true → v ≡ true
or-other true v e h = absurd (true≢false e)
or-other false v e h = h

-- no block of more words begins in the middle of a part
middle-odd : (d r k j at : ℕ) → at ≡ k * 2 ^ suc d → at + 2 ^ d ≡ j * 2 ^ (suc d + r) → ⊥
middle-odd d r k j at e h = ⊎_elim below above (decide-le (j * 2 ^ r) k)
  where
    z : ℕ
    z = j * 2 ^ r

    same : at + 2 ^ d ≡ z * 2 ^ suc d
    same = h ∙ ap (λ (v : ℕ). j * v) (pow-add 2 (suc d) r ∙ mul_comm (2 ^ suc d) (2 ^ r)) ∙ sym (mul_assoc j (2 ^ r) (2 ^ suc d))

    below : z ≤ k → ⊥
    below l = let g = mul-le-mul_right (2 ^ suc d) l in omega (arith, g, same, e, pow_pos d)

    above : k < z → ⊥
    above l =
        let g = mul-le-mul_right {m = k + 1} {n = z} (2 ^ suc d) (omega (arith, l)) in
        omega (arith, g, same, e, pow_pos d, add-mul k 1 (2 ^ suc d), one-mul (2 ^ suc d))

-- ---- An input at the halves ------------------------------------------------------------------

module _ {BlockReader : Type 0} (deep_of : BlockReader → ℕ) (source_of : BlockReader → Source) (ended_of : BlockReader → Bool)
    (next : BlockReader → BlockReader) (i : ℕ)
    (f : Operand BlockReader) where
  -- an edge's halves are edges in the same table
  pub edge-first : edge_of deep_of source_of ended_of next (at_edge f (first_source i (edge_of deep_of source_of ended_of next f)))
      ≡ first_source i (edge_of deep_of source_of ended_of next f)
  edge-first = go (passes i x)
    where
      x : Source
      x = edge_of deep_of source_of ended_of next f

      y : Source
      y = record { table = x.table; number = (node x.table x.number).first; complement = x.complement }

      go : (u : Bool) → edge_of deep_of source_of ended_of next (at_edge f (cond u x y)) ≡ cond u x y
      go true = refl
      go false = refl

  pub edge-second : edge_of deep_of source_of ended_of next (at_edge f (second_source i (edge_of deep_of source_of ended_of next f)))
      ≡ second_source i (edge_of deep_of source_of ended_of next f)
  edge-second = go (passes i x)
    where
      x : Source
      x = edge_of deep_of source_of ended_of next f

      y : Source
      y =
          record {
            table = x.table;
            number = (node x.table x.number).second;
            complement = differ (node x.table x.number).complement x.complement;
          }

      go : (u : Bool) → edge_of deep_of source_of ended_of next (at_edge f (cond u x y)) ≡ cond u x y
      go true = refl
      go false = refl

-- an input in its text
abbrev pub texted : {BlockReader : Type 0} → BlockReader → Source → Operand BlockReader
texted τ y = record { reader = τ; in_text = true; number = y.number; complement = y.complement }

module _ {BlockReader : Type 0} (deep_of : BlockReader → ℕ) (source_of : BlockReader → Source) (ended_of : BlockReader → Bool)
    (next : BlockReader → BlockReader) (n : ℕ)
    (Reads Ends : BlockReader → ℕ → (ℕ → Bool) → Type 0)
    (law : ReaderLaws deep_of source_of ended_of next n Reads Ends) where
  module _ (i d : ℕ) (deep : i + suc d ≡ suc n) where
    -- an input in its text at a part of the next level; u: its text has ended, v: its block is as great as the part
    abbrev place : BlockReader → Source → Bool → Bool → Operand BlockReader
    place τ y u v = cond u (at_terminal (texted τ y)) (cond v (at_edge (texted τ y) (source_of τ)) (texted τ y))

    -- at a part of the next level that begins with its block, which is no greater, or where its text has ended
    pub settled : (at : ℕ) (τ : BlockReader) (y : Source) (x : ℕ → Bool) → Comes deep_of source_of ended_of next n Reads Ends τ at x
        → (Reads τ at x → i ≤ deep_of τ)
        → Fed deep_of source_of ended_of next n Reads Ends (i + 1) d at (settle deep_of source_of ended_of next (i + 1) (texted τ y)) x
    settled at τ y x h l = ⊎_elim
        (λ h. subst⁻¹ (λ (u : Bool). At (place τ y u (eqb (deep_of τ + 1) (i + 1)))) (law.reads_on τ at x h) (go h (eqb (deep_of τ + 1) (i + 1)) refl))
        (λ h. subst⁻¹ (λ (u : Bool). At (place τ y u (eqb (deep_of τ + 1) (i + 1)))) (law.ends-over τ at x h)
        (λ w g. constant-walk (edge_of deep_of source_of ended_of next (at_terminal (texted τ y))) (i + 1) (options d w) refl
        ∙ ap decided (sym (law.ends-no τ at x h (at + w) (omega arith)))))
        h
      where
        At : Operand BlockReader → Type 0
        At f = Fed deep_of source_of ended_of next n Reads Ends (i + 1) d at f x

        go : Reads τ at x → (v : Bool) → eqb (deep_of τ + 1) (i + 1) ≡ v → At (place τ y false v)
        go h true e =
            let j = eqb-true (deep_of τ + 1) (i + 1) e in
            let k : n - deep_of τ ≡ d = omega (arith, j, deep) in
            subst (λ (m : ℕ). Shows (source_of τ) m (i + 1) (λ w. x (at + w))) k
            (subst (λ (m : ℕ). Shows (source_of τ) (n - deep_of τ) m (λ w. x (at + w))) j (law.reads-shows τ at x h))
        go h false e = (
          h,
          ⊎_elim (λ g. g) (λ g. absurd (eqb-false (deep_of τ + 1) (i + 1) e (omega (arith, l h, g))))
              (decide-le (i + 1) (deep_of τ)),
        )

    -- after that half its block reader is at a block that ends with it, or at the end of its text
    pub settled-passed : (at : ℕ) (τ υ : BlockReader) (y : Source) (x : ℕ → Bool) → Comes deep_of source_of ended_of next n Reads Ends τ at x
        → Passed deep_of source_of ended_of next n Reads Ends (at + 2 ^ d) (settle deep_of source_of ended_of next (i + 1) (texted τ y)) x υ
        → ReadTo deep_of source_of ended_of next n Reads Ends υ (at + 2 ^ d) x
    settled-passed at τ υ y x h = ⊎_elim
        (λ h. subst⁻¹ (λ (u : Bool). Leaves (place τ y u (eqb (deep_of τ + 1) (i + 1)))) (law.reads_on τ at x h) (go h (eqb (deep_of τ + 1) (i + 1)) refl))
        (λ h. subst⁻¹ (λ (u : Bool). Leaves (place τ y u (eqb (deep_of τ + 1) (i + 1)))) (law.ends-over τ at x h)
        (λ q. subst⁻¹ To q (inr (law.ends-later τ at (at + 2 ^ d) x h (omega arith)))))
        h
      where
        To : BlockReader → Type 0
        To υ = ReadTo deep_of source_of ended_of next n Reads Ends υ (at + 2 ^ d) x

        Leaves : Operand BlockReader → Type 0
        Leaves f = Passed deep_of source_of ended_of next n Reads Ends (at + 2 ^ d) f x υ → To υ

        go : Reads τ at x → (v : Bool) → eqb (deep_of τ + 1) (i + 1) ≡ v → Leaves (place τ y false v)
        go h true e q =
            let k : n - deep_of τ ≡ d = omega (arith, eqb-true (deep_of τ + 1) (i + 1) e, deep) in
            subst⁻¹ To q (inl (at, (h, ap (λ (m : ℕ). at + 2 ^ m) k)))
        go h false e q = q

    -- at the first half
    fed-first : (at : ℕ) (f : Operand BlockReader) (x : ℕ → Bool) → Fed deep_of source_of ended_of next n Reads Ends i (suc d) at f x
        → Fed deep_of source_of ended_of next n Reads Ends (i + 1) d at (first_operand deep_of source_of ended_of next i f) x
    fed-first at f x = go f.in_text
      where
        go : (u : Bool) → FedBy deep_of source_of ended_of next n Reads Ends u f.reader (edge_of deep_of source_of ended_of next f) i (suc d) at x
            → Fed deep_of source_of ended_of next n Reads Ends (i + 1) d at
            (first_operand deep_of source_of ended_of next i (record { reader = f.reader; in_text = u; number = f.number; complement = f.complement })) x
        go true h = settled at f.reader (edge_of deep_of source_of ended_of next f) x (inl h.0) (λ _. h.1)
        go false h =
            subst⁻¹ (λ (y : Source). Shows y d (i + 1) (λ w. x (at + w))) (edge-first deep_of source_of ended_of next i f)
            (shows_first (edge_of deep_of source_of ended_of next f) d i (λ w. x (at + w)) h)

    module _ (k at : ℕ) (z : at ≡ k * 2 ^ suc d) where
      -- a block that begins in the middle of the part is no greater than a half
      middle-deep : (τ : BlockReader) (x : ℕ → Bool) → Reads τ (at + 2 ^ d) x → i ≤ deep_of τ
      middle-deep τ x h = ⊎_elim (λ g. g) (λ g. absurd (no g)) (decide-le i (deep_of τ))
        where
          no : deep_of τ < i → ⊥
          no g =
              let a = law.reads-aligned τ (at + 2 ^ d) x h in
              let e : n - deep_of τ ≡ suc d + (i - 1 - deep_of τ) = omega (arith, deep, g) in
              middle-odd d (i - 1 - deep_of τ) k a.0 at z (a.1 ∙ ap (λ (m : ℕ). a.0 * 2 ^ m) e)

      -- in its text, from the block reader it has after the first half
      pub text-next : (τ υ : BlockReader) (y : Source) (x : ℕ → Bool) → Reads τ at x
          → Passed deep_of source_of ended_of next n Reads Ends (at + 2 ^ d) (settle deep_of source_of ended_of next (i + 1) (texted τ y)) x υ
          → Comes deep_of source_of ended_of next n Reads Ends (next υ) (at + 2 ^ d) x
      text-next τ υ y x h q = ⊎_elim
          (λ r. subst (λ (e : ℕ). Comes deep_of source_of ended_of next n Reads Ends (next υ) e x) r.1.1 (law.reads-next υ r.0 x r.1.0))
          (λ r. subst⁻¹ (λ (υ : BlockReader). Comes deep_of source_of ended_of next n Reads Ends υ (at + 2 ^ d) x) (law.ends-stays υ (at + 2 ^ d) x r) (inr r))
          (settled-passed at τ υ y x (inl h) q)

      -- at the second half
      fed-second : (f : Operand BlockReader) (x : ℕ → Bool) (υ : BlockReader) → Fed deep_of source_of ended_of next n Reads Ends i (suc d) at f x
          → Passed deep_of source_of ended_of next n Reads Ends (at + 2 ^ d) (first_operand deep_of source_of ended_of next i f) x υ
          → Fed deep_of source_of ended_of next n Reads Ends (i + 1) d (at + 2 ^ d) (second_operand deep_of source_of ended_of next i (on_reader f υ)) x
      fed-second f x υ = go f.in_text
        where
          go : (u : Bool) → FedBy deep_of source_of ended_of next n Reads Ends u f.reader (edge_of deep_of source_of ended_of next f) i (suc d) at x
              → Passed deep_of source_of ended_of next n Reads Ends (at + 2 ^ d)
              (first_operand deep_of source_of ended_of next i (record { reader = f.reader; in_text = u; number = f.number; complement = f.complement })) x υ
              → Fed deep_of source_of ended_of next n Reads Ends (i + 1) d (at + 2 ^ d)
              (second_operand deep_of source_of ended_of next i (record { reader = υ; in_text = u; number = f.number; complement = f.complement })) x
          go true h q =
              let r = text-next f.reader υ (edge_of deep_of source_of ended_of next f) x h.0 q in
              settled (at + 2 ^ d) (next υ) (edge_of deep_of source_of ended_of next f) x r (middle-deep (next υ) x)
          go false h q =
              subst⁻¹ (λ (υ : BlockReader). Fed deep_of source_of ended_of next n Reads Ends (i + 1) d (at + 2 ^ d)
              (second_operand deep_of source_of ended_of next i (record { reader = υ; in_text = false; number = f.number; complement = f.complement })) x) q
              (subst⁻¹ (λ (y : Source). Shows y d (i + 1) (λ w. x (at + 2 ^ d + w))) (edge-second deep_of source_of ended_of next i f)
              (λ w g.
              let e : at + (2 ^ d + w) ≡ at + 2 ^ d + w = omega arith in
              shows_second (edge_of deep_of source_of ended_of next f) d i (λ w. x (at + w)) h w g
              ∙ ap (λ (j : ℕ). decided (x j)) e))

      -- after it
      passed-second : (f : Operand BlockReader) (x : ℕ → Bool) (υ φ : BlockReader) → Fed deep_of source_of ended_of next n Reads Ends i (suc d) at f x
          → Passed deep_of source_of ended_of next n Reads Ends (at + 2 ^ d) (first_operand deep_of source_of ended_of next i f) x υ
          → Passed deep_of source_of ended_of next n Reads Ends (at + 2 ^ d + 2 ^ d) (second_operand deep_of source_of ended_of next i (on_reader f υ)) x φ
          → Passed deep_of source_of ended_of next n Reads Ends (at + 2 ^ suc d) f x φ
      passed-second f x υ φ = go f.in_text
        where
          go : (u : Bool) → FedBy deep_of source_of ended_of next n Reads Ends u f.reader (edge_of deep_of source_of ended_of next f) i (suc d) at x
              → Passed deep_of source_of ended_of next n Reads Ends (at + 2 ^ d)
              (first_operand deep_of source_of ended_of next i (record { reader = f.reader; in_text = u; number = f.number; complement = f.complement })) x υ
              → Passed deep_of source_of ended_of next n Reads Ends (at + 2 ^ d + 2 ^ d)
              (second_operand deep_of source_of ended_of next i (record { reader = υ; in_text = u; number = f.number; complement = f.complement })) x φ
              → PassedBy deep_of source_of ended_of next n Reads Ends u f.reader (at + 2 ^ suc d) x φ
          go true h q r =
              let e : at + 2 ^ d + 2 ^ d ≡ at + 2 ^ suc d = omega arith in
              subst (λ (e : ℕ). ReadTo deep_of source_of ended_of next n Reads Ends φ e x) e
              (settled-passed (at + 2 ^ d) (next υ) φ (edge_of deep_of source_of ended_of next f) x
              (text-next f.reader υ (edge_of deep_of source_of ended_of next f) x h.0 q) r)
          go false h q r = r ∙ q

    -- ---- All inputs at the halves ---------------------------------------------------------------

    -- at the first half
    pub all_first : (at : ℕ) (fs : List (Operand BlockReader)) (xs : List (ℕ → Bool)) → AllFed deep_of source_of ended_of next n Reads Ends i (suc d) at fs xs
        → AllFed deep_of source_of ended_of next n Reads Ends (i + 1) d at (first_operands deep_of source_of ended_of next i fs) xs
    all_first at [] [] h = tt
    all_first at [] (x ∷ xs) h = h
    all_first at (f ∷ fs) [] h = h
    all_first at (f ∷ fs) (x ∷ xs) h = (fed-first at f x h.0, all_first at fs xs h.1)

    module _ (k at : ℕ) (z : at ≡ k * 2 ^ suc d) where
      -- at the second half, with the block readers they have after the first
      pub all-second : (fs : List (Operand BlockReader)) (xs : List (ℕ → Bool)) (υs : List BlockReader)
          → AllFed deep_of source_of ended_of next n Reads Ends i (suc d) at fs xs
          → AllPassed deep_of source_of ended_of next n Reads Ends (at + 2 ^ d) (first_operands deep_of source_of ended_of next i fs) xs υs
          → AllFed deep_of source_of ended_of next n Reads Ends (i + 1) d (at + 2 ^ d) (second_operands deep_of source_of ended_of next i (resume fs υs)) xs
      all-second [] [] υs h q = tt
      all-second [] (x ∷ xs) υs h q = h
      all-second (f ∷ fs) [] υs h q = absurd h
      all-second (f ∷ fs) (x ∷ xs) [] h q = absurd q
      all-second (f ∷ fs) (x ∷ xs) (υ ∷ υs) h q =
          (fed-second k at z f x υ h.0 q.0, all-second fs xs υs h.1 q.1)

      -- after it
      pub all-passed : (fs : List (Operand BlockReader)) (xs : List (ℕ → Bool)) (υs φs : List BlockReader)
          → AllFed deep_of source_of ended_of next n Reads Ends i (suc d) at fs xs
          → AllPassed deep_of source_of ended_of next n Reads Ends (at + 2 ^ d) (first_operands deep_of source_of ended_of next i fs) xs υs
          → AllPassed deep_of source_of ended_of next n Reads Ends (at + 2 ^ d + 2 ^ d) (second_operands deep_of source_of ended_of next i (resume fs υs)) xs φs
          → AllPassed deep_of source_of ended_of next n Reads Ends (at + 2 ^ suc d) fs xs φs
      all-passed [] [] υs [] h q r = tt
      all-passed [] [] υs (φ ∷ φs) h q r = r
      all-passed [] (x ∷ xs) υs φs h q r = h
      all-passed (f ∷ fs) [] υs φs h q r = h
      all-passed (f ∷ fs) (x ∷ xs) [] φs h q r = absurd q
      all-passed (f ∷ fs) (x ∷ xs) (υ ∷ υs) [] h q r = r
      all-passed (f ∷ fs) (x ∷ xs) (υ ∷ υs) (φ ∷ φs) h q r =
          (passed-second k at z f x υ φ h.0 q.0 r.0, all-passed fs xs υs φs h.1 q.1 r.1)

  -- with no option left none is in its text
  pub all_none : (i at : ℕ) (fs : List (Operand BlockReader)) (xs : List (ℕ → Bool)) → n < i → AllFed deep_of source_of ended_of next n Reads Ends i 0 at fs xs
      → any_text fs ≡ false
  all_none i at [] [] l h = refl
  all_none i at [] (x ∷ xs) l h = refl
  all_none i at (f ∷ fs) [] l h = absurd h
  all_none i at (f ∷ fs) (x ∷ xs) l h = or-false (go f.in_text h.0) (all_none i at fs xs l h.1)
    where
      go : (u : Bool) → FedBy deep_of source_of ended_of next n Reads Ends u f.reader (edge_of deep_of source_of ended_of next f) i 0 at x → u ≡ false
      go true g = absurd (omega (arith, g.1, law.reads-deep f.reader at x g.0, l))
      go false g = refl

  -- what they decide at the first word of a part
  pub all_start : (i d at : ℕ) (fs : List (Operand BlockReader)) (xs : List (ℕ → Bool)) → AllFed deep_of source_of ended_of next n Reads Ends i d at fs xs
      → decisions_at xs at ≡ first_values_of deep_of source_of ended_of next fs
  all_start i d at [] [] h = refl
  all_start i d at [] (x ∷ xs) h = absurd h
  all_start i d at (f ∷ fs) [] h = absurd h
  all_start i d at (f ∷ fs) (x ∷ xs) h = ap₂ ◌∷◌ (ap x same ∙ go f.in_text h.0) (all_start i d at fs xs h.1)
    where
      same : at ≡ at + 0
      same = omega arith

      g : ℕ → Bool
      g w = x (at + w)

      go : (u : Bool) → FedBy deep_of source_of ended_of next n Reads Ends u f.reader (edge_of deep_of source_of ended_of next f) i d at x
          → g 0 ≡ cond u (source_of f.reader).complement f.complement
      go true q =
          shows-start (source_of f.reader) (n - deep_of f.reader) (deep_of f.reader + 1) g (law.reads-shows f.reader at x q.0)
      go false q = shows-start (edge_of deep_of source_of ended_of next f) d i g q
