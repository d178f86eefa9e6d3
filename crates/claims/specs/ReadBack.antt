-- READING BACK: the text of a valid tree is read, by induction on the tree; so the whole written stream is read, and decides as the function
-- that it was written for. Assumes nothing.
use Rattle.std.proofs.Math.Path.{◌≡◌, sym, ap, subst⁻¹}
use Rattle.std.specs.Prelude.{refl, Bool, true, not, ◌&&◌, cond, get_or, set, replicate}
use Rattle.std.proofs.Common.{◌∙◌, subst, arith, length-drop, eq-eqb, ne_eqb, le-ltb}
use Rattle.std.proofs.Math.Bool.{false}
use mathlib.Core.List.{List, [], ◌∷◌, ◌++◌, append_assoc}
use Rattle.std.proofs.Math.Option.{none}
use Prim.Native.Nat.{ℕ, zero, suc, ◌+◌, ◌-◌, ◌≤◌, ◌<◌, ◌^◌}
use Rattle.std.proofs.Math.ListN.{length, drop}
use Rattle.theory_lists.specs.Lists.{differ, or-false}
use Rattle.theory_reading.specs.Limits.{option_limit, table_limit}
use Rattle.theory_reading.specs.Bytes.{opener, closer, tilde, colon, dot, blank, line_feed, is_digit}
use Rattle.theory_reading.specs.Nodes.{Ref, entry, temporary, is_kept, child, Node, new_node, no_node, stamp, bars}
use Rattle.theory_reading.specs.Element.{Open, in_first, in_second, Context, start, lead, begins, after_digit, after_two, after_one, over}
use Rattle.theory_reading.specs.Reading.{State, state, Reading, fresh, is_bad, reading}
use Rattle.theory_reading.specs.Deciding.{decided, complemented, Diagram, missing, branch, top, below, walk, options, around, Drawing, drawing, Trace}
use Rattle.theory_reading.specs.Deciding.{trace, trace_on, decision_of, decision}
use Rattle.theory_reading.proofs.Prefix.{trace-reading}
use Rattle.theory_reading.proofs.Settled.{trace-settled, trace-ended}
use Rattle.theory_reading.specs.Covered.{covered}
use Rattle.theory_reading.proofs.Covered.{complete-covers}
use Rattle.theory_reading.proofs.TableWalk.{RowTied, tied_on, TiedTrace}
use Rattle.theory_writing.specs.UniqueTable as U
use Rattle.theory_writing.specs.Rules.{Text, number, one, two, part}
use Rattle.theory_writing.specs.Texts.{decimal, bytes, between, storing, ends_in_digit, begins_with_digit, tilde_if}
use Rattle.theory_writing.specs.Run.{run_text}
use Rattle.theory_writing.specs.Grows.{run-whole, whole_text}
use Rattle.theory_writing.specs.Storing.{placed_same}
use Rattle.theory_writing.specs.Faithful.{read_child, read_table, Says, text_says}
use Rattle.claims.specs.Numerals.{Stops, drop-one}
use Rattle.claims.specs.ReadElements.{here, standing, with_last, counting, paired, tabled, complementing, first, Reach, reach-next, Starts}
use Rattle.claims.specs.ReadElements.{at_lead, at_begins, on_digit, on_two, on_one, Ends, end_digit, end_two, end_one, around_of, starts-length}
use Rattle.claims.specs.ReadElements.{open_step, turn_step, lead-step, one-step, two-step, end_step, numbered, diagram_of, Known, spaced}
use Rattle.claims.specs.ReadElements.{number_step, stored_row, store_step, size_step}
use Rattle.claims.specs.Valid.{kept_text, Gives, GivesIf, Valid, text-valid}
use Rattle.claims.specs.Agree.{Agrees, agrees_start, agrees-stored, parentless, Decides, decides-branch, leaf-decides, row-decides}

-- ---- Between two texts -----------------------------------------------------------------------

-- what stands before the place after a text
abbrev context_of : Text → Context
context_of (number k) = after_digit
context_of (one x) = after_one
context_of (two x t y zero) = after_two
context_of (two x t y (suc k)) = after_digit

context-ends : (x : Text) → Ends (context_of x)
context-ends (number k) = end_digit
context-ends (one x) = end_one
context-ends (two x t y zero) = end_two
context-ends (two x t y (suc k)) = end_digit

ends-starts : (m : Context) (o : List Open) → Ends m → Starts m (in_first ∷ o)
ends-starts after_digit o end_digit = on_digit
ends-starts after_two o end_two = on_two
ends-starts after_one o end_one = on_one
ends-starts start o x' = elim x' [ ]
ends-starts lead o x'' = elim x'' [ ]
ends-starts begins o x3 = elim x3 [ ]
ends-starts over o x4 = elim x4 [ ]

ends-around : (m : Context) (r : Ref) (o : List Open) → Ends m → around_of m r (in_first ∷ o) ≡ in_second r false ∷ o
ends-around after_digit r o end_digit = refl
ends-around after_two r o end_two = refl
ends-around after_one r o end_one = refl
ends-around start r o x' = elim x' [ ]
ends-around lead r o x'' = elim x'' [ ]
ends-around begins r o x3 = elim x3 [ ]
ends-around over r o x4 = elim x4 [ ]

-- a space before a number that follows a digit
abbrev gap : Context → Text → List ℕ
gap m (number k) = spaced m
gap m (one x) = []
gap m (two x t y k) = []

gap-lead : (x : Text) → gap lead x ≡ []
gap-lead (number k) = refl
gap-lead (one x) = refl
gap-lead (two x t y k) = refl

gap-begins : (x : Text) → gap begins x ≡ []
gap-begins (number k) = refl
gap-begins (one x) = refl
gap-begins (two x t y k) = refl

cond-false : (t : Bool) → cond {A = List ℕ} (t && false) (blank ∷ []) [] ≡ []
cond-false true = refl
cond-false false = refl

gap-between : (x y : Text) → between false x y ≡ gap (context_of x) y
gap-between (number k) (number j) = refl
gap-between (one x) (number j) = refl
gap-between (two x t z zero) (number j) = refl
gap-between (two x t z (suc k)) (number j) = refl
gap-between x (one y) = cond-false (ends_in_digit x)
gap-between x (two y t z k) = cond-false (ends_in_digit x)

-- ---- A text that is read ---------------------------------------------------------------------

-- the reference r and the diagram d stand for the text x of level i, read with the writer's table ns
record Stood (n i : ℕ) (x : Text) (ns : List Node) (r : Ref) (d : Diagram) : Type 0 where
  kept : is_kept r ≡ kept_text x
  ref : kept_text x ≡ true → r ≡ numbered (read_table i x ns) (read_child x)
  decides : (f : ℕ → Bool) (m : ℕ) (t : Bool) (at : ℕ) → i + m ≡ suc n → Says ns f m i x t at → Decides d f m t at

-- the text x of level i has been read, inside the open nodes u; st: the stack before it, c: the leading `~`
record Gone (n size : ℕ) (all : List ℕ) (i : ℕ) (x : Text) (ns : List Node) (post : List ℕ) (u : List Open) (st : List Diagram) (c : Bool) : Type 0
  where
    at : ℕ
    rest : State
    draw : Drawing
    place : drop at all ≡ post
    reach : Reach n all (standing at (context_of x) u rest draw)
    agrees : Agrees size rest.table (read_table i x ns)
    stood : Stood n i x ns rest.place.last (top draw.stack)
    under : below draw.stack ≡ st
    same-complement : rest.complement ≡ c
    same_size : rest.size ≡ size

abbrev Reads : ℕ → ℕ → List ℕ → Text → ℕ → Type 0
Reads n size all x i =
    (ns : List Node) (a : ℕ) (m : Context) (u : List Open) (z : State) (d : Drawing) (post : List ℕ) → Starts m u → length u + 1 ≡ i
    → Reach n all (standing a m u z d)
    → Agrees size z.table ns → z.size ≡ size → Valid n size i x ns → drop a all ≡ gap m x ++ (bytes x ++ post)
    → (ends_in_digit x ≡ true → Stops post)
    → Gone n size all i x ns post (around_of m z.place.last u) d.stack z.complement

child-numbered : (ns : List Node) (k : ℕ) → child (numbered ns k) ≡ k
child-numbered ns zero = refl
child-numbered ns (suc k) = refl

-- a number that was not given out again bars nothing
bars-numbered : (t ns : List Node) (k : ℕ) → (0 < k → stamp t k ≡ stamp ns k) → bars t (numbered ns k) ≡ false
bars-numbered t ns zero h = refl
bars-numbered t ns (suc k) h = ap not (eq-eqb (stamp t (suc k)) (stamp ns (suc k)) (h (omega arith)))

differ-none : (t : Bool) → differ t false ≡ t
differ-none true = refl
differ-none false = refl

-- what is no digit stops a number
closer-stops : (l : List ℕ) → Stops (closer ∷ l)
unfolding is_digit
closer-stops l = refl

dot-stops : (l : List ℕ) → Stops (dot ∷ l)
unfolding is_digit
dot-stops l = refl

between-stops : (t : Bool) (x y : Text) (l : List ℕ) → ends_in_digit x ≡ true → Stops (between t x y ++ (bytes y ++ l))
unfolding bytes is_digit
between-stops true x y l e = refl
between-stops false x y l e = subst⁻¹ (λ (b : Bool). Stops (cond {A = List ℕ} (b && begins_with_digit y) (blank ∷ []) [] ++ (bytes y ++ l))) e (go y)
  where
    go : (y : Text) → Stops (cond {A = List ℕ} (true && begins_with_digit y) (blank ∷ []) [] ++ (bytes y ++ l))
    go (number j) = refl
    go (one y) = refl
    go (two y t z k) = refl

regroup : (x b y c p : List ℕ) → (opener ∷ (x ++ (b ++ (y ++ c)))) ++ p ≡ opener ∷ (x ++ (b ++ (y ++ (c ++ p))))
regroup x b y c p = simp append_assoc

module _ (n size : ℕ) (all : List ℕ) (small : n ≤ option_limit) where
  reach-tied : (t : Trace) → Reach n all t → TiedTrace n t
  reach-tied t h = subst (TiedTrace n) h.1 (tied_on h.0 n all)

  -- ---- a number
  number-stood : (k i : ℕ) (ns t : List Node) (rows : List Diagram) → Agrees size t ns → 0 < i
      → ((j : ℕ) → (j ≡ 0 → ⊥) → RowTied n t j (get_or rows j missing)) → Valid n size i (number k) ns
      → Stood n i (number k) ns (numbered t k) (diagram_of rows k)
  unfolding Says read_table Valid
  number-stood zero i ns t rows g r tied v = record { kept = refl; ref = λ _. refl; decides = λ f m u at e h. leaf-decides size t ns g f m i u at h }
  number-stood (suc k) i ns t rows g r tied v = record {
    kept = refl;
    ref = λ _. ap (λ (x : Node). entry (suc k) x.stamp) (g.row (suc k));
    decides = λ f m u at e h. row-decides n size t ns g (suc k) i (get_or rows (suc k) missing) r (ap (λ (x : Node). x.level) (g.row (suc k)) ∙ v)
        (tied (suc k) (λ z. omega arith)) f m u at e h;
  }

  number-known : (k i : ℕ) (ns t : List Node) → Agrees size t ns → Valid n size i (number k) ns → Known t i k
  unfolding Valid
  number-known zero i ns t g v = tt
  number-known (suc k) i ns t g v = ap (λ (x : Node). x.level) (g.row (suc k)) ∙ v

  number-reads : (k i : ℕ) → Reads n size all (number k) i
  unfolding bytes read_table
  number-reads k i ns a m u z d post st lv re ag sz v e stop =
      let h = number_step n a z d all k post (stop refl) m u st (subst⁻¹ (λ (j : ℕ). Known z.table j k) lv (number-known k i ns z.table ag v)) e
      in
      record {
        at = h.0;
        rest = with_last (numbered z.table k) (counting (2 ^ (n - length u)) z);
        draw = drawing d.rows (diagram_of d.rows k ∷ d.stack);
        place = h.1;
        reach = reach-next n all (standing a m u z d) _ re h.2;
        agrees = ag;
        stood = number-stood k i ns z.table d.rows ag (omega (arith, lv)) (reach-tied (standing a m u z d) re).tied.rows v;
        under = refl;
        same-complement = refl;
        same_size = sz;
      }

  -- ---- `(A)`
  one_stood : (x : Text) (i : ℕ) (ns : List Node) (r : Ref) (d : Diagram) → kept_text x ≡ true → Stood n (suc i) x ns r d
      → Stood n i (one x) ns r (branch d false d)
  unfolding Says read_table
  one_stood x i ns r d k s = record { kept = s.kept ∙ k; ref = λ _. s.ref k; decides = go }
    where
      go : (f : ℕ → Bool) (m : ℕ) (t : Bool) (at : ℕ) → i + m ≡ suc n → Says ns f m i (one x) t at → Decides (branch d false d) f m t at
      go f zero t at e h = absurd h
      go f (suc m) t at e h = decides-branch d d false f m t at (s.decides f m t at (omega arith) h.0)
          (subst⁻¹ (λ (v : Bool). Decides d f m v (at + 2 ^ m)) (differ-none t) (s.decides f m t (at + 2 ^ m) (omega arith) h.1))

  one-reads : (x : Text) (i : ℕ) → Reads n size all x (suc i) → Reads n size all (one x) i
  unfolding bytes read_table Valid
  one-reads x i ih ns a m u z d post st lv re ag sz v e stop =
      let u₁ = around_of m z.place.last u in
      let ln = starts-length m u z.place.last st in
      let e₁ : drop a all ≡ opener ∷ (bytes x ++ (closer ∷ post)) = e ∙ ap (λ (l : List ℕ). opener ∷ l) (append_assoc (bytes x) (closer ∷ []) post) in
      let o = open_step n a z d all m u (bytes x ++ (closer ∷ post)) st small (omega (arith, v.0, lv)) e₁ in
      let g = ih ns (a + 1) begins (in_first ∷ u₁) z d (closer ∷ post) at_begins (omega (arith, lv, ln)) (reach-next n all (standing a m u z d) _ re o)
      ag sz v.2
      (drop-one a all opener (bytes x ++ (closer ∷ post)) e₁ ∙ ap (λ (l : List ℕ). l ++ (bytes x ++ (closer ∷ post))) (sym (gap-begins x)))
      (λ _. closer-stops post) in
      let w = one-step n g.at g.rest g.draw all (context_of x) u₁ post (context-ends x) (g.stood.kept ∙ v.1) g.place in
      record {
        at = g.at + 1;
        rest = counting (2 ^ (n - length (in_first ∷ u₁))) g.rest;
        draw = drawing g.draw.rows (branch (top g.draw.stack) false (top g.draw.stack) ∷ below g.draw.stack);
        place = drop-one g.at all closer post g.place;
        reach = reach-next n all (standing g.at (context_of x) (in_first ∷ u₁) g.rest g.draw) _ g.reach w;
        agrees = g.agrees;
        stood = one_stood x i ns g.rest.place.last (top g.draw.stack) v.1 g.stood;
        under = g.under;
        same-complement = g.same-complement;
        same_size = g.same_size;
      }

  -- ---- two children
  second_reads : (x y : Text) (t : Bool) (i : ℕ) → Reads n size all y i
      → (ns : List Node) (a : ℕ) (o : List Open) (z : State) (d : Drawing) (post : List ℕ) → suc (length o) + 1 ≡ i
      → Reach n all (standing a (context_of x) (in_first ∷ o) z d) → Agrees size z.table ns → z.size ≡ size → Valid n size i y ns → drop a all
      ≡ between t x y ++ (bytes y ++ post) → Stops post
      → Gone n size all i y ns post (in_second z.place.last t ∷ o) d.stack z.complement
  second_reads x y true i ih ns a o z d post lv re ag sz v e stop =
      ih ns (a + 1) begins (in_second z.place.last true ∷ o) z d post at_begins lv
      (reach-next n all (standing a (context_of x) (in_first ∷ o) z d) _ re
      (turn_step n a z d all (context_of x) o (bytes y ++ post) (context-ends x) e)) ag sz v
      (drop-one a all tilde (bytes y ++ post) e ∙ ap (λ (l : List ℕ). l ++ (bytes y ++ post)) (sym (gap-begins y))) (λ _. stop)
  second_reads x y false i ih ns a o z d post lv re ag sz v e stop =
      subst (λ (u : List Open). Gone n size all i y ns post u d.stack z.complement)
      (ends-around (context_of x) z.place.last o (context-ends x))
      (ih ns a (context_of x) (in_first ∷ o) z d post (ends-starts (context_of x) o (context-ends x)) lv re ag sz v
      (e ∙ ap (λ (l : List ℕ). l ++ (bytes y ++ post)) (gap-between x y)) (λ _. stop))

  module _ (x : Text) (t : Bool) (y : Text) (i : ℕ) (ns : List Node) (r : Ref) (a : ℕ) (u : List Open) (z : State) (d : Drawing) (post : List ℕ)
      (st : List Diagram) (c : Bool)
      (lv : length u + 1 ≡ i) (re : Reach n all (standing a (context_of y) (in_second r t ∷ u) z d))
      (ag : Agrees size z.table (read_table (suc i) y (read_table (suc i) x ns)))
      (sx : Stood n (suc i) x ns r (top (below d.stack))) (sy : Stood n (suc i) y (read_table (suc i) x ns) z.place.last (top d.stack))
      (un : below (below d.stack) ≡ st) (tu : z.complement ≡ c) (sz : z.size ≡ size) where
    abbrev closed : State
    closed = with_last temporary (paired r t z.place.last z)

    abbrev drawn : Drawing
    drawn = drawing d.rows (branch (top (below d.stack)) t (top d.stack) ∷ below (below d.stack))

    closed-reach : (bs : List ℕ) → drop a all ≡ closer ∷ bs → Reach n all (standing (a + 1) after_two u closed drawn)
    closed-reach bs e = reach-next n all (standing a (context_of y) (in_second r t ∷ u) z d) _ re
        (two-step n a z d all (context_of y) r t u bs (context-ends y) e)

    two-decides : (k : ℕ) (f : ℕ → Bool) (m : ℕ) (v : Bool) (at : ℕ) → i + m ≡ suc n → Says ns f m i (two x t y k) v at
        → Decides (branch (top (below d.stack)) t (top d.stack)) f m v at
    unfolding Says
    two-decides k f zero v at e h = absurd h
    two-decides k f (suc m) v at e h = decides-branch (top (below d.stack)) (top d.stack) t f m v at (sx.decides f m v at (omega arith) h.0)
        (sy.decides f m (differ v t) (at + 2 ^ m) (omega arith) h.1)

    module _ (k : ℕ) (gv : Gives size x y k (read_table (suc i) x ns) (read_table (suc i) y (read_table (suc i) x ns))) where
      abbrev ns₁ : List Node
      ns₁ = read_table (suc i) x ns

      abbrev ns₂ : List Node
      ns₂ = read_table (suc i) y ns₁

      row-stamp : (j : ℕ) → stamp z.table j ≡ stamp ns₂ j
      row-stamp j = ap (λ (w : Node). w.stamp) (ag.row j)

      free-x : bars z.table r ≡ false
      free-x = ap (bars z.table) (sx.ref gv.kept-x) ∙ bars-numbered z.table ns₁ (read_child x) (λ q. row-stamp (read_child x) ∙ gv.held q)

      free-y : bars z.table z.place.last ≡ false
      free-y = ap (bars z.table) (sy.ref gv.kept-y) ∙ bars-numbered z.table ns₂ (read_child y) (λ q. row-stamp (read_child y))

      child-x : child r ≡ read_child x
      child-x = ap child (sx.ref gv.kept-x) ∙ child-numbered ns₁ (read_child x)

      child-y : child z.place.last ≡ read_child y
      child-y = ap child (sy.ref gv.kept-y) ∙ child-numbered ns₂ (read_child y)

      good : is_bad (here (a + 1) after_two u closed) k ≡ false
      unfolding is_bad
      good =
          or-false (or-false (ne_eqb k 0 (λ q. omega (arith, q, gv.real))) (le-ltb z.size k (omega (arith, gv.small, sz))))
          (or-false (parentless size z.table ns₂ k ag gv.alone)
          (or-false (ne_eqb (child r) k (λ q. gv.not-x (sym child-x ∙ q))) (ne_eqb (child z.place.last) k (λ q. gv.not-y (sym child-y ∙ q)))))

      same_row : new_node (length u + 1) (child r) (child z.place.last) t (suc (stamp z.table k))
          ≡ new_node i (read_child x) (read_child y) t (suc (stamp ns₂ k))
      same_row = λ j. new_node (lv j) (child-x j) (child-y j) t (suc (row-stamp k j))

    finish : (k : ℕ) → GivesIf size x y k (read_table (suc i) x ns) (read_table (suc i) y (read_table (suc i) x ns)) → drop a all ≡ closer
        ∷ (storing k ++ post) → (ends_in_digit (two x t y k) ≡ true → Stops post)
        → Gone n size all i (two x t y k) ns post u st c
    unfolding read_table
    finish zero gv e stop =
        record {
          at = a + 1;
          rest = closed;
          draw = drawn;
          place = drop-one a all closer post e;
          reach = closed-reach post e;
          agrees = ag;
          stood = record { kept = refl; ref = λ q. absurd (let o : ◌≡◌ {A = ℕ} 0 1 = cc in omega arith); decides = two-decides zero };
          under = un;
          same-complement = tu;
          same_size = sz;
        }
    finish (suc k) gv e stop =
        let ns₂ = read_table (suc i) y (read_table (suc i) x ns) in
        let new = new_node i (read_child x) (read_child y) t (suc (stamp ns₂ (suc k))) in
        let h = store_step n (a + 1) closed drawn all (suc k) post (stop refl) u (free-x (suc k) gv) (free-y (suc k) gv) (good (suc k) gv)
        (drop-one a all closer (colon ∷ (decimal (suc k) ++ post)) e) in
        record {
          at = h.0;
          rest = with_last (entry (suc k) (suc (stamp z.table (suc k))))
              (tabled (set z.table (suc k) (stored_row n (a + 1) closed drawn all (suc k) post u)) closed);
          draw = drawing (set d.rows (suc k) (branch (top (below d.stack)) t (top d.stack))) drawn.stack;
          place = h.1;
          reach = reach-next n all (standing (a + 1) after_two u closed drawn) _ (closed-reach (colon ∷ (decimal (suc k) ++ post)) e) h.2;
          agrees = agrees-stored size z.table ns₂ (suc k) _ new ag gv.small gv.room (same_row (suc k) gv);
          stood = record {
            kept = refl;
            ref = λ _. ap (λ (g : ℕ). entry (suc k) (suc g)) (row-stamp (suc k) gv (suc k))
                ∙ sym (ap (λ (w : Node). entry (suc k) w.stamp) (placed_same ns₂ (suc k) new gv.room));
            decides = two-decides (suc k);
          };
          under = un;
          same-complement = tu;
          same_size = sz;
        }

  two-reads : (x : Text) (t : Bool) (y : Text) (k i : ℕ) → Reads n size all x (suc i) → Reads n size all y (suc i) → Reads n size all (two x t y k) i
  unfolding bytes Valid
  two-reads x t y k i ihx ihy ns a m u z d post st lv re ag sz v e stop =
      let u₁ = around_of m z.place.last u in
      let ln = starts-length m u z.place.last st in
      let after-y : List ℕ = closer ∷ (storing k ++ post) in
      let after-x : List ℕ = between t x y ++ (bytes y ++ after-y) in
      let e₁ : drop a all ≡ opener ∷ (bytes x ++ after-x) = e ∙ regroup (bytes x) (between t x y) (bytes y) (closer ∷ storing k) post in
      let o = open_step n a z d all m u (bytes x ++ after-x) st small (omega (arith, v.0, lv)) e₁ in
      let g = ihx ns (a + 1) begins (in_first ∷ u₁) z d after-x at_begins (omega (arith, lv, ln)) (reach-next n all (standing a m u z d) _ re o) ag sz
      v.1
      (drop-one a all opener (bytes x ++ after-x) e₁ ∙ ap (λ (l : List ℕ). l ++ (bytes x ++ after-x)) (sym (gap-begins x)))
      (between-stops t x y after-y) in
      let h = second_reads x y t (suc i) ihy (read_table (suc i) x ns) g.at u₁ g.rest g.draw after-y (omega (arith, lv, ln)) g.reach
      g.agrees g.same_size v.2 g.place (closer-stops (storing k ++ post)) in
      finish x t y i ns g.rest.place.last h.at u₁ h.rest h.draw post d.stack z.complement (omega (arith, lv, ln)) h.reach
      h.agrees
      (subst⁻¹ (λ (l : List Diagram). Stood n (suc i) x ns g.rest.place.last (top l)) h.under g.stood) h.stood
      (ap below h.under ∙ g.under)
      (h.same-complement ∙ g.same-complement) h.same_size k v.3 h.place stop

  -- EVERY VALID TEXT IS READ
  text-reads : (x : Text) (i : ℕ) → Reads n size all x i
  text-reads (number k) i = number-reads k i
  text-reads (one x) i = one-reads x i (text-reads x (suc i))
  text-reads (two x t y k) i = two-reads x t y k i (text-reads x (suc i)) (text-reads y (suc i))

  -- ---- the outermost node
  outer : (t : Bool) (x : Text) (a : ℕ) (z : State) (d : Drawing) → Reach n all (standing a lead [] z d) → Agrees size z.table (U.start).table
      → z.size ≡ size → z.complement ≡ false
      → Valid n size 1 x (U.start).table → drop a all ≡ tilde_if t ++ (bytes x ++ (dot ∷ []))
      → Gone n size all 1 x (U.start).table (dot ∷ []) [] d.stack t
  outer true x a z d re ag sz tu v e =
      text-reads x 1 (U.start).table (a + 1) begins [] (complementing z) d (dot ∷ []) at_begins refl
      (reach-next n all (standing a lead [] z d) _ re (lead-step n a z d all (bytes x ++ (dot ∷ [])) e)) ag sz v
      (drop-one a all tilde (bytes x ++ (dot ∷ [])) e ∙ ap (λ (l : List ℕ). l ++ (bytes x ++ (dot ∷ []))) (sym (gap-begins x))) (λ _. dot-stops [])
  outer false x a z d re ag sz tu v e =
      subst (Gone n size all 1 x (U.start).table (dot ∷ []) [] d.stack) tu
      (text-reads x 1 (U.start).table a lead [] z d (dot ∷ []) at_lead refl re ag sz v
      (e ∙ ap (λ (l : List ℕ). l ++ (bytes x ++ (dot ∷ []))) (sym (gap-lead x))) (λ _. dot-stops []))

  -- a trace that is reached and has all bytes behind it is the trace
  rested : (a : ℕ) (m : Context) (u : List Open) (z : State) (d : Drawing) → drop a all ≡ [] → Reach n all (standing a m u z d) → trace n all
      ≡ standing a m u z d
  rested a m u z d e h =
      let l : length all ≤ a = omega (arith, length-drop a all, ap length e) in
      trace-settled n all h.0 (standing a m u z d) h.1 (trace-ended n all (standing a m u z d) l)

-- ---- The whole stream ------------------------------------------------------------------------

-- what reading a whole written stream gives
pub record ReadsBack (n : ℕ) (f : ℕ → Bool) (all : List ℕ) : Type 0 where
  pub accepted : (reading n all).fault ≡ none
  pub complete : (reading n all).state.place.context ≡ over
  pub covers : covered n all ≡ 2 ^ n
  pub decides : (w : ℕ) → w < 2 ^ n → decision n all w ≡ decided (f w)

ended : (n : ℕ) (f : ℕ → Bool) (all : List ℕ) (a : ℕ) (z : State) (d : Drawing) (t : Bool) → z.complement ≡ t → Decides (top d.stack) f n t 0
    → trace n all ≡ standing a over [] z d → ReadsBack n f all
unfolding decision decision_of around
ended n f all a z d t tu h e =
    let r : reading n all ≡ (standing a over [] z d).reading = sym (trace-reading n all) ∙ ap (λ (x : Trace). x.reading) e in
    let m : (reading n all).state.place.context ≡ over = ap (λ (x : Reading). x.state.place.context) r in
    record {
      accepted = ap (λ (x : Reading). x.fault) r;
      complete = m;
      covers = complete-covers n all m;
      decides = λ w l. let i : 0 + w ≡ w = omega arith in
          ap (λ (x : Trace). decision_of n x w) e
          ∙ ap (λ (v : Bool). complemented v (walk (top d.stack) (options n w))) tu
          ∙ h w l ∙ ap (λ (v : ℕ). decided (f v)) i;
    }

whole-reads : (n size : ℕ) (f : ℕ → Bool) → n ≤ option_limit → size ≤ table_limit → ReadsBack n f (whole_text size (part size n 1 0 f U.start).part)
unfolding whole_text trace_on
whole-reads n size f small fit =
    let p = (part size n 1 0 f U.start).part in
    let all = whole_text size p in
    let body : List ℕ = tilde_if p.complement ++ (bytes p.text ++ (dot ∷ [])) in
    let e : all ≡ decimal size ++ (line_feed ∷ body) = append_assoc (decimal size) (line_feed ∷ []) body in
    let h = size_step n all size body fit e in
    let z = state fresh.place size 0 false (replicate (suc size) no_node) fresh.pair in
    let d = drawing (replicate (suc size) missing) [] in
    let g = outer n size all small p.complement p.text h.0 z d (reach-next n all first (standing h.0 lead [] z d) (0, refl) h.2)
    (agrees_start size) refl refl (text-valid n size f) h.1 in
    let r = reach-next n all (standing g.at (context_of p.text) [] g.rest g.draw) (standing (g.at + 1) over [] g.rest g.draw)
    g.reach (end_step n g.at g.rest g.draw all (context_of p.text) [] (context-ends p.text) g.place) in
    ended n f all (g.at + 1) g.rest g.draw p.complement g.same-complement
    (g.stood.decides f n p.complement 0 (omega arith) (text_says n size f))
    (rested n size all small (g.at + 1) over [] g.rest g.draw (drop-one g.at all dot [] g.place) r)

-- READING BACK: the whole text of a run is accepted and complete, covers all words, and decides each as the function does.
pub read_back : (n size : ℕ) (f : ℕ → Bool) → n ≤ option_limit → size ≤ table_limit → ReadsBack n f (run_text n size (2 ^ n) f)
read_back n size f small fit = subst⁻¹ (ReadsBack n f) (run-whole n size (2 ^ n) f refl) (whole-reads n size f small fit)
