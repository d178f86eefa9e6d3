-- An input's five lines and a line's three fields, by the places where they end: one law for each way that code goes. Assumes nothing.
use Rattle.std.specs.Prelude.{◌≡◌, refl, ◌≢◌, List, [], ◌∷◌, ◌++◌, ℕ, ◌+◌, ◌-◌, ◌≤◌, ◌<◌, length, get_or, take, drop}
use Rattle.std.proofs.Common.{sym, ap, ap₂, ◌∙◌, ⊎_elim, arith, length-drop, drop_of_length-le}
use Rattle.std.proofs.Math.Option.{none}
use Rattle.theory_lists.specs.Lists.{decide-le}
use Rattle.theory_reading.specs.Bytes.{blank, line_feed}
use Rattle.theory_writing.specs.Join.{pieces, first_line, job_of, five_lines}
use Rattle.job.specs.Between.{between, between-end, between_join}
use Rattle.job.specs.Cuts.{cut_at, first_end, third_end, fifth_end, ends_in, cut-from, cut-to, cut-at, pieces-some, pieces_none, pieces-full, piece-more}
use Rattle.job.specs.Cuts.{piece-last}

-- ---- Lines -----------------------------------------------------------------------------------

module _ (s : List ℕ) where
  -- the pieces from place i on
  abbrev rest : ℕ → List (List ℕ)
  rest i = pieces line_feed (drop i s)

  abbrev end : ℕ → ℕ
  end i = cut_at line_feed s i

  -- one more line, of those that end before the last
  abbrev More : ℕ → ℕ → Type 0
  More i e = (e ≡ end i) × (e < length s)

  more : (i e : ℕ) → More i e → rest i ≡ between s i e ∷ rest (e + 1)
  more i e h =
      piece-more line_feed s i (omega (arith, h.0, h.1))
      ∙ ap (λ (k : ℕ). between s i k ∷ rest (k + 1)) (sym h.0)

  last : (i e : ℕ) → e ≡ end i → length s ≤ e → i ≤ length s → rest i ≡ drop i s ∷ []
  last i e h k l = piece-last line_feed s i (omega (arith, h, k)) l

  pub one_line : (a : ℕ) → a ≡ end 0 → length s ≤ a → five_lines (pieces line_feed s) ≡ none
  one_line a p h = ap five_lines (last 0 a p h (omega arith))

  pub two-lines : (a b : ℕ) → More 0 a → b ≡ end (a + 1) → length s ≤ b → five_lines (pieces line_feed s) ≡ none
  two-lines a b p q h =
      ap five_lines (more 0 a p ∙ ap (λ (l : List (List ℕ)). between s 0 a ∷ l) (last (a + 1) b q h (omega (arith, p.1))))

  pub three-lines : (a b c : ℕ) → More 0 a → More (a + 1) b → c ≡ end (b + 1) → length s ≤ c → five_lines (pieces line_feed s) ≡ none
  three-lines a b c p q r h =
      ap five_lines (more 0 a p ∙ ap (λ (l : List (List ℕ)). between s 0 a ∷ l) (more (a + 1) b q
      ∙ ap (λ (l : List (List ℕ)). between s (a + 1) b ∷ l) (last (b + 1) c r h (omega (arith, q.1)))))

  -- the lines after the first three
  module _ (a b c : ℕ) (p : More 0 a) (q : More (a + 1) b) (r : More (b + 1) c) where
    abbrev after : List (List ℕ) → List (List ℕ)
    after l = between s 0 a ∷ between s (a + 1) b ∷ between s (b + 1) c ∷ l

    three : pieces line_feed s ≡ after (rest (c + 1))
    three = more 0 a p ∙ ap (λ (l : List (List ℕ)). between s 0 a ∷ l) (more (a + 1) b q
        ∙ ap (λ (l : List (List ℕ)). between s (a + 1) b ∷ l) (more (b + 1) c r))

    pub four-lines : (d : ℕ) → d ≡ end (c + 1) → length s ≤ d → five_lines (pieces line_feed s) ≡ none
    four-lines d t h = ap five_lines (three ∙ ap after (last (c + 1) d t h (omega (arith, r.1))))

    module _ (d : ℕ) (t : More (c + 1) d) where
      four : pieces line_feed s ≡ after (between s (c + 1) d ∷ rest (d + 1))
      four = three ∙ ap after (more (c + 1) d t)

      -- something stands after the fifth
      past : (x₁ x₂ x₃ x₄ x₅ : List ℕ) (l : List (List ℕ)) → l ≢ [] → l ≢ [] ∷ [] → five_lines (x₁ ∷ x₂ ∷ x₃ ∷ x₄ ∷ x₅ ∷ l) ≡ none
      past x₁ x₂ x₃ x₄ x₅ [] g h = absurd (g refl)
      past x₁ x₂ x₃ x₄ x₅ ([] ∷ []) g h = absurd (h refl)
      past x₁ x₂ x₃ x₄ x₅ ((y ∷ ys) ∷ []) g h = refl
      past x₁ x₂ x₃ x₄ x₅ ([] ∷ z ∷ l) g h = refl
      past x₁ x₂ x₃ x₄ x₅ ((y ∷ ys) ∷ z ∷ l) g h = refl

      pub more-lines : (e : ℕ) → e ≡ end (d + 1) → e + 1 < length s → five_lines (pieces line_feed s) ≡ none
      more-lines e u h =
          ap five_lines (four ∙ ap (λ (l : List (List ℕ)). after (between s (c + 1) d ∷ l)) (more (d + 1) e (u, omega (arith, h))))
          ∙ past (between s 0 a) (between s (a + 1) b) (between s (b + 1) c) (between s (c + 1) d) (between s (d + 1) e) (rest (e + 1))
          (pieces-some line_feed (drop (e + 1) s))
          (pieces-full line_feed (drop (e + 1) s) (omega (arith, h, length-drop (e + 1) s)))

      -- the job of the five
      five : (e : ℕ) → e ≡ end (d + 1) → length s ≤ e + 1
          → five_lines (pieces line_feed s) ≡ job_of (between s 0 a) (between s (a + 1) b) (between s (b + 1) c) (between s (c + 1) d)
          (between s (d + 1) e)
      five e u h = ap five_lines four ∙ ⊎_elim
          (λ (l : length s ≤ e).
          ap (λ (l : List (List ℕ)). five_lines (after (between s (c + 1) d ∷ l)))
          (last (d + 1) e u l (omega (arith, t.1)) ∙ ap (λ (x : List ℕ). x ∷ []) (sym (between-end s (d + 1) e l))))
          (λ (l : e < length s).
          ap (λ (l : List (List ℕ)). five_lines (after (between s (c + 1) d ∷ l)))
          (more (d + 1) e (u, l) ∙ ap (λ (x : List (List ℕ)). between s (d + 1) e ∷ x)
          (ap (pieces line_feed) (drop_of_length-le s {i = e + 1} h) ∙ pieces_none line_feed)))
          (decide-le (length s) e)

      pub five-lines : (e : ℕ) → e ≡ end (d + 1) → length s ≤ e + 1
          → first_line (between s (a + 1) c) (between s (c + 1) e) (pieces blank (take a s)) ≡ five_lines (pieces line_feed s)
      five-lines e u h =
          let f = cut-from line_feed s (a + 1) in
          let g = cut-from line_feed s (b + 1) in
          let i = cut-from line_feed s (c + 1) in
          let j = cut-from line_feed s (d + 1) in
          let x : between s (a + 1) b ++ (line_feed ∷ between s (b + 1) c) ≡ between s (a + 1) c =
          between_join s (a + 1) b c line_feed (omega (arith, f, q.0)) (omega (arith, g, r.0)) q.1
          (ap (λ (k : ℕ). get_or s k 0) q.0 ∙ cut-at line_feed s (a + 1) (omega (arith, q.0, q.1))) in
          let y : between s (c + 1) d ++ (line_feed ∷ between s (d + 1) e) ≡ between s (c + 1) e =
          between_join s (c + 1) d e line_feed (omega (arith, i, t.0)) (omega (arith, j, u)) t.1
          (ap (λ (k : ℕ). get_or s k 0) t.0 ∙ cut-at line_feed s (c + 1) (omega (arith, t.0, t.1))) in
          let z : a - 0 ≡ a = omega arith in
          sym (five e u h
          ∙ ap₂ (λ (v w : List ℕ). first_line v w (pieces blank (between s 0 a))) x y
          ∙ ap (λ (k : ℕ). first_line (between s (a + 1) c) (between s (c + 1) e) (pieces blank (take k s))) z)

      -- the lines end where the definitions say
      pub lines-placed : (e : ℕ) → e ≡ end (d + 1) → (a ≡ first_end s) × (c ≡ third_end s) × (e ≡ fifth_end s)
      lines-placed e u =
          let f : c ≡ third_end s = r.0 ∙ ap (λ (k : ℕ). end (k + 1)) (q.0 ∙ ap (λ (k : ℕ). end (k + 1)) p.0) in
          (p.0, f, u ∙ ap (λ (k : ℕ). end (k + 1)) (t.0 ∙ ap (λ (k : ℕ). end (k + 1)) f))

      pub lines-ends : (e : ℕ) → e ≡ end (d + 1) → record { first = a; third = c; fifth = e } ≡ ends_in s
      lines-ends e u =
          let o = lines-placed e u in
          let x = o.0 in
          let y = o.1 in
          let z = o.2 in
          rw (x, y, z) refl

      pub lines-ordered : (e : ℕ) → e ≡ end (d + 1) → (a < c) × (c < e) × (e ≤ length s)
      lines-ordered e u =
          let f = cut-from line_feed s (a + 1) in
          let g = cut-from line_feed s (b + 1) in
          let i = cut-from line_feed s (c + 1) in
          let j = cut-from line_feed s (d + 1) in
          let k = cut-to line_feed s (d + 1) (omega (arith, t.1)) in
          (omega (arith, f, g, q.0, r.0), omega (arith, i, j, t.0, u), omega (arith, k, u))

-- ---- Fields ----------------------------------------------------------------------------------

module _ (s x y : List ℕ) where
  abbrev tail : ℕ → List (List ℕ)
  tail i = pieces blank (drop i s)

  abbrev stop : ℕ → ℕ
  stop i = cut_at blank s i

  abbrev Next : ℕ → ℕ → Type 0
  Next i e = (e ≡ stop i) × (e < length s)

  next : (i e : ℕ) → Next i e → tail i ≡ between s i e ∷ tail (e + 1)
  next i e h =
      piece-more blank s i (omega (arith, h.0, h.1))
      ∙ ap (λ (k : ℕ). between s i k ∷ tail (k + 1)) (sym h.0)

  final : (i e : ℕ) → e ≡ stop i → length s ≤ e → i ≤ length s → tail i ≡ drop i s ∷ []
  final i e h k l = piece-last blank s i (omega (arith, h, k)) l

  pub one_field : (a : ℕ) → a ≡ stop 0 → length s ≤ a → none ≡ first_line x y (pieces blank s)
  one_field a p h = sym (ap (first_line x y) (final 0 a p h (omega arith)))

  pub two_fields : (a b : ℕ) → Next 0 a → b ≡ stop (a + 1) → length s ≤ b → none ≡ first_line x y (pieces blank s)
  two_fields a b p q h =
      sym (ap (first_line x y) (next 0 a p ∙ ap (λ (l : List (List ℕ)). between s 0 a ∷ l) (final (a + 1) b q h (omega (arith, p.1)))))

  module _ (a b : ℕ) (p : Next 0 a) (q : Next (a + 1) b) where
    two : pieces blank s ≡ between s 0 a ∷ between s (a + 1) b ∷ tail (b + 1)
    two = next 0 a p ∙ ap (λ (l : List (List ℕ)). between s 0 a ∷ l) (next (a + 1) b q)

    four-or-more : (u v w : List ℕ) (l : List (List ℕ)) → l ≢ [] → first_line x y (u ∷ v ∷ w ∷ l) ≡ none
    four-or-more u v w [] h = absurd (h refl)
    four-or-more u v w (z ∷ l) h = refl

    pub four-fields : (c : ℕ) → c ≡ stop (b + 1) → c < length s → none ≡ first_line x y (pieces blank s)
    four-fields c r h =
        sym (ap (first_line x y) (two ∙ ap (λ (l : List (List ℕ)). between s 0 a ∷ between s (a + 1) b ∷ l) (next (b + 1) c (r, h)))
        ∙ four-or-more (between s 0 a) (between s (a + 1) b) (between s (b + 1) c) (tail (c + 1)) (pieces-some blank (drop (c + 1) s)))

    pub three-fields : (c : ℕ) → c ≡ stop (b + 1) → length s ≤ c
        → first_line x y (take a s ∷ between s (a + 1) b ∷ between s (b + 1) (length s) ∷ []) ≡ first_line x y (pieces blank s)
    three-fields c r h =
        let z : a - 0 ≡ a = omega arith in
        sym (ap (first_line x y) (two ∙ ap₂ (λ (u : ℕ) (l : List (List ℕ)). take u s ∷ between s (a + 1) b ∷ l) z
        (final (b + 1) c r h (omega (arith, q.1)) ∙ ap (λ (w : List ℕ). w ∷ []) (sym (between-end s (b + 1) (length s) (omega arith))))))
