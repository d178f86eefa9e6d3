-- One law for each way through the functions of the engine: what they answer there is what Engine says. Assumes nothing.
use Rattle.std.specs.Prelude.{◌≡◌, ◌≢◌, Bool, true, false, not, ◌&&◌, List, [], ◌∷◌, ℕ, suc, ◌+◌, ◌^◌, eqb, ltb}
use Rattle.std.proofs.Math.Path.{refl, ap, ap₂}
use Rattle.std.proofs.Common.{sym, ◌∙◌, eq-eqb, ne_eqb}
use Rattle.std.proofs.Math.Bool.{cond}
use Rattle.theory_lists.specs.Lists.{differ}
use Rattle.theory_reading.specs.Bytes.{opener, dot}
use Rattle.theory_writing.specs.Texts.{tilde_if}
use Rattle.theory_writing.specs.Run.{head}
use Rattle.theory_writing.specs.Calls.{truth_at}
use Rattle.theory_engine.specs.Cells.{cell}
use Rattle.writer_records.specs.Fields.{stamp_field}
use Rattle.theory_engine.specs.Recycling.{Lane, find_in, store_in, next_in}
use Rattle.writer_numbers.specs.Numbers.{one_more}
use Rattle.theory_engine.specs.Pending.{Waiting, push_all, wait_in}
use Rattle.theory_engine.specs.Engine.{Half, Progress, Walked, Sent, constant_half, number_half, is_stale, alike_constant, alike_number, barred_half}
use Rattle.theory_engine.specs.Engine.{send_text, send_node, sent_as, write_node, write_temporary, kept, give_in, known_in, meet_in, all_bytes}
use Rattle.theory_engine.specs.Engine.{again_half, second_in, walk_in, progress_after, end_in, done_in, body_in, stream_in}
use Rattle.node_records.specs.declared.WriterRecord.{WriterRecord}

-- ---- What the rules ask ----------------------------------------------------------------------

module _ (t : List WriterRecord) (a : Half) where
  pub stale-none : a.number ≡ 0 → false ≡ is_stale t a
  stale-none e = rw (eq-eqb a.number 0 e) refl

  pub stale-told : a.number ≢ 0 → not (eqb (cell t stamp_field a.number) a.stamp) ≡ is_stale t a
  stale-told d = rw (ne_eqb a.number 0 d) refl

  pub barred-told : a.temporary ≡ false → is_stale t a ≡ barred_half t a
  barred-told e = rw e refl

module _ (t : List WriterRecord) (v : Bool) (a b : Half) where
  pub number-none : a.number ≡ 0 → false ≡ alike_number t v a b
  number-none e = rw (eq-eqb a.number 0 e) refl

  pub number-other : a.number ≢ 0 → a.number ≢ b.number → false ≡ alike_number t v a b
  number-other d e = rw (ne_eqb a.number 0 d, ne_eqb a.number b.number e) refl

  pub number-complement : a.number ≢ 0 → a.number ≡ b.number → v ≡ true → false ≡ alike_number t v a b
  number-complement d e w = rw (ne_eqb a.number 0 d, eq-eqb a.number b.number e, w) refl

  pub number-stale : a.number ≢ 0 → a.number ≡ b.number → v ≡ false → is_stale t a ≡ true → false ≡ alike_number t v a b
  number-stale d e w s =
      ap (λ (u : Bool). not u && not (is_stale t b)) (sym s) ∙ shown d e w
    where
      shown : a.number ≢ 0 → a.number ≡ b.number → v ≡ false → (not (is_stale t a) && not (is_stale t b)) ≡ alike_number t v a b
      shown d e w = rw (ne_eqb a.number 0 d, eq-eqb a.number b.number e, w) refl

  pub number-told : a.number ≢ 0 → a.number ≡ b.number → v ≡ false → is_stale t a ≡ false → not (is_stale t b) ≡ alike_number t v a b
  number-told d e w s =
      ap (λ (u : Bool). not u && not (is_stale t b)) (sym s) ∙ shown d e w
    where
      shown : a.number ≢ 0 → a.number ≡ b.number → v ≡ false → (not (is_stale t a) && not (is_stale t b)) ≡ alike_number t v a b
      shown d e w = rw (ne_eqb a.number 0 d, eq-eqb a.number b.number e, w) refl

-- ---- Two halves meet -------------------------------------------------------------------------

-- rule 5
module _ (k i m : ℕ) (v : Bool) (a b : Half) (t : List WriterRecord) (out w : List ℕ) (progress : Progress) where
  pub give-none : k ≡ 0 → write_temporary m v a b t out w progress ≡ give_in k i m v a b t out w progress
  unfolding give_in
  give-none e = rw (eq-eqb k 0 e) refl

  pub give-number : (e : Lane) (g z : ℕ) (x : Sent) → k ≢ 0
      → e ≡ store_in t progress.given progress.first progress.last k i a.number b.number (cond v 1 0) → g ≡ cell e.table stamp_field k
      → z ≡ cond (ltb progress.given k) k progress.given → x ≡ send_node m v a b k out w progress.written
      → sent_as (number_half k g 0 a.complement true) z e x ≡ give_in k i m v a b t out w progress
  unfolding give_in write_node
  give-number e g z x d s c y u =
      ap₂ (λ (z : ℕ) (x : Sent). sent_as (number_half k g 0 a.complement true) z e x) y u
      ∙ ap (λ (g : ℕ). node g e) c ∙ ap (λ (e : Lane). node (cell e.table stamp_field k) e) s
      ∙ ap (λ (b : Bool). cond b (write_temporary m v a (half₂) t out w progress) given) (sym (ne_eqb k 0 d))
    where
      half₂ : Half
      half₂ = b

      node : ℕ → Lane → Walked
      node g e = sent_as (number_half k g 0 a.complement true) (cond (ltb progress.given k) k progress.given) e
          (send_node m v a b k out w progress.written)

      given : Walked
      given = let e = store_in t progress.given progress.first progress.last k i a.number b.number (cond v 1 0) in
          node (cell e.table stamp_field k) e

-- rule 4
module _ (k size i m : ℕ) (v : Bool) (a b : Half) (t : List WriterRecord) (out w : List ℕ) (progress : Progress) where
  pub known-none : (x : ℕ) → k ≡ 0 → x ≡ next_in t progress.given progress.first size a.number b.number
      → give_in x i m v a b t out w progress ≡ known_in k size i m v a b t out w progress
  unfolding known_in
  known-none x e n = ap (λ (x : ℕ). give_in x i m v a b t out w progress) n ∙ rw (eq-eqb k 0 e) refl

  pub known-there : (g : ℕ) → k ≢ 0 → g ≡ cell t stamp_field k
      → kept (number_half k g 0 a.complement false) t out w progress ≡ known_in k size i m v a b t out w progress
  unfolding known_in
  known-there g d c =
      ap (λ (g : ℕ). kept (number_half k g 0 a.complement false) t out w progress) c ∙ rw (ne_eqb k 0 d) refl

-- all five
module _ (size i m : ℕ) (v : Bool) (a b : Half) (t : List WriterRecord) (out w : List ℕ) (progress : Progress) where
  pub meet-constant : alike_constant v a b ≡ true
      → kept (constant_half a.complement) t out w progress ≡ meet_in size i m v a b t out w progress
  unfolding meet_in
  meet-constant e = rw e refl

  pub meet-number : alike_constant v a b ≡ false → alike_number t v a b ≡ true
      → kept (number_half a.number a.stamp (one_more a.skipped) a.complement a.wrote) t out w progress
      ≡ meet_in size i m v a b t out w progress
  unfolding meet_in
  meet-number e f = rw (e, f) refl

  pub meet-first : alike_constant v a b ≡ false → alike_number t v a b ≡ false → barred_half t a ≡ true
      → write_temporary m v a b t out w progress ≡ meet_in size i m v a b t out w progress
  unfolding meet_in
  meet-first e f g = rw (e, f, g) refl

  pub meet-second : alike_constant v a b ≡ false → alike_number t v a b ≡ false → barred_half t a ≡ false → barred_half t b ≡ true
      → write_temporary m v a b t out w progress ≡ meet_in size i m v a b t out w progress
  unfolding meet_in
  meet-second e f g h = rw (e, f, g, h) refl

  pub meet-known : (k : ℕ) → alike_constant v a b ≡ false → alike_number t v a b ≡ false → barred_half t a ≡ false
      → barred_half t b ≡ false → k ≡ find_in t progress.given i a.number b.number (cond v 1 0)
      → known_in k size i m v a b t out w progress ≡ meet_in size i m v a b t out w progress
  unfolding meet_in
  meet-known k e f g h s = ap (λ (k : ℕ). known_in k size i m v a b t out w progress) s ∙ rw (e, f, g, h) refl

-- ---- The walk --------------------------------------------------------------------------------

module _ (v : List ℕ) (size d i at m : ℕ) (t : List WriterRecord) (out w : List ℕ) (progress : Progress) where
  pub walk-word : d ≡ 0 → kept (constant_half (truth_at v at)) t out w progress ≡ walk_in v size d i at m t out w progress
  unfolding walk_in
  walk-word e = ap (λ (d : ℕ). walk_in v size d i at m t out w progress) (sym e)

-- two halves of one part, d + 1 options
module _ (v : List ℕ) (size d i at m : ℕ) (t : List WriterRecord) (out w : List ℕ) (progress : Progress) where
  abbrev whole : ℕ → Walked
  whole e = walk_in v size e i at m t out w progress

  -- the first half, after the bytes p
  abbrev first : Waiting → Walked
  first p = walk_in v size d (i + 1) at p.count t out p.bytes progress

  -- the second half after the first, a, and the bytes r, if it is walked. x: the progress after the first, k: the words of a half
  abbrev walked₂ : Walked → Progress → ℕ → Waiting → Walked
  walked₂ a x k r = walk_in v size d (i + 1) (at + k) r.count a.table a.output r.bytes x

  -- if it repeats the first, which came to g
  abbrev repeated : Walked → Half → Progress → ℕ → Waiting → Walked
  repeated a g x k r =
      kept (number_half g.number g.stamp g.skipped (truth_at v (at + k)) false) a.table a.output r.bytes x

  -- by either way; u: the `~` between the halves
  abbrev second : Walked → Half → Progress → ℕ → Bool → Waiting → Walked
  second a g x k u r = cond (again_half v u d at (at + k) g) (repeated a g x k r) (walked₂ a x k r)

  abbrev first_value : Walked → Bool
  first_value a = differ a.half.complement (truth_at v (at + 2 ^ d))

  -- what waits of the first half, which had p before it
  abbrev wait_of : Waiting → Walked → Waiting
  wait_of p a = wait_in a.waits p.count a.half.wrote a.half.skipped a.half.number

  -- both, with the `~` u and the bytes r between them
  abbrev both : Walked → Bool → Waiting → Walked
  both a u r = second_in size i r.count u a.half (second a a.half a.progress (2 ^ d) u r)

  abbrev after_first : Waiting → Walked → Walked
  after_first p a =
      let q = wait_of p a in
      cond a.progress.full a (both a (first_value a) (push_all q.bytes q.count (tilde_if (first_value a))))

  no-suc : all_bytes v 0 (suc d) at ≡ true → kept (constant_half false) t out w progress ≡ whole (suc d)
  unfolding walk_in
  no-suc h = rw h refl

  yes-suc : all_bytes v 0 (suc d) at ≡ false → all_bytes v 255 (suc d) at ≡ true → kept (constant_half true) t out w progress ≡ whole (suc d)
  unfolding walk_in
  yes-suc h l = rw (h, l) refl

  halves-suc : all_bytes v 0 (suc d) at ≡ false → all_bytes v 255 (suc d) at ≡ false →
      let p = push_all w m (opener ∷ []) in after_first p (first p) ≡ whole (suc d)
  unfolding walk_in
  halves-suc h l = rw (h, l) refl

  -- e options: all no, all yes
  pub walk_no : (e : ℕ) → e ≡ suc d → all_bytes v 0 e at ≡ true → kept (constant_half false) t out w progress ≡ whole e
  walk_no e n h = no-suc (ap (λ (e : ℕ). all_bytes v 0 e at) (sym n) ∙ h) ∙ ap whole (sym n)

  pub walk-yes : (e : ℕ) → e ≡ suc d → all_bytes v 0 e at ≡ false → all_bytes v 255 e at ≡ true
      → kept (constant_half true) t out w progress ≡ whole e
  walk-yes e n h l =
      yes-suc (ap (λ (e : ℕ). all_bytes v 0 e at) (sym n) ∙ h) (ap (λ (e : ℕ). all_bytes v 255 e at) (sym n) ∙ l) ∙ ap whole (sym n)

  module _ (e : ℕ) (n : e ≡ suc d) (h : all_bytes v 0 e at ≡ false) (l : all_bytes v 255 e at ≡ false) (p : Waiting) (a : Walked)
      (pushed : p ≡ push_all w m (opener ∷ [])) (walked : a ≡ first p) where
    onward : after_first p a ≡ whole e
    onward =
        ap (after_first p) walked ∙ ap (λ (p : Waiting). after_first p (first p)) pushed
        ∙ halves-suc (ap (λ (e : ℕ). all_bytes v 0 e at) (sym n) ∙ h) (ap (λ (e : ℕ). all_bytes v 255 e at) (sym n) ∙ l) ∙ ap whole (sym n)

    -- more was sent in the first half than the output holds
    pub walk-full : (x : Progress) → x ≡ a.progress → x.full ≡ true → a ≡ whole e
    walk-full x o f =
        let q = wait_of p a in
        ap (λ (b : Bool). cond b a (both a (first_value a) (push_all q.bytes q.count (tilde_if (first_value a)))))
        (sym (sym (ap (λ (x : Progress). x.full) o) ∙ f)) ∙ onward

    -- g: what the first half came to, x: the progress after it, k: the words of a half, u: the `~` between the halves
    module _ (g : Half) (x : Progress) (k : ℕ) (u : Bool) (q r : Waiting) (b : Walked) (came : g ≡ a.half) (left : x ≡ a.progress)
        (words : k ≡ 2 ^ d) (goes : x.full ≡ false) (complement : u ≡ differ g.complement (truth_at v (at + k)))
        (waited : q ≡ wait_in a.waits p.count g.wrote g.skipped g.number)
        (ready : r ≡ push_all q.bytes q.count (tilde_if u)) where
      abbrev met : Half → Progress → ℕ → Bool → Waiting → Walked
      met g x k u r = second_in size i r.count u g (second a g x k u r)

      abbrev started : Half → Walked
      started g =
          let u = differ g.complement (truth_at v (at + 2 ^ d)) in
          let q = wait_in a.waits p.count g.wrote g.skipped g.number in
          met g a.progress (2 ^ d) u (push_all q.bytes q.count (tilde_if u))

      -- both halves
      walk-both : b ≡ second a g x k u r → second_in size i r.count u g b ≡ whole e
      walk-both s =
          ap (second_in size i r.count u g) s
          ∙ ap (λ (x : Progress). met g x k u r) left
          ∙ ap (λ (k : ℕ). met g a.progress k u r) words
          ∙ ap (met g a.progress (2 ^ d) u) ready
          ∙ ap₂ (λ (u : Bool) (q : Waiting). met g a.progress (2 ^ d) u (push_all q.bytes q.count (tilde_if u)))
          (complement ∙ ap (λ (k : ℕ). differ g.complement (truth_at v (at + k))) words) waited
          ∙ ap started came
          ∙ ap (λ (b : Bool). cond b a (both a (first_value a) (push_all (wait_of p a).bytes (wait_of p a).count (tilde_if (first_value a)))))
          (sym (sym (ap (λ (x : Progress). x.full) left) ∙ goes))
          ∙ onward

      -- the second half is walked
      pub walk-on : again_half v u d at (at + k) g ≡ false
          → b ≡ walk_in v size d (i + 1) (at + k) r.count a.table a.output r.bytes x
          → second_in size i r.count u g b ≡ whole e
      walk-on f s = walk-both (s ∙ ap (λ (t : Bool). cond t (repeated a g x k r) (walked₂ a x k r)) (sym f))

      -- the second half repeats the first, which came to a number
      pub walk-repeat : again_half v u d at (at + k) g ≡ true
          → b ≡ kept (number_half g.number g.stamp g.skipped (truth_at v (at + k)) false) a.table a.output r.bytes x
          → second_in size i r.count u g b ≡ whole e
      walk-repeat f s = walk-both (s ∙ ap (λ (t : Bool). cond t (repeated a g x k r) (walked₂ a x k r)) (sym f))

-- ---- The whole stream ------------------------------------------------------------------------

-- the end: what waits of the outermost node, and the point
pub done-correct : (m : ℕ) (r : Walked) (q e : Waiting) → r.progress.full ≡ false
    → q ≡ wait_in r.waits m r.half.wrote r.half.skipped r.half.number → e ≡ push_all q.bytes q.count (dot ∷ [])
    → send_text r.output e.bytes r.progress.written e.count ≡ done_in m r
done-correct m r q e f x y =
    ap (λ (e : Waiting). send_text r.output e.bytes r.progress.written e.count) y
    ∙ ap (λ (q : Waiting). send_text r.output (push_all q.bytes q.count (dot ∷ [])).bytes r.progress.written
    (push_all q.bytes q.count (dot ∷ [])).count) x
    ∙ ap (λ (b : Bool). cond b (record { written = r.progress.written; full = r.progress.full; output = r.output; waits = r.waits })
    (end_in m r))
    (sym f)

-- the leading `~` and the walk
pub body-correct : (n size : ℕ) (v : List ℕ) (t : List WriterRecord) (x : Sent) (m : Waiting) (y : Progress) (r : Walked) → x.full ≡ false
    → m ≡ push_all x.waits 0 (tilde_if (truth_at v 0)) → y ≡ progress_after x
    → r ≡ walk_in v size n 1 0 m.count t x.output m.bytes y → done_in m.count r ≡ body_in n size v t x
body-correct n size v t x m y r f p o q =
    ap (done_in m.count) q
    ∙ ap₂ (λ (m : Waiting) (y : Progress). done_in m.count (walk_in v size n 1 0 m.count t x.output m.bytes y)) p o
    ∙ ap (λ (b : Bool). cond b x (walked (push_all x.waits 0 (tilde_if (truth_at v 0))))) (sym f)
  where
    walked : Waiting → Sent
    walked m = done_in m.count (walk_in v size n 1 0 m.count t x.output m.bytes (progress_after x))

-- the size, its LF and the rest
pub stream-correct : (n size : ℕ) (v : List ℕ) (t : List WriterRecord) (out w : List ℕ) (a : Waiting) (x : Sent) → a ≡ push_all w 0 (head size)
    → x ≡ send_text out a.bytes 0 a.count → body_in n size v t x ≡ stream_in n size v t out w
unfolding stream_in
stream-correct n size v t out w a x p q =
    ap (body_in n size v t) (q ∙ ap (λ (a : Waiting). send_text out a.bytes 0 a.count) p)
