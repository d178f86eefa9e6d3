-- What code comes to at a number, by what scanning it gave. Assumes nothing.
use Rattle.std.specs.Prelude.{◌≡◌, Bool, true, false, cond, List, ℕ, ◌+◌, ◌<◌, ◌≤◌, eqb, length, get_or, ◌≢◌}
use Rattle.std.proofs.Math.Path.{refl}
use Rattle.std.proofs.Common.{sym, ap, ◌∙◌, arith, eq-eqb, ne_eqb, lt-ltb, le-ltb, ⊎_elim}
use Rattle.std.proofs.Math.Option.{Option, none, some}
use Rattle.std.proofs.Math.ListN.{get_elem?}
use Rattle.theory_lists.specs.Lists.{decide_eq}
use Rattle.theory_lists.specs.Lookups.{lookup-past, lookup-inside}
use Rattle.theory_reading.specs.Limits.{open_limit}
use Rattle.theory_reading.specs.Causes.{wrong_byte, too_deep}
use Rattle.theory_reading.specs.Element.{opening, number, constant, turn, closing, storing, Context, lead, begins, after_digit, after_one, Scan, read}
use Rattle.theory_reading.specs.Element.{unread}
use Rattle.kinds.specs.Kinds.{digit_in, blank_in, line_feed_in, opener_in, closer_in, tilde_in, number_by}
use Rattle.scanner.specs.ScannedToken.{Change, same, push, pop, second_push, second, Top, ScannedToken, gave, failed, waited, size_line, scan_size}
use Rattle.scanner.specs.ScannedToken.{scan_number, scan_storing, scan_node, scan_space, scan_colon, scan_inner, scan_token_by, scan_token}
use Rattle.scanner.specs.Capped.{cap, cap_scan, cap_scanned}
use Rattle.kinds.specs.declared.Kind.{Kind}

cap-zero : (v : ℕ) → eqb v 0 ≡ eqb (cap v) 0
cap-zero v = ⊎_elim
    (λ (e : v ≡ 0). let c : cap v ≡ 0 = omega arith in eq-eqb v 0 e ∙ sym (eq-eqb (cap v) 0 c))
    (λ (e : v ≢ 0). ne_eqb v 0 e ∙ sym (ne_eqb (cap v) 0 (λ z. e (omega (arith, z)))))
    (decide_eq v 0)

number-capped : (at : ℕ) (m : Context) (c : Change) (x : Scan) → scan_number at m c (cap_scan x) ≡ cap_scanned (scan_number at m c x)
number-capped at m c (read v e) = ap (λ (t : Bool). gave (cond t constant (number (cap v))) e after_digit c) (sym (cap-zero v)) ∙ go (eqb v 0)
  where
    go : (t : Bool) → gave (cond t constant (number (cap v))) e after_digit c ≡ cap_scanned (gave (cond t constant (number v)) e after_digit c)
    go true = refl
    go false = refl
number-capped at m c unread = refl

storing-capped : (at : ℕ) (m : Context) (x : Scan) → scan_storing at m (cap_scan x) ≡ cap_scanned (scan_storing at m x)
storing-capped at m (read v e) = refl
storing-capped at m unread = refl

size-capped : (k : List Kind) (bytes : List ℕ) (at : ℕ) (m : Context) (x : Scan) → scan_size k bytes at m (cap_scan x) ≡ cap_scanned (scan_size k bytes at m x)
size-capped k bytes at m (read v e) = go (get_elem? bytes e)
  where
    by : (t : Bool) → cond t (gave (number (cap v)) (e + 1) lead same) (failed at m wrong_byte e)
        ≡ cap_scanned (cond t (gave (number v) (e + 1) lead same) (failed at m wrong_byte e))
    by true = refl
    by false = refl

    go : (o : Option ℕ) → size_line k at m (cap v) e o ≡ cap_scanned (size_line k at m v e o)
    go none = refl
    go (some b) = by (line_feed_in k b)
size-capped k bytes at m unread = refl

-- x: the number, which code holds capped
module _ (x : Scan) (at : ℕ) (m : Context) where
  by_number_lem : (c : Change) (y : Scan) → y ≡ cap_scan x → scan_number at m c y ≡ cap_scanned (scan_number at m c x)
  by_number_lem c y h = ap (scan_number at m c) h ∙ number-capped at m c x

  by-storing : (y : Scan) → y ≡ cap_scan x → scan_storing at m y ≡ cap_scanned (scan_storing at m x)
  by-storing y h = ap (scan_storing at m) h ∙ storing-capped at m x

  by_size : (k : List Kind) (bytes : List ℕ) (y : Scan) → y ≡ cap_scan x → scan_size k bytes at m y ≡ cap_scanned (scan_size k bytes at m x)
  by_size k bytes y h = ap (scan_size k bytes at m) h ∙ size-capped k bytes at m x

  pub number-waits : (c : Change) → unread ≡ cap_scan x → waited at m ≡ cap_scanned (scan_number at m c x)
  number-waits c h = by_number_lem c unread h

  pub storing-waits : unread ≡ cap_scan x → waited at m ≡ cap_scanned (scan_storing at m x)
  storing-waits h = by-storing unread h

  pub size-waits : (k : List Kind) (bytes : List ℕ) → unread ≡ cap_scan x → waited at m ≡ cap_scanned (scan_size k bytes at m x)
  size-waits k bytes h = by_size k bytes unread h

  -- v, e: its value and the place after it
  module _ (v e : ℕ) (h : read v e ≡ cap_scan x) where
    pub number-zero : (c : Change) → v ≡ 0 → gave constant e after_digit c ≡ cap_scanned (scan_number at m c x)
    number-zero c z = rw (eq-eqb v 0 z) at (by_number_lem c (read v e) h)

    pub number-other : (c : Change) → (v ≡ 0 → ⊥) → gave (number v) e after_digit c ≡ cap_scanned (scan_number at m c x)
    number-other c z = rw (ne_eqb v 0 z) at (by_number_lem c (read v e) h)

    pub storing-read : gave (storing v) e after_digit same ≡ cap_scanned (scan_storing at m x)
    storing-read = by-storing (read v e) h

    module _ (k : List Kind) (bytes : List ℕ) where
      pub size-past : length bytes ≤ e → waited at m ≡ cap_scanned (scan_size k bytes at m x)
      size-past l = rw (lookup-past bytes e l) at (by_size k bytes (read v e) h)

      pub size-line : e < length bytes → line_feed_in k (get_or bytes e 0) ≡ true → gave (number v) (e + 1) lead same
          ≡ cap_scanned (scan_size k bytes at m x)
      size-line l b = rw (lookup-inside bytes e 0 l, b) at (by_size k bytes (read v e) h)

      pub size-wrong : e < length bytes → line_feed_in k (get_or bytes e 0) ≡ false → failed at m wrong_byte e
          ≡ cap_scanned (scan_size k bytes at m x)
      size-wrong l b = rw (lookup-inside bytes e 0 l, b) at (by_size k bytes (read v e) h)

-- ---- The ways of a scan --------------------------------------------------------------------

-- k: the table of kinds; b: the byte at the place
module _ (k : List Kind) (bytes : List ℕ) (at : ℕ) (m : Context) (depth : ℕ) (b : ℕ) where
  pub node-deep : (two : Bool) → opener_in k b ≡ true → open_limit ≤ depth → failed at m too_deep at ≡ cap_scanned (scan_node k bytes at m depth two b)
  node-deep two e l = rw (e, le-ltb depth open_limit l) refl

  pub node-push : (two : Bool) → opener_in k b ≡ true → depth < open_limit → gave opening (at + 1) begins (cond two second_push push)
      ≡ cap_scanned (scan_node k bytes at m depth two b)
  node-push two e l = rw (e, lt-ltb depth open_limit l) refl

  pub node-wrong : (two : Bool) → opener_in k b ≡ false → digit_in k b ≡ false → failed at m wrong_byte at
      ≡ cap_scanned (scan_node k bytes at m depth two b)
  node-wrong two e d = rw (e, d) refl

  pub node-number : (two : Bool) → opener_in k b ≡ false → digit_in k b ≡ true
      → cap_scanned (scan_number at m (cond two (second false) same) (number_by k bytes at b)) ≡ cap_scanned (scan_node k bytes at m depth two b)
  node-number two e d = rw (e, d) refl

  pub inner-turn : (d : Bool) → tilde_in k b ≡ true → gave turn (at + 1) begins (second true) ≡ cap_scanned (scan_inner k bytes at m depth d b)
  inner-turn d e = rw e refl

  pub inner-close : (d : Bool) → tilde_in k b ≡ false → closer_in k b ≡ true → gave closing (at + 1) after_one pop
      ≡ cap_scanned (scan_inner k bytes at m depth d b)
  inner-close d e f = rw (e, f) refl

  pub inner-node : (d : Bool) → tilde_in k b ≡ false → closer_in k b ≡ false → d ≡ false → cap_scanned (scan_node k bytes at m depth true b)
      ≡ cap_scanned (scan_inner k bytes at m depth d b)
  inner-node d e f g = rw (e, f, g) refl

  pub inner-space : (d : Bool) → tilde_in k b ≡ false → closer_in k b ≡ false → d ≡ true → blank_in k b ≡ true
      → cap_scanned (scan_space k bytes at m (get_elem? bytes (at + 1))) ≡ cap_scanned (scan_inner k bytes at m depth d b)
  inner-space d e f g h = rw (e, f, g, h) refl

  pub inner-digit : (d : Bool) → tilde_in k b ≡ false → closer_in k b ≡ false → d ≡ true → blank_in k b ≡ false → digit_in k b ≡ true
      → failed at m wrong_byte at ≡ cap_scanned (scan_inner k bytes at m depth d b)
  inner-digit d e f g h i = rw (e, f, g, h, i) refl

  pub inner-after : (d : Bool) → tilde_in k b ≡ false → closer_in k b ≡ false → d ≡ true → blank_in k b ≡ false → digit_in k b ≡ false
      → cap_scanned (scan_node k bytes at m depth true b) ≡ cap_scanned (scan_inner k bytes at m depth d b)
  inner-after d e f g h i = rw (e, f, g, h, i) refl

-- two ways by one test
pub way-taken : (t : Bool) (x y : ScannedToken) → t ≡ true → cap_scanned x ≡ cap_scanned (cond t x y)
way-taken t x y e = rw e refl

pub way-left : (t : Bool) (x y : ScannedToken) → t ≡ false → cap_scanned y ≡ cap_scanned (cond t x y)
way-left t x y e = rw e refl

module _ (k : List Kind) (bytes : List ℕ) (at : ℕ) (m : Context) where
  pub space-past : length bytes ≤ at + 1 → waited at m ≡ cap_scanned (scan_space k bytes at m (get_elem? bytes (at + 1)))
  space-past l = rw (lookup-past bytes (at + 1) l) refl

  pub space-wrong : at + 1 < length bytes → digit_in k (get_or bytes (at + 1) 0) ≡ false → failed at m wrong_byte (at + 1)
      ≡ cap_scanned (scan_space k bytes at m (get_elem? bytes (at + 1)))
  space-wrong l d = rw (lookup-inside bytes (at + 1) 0 l, d) refl

  pub space-number : at + 1 < length bytes → digit_in k (get_or bytes (at + 1) 0) ≡ true
      → cap_scanned (scan_number at m (second false) (number_by k bytes (at + 1) (get_or bytes (at + 1) 0)))
      ≡ cap_scanned (scan_space k bytes at m (get_elem? bytes (at + 1)))
  space-number l d = rw (lookup-inside bytes (at + 1) 0 l, d) refl

  pub colon-past : length bytes ≤ at + 1 → waited at m ≡ cap_scanned (scan_colon k bytes at m (get_elem? bytes (at + 1)))
  colon-past l = rw (lookup-past bytes (at + 1) l) refl

  pub colon-wrong : at + 1 < length bytes → digit_in k (get_or bytes (at + 1) 0) ≡ false → failed at m wrong_byte (at + 1)
      ≡ cap_scanned (scan_colon k bytes at m (get_elem? bytes (at + 1)))
  colon-wrong l d = rw (lookup-inside bytes (at + 1) 0 l, d) refl

  pub colon-number : at + 1 < length bytes → digit_in k (get_or bytes (at + 1) 0) ≡ true
      → cap_scanned (scan_storing at m (number_by k bytes (at + 1) (get_or bytes (at + 1) 0)))
      ≡ cap_scanned (scan_colon k bytes at m (get_elem? bytes (at + 1)))
  colon-number l d = rw (lookup-inside bytes (at + 1) 0 l, d) refl

  pub scan-past : (top : Top) (depth : ℕ) → length bytes ≤ at → waited at m ≡ cap_scanned (scan_token k bytes at m top depth)
  unfolding scan_token
  scan-past top depth l = rw (lookup-past bytes at l) refl

  pub scan-here : (top : Top) (depth : ℕ) → at < length bytes → cap_scanned (scan_token_by k bytes at m top depth (get_or bytes at 0))
      ≡ cap_scanned (scan_token k bytes at m top depth)
  unfolding scan_token
  scan-here top depth l = rw (lookup-inside bytes at 0 l) refl
