-- A place's step in code: scan, then store two entries. Assumes nothing.
use Rattle.std.specs.Prelude.{◌≡◌, cond, List, ℕ, ◌<◌, ◌≤◌, length, get_or, set}
use Rattle.std.proofs.Common.{sym, ap, ap₂, ◌∙◌}
use Rattle.theory_reading.specs.Limits.{open_limit}
use Rattle.theory_reading.specs.Element as T
use Rattle.kinds.specs.Kinds.{kind_table}
use Rattle.scanner.specs.ScannedToken as G
use Rattle.scanner.specs.Capped.{cap_scanned, cap_step}
use Rattle.elements.specs.Abstraction.{ref_of, context_of, outcome_of}
use Rattle.scanner.specs.TokenView.{outcome_in, depth_by, second_by, complement_by}
use Rattle.scanner.specs.TokenView.{plain, side_of}
use Rattle.elements.specs.Abstraction.{opens_of, inside_open, begun_open, deep_of, low_at, high_at}
use Rattle.scanner.specs.TokenView.{NextTokenView, next_token_by, next_token, next_token_view}
use Rattle.places.specs.Abstraction.{place_of, stepped_of}
use Rattle.elements.specs.OpenLaws.{open-length}
use Rattle.scanner.specs.ChangeLaws.{open-top, open-change, scan-room, Pushes}
use Rattle.elements.specs.declared.Open.{Open}
use Rattle.places.specs.declared.Place.{Place}
use Rattle.scanner.specs.declared.NextToken.{NextToken}
use Rattle.elements.specs.OpenLaws.{deep-most, deep-self, low-deep, high-deep}
use Rattle.scanner.specs.TokenLaws.{depth-after}

-- THE CODE'S STEP, from what its callees promise
module _ (bytes : List ℕ) (p : Place) (long : length p.opens.nodes ≡ open_limit) where
  abbrev ns : List Open
  ns = p.opens.nodes

  abbrev d : ℕ
  d = deep_of p.opens.depth

  abbrev entry : ℕ → Open
  entry i = get_or ns i inside_open

  abbrev seen : G.ScannedToken
  seen = cap_scanned (G.scan_token kind_table bytes p.at (context_of p.context) (side_of d (entry (low_at d))) d)

  by_token : cap_step (T.step (place_of p) bytes) ≡ G.applied (place_of p) seen
  by_token =
      ap cap_step (G.step-scan (place_of p) bytes)
      ∙ ap₂ (λ (n : ℕ) (t : G.Top). G.applied (place_of p) (cap_scanned (G.scan_token kind_table bytes p.at (context_of p.context) t n)))
      (open-length ns d) (sym (open-top ns d (deep-most p.opens.depth)))

  pub place-step : (i j : ℕ) → i ≡ low_at p.opens.depth → j ≡ high_at p.opens.depth
      → (x : NextToken) → next_token_view x ≡ next_token kind_table bytes p.at (context_of p.context) p.last p.opens.depth (entry i)
      → stepped_of (record {
        outcome = outcome_in x;
        place = record {
          at = x.at;
          context = x.context;
          opens = record
              { nodes = set (set ns j inside_open) i x.low; depth = x.depth };
          last = p.last;
        };
      })
      ≡ cap_step (T.step (place_of p) bytes)
  place-step i j ie je x xe =
      let il : i ≡ low_at d = ie ∙ low-deep p.opens.depth in
      let jh : j ≡ high_at d = je ∙ high-deep p.opens.depth in
      let c : G.Change = seen.change in
      let same : next_token_view x ≡ next_token_by (plain d seen) p.last (entry (low_at d))
      = xe ∙ ap (λ (a : ℕ). next_token kind_table bytes p.at (context_of p.context) p.last p.opens.depth (entry a)) il in
      let room : Pushes c → d < open_limit = scan-room kind_table bytes p.at (context_of p.context) (side_of d (entry (low_at d))) d in
      let most : d ≤ open_limit = deep-most p.opens.depth in
      let opens : opens_of (set (set ns j inside_open) i x.low) (deep_of x.depth) ≡ G.changed c (ref_of p.last) (opens_of ns d)
      = ap₂ (λ (a b : ℕ). opens_of (set (set ns b inside_open) a x.low) (deep_of x.depth)) il jh
      ∙ ap (λ (y : NextTokenView). opens_of (set (set ns (high_at d) inside_open) (low_at d) y.low) (deep_of y.depth)) same
      ∙ ap (λ (n : ℕ). opens_of (set (set ns (high_at d) inside_open) (low_at d)
      (cond (second_by c) (begun_open p.last (complement_by c)) (entry (low_at d)))) n) (deep-self (depth_by c d) (depth-after c d most room))
      ∙ open-change ns long p.last c d most room in
      ap (λ (l : List T.Open). record { outcome = outcome_of (outcome_in x); place = T.place x.at (context_of x.context) l (ref_of p.last) })
      opens
      ∙ ap (λ (y : NextTokenView). record {
        outcome = y.outcome;
        place = T.place y.at y.context (G.changed c (ref_of p.last) (opens_of ns d))
            (ref_of p.last);
      }) same
      ∙ sym by_token
