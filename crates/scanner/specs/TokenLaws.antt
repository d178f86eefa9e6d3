-- The next token: how deep it goes, and that the code's scan comes to it. Assumes nothing.
use Rattle.std.specs.Prelude.{◌≡◌, cond, List, ℕ, ◌<◌, ◌≤◌}
use Rattle.std.proofs.Common.{ap, ◌∙◌, arith}
use Prim.{tt}
use Rattle.theory_reading.specs.Limits.{open_limit}
use Rattle.theory_reading.specs.Element as T
use Rattle.scanner.specs.ScannedToken as G
use Rattle.scanner.specs.Capped.{cap_scanned}
use Rattle.elements.specs.Abstraction.{context_of, outcome_of}
use Rattle.scanner.specs.TokenView.{outcome_by, tops_of, depth_by, ScannedView}
use Rattle.scanner.specs.TokenView.{plain, scanned_view, side_of}
use Rattle.elements.specs.Abstraction.{begun_open, deep_of}
use Rattle.scanner.specs.TokenView.{next_token_by, next_token, next_token_view}
use Rattle.scanner.specs.ChangeLaws.{scan-room, Pushes}
use Rattle.elements.specs.declared.Open.{Open}
use Rattle.elements.specs.declared.Ref.{Ref}
use Rattle.scanner.specs.declared.ScannedToken.{ScannedToken}
use Rattle.scanner.specs.declared.Top.{Top}
use Rattle.elements.specs.OpenLaws.{deep-most}
use Rattle.kinds.specs.declared.Kind.{Kind}

-- the depth after a change
pub depth-after : (c : G.Change) (d : ℕ) → d ≤ open_limit → (Pushes c → d < open_limit) → depth_by c d ≤ open_limit
depth-after G.same d h k = h
depth-after G.push d h k = let l : d < open_limit = k tt in omega arith
depth-after G.pop d h k = omega arith
depth-after G.second_push d h k = let l : d < open_limit = k tt in omega arith
depth-after (G.second t) d h k = h

-- The depth after the next token keeps to the limit.
pub token-depth : (k : List Kind) (bytes : List ℕ) (at : ℕ) (m : T.Context) (last : Ref) (depth : ℕ) (low : Open)
    → (next_token k bytes at m last depth low).depth ≤ open_limit
token-depth k bytes at m last depth low =
    let d = deep_of depth in
    depth-after (G.scan_token k bytes at m (side_of d low) d).change d (deep-most depth) (scan-room k bytes at m (side_of d low) d)

-- THE CODE'S LOOK, from what its callees promise
pub token-correct : (k : List Kind) (bytes : List ℕ) (at : ℕ) (m : T.Context) (last : Ref) (depth : ℕ) (low : Open)
    → (d : ℕ) → d ≡ deep_of depth → (t : Top) → tops_of t ≡ side_of d low
    → (g : ScannedToken) → scanned_view g ≡ plain d (cap_scanned (G.scan_token k bytes at m (tops_of t) d))
    → (e : Open) → e ≡ cond g.second (begun_open last g.complement) low
    → next_token_view (record {
      token = g.token;
      cause = g.cause;
      byte = g.byte;
      number = g.number;
      at = g.at;
      context = g.context;
      depth = g.depth;
      low = e;
    }) ≡ next_token k bytes at m last depth low
token-correct k bytes at m last depth low d de t te g ge e ee =
    ap (λ (x : Open). record {
      outcome = outcome_of (outcome_by g.token g.number g.cause g.byte);
      number = g.number;
      at = g.at;
      context =
          context_of g.context;
      depth = g.depth;
      low = x;
    }) ee
    ∙ ap (λ (y : ScannedView). next_token_by y last low) (ge ∙ ap (λ (x : G.Top). plain d (cap_scanned (G.scan_token k bytes at m x d))) te)
    ∙ ap (λ (i : ℕ). next_token_by (plain i (cap_scanned (G.scan_token k bytes at m (side_of i low) i))) last low) de
