-- The covered count of a run, as code goes: definitions. Assumes nothing.
use Rattle.std.specs.Prelude.{Bool, true, false, cond, ◌&&◌, List, ℕ, min, ◌-◌, ◌^◌, eqb, ltb, leb, length, get_or, Option, Some, None}
use Rattle.theory_lists.specs.Lists.{differ}
use Rattle.theory_reading.specs.Limits.{option_limit}
use Rattle.theory_reading.specs.Bytes.{dot}
use Rattle.theory_reading.specs.Causes.{Result, refused, done}
use Rattle.theory_reading.specs.Calls.{Checked}
use Rattle.theory_combining.specs.Entering.{ignores_first, ignores_second}
use Rattle.operators.specs.Operators.{opens_first, opens_second}
use Rattle.blocks.specs.Load.{LoadTo, load_in, load}
use Rattle.finder.specs.TextSearch.{SearchTo, searched, search_text, search_nodes, outer_edge}
use Rattle.covering.specs.declared.LoadedBeside.{LoadedBeside}
use Rattle.covering.specs.declared.LoadedBoth.{LoadedBoth}
use Rattle.node_records.specs.declared.NodeRecord.{NodeRecord}

-- ---- Definitions -----------------------------------------------------------------------------

-- ---- Loading both streams --------------------------------------------------------------------

-- the last byte is the point
abbrev pub has_point : List ℕ → Bool
has_point s = cond (eqb (length s) 0) false (eqb (get_or s (length s - 1) 0) dot)

-- x alone has its point, or is the longer
abbrev pub goes_later : List ℕ → List ℕ → Bool
goes_later x y = cond (differ (has_point x) (has_point y)) (has_point x) (ltb (length y) (length x))

-- how many words a stream without a fault covers
abbrev pub covered_of : Result Checked → ℕ
covered_of (refused f) = 0
covered_of (done y) = y.covered

-- the word that is sought in a stream beside one that covers w words, if one is
abbrev pub found_beside : ℕ → List ℕ → ℕ → Bool → Bool → List NodeRecord → Option ℕ
found_beside n s w noes yeses t = cond (differ noes yeses) (Some (search_text n s w yeses t).word) None

-- what loading it comes to
pub record BesideTo : Type 0 where
  pub loaded : LoadTo
  pub found : Option ℕ

abbrev pub beside_of : LoadedBeside → List NodeRecord → BesideTo
beside_of r u = record { loaded = load_in r.loaded u; found = r.found }

abbrev pub load_beside : ℕ → List ℕ → ℕ → Bool → Bool → List NodeRecord → BesideTo
load_beside n s w noes yeses t = record { loaded = load n s t; found = found_beside n s w noes yeses t }

-- what loading both comes to
pub record BothTo : Type 0 where
  pub first : LoadTo
  pub second : LoadTo
  pub found1 : Option ℕ
  pub found2 : Option ℕ

abbrev pub both_of : LoadedBoth → List NodeRecord → List NodeRecord → BothTo
both_of r u₁ u₂ = record {
  first = load_in r.first.loaded u₁;
  second = load_in r.second.loaded u₂;
  found1 = r.first.found;
  found2 = r.second.found;
}

-- LOADING BOTH STREAMS: what loading each comes to; and in the one that is loaded later the word past the other's end that leaves the result open
abbrev pub load_both : ℕ → ℕ → List ℕ → List ℕ → List NodeRecord → List NodeRecord → BothTo
load_both n op x y t u = record {
  first = load n x t;
  second = load n y u;
  found1 = cond (goes_later x y) (found_beside n x (covered_of (load n y u).answer) (opens_second op false) (opens_second op true) t) None;
  found2 = cond (goes_later x y) None (found_beside n y (covered_of (load n x t).answer) (opens_first op false) (opens_first op true) u);
}

-- ---- The search ------------------------------------------------------------------------------

-- The search in a stream that was loaded, x, and covers so many words, long: the word f, if it was sought then; in its table, that may have a value for a word
-- past them; or in its text
abbrev pub search_by : ℕ → List ℕ → LoadTo → ℕ → ℕ → Bool → Option ℕ → Bool → SearchTo
search_by n s x w long v (Some k) whole = searched k x.table
search_by n s x w long v None whole =
    cond whole (searched (min (search_nodes n x.table x.size (outer_edge x) w v) long) x.table) (search_text n s w v x.table)

abbrev pub search_in : ℕ → List ℕ → LoadTo → Option ℕ → ℕ → ℕ → Bool → SearchTo
search_in n s x f w long v = search_by n s x w long v f x.whole

-- How far the run reaches past the end of the shorter input, by whether both end together, and beside which decisions of the longer the result is open
abbrev pub reach_by : ℕ → List ℕ → LoadTo → Option ℕ → ℕ → ℕ → Bool → Bool → Bool → SearchTo
reach_by n s x f short long same noes yeses =
    cond same (searched long x.table)
    (cond noes (cond yeses (searched short x.table) (search_in n s x f short long false))
    (cond yeses (search_in n s x f short long true) (searched long x.table)))

abbrev pub reach_in : ℕ → List ℕ → LoadTo → Option ℕ → ℕ → ℕ → Bool → Bool → SearchTo
reach_in n s x f short long noes yeses = reach_by n s x f short long (eqb short long) noes yeses

-- the count, and the tables after it
pub record CoveredTo : Type 0 where
  pub count : ℕ
  pub first : List NodeRecord
  pub second : List NodeRecord

abbrev pub counted : ℕ → List NodeRecord → List NodeRecord → CoveredTo
counted c t u = record { count = c; first = t; second = u }

-- Z: what loading the streams came to, with so many words covered; by whether there are too many options, the operator asks neither input, and the
-- first ends before the second
abbrev pub covered_by : ℕ → ℕ → List ℕ → List ℕ → BothTo → ℕ → ℕ → Bool → Bool → Bool → CoveredTo
covered_by n op x y Z first second many neither before =
    let t = Z.first.table in
    let u = Z.second.table in
    let r = reach_in n y Z.second Z.found2 first second (opens_first op false) (opens_first op true) in
    let l = reach_in n x Z.first Z.found1 second first (opens_second op false) (opens_second op true) in
    cond many (counted 0 t u)
    (cond neither (counted (2 ^ n) t u)
    (cond before (counted r.word t r.table) (counted l.word l.table u)))

unfoldable pub covered_in : ℕ → ℕ → List ℕ → List ℕ → BothTo → ℕ → ℕ → CoveredTo
covered_in n op x y Z first second =
    covered_by n op x y Z first second (ltb option_limit n) (ignores_first op && ignores_second op) (leb first second)
