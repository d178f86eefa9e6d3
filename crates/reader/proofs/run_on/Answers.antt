-- Each iteration leads on to what the function comes to (`leads_goes`), and moves on in the bytes; it halts, or is at its goal, where the function does.
use Rattle.std.proofs.Common.{◌≡◌, refl, ap, ap₂, arith, ◌∙◌, Bool, List, ℕ, Option, get_or}
use Rattle.elements.specs.Abstraction.{inside_open, spots_of}
use Rattle.elements.specs.declared.Fault.{Fault}
use Rattle.elements.specs.declared.Open.{Open}
use Rattle.elements.specs.declared.Spots.{Spots}
use Rattle.reader.specs.Tokens.{faulty_in, cause_in, byte_in}
use Rattle.reader.specs.Advance.{went_view, low_of}
use Rattle.reader.specs.OpenNodes.{opens_in}
use Rattle.reader.specs.Loop.{iteration-length}
use Rattle.reader.specs.RunOn.{seeks_in, goal_view, goal_to, leads-past, leads-halts, leads-moves, leads_goes}
use Rattle.reader.proofs.run_on.Goals as goal

-- The entry at the spot is the innermost.
lowest : (o : List Open) (d : ℕ) (p : Spots) → p ≡ spots_of d → get_or o p.low inside_open ≡ low_of (opens_in o d)
lowest o d p e = ap (λ (p : Spots). get_or o p.low inside_open) e

pub returns-in-Err : goal.returns-in-Err
returns-in-Err c =
    let a = c.args in
    let l = c.loop-r in
    leads-halts _ a.n a.s.now (seeks_in a.goal.search) (goal_view l.g) l.r.run (opens_in l.o l.r.depth) l.r.from l.r.deep l.t
    l.invariant.1.1.1.1 c.loop-r-test.true (get_or l.o c.spots_of.result.low inside_open) (lowest l.o l.r.depth c.spots_of.result c.spots_of.ensures) _ _ c.in-Err.ensures refl

pub loop-r-smaller : goal.loop-r-smaller
loop-r-smaller c =
    let a = c.args in
    let l = c.loop-r in
    leads-moves _ a.n a.s.now (seeks_in a.goal.search) (goal_view l.g) l.r.run (opens_in l.o l.r.depth) l.r.from l.r.deep l.t
    l.invariant.1.1.1.1 c.loop-r-test.true (get_or l.o c.spots_of.result.low inside_open) (lowest l.o l.r.depth c.spots_of.result c.spots_of.ensures) (went_view c.in-Ok.x) _ c.in-Ok.ensures refl

pub loop-r-preserved : goal.loop-r-preserved
loop-r-preserved c =
    let a = c.args in
    let l = c.loop-r in
    let sought = l.invariant.1.1.1.0 in
    let y = went_view c.in-Ok.x in (
      l.invariant.0,
      (
        iteration-length _ _ _ _ _ _ _ _ c.iterate.ensures ∙ l.invariant.1.0,
        (
          l.invariant.1.1.0,
          (
            c.goal_after-g.ensures.1 ∙ sought,
            leads_goes _ a.n a.s.now (seeks_in a.goal.search) (goal_view l.g) l.r.run (opens_in l.o l.r.depth) l.r.from l.r.deep l.t
                l.invariant.1.1.1.1 c.loop-r-test.true (get_or l.o c.spots_of.result.low inside_open) (lowest l.o l.r.depth c.spots_of.result c.spots_of.ensures) y _ c.in-Ok.ensures refl _ c.put_open.ensures
                _ (c.goal_after-g.ensures.0
                ∙ ap (λ (b : Bool). goal_to b c.iterate.new.t (goal_view l.g) l.r.depth (get_or l.o c.spots_of.result.low inside_open) y) sought),
          ),
        ),
      ),
    )

pub returns : goal.returns
returns c =
    let a = c.args in
    let l = c.loop-r in
    ap₂ (λ (b : Bool) (f : Option Fault). record {
      reached = record {
        run = l.r.run;
        opens = opens_in l.o l.r.depth;
        from = l.r.from;
        deep = l.r.deep;
        halted = b;
        faulty = faulty_in f;
        cause = cause_in f;
        byte = byte_in f;
      };
      table = l.t;
    }) l.invariant.1.1.0.0 l.invariant.1.1.0.1
    ∙ leads-past _ a.n a.s.now (seeks_in a.goal.search) (goal_view l.g) l.r.run (opens_in l.o l.r.depth) l.r.from l.r.deep l.t
    l.invariant.1.1.1.1 (omega (arith, c.loop-r-test.false))
