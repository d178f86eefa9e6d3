-- What the words passed last stand for, and the reading of one block. Assumes nothing.
use Rattle.std.specs.Prelude.{◌≡◌, Bool, false, cond, List, [], ℕ, ◌+◌, ◌-◌, length}
use Rattle.std.proofs.Common.{sym, ap, ap₂, ◌∙◌, subst, arith}
use Rattle.theory_lists.specs.Lists.{differ}
use Rattle.theory_reading.specs.Nodes.{Node, child}
use Rattle.theory_reading.specs.Deciding.{complemented, options, trace}
use Rattle.theory_reading.specs.Calls as R
use Rattle.theory_reading.specs.Covered.{parity}
use Rattle.theory_reading.specs.TableWalk.{table_walk}
use Rattle.theory_reading.proofs.Reaching.{At, decided-passed}
use Rattle.work_table.specs.TableLaws.{table_of}
use Rattle.node_records.specs.declared.Edge.{Edge}
use Rattle.elements.specs.Abstraction.{ref_of, open_list}
use Rattle.reader.specs.Simulation.{child-of}
use Rattle.reader.specs.Advance.{state_at}
use Rattle.reader.specs.OpenNodes.{ReadReached, ReadCursor, cursor_in}
use Rattle.reader.specs.Loop.{Ends, ReachedBy}
use Rattle.reader.specs.ReadOn.{ReadTo, read_from}
use Rattle.elements.specs.declared.Open.{Open}
use Rattle.blocks.specs.declared.Block.{Block}
use Rattle.node_records.specs.declared.NodeRecord.{NodeRecord}

-- ---- Definitions -----------------------------------------------------------------------------

-- what the words passed last stand for
abbrev pub edge_at : ReadReached → Edge
edge_at r = record { number = r.run.last.number; complement = differ (parity (open_list r.opens)) r.run.complement }

-- the word w, which the loop's last element passed
abbrev pub word_at : List NodeRecord → ℕ → ReadReached → ℕ → R.Verdict
word_at t n r w = R.verdict_of (complemented (edge_at r).complement (table_walk (table_of t r.run.size) (r.deep + 1) (edge_at r).number
    (options (n - r.deep) (w - r.from))))

-- the words that one element passes
pub record ReadBlock : Type 0 where
  pub cursor : ReadCursor
  pub from : ℕ
  pub deep : ℕ
  pub number : ℕ
  pub complement : Bool
  pub halted : Bool

-- as code has it, beside the open nodes o
abbrev pub block_in : Block → List Open → ReadBlock
block_in b o = record {
  cursor = cursor_in b.cursor o;
  from = b.from;
  deep = b.deep;
  number = b.number;
  complement = b.complement;
  halted = b.halted;
}

-- the block that the loop's last element passed
abbrev pub block_of : ReadReached → ReadBlock
block_of y = record {
  cursor = record { run = y.run; opens = y.opens };
  from = y.from;
  deep = y.deep;
  number = (edge_at y).number;
  complement =
      (edge_at y).complement;
  halted = y.halted;
}

-- a block, and the lent table after it
pub record Next : Type 0 where
  pub block : ReadBlock
  pub table : List NodeRecord

abbrev pub next_of : ReadTo → Next
next_of z = record { block = block_of z.reached; table = z.table }

-- THE NEXT BLOCK: reads on until more words are covered
unfoldable pub next_block : ℕ → List ℕ → ReadCursor → List NodeRecord → Next
unfolding read_from
next_block n bytes c t = next_of (read_from n bytes c.run.covered c t)

-- So for a call: y, u: what the loop reaches, and the table after it; b: the block that is made of it
pub next-called : (n : ℕ) (bytes : List ℕ) (c : ReadCursor) (t : List NodeRecord) (b : ReadBlock) (y : ReadReached) (u : List NodeRecord)
    → record { reached = y; table = u } ≡ read_from n bytes c.run.covered c t → b ≡ block_of y → record { block = b; table = u }
    ≡ next_block n bytes c t
unfolding next_block
next-called n bytes c t b y u k e = ap (λ (x : ReadBlock). record { block = x; table = u }) e ∙ ap next_of k

-- ---- A word that was passed ------------------------------------------------------------------

-- The word that the loop's last element passed, by the table.
pub word-passed : (n : ℕ) (bytes : List ℕ) (w : ℕ) (r : ReadReached) (u : List NodeRecord) → ReachedBy n bytes w r u → r.halted ≡ false
    → R.verdict n (trace n bytes) w ≡ word_at u n r w
word-passed n bytes w r u h e =
    let k = subst (Ends n bytes w r u h.stands.steps) e h.ends in
    let p = k.1 in
    let s' = state_at r.run r.opens u in
    let W : List Node → ℕ → ℕ → ℕ → R.Verdict = λ (tb : List Node) (d a i : ℕ). R.verdict_of
    (complemented (differ (parity (open_list r.opens)) r.run.complement) (table_walk tb (d + 1) a (options (n - d) (w - i)))) in
    decided-passed n bytes p.before p.state s' p.here (subst (λ (f : ℕ). At n bytes f s') p.last h.stands.here) w
    (omega (arith, p.covered, p.low)) k.0
    ∙ ap (λ (b : Bool). W (cond b [] (table_of u r.run.size)) (length p.state.place.opens) (child (ref_of r.run.last)) p.state.covered)
    p.later
    ∙ ap₂ (λ (d i : ℕ). W (table_of u r.run.size) d (child (ref_of r.run.last)) i) p.depth p.covered
    ∙ ap (λ (a : ℕ). W (table_of u r.run.size) r.deep a r.from) (sym (child-of r.run.last))
