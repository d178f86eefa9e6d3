-- The legs of a search, reading to a word and searching on behind it, are on the way to what reading the whole stream comes to. Assumes nothing.
use Rattle.std.specs.Prelude.{◌≡◌, Bool, true, false, List, ℕ, suc, ◌≤◌, length, replicate}
use Rattle.std.proofs.Common.{sym, ap, ◌∙◌, arith}
use Rattle.std.proofs.Math.Path.{subst⁻¹}
use Rattle.theory_reading.specs.Limits.{option_limit, open_limit, table_limit, word_limit}
use Rattle.elements.specs.Abstraction.{inside_open}
use Rattle.cursors.specs.Cursors.{first_run, start_cursor}
use Rattle.cursors.specs.declared.Cursor.{Cursor}
use Rattle.node_records.specs.declared.NodeRecord.{NodeRecord}
use Rattle.reader.specs.OpenNodes.{ReadReached, ReadCursor, cursor_in}
use Rattle.reader.specs.Loop.{first_opens, Stands, stands-covered, stands-first}
use Rattle.reader.specs.ReadOn.{ReadTo, read_all, first_cursor, read_from, not-off, read-within}
use Rattle.reader.specs.RunOn.{goal_of, search_from, reads_all, search-within}
use Rattle.reader.specs.Legs.{bare, Leg, run-leg}

-- what reading the whole stream comes to; t: the table at its beginning
abbrev pub to_end : ℕ → List ℕ → List NodeRecord → ReadTo
to_end n bytes t = read_all n bytes word_limit first_run first_opens t

-- x, u: what is reached, and the table then, are on the way to it
abbrev pub OnWay : ℕ → List ℕ → List NodeRecord → ReadReached → List NodeRecord → Type 0
OnWay n bytes t x u = Leg n bytes (record { reached = x; table = u }) (to_end n bytes t)

module _ (n : ℕ) (bytes : List ℕ) (few : n ≤ option_limit) (t : List NodeRecord) where
  -- Reading from the start, to w, is. c: where it begins, as code has it
  pub read-way : table_limit ≤ length t → (w : ℕ) → w ≤ word_limit → (c : Cursor) → c ≡ start_cursor → (x : ReadReached) (u : List NodeRecord)
      → record { reached = x; table = u } ≡ read_from n bytes w (cursor_in c (replicate open_limit inside_open)) t → OnWay n bytes t x u
  read-way room w most c ce x u called =
      subst⁻¹ (λ (z : ReadTo). Leg n bytes z (to_end n bytes t))
      (called
      ∙ ap (λ (c : Cursor). read_from n bytes w (cursor_in c (replicate open_limit inside_open)) t) ce
      ∙ read-within n bytes few w most first_cursor t (stands-first n bytes t room)
      ∙ sym (reads_all n bytes (goal_of w false false) first_run first_opens t))
      (run-leg (suc (length bytes)) n bytes false (goal_of w false false) first_run first_opens 0 0 t most (omega arith))

  -- x, u: what is reached on the way, and the table then; c: where reading goes on
  module _ (x : ReadReached) (u : List NodeRecord) (way : OnWay n bytes t x u) (e : x.halted ≡ false) (h : Stands n bytes x.run x.opens u) where
    abbrev here : ReadCursor
    here = record { run = x.run; opens = x.opens }

    small : x.run.covered ≤ word_limit
    small = stands-covered n bytes few x.run x.opens u h

    rest : bare (read_all n bytes word_limit x.run x.opens u) ≡ bare (to_end n bytes t)
    rest = way.goes e (suc (length bytes)) (omega arith)

    -- Searching on from there is too,
    pub search-way : (odd noes : Bool) (y : ReadReached) (z : List NodeRecord)
        → record { reached = y; table = z } ≡ search_from n bytes here odd noes u → OnWay n bytes t y z
    search-way odd noes y z called = record { halts = λ p. leg.halts p ∙ rest; goes = λ p f l. leg.goes p f l ∙ rest }
      where
        leg : Leg n bytes (record { reached = y; table = z }) (read_all n bytes word_limit x.run x.opens u)
        leg = subst⁻¹ (λ (z : ReadTo). Leg n bytes z (read_all n bytes word_limit x.run x.opens u))
            (called ∙ search-within n bytes here odd noes u (not-off n x.opens.depth x.run.covered few h.kept.deep small))
            (run-leg (suc (length bytes)) n bytes true (goal_of x.run.covered odd noes) x.run x.opens 0 0 u small (omega arith))

    -- and reading on to the end comes to it.
    pub rest-way : (y : ReadReached) (z : List NodeRecord) → record { reached = y; table = z } ≡ read_from n bytes word_limit here u
        → bare (record { reached = y; table = z }) ≡ bare (to_end n bytes t)
    rest-way y z called = ap bare (called ∙ read-within n bytes few word_limit (omega arith) here u h) ∙ rest
