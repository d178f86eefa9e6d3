-- How code holds what Join speaks of: fields, the first line, lines. Assumes nothing.
use Rattle.std.specs.Borrow.{Bor}
use Rattle.std.specs.Prelude.{◌≡◌, List, ℕ, Option, Some, None}
use Rattle.std.proofs.Math.Option as M
use Rattle.theory_reading.specs.Bytes.{blank, text}
use Rattle.theory_writing.specs.Join as J
use Rattle.job.specs.declared.Heading.{Heading}
use Rattle.job.specs.declared.Lines.{Lines}

abbrev pub field_of : Option ℕ → M.Option ℕ
field_of (Some v) = M.some v
field_of None = M.none

-- the job of a first line, for two streams
abbrev pub headed : Option Heading → List ℕ → List ℕ → M.Option J.Job
headed (Some h) x y = M.some (record { n = h.n; op = h.op; size = h.size; stream₁ = x; stream₂ = y })
headed None x y = M.none

-- the heading of a first line that has these fields, for any two streams
abbrev pub Heads : Option Heading → List (List ℕ) → Type 0
Heads h l = (x y : List ℕ) → headed h x y ≡ J.first_line x y l

-- the job of an input that has these lines
abbrev pub lines_job : Option Lines → M.Option J.Job
lines_job (Some l) = J.first_line l.first.now l.second.now (J.pieces blank l.heading.now)
lines_job None = M.none

-- a row of the table of named operators, as code has it and as the definition has it
abbrev pub row_of : Bor (List ℕ) × ℕ → List ℕ × ℕ
row_of o = (o.0.now, o.1)

abbrev pub named_row : J.Named → List ℕ × ℕ
named_row o = (text o.name, o.op)
