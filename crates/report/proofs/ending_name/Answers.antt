-- Each ending has its text.
use Rattle.std.proofs.Common.{refl}
use Rattle.theory_reading.specs.Bytes.{text}
use Rattle.report.proofs.ending_name.Goals as goal

pub returns-in-Whole : goal.returns-in-Whole
unfolding text
returns-in-Whole c = rw c.in-Whole.is refl

pub returns-in-InputEnded : goal.returns-in-InputEnded
unfolding text
returns-in-InputEnded c = rw c.in-InputEnded.is refl

pub returns-in-OutputFull : goal.returns-in-OutputFull
unfolding text
returns-in-OutputFull c = rw c.in-OutputFull.is refl
