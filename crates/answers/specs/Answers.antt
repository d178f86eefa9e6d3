-- What the calls that read answer, as the paper has it: refusals with the paper's number of each cause, extents, verdicts, words. Assumes nothing.
use Rattle.std.specs.Prelude.{cond, ℕ, Result, Ok, Err}
use Rattle.theory_reading.specs.Causes as C
use Rattle.theory_reading.specs.Calls as R
use Rattle.elements.specs.Abstraction.{cause_of}
use Rattle.answers.specs.declared.Refusal.{Refusal}
use Rattle.answers.specs.declared.Checked.{Checked}
use Rattle.answers.specs.declared.Verdict.{Verdict}
use Rattle.answers.specs.declared.NextWord.{NextWord}
use Rattle.answers.specs.declared.Verdict.TheVariants.{No, Yes, NotYet}
use Rattle.answers.specs.declared.NextWord.TheVariants.{Word, NoWord, NotKnown}

abbrev pub refusal_of : Refusal → C.Refusal
refusal_of r = C.refusal (cause_of r.cause) r.stream r.byte

abbrev pub checked_as : Checked → R.Checked
checked_as x = record { size = x.size; covered = x.covered; extent = cond x.complete R.complete R.cut }

abbrev pub checking_of : Result Checked Refusal → C.Result R.Checked
checking_of (Err r) = C.refused (refusal_of r)
checking_of (Ok x) = C.done (checked_as x)

abbrev pub verdicts_of : Verdict → R.Verdict
verdicts_of No = R.is_no
verdicts_of Yes = R.is_yes
verdicts_of NotYet = R.not_yet

abbrev pub deciding_of : Result Verdict Refusal → C.Result R.Verdict
deciding_of (Err r) = C.refused (refusal_of r)
deciding_of (Ok v) = C.done (verdicts_of v)

abbrev pub next_of : NextWord → R.NextWord
next_of (Word v) = R.word v
next_of NoWord = R.no_word
next_of NotKnown = R.not_known

abbrev pub finding_of : Result NextWord Refusal → C.Result R.NextWord
finding_of (Err r) = C.refused (refusal_of r)
finding_of (Ok x) = C.done (next_of x)

abbrev pub filling_of : Result ℕ Refusal → C.Result ℕ
filling_of (Err r) = C.refused (refusal_of r)
filling_of (Ok k) = C.done k
