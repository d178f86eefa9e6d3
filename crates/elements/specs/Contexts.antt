-- `==` of contexts says whether they are the same in the theory. Assumes nothing.
use Rattle.std.specs.Prelude.{◌≡◌, refl, eqb}
use Rattle.std.proofs.Common.{ap₂}
use denote.Enum.Declared.{tag_of}
use denote.Enum.Bare.{sameb}
use Rattle.theory_reading.specs.Reading.{context_number, is_context}
use Rattle.elements.specs.Abstraction.{context_of}
use Rattle.elements.specs.contracts.Context.{the_type}
use Rattle.elements.specs.declared.Context.{Context}
use Rattle.elements.specs.declared.Context.TheVariants.{Start, Lead, Begins, AfterDigit, AfterTwo, AfterOne, Over}

context_tag : (m : Context) → tag_of the_type m ≡ context_number (context_of m)
context_tag Start = refl
context_tag Lead = refl
context_tag Begins = refl
context_tag AfterDigit = refl
context_tag AfterTwo = refl
context_tag AfterOne = refl
context_tag Over = refl

pub same_context : (m k : Context) → sameb the_type m k ≡ is_context (context_of k) (context_of m)
same_context m k = ap₂ eqb (context_tag m) (context_tag k)
