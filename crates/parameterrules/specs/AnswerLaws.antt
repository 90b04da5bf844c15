-- What the answer in numbers tells: two different answers of a call have different numbers. So an
-- equation about the numbers determines all of an answer, and where an answer gets a field that its
-- numbers don't tell, the claim cannot be proved. proofs/Laws.antt has a proof of each claim, under
-- its name in small letters.
use Rattle.std.specs.Prelude.{◌≡◌, Result}
use Rattle.flashrules.specs.declared.error.Error.{Error}
use Rattle.parameterrules.specs.Answer.{value_answer}
use Rattle.parameterrules.specs.declared.parameter.Value.{Value}

abbrev pub ValueAnswersApart : Type 0
ValueAnswersApart = (r s : Result Value Error) → value_answer r ≡ value_answer s → r ≡ s
