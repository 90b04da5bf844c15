-- What the answers in numbers tell: two different answers of a call have different numbers. So an
-- equation about the numbers determines all of an answer, and where an answer gets a field that its
-- numbers don't tell, the claim cannot be proved. proofs/Laws.antt has a proof of each claim, under
-- its name in small letters.
use Rattle.std.specs.Prelude.{ℕ, ◌≡◌, Result}
use Rattle.flashrules.specs.declared.error.Error.{Error}
use Rattle.imagerules.specs.Answer.{read_answer, write_answer}
use Rattle.imagerules.specs.declared.answer.FileRead.{FileRead}

abbrev pub FileReadsApart : Type 0
FileReadsApart = (r s : Result FileRead Error) → read_answer r ≡ read_answer s → r ≡ s

abbrev pub FileWritesApart : Type 0
FileWritesApart = (r s : Result ℕ Error) → write_answer r ≡ write_answer s → r ≡ s
