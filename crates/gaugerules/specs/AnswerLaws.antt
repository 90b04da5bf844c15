-- What the answers in numbers tell: two different answers of a call have different numbers. So an
-- equation about the numbers determines all of an answer, and where an answer gets a field that its
-- numbers don't tell, the claim cannot be proved. proofs/Laws.antt has a proof of each claim, under
-- its name in small letters.
use Rattle.std.specs.Prelude.{ℕ, ◌≡◌, Result}
use Rattle.flashrules.specs.declared.error.Error.{Error}
use Rattle.gaugerules.specs.Answer.{byte_answer, write_answer, read_answer, supply_answer}
use Rattle.gaugerules.specs.declared.answer.ByteWritten.{ByteWritten}
use Rattle.gaugerules.specs.declared.answer.Written.{Written}
use Rattle.gaugerules.specs.declared.state.Gauge.{Gauge}

abbrev pub ByteAnswersApart : Type 0
ByteAnswersApart = (g : Gauge) (r s : Result ByteWritten Error) → byte_answer g r ≡ byte_answer g s → r ≡ s

abbrev pub WriteAnswersApart : Type 0
WriteAnswersApart = (v w : Written) → write_answer v ≡ write_answer w → v ≡ w

abbrev pub ReadAnswersApart : Type 0
ReadAnswersApart = (r s : Result ℕ Error) → read_answer r ≡ read_answer s → r ≡ s

abbrev pub SupplyAnswersApart : Type 0
SupplyAnswersApart = (g : Gauge) (r s : Result Gauge Error) → supply_answer g r ≡ supply_answer g s → r ≡ s
