-- What the answers in numbers tell: two different answers of a call have different numbers, and so
-- have two states of the parser. So an equation about the numbers determines all of an answer, and
-- where an answer gets a field that its numbers don't tell, the claim cannot be proved.
-- proofs/Laws.antt has a proof of each claim, under its name in small letters.
use Rattle.std.specs.Prelude.{◌≡◌, Result}
use Rattle.flashrules.specs.declared.error.Error.{Error}
use Rattle.scriptrules.specs.Answer.{line_answer, run_answer}
use Rattle.scriptrules.specs.Parser.{parser}
use Rattle.scriptrules.specs.declared.answer.Answered.{Answered}
use Rattle.scriptrules.specs.declared.answer.Progress.{Progress}
use Rattle.scriptrules.specs.declared.parser.Line.{Line}
use Rattle.scriptrules.specs.declared.session.Session.{Session}

abbrev pub ParsersApart : Type 0
ParsersApart = (s t : Result Line Line) → parser s ≡ parser t → s ≡ t

abbrev pub LineAnswersApart : Type 0
LineAnswersApart = (b : Session) (r s : Result Answered Error) → line_answer b r ≡ line_answer b s → r ≡ s

abbrev pub RunAnswersApart : Type 0
RunAnswersApart = (p q : Progress) → run_answer p ≡ run_answer q → p ≡ q
