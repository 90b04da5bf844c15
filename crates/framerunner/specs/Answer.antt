-- What a frame that is run answers, in the numbers of document 01: a frame is never refused as a
-- line is, so the number is 0.
use Rattle.scriptrules.specs.Run.{answered}
use Rattle.scriptrules.specs.Answer.{LineAnswer}
use Rattle.scriptrules.specs.declared.answer.Answered.{Answered}

abbrev pub frame_answer : Answered → LineAnswer
frame_answer a = answered 0 a.session a.length
