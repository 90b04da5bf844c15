-- What a call that runs lines answers, in the numbers of document 01: 0 where nothing is refused.
use Rattle.std.specs.Prelude.{ℕ, Result, Ok, Err}
use Rattle.flashrules.specs.Error.{number, number_or_none}
use Rattle.flashrules.specs.declared.error.Error.{Error}
use Rattle.scriptrules.specs.declared.answer.Answered.{Answered}
use Rattle.scriptrules.specs.declared.answer.Progress.{Progress}
use Rattle.scriptrules.specs.declared.session.Session.{Session}

-- after one line: the session, and how long is what it put out, with its line feed; 0 where the
-- line is refused
pub record LineAnswer : Type 0 where
  pub error : ℕ
  pub session : Session
  pub length : ℕ

-- after the lines of a text: the session, where the first line begins that was not run, and how
-- many bytes of the buffer are output
pub record RunAnswer : Type 0 where
  pub error : ℕ
  pub session : Session
  pub next : ℕ
  pub length : ℕ

-- ---- what the calls hand back, in these numbers

-- a refused line leaves the session as it was
abbrev pub line_answer : Session → Result Answered Error → LineAnswer
line_answer s (Ok a) = record { error = 0; session = a.session; length = a.length }
line_answer s (Err e) = record { error = number e; session = s; length = 0 }

abbrev pub run_answer : Progress → RunAnswer
run_answer p = record { error = number_or_none p.error; session = p.session; next = p.next; length = p.length }
