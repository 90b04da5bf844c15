-- What is known of an image file that was loaded. No contract can say which characters a file has;
-- but the answer and the buffer are those that some text gives.
use Rattle.std.specs.Prelude.{◌≡◌, List, ℕ, Result}
use Rattle.flashrules.specs.Outcome.{outcome}
use Rattle.flashrules.specs.declared.error.Error.{Error}
use Rattle.imagerules.specs.Answer.{read_answer}
use Rattle.imagerules.specs.File.{read}
use Rattle.imagerules.specs.declared.answer.FileRead.{FileRead}

pub record Loaded (answer : Result FileRead Error) (before after : List ℕ) : Type 0 where
  pub text : List ℕ
  pub read : outcome (read_answer answer) after ≡ read text before
