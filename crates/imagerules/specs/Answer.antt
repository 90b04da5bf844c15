-- What a call on an image file answers, in the numbers of document 01: 0 where nothing is refused.
use Rattle.std.specs.Prelude.{ℕ, Result, Ok, Err}
use Rattle.flashrules.specs.Error.{number}
use Rattle.flashrules.specs.Layout.{no_classes}
use Rattle.flashrules.specs.declared.error.Error.{Error}
use Rattle.flashrules.specs.declared.layout.Layout.{Layout}
use Rattle.imagerules.specs.declared.answer.FileRead.{FileRead}

-- after a read: the layout, and how many bytes of the buffer are the image. Refused, a layout of no
-- classes and 0
pub record FileReadAnswer : Type 0 where
  pub error : ℕ
  pub layout : Layout
  pub length : ℕ

-- after a write: how many bytes of the buffer are the text, 0 where it is refused
pub record FileWriteAnswer : Type 0 where
  pub error : ℕ
  pub length : ℕ

-- ---- what the calls hand back, in these numbers

abbrev pub read_answer : Result FileRead Error → FileReadAnswer
read_answer (Ok r) = record { error = 0; layout = r.layout; length = r.length }
read_answer (Err e) = record { error = number e; layout = no_classes; length = 0 }

abbrev pub write_answer : Result ℕ Error → FileWriteAnswer
write_answer (Ok n) = record { error = 0; length = n }
write_answer (Err e) = record { error = number e; length = 0 }
