-- What a call on a gauge answers, in the numbers of document 01: 0 where nothing is refused.
use Rattle.std.specs.Prelude.{ℕ, Result, Ok, Err}
use Rattle.flashrules.specs.Error.{number, number_or_none}
use Rattle.flashrules.specs.declared.error.Error.{Error}
use Rattle.gaugerules.specs.declared.answer.ByteWritten.{ByteWritten}
use Rattle.gaugerules.specs.declared.answer.Written.{Written}
use Rattle.gaugerules.specs.declared.state.Gauge.{Gauge}

-- after a byte of a write: how many bytes of the image it changed, and the gauge
pub record ByteAnswer : Type 0 where
  pub error : ℕ
  pub changed : ℕ
  pub gauge : Gauge

-- 01: "The answer is the refusal number (0 if none) and the number of bytes taken."; with what they
-- changed, and the gauge
pub record WriteAnswer : Type 0 where
  pub error : ℕ
  pub accepted : ℕ
  pub changed : ℕ
  pub gauge : Gauge

pub record ReadAnswer : Type 0 where
  pub error : ℕ
  pub accepted : ℕ

pub record SupplyAnswer : Type 0 where
  pub error : ℕ
  pub gauge : Gauge

-- ---- what the calls hand back, in these numbers

-- 01: "A refused byte alters nothing"
abbrev pub byte_answer : Gauge → Result ByteWritten Error → ByteAnswer
byte_answer g (Ok w) = record { error = 0; changed = w.changed; gauge = w.gauge }
byte_answer g (Err e) = record { error = number e; changed = 0; gauge = g }

abbrev pub write_answer : Written → WriteAnswer
write_answer w = record { error = number_or_none w.error; accepted = w.accepted; changed = w.changed; gauge = w.gauge }

-- 01: "An accepted read takes n, a refused one 0."
abbrev pub read_answer : Result ℕ Error → ReadAnswer
read_answer (Ok n) = record { error = 0; accepted = n }
read_answer (Err e) = record { error = number e; accepted = 0 }

-- refused, the gauge is as it was
abbrev pub supply_answer : Gauge → Result Gauge Error → SupplyAnswer
supply_answer g (Ok h) = record { error = 0; gauge = h }
supply_answer g (Err e) = record { error = number e; gauge = g }
