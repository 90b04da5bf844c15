-- What the reading of a parameter answers, in the numbers of document 01: 0 where nothing is
-- refused.
use Rattle.std.specs.Prelude.{Result, Ok, Err, false, pos}
use Rattle.flashrules.specs.Error.{number}
use Rattle.flashrules.specs.declared.error.Error.{Error}
use Rattle.parameterrules.specs.Parameter.{parameter_value}
use Rattle.parameterrules.specs.declared.parameter.ParameterValue.{ParameterValue}
use Rattle.parameterrules.specs.declared.parameter.Value.{Value}

-- 01: "if refused, 0 and no"
abbrev pub value_answer : Result Value Error → ParameterValue
value_answer (Ok r) = parameter_value 0 r.value r.in_range
value_answer (Err e) = parameter_value (number e) (pos 0) false
