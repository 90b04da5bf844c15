-- Which case of the table in crate `casetable` a case of the code is.
use Rattle.flashrules.specs.Error.{number_or_none}
use Rattle.casetable.specs.Cases.{sum, change, lookup, session, set_parameter, get_parameter}
use Rattle.casetable.specs.Cases as table
use Rattle.cases.specs.declared.case.Case.{Case}
use Rattle.cases.specs.declared.case.Case.TheVariants.{Sum, Change, Lookup, Session, SetParameter, GetParameter}

abbrev pub case_of : Case → table.Case
case_of (Sum bytes s) = sum bytes.now s
case_of (Change before old new s) = change before old new s
case_of (Lookup class number error n) = lookup class number (number_or_none error) n
case_of (Session first boot script output at byte) = session first boot script.now output.now at byte
case_of (SetParameter cut p value error at bytes) = set_parameter cut p value (number_or_none error) at bytes.now
case_of (GetParameter first p value) = get_parameter first p value
