-- By the laws of a gauge just powered on.
use Rattle.std.proofs.Common.{rules}
use Rattle.parameters.proofs.RowLaws.{free_of_set, lower_byte}
use Rattle.parameters.proofs.SendLaws.{sends_lower}
use Rattle.parameters.proofs.row.store_lower.Goals as goal

pub invariant_of-place : goal.invariant_of-place
invariant_of-place c = search (rules, free_of_set, lower_byte)

pub returns : goal.returns
returns c = search (rules, sends_lower)
