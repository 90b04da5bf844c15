-- By what was sent.
use Rattle.std.proofs.Common.{rules}
use Rattle.parameters.proofs.Laws.{sets_value, sets_not}
use Rattle.parameters.proofs.set.Goals as goal

pub returns : goal.returns
returns c = let passed = c.in_ok-row.ensures {u = tt} in search (rules, sets_value, passed.error, passed.row)

pub returns-in_err-row : goal.returns-in_err-row
returns-in_err-row c = search (rules, sets_not)
