-- By what is sent in each commit.
use Rattle.std.proofs.Common.{rules}
use Rattle.parameters.proofs.RowLaws.{free_of_set, upper_byte}
use Rattle.parameters.proofs.SendLaws.{sends_upper, stores}
use Rattle.parameters.proofs.row.store.Goals as goal

pub invariant_of-place : goal.invariant_of-place
invariant_of-place c = search (rules, free_of_set, upper_byte)

pub returns-then-split-size : goal.returns-then-split-size
returns-then-split-size c =
    stores _ _ _ c.store_lower-lower.ensures (search rules) c.requires (search rules) (search rules) (search (rules, sends_upper))

pub returns : goal.returns
returns c = stores _ _ _ c.store_lower-lower.ensures (search rules) c.requires (search rules) (search rules) (search rules)
