-- What is read of each part, and the parts put together.
use Rattle.std.proofs.Common.{rules}
use Rattle.parameters.proofs.RowLaws.{lower_byte, upper_byte}
use Rattle.parameters.proofs.FetchLaws.{fetches_both, fetches_one}
use Rattle.parameters.proofs.row.fetch.Goals as goal

pub invariant_of-lower : goal.invariant_of-lower
invariant_of-lower c = search (rules, lower_byte)

pub invariant_of-upper : goal.invariant_of-upper
invariant_of-upper c = search (rules, upper_byte)

pub returns-then-split-size : goal.returns-then-split-size
returns-then-split-size c =
    let first = c.receive-loaded.ensures in
    let second = c.receive.ensures in
    fetches_both c.args.layout c.args.image.now c.args.row.parameter c.requires (search rules) (search rules)
    c.open_flash-opened.ensures c.from-at.ensures first.image_after c.lower_width-split.ensures.value _ (search rules) first.buffer_after
    (search rules) second.image_after _ (search rules) second.buffer_after _ _

pub returns-else-split-size : goal.returns-else-split-size
returns-else-split-size c =
    let first = c.receive-loaded.ensures in
    fetches_one c.args.layout c.args.image.now c.args.row.parameter c.requires (search rules) (search rules)
    c.open_flash-opened.ensures c.from-at.ensures first.image_after c.lower_width-split.ensures.value _ (search rules) first.buffer_after
    _ (search rules)
