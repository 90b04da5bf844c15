-- A turn takes one entry.
use Rattle.std.proofs.Common.{arith}
use Rattle.std.proofs.lemmas.Grind.{common_steps}
use Rattle.layout.proofs.EntryLaws.{left_next}
use Rattle.layout.proofs.valid.ordered.Goals as goal

pub returns-then-not-in_order : goal.returns-then-not-in_order
returns-then-not-in_order c =
    let n = left_next c.loop-id.id-iterator c.next.new.self c.in-Some.id c.in-Some.len c.in-Some.ensures.steps in
    grind (arith, common_steps)

pub loop-id-preserved : goal.loop-id-preserved
loop-id-preserved c =
    let n = left_next c.loop-id.id-iterator c.next.new.self c.in-Some.id c.in-Some.len c.in-Some.ensures.steps in
    grind (arith, common_steps)
