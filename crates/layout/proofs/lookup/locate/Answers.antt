-- A turn takes one entry.
use Rattle.std.proofs.Common.{arith}
use Rattle.std.proofs.lemmas.Grind.{common_steps}
use Rattle.layout.proofs.EntryLaws.{left_next}
use Rattle.layout.proofs.lookup.locate.Goals as goal

pub loop-id-preserved : goal.loop-id-preserved
loop-id-preserved c =
    let n = left_next c.loop-id.id-iterator c.next.new.self c.in-Some.id c.in-Some.len c.in-Some.ensures.steps in
    grind (arith, common_steps)
