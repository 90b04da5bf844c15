-- A turn takes one entry.
use Rattle.std.proofs.Common.{arith}
use Rattle.std.proofs.lemmas.Grind.{common_steps}
use Rattle.layout.proofs.EntryLaws.{left_next}
use Rattle.layout.proofs.valid.size.Goals as goal

pub loop-len-preserved : goal.loop-len-preserved
loop-len-preserved c =
    let n = left_next c.loop-len.len-iterator c.next.new.self c.in-Some.field-0-0 c.in-Some.len c.in-Some.ensures.steps in
    grind (arith, common_steps)
