-- By the ends of the spans.
use Rattle.std.proofs.Common.{rules}
use Rattle.delta.proofs.TextLaws.{run_start, run_next}
use Rattle.delta.proofs.text.put_class.Goals as goal

pub loop-from-init : goal.loop-from-init
loop-from-init c = search run_start

pub loop-from-preserved : goal.loop-from-preserved
loop-from-preserved c =
    let part = c.part.ensures in
    search (run_next _ _ _ _ _ _ _ _ c.loop-from.invariant (search rules) _ c.span_end-to.ensures.value _ _ part.old part.new)
