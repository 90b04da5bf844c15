-- By the step of the iterator: the part is the next block.
use Rattle.std.proofs.Common.{rules, arith, ◌∙◌}
use Rattle.imagewriter.proofs.WriteLaws.{block_next}
use Rattle.imagewriter.proofs.text.put_class.Goals as goal

pub loop-block-preserved : goal.loop-block-preserved
loop-block-preserved c =
    let s = c.in-Some.ensures.steps in
    let i = c.loop-block.invariant in
    let p = rw s.1 at c.put_line.ensures in (
      search rules,
      tt,
      s.0.0 ∙ i.2,
      i.3,
      rw s.2 (block_next _ _ _ _ _ _ _ _ i.4 _ _ _ _ s.0.1.0 (rw i.2 at s.0.1.1) s.0.1.2 (search rules) p (omega arith)),
    )
