-- By the steps of the iterator: the entry is the next class.
use Rattle.std.proofs.Common.{rules, arith}
use Rattle.layout.proofs.EntryLaws.{left_next, left_none}
use Rattle.imagewriter.proofs.WriteLaws.{class_start, class_end, part_small, part_room, class_next}
use Rattle.imagewriter.proofs.text.put_text.Goals as goal

pub loop-class-init : goal.loop-class-init
loop-class-init c = ((tt, tt), tt, class_start _ _ _ _ (search rules) c.requires.0 c.requires.1)

pub put_class-requires : goal.put_class-requires
put_class-requires c =
    let e = left_next c.loop-class.class-iterator c.next.new.self c.in-Some.class c.in-Some.n c.in-Some.ensures.steps in
    let v = c.loop-class.invariant.2 in
    (omega (arith, part_small _ _ _ _ _ _ _ v _ _ e), omega (arith, part_room _ _ _ _ _ _ _ v _ _ e))

pub loop-class-preserved : goal.loop-class-preserved
loop-class-preserved c =
    let e = left_next c.loop-class.class-iterator c.next.new.self c.in-Some.class c.in-Some.n c.in-Some.ensures.steps in
    let v = c.loop-class.invariant.2 in
    ((tt, tt), tt, class_next _ _ _ _ _ _ _ v _ _ e _ _ _ _ (search rules) (search rules) (search rules) c.put_class.ensures (search rules))

pub returns : goal.returns
returns c = class_end _ _ _ _ _ _ _ c.loop-class.invariant.2 (left_none c.loop-class.class-iterator c.next.new.self c.in-None.ensures.steps)
