-- By the steps of the iterator: the entry is the next class.
use Rattle.std.proofs.Common.{rules}
use Rattle.layout.proofs.EntryLaws.{left_next, left_none}
use Rattle.delta.proofs.TextLaws.{class_start, class_end, class_text_lem, class_next}
use Rattle.delta.proofs.text.put_runs.Goals as goal

pub loop-class-init : goal.loop-class-init
loop-class-init c = ((tt, tt), tt, class_start _ _ _ _ _ (search rules) c.requires)

pub loop-class-preserved : goal.loop-class-preserved
loop-class-preserved c =
    let e = left_next c.loop-class.class-iterator c.next.new.self c.in-Some.class c.in-Some.n c.in-Some.ensures.steps in
    let v = c.loop-class.invariant.2 in
    let a = c.put_class-out.ensures in (
      (tt, tt),
      tt,
      class_next _ _ _ _ _ _ _ _ _ v _ _ e _ _ _ _ (search rules) (search rules) (search rules) (search rules) _ _
          (search rules) a.buffer_after a.value.0 a.value.1,
    )

pub returns-clause-value : goal.returns-clause-value
returns-clause-value c =
    let v = c.loop-class.invariant.2 in
    class_end _ _ _ _ _ _ _ _ _ v (left_none c.loop-class.class-iterator c.next.new.self c.in-None.ensures.steps)

pub returns-clause-buffer_after : goal.returns-clause-buffer_after
returns-clause-buffer_after c =
    let v = c.loop-class.invariant.2 in
    class_text_lem _ _ _ _ _ _ _ _ _ v (left_none c.loop-class.class-iterator c.next.new.self c.in-None.ensures.steps)
