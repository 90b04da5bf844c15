-- The invariant: what is left to write gives what the whole gives.
use Rattle.layout.specs.Entries.{entries_left}
use Rattle.imagewriter.proofs.WriteLaws.{ClassAt}
use Rattle.imagewriter.proofs.text.put_text.Given as goal

abbrev pub invariant-loop-class : goal.invariant-loop-class
invariant-loop-class l =
    (goal.iterator-loop-class).can_next l.class-iterator
    × (goal.iterator-loop-class).is_finite l.class-iterator
    × ClassAt l.fn.layout l.image l.initial.buffer (entries_left l.class-iterator) l.rest l.out l.buffer
