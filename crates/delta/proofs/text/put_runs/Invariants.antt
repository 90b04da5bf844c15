-- The invariant: what is left to write gives what the whole gives.
use Rattle.layout.specs.Entries.{entries_left}
use Rattle.delta.proofs.TextLaws.{ClassAt}
use Rattle.delta.proofs.text.put_runs.Given as goal

abbrev pub invariant-loop-class : goal.invariant-loop-class
invariant-loop-class l =
    goal.iterator-loop-class.can_next l.class-iterator
    × goal.iterator-loop-class.is_finite l.class-iterator
    × ClassAt l.fn.layout l.pair.old.now l.pair.new.now l.initial.buffer (entries_left l.class-iterator) l.rest.old.now l.rest.new.now l.out l.buffer
