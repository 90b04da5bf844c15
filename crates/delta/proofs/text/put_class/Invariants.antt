-- The invariant: what is left to write gives what the whole gives.
use Rattle.std.proofs.Common.{◌-◌, length}
use Rattle.delta.proofs.TextLaws.{RunAt}
use Rattle.delta.proofs.text.put_class.Given as goal

abbrev pub invariant-loop-from : goal.invariant-loop-from
invariant-loop-from l = RunAt l.class l.at l.pair.old.now l.pair.new.now l.initial.buffer l.from l.out l.buffer

abbrev pub decreases-loop-from : goal.decreases-loop-from
decreases-loop-from l = length l.pair.old.now - l.from
