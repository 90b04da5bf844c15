-- The invariant: what is left to test gives what the whole gives.
use Rattle.std.proofs.Common.{◌≡◌}
use Rattle.flashrules.specs.Layout.{classes, ordered}
use Rattle.layout.specs.Entries.{entries_left}
use Rattle.layout.proofs.valid.ordered.Given as goal

abbrev pub invariant-loop-id : goal.invariant-loop-id
invariant-loop-id l = ordered l.lo (entries_left l.id-iterator) ≡ ordered 0 (classes l.layout)
