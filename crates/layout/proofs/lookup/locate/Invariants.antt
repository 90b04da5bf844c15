-- The invariant: what is left to search gives what the whole gives.
use Rattle.std.proofs.Common.{◌≡◌, ◌+◌, ◌*◌, ◌≤◌, length}
use Rattle.flashrules.specs.Layout.{max_classes, classes, locate}
use Rattle.layout.specs.Entries.{entries_left}
use Rattle.layout.proofs.lookup.locate.Given as goal

abbrev pub invariant-loop-id : goal.invariant-loop-id
invariant-loop-id l =
    (locate l.start (entries_left l.id-iterator) l.class ≡ locate 0 (classes l.layout) l.class)
    × (l.start + 65535 * length (entries_left l.id-iterator) ≤ 65535 * max_classes)
