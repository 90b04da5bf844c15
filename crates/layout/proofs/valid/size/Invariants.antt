-- The invariant: the sum so far and what is left make the whole.
use Rattle.std.proofs.Common.{◌≡◌, ◌+◌, ◌*◌, ◌≤◌, length}
use Rattle.flashrules.specs.Layout.{max_classes, size_of, size}
use Rattle.layout.specs.Entries.{entries_left}
use Rattle.layout.proofs.valid.size.Given as goal

abbrev pub invariant-loop-len : goal.invariant-loop-len
invariant-loop-len l =
    (l.sum + size_of (entries_left l.len-iterator) ≡ size l.layout)
    × (l.sum + 65535 * length (entries_left l.len-iterator) ≤ 65535 * max_classes)
