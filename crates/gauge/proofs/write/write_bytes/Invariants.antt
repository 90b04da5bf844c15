-- The invariant: what is left to write gives what the whole gives; each byte changes no more than a
-- block has.
use Rattle.std.proofs.Common.{◌≡◌, ◌+◌, ◌*◌, ◌≤◌, length, drop}
use Rattle.flashrules.specs.Lookup.{block_size}
use Rattle.gaugerules.specs.Write.{write_bytes}
use Rattle.gauge.proofs.write.write_bytes.Given as goal

abbrev pub invariant-loop-i : goal.invariant-loop-i
invariant-loop-i l =
    (write_bytes l.layout l.image l.next (l.register + l.i) l.i l.changed (drop l.i l.bytes) ≡ write_bytes l.layout l.fn.image l.fn.gauge l.register 0 0 l.bytes)
    × (length l.next.window ≡ block_size) × (l.changed ≤ block_size * l.i)
