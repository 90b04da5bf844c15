-- The invariant: what is filled, and then what is left to fill, is the whole.
use Rattle.std.proofs.Common.{◌≡◌, ◌+◌, ◌-◌, ◌++◌, length, take}
use Rattle.gaugerules.specs.Read.{read_bytes}
use Rattle.gauge.proofs.read.fill.Given as goal

abbrev pub invariant-loop-i : goal.invariant-loop-i
invariant-loop-i l =
    take l.i l.buffer ++ read_bytes l.gauge (l.register + l.i) (length l.fn.buffer - l.i) ≡ read_bytes l.gauge l.register (length l.fn.buffer)
