-- The invariant: what is left to write gives what the whole gives.
use Rattle.std.proofs.Common.{◌≡◌, ◌+◌, drop}
use Rattle.causes.specs.Track.{track_bytes}
use Rattle.causes.proofs.track.track_bytes.Given as goal

abbrev pub invariant-loop-i : goal.invariant-loop-i
invariant-loop-i l =
    track_bytes l.layout l.image l.next l.noted (l.register + l.i) (drop l.i l.bytes) ≡ track_bytes l.layout l.fn.image l.fn.gauge l.fn.notes l.register l.bytes
