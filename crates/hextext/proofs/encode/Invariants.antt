-- The invariant: what is left to write gives what the whole gives.
use Rattle.std.proofs.Common.{◌≡◌, drop, length}
use Rattle.std.proofs.lemmas.List.Edits.{sets}
use Rattle.hextext.specs.Hex.{hex}
use Rattle.hextext.proofs.encode.Given as goal

abbrev pub invariant-loop-byte : goal.invariant-loop-byte
invariant-loop-byte l =
    (sets l.buffer l.out (hex (drop l.byte-index l.bytes)) ≡ sets l.fn.buffer l.at (hex l.bytes))
    × (length l.buffer ≡ length l.fn.buffer)
