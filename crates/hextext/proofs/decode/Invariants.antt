-- The invariant: what is left to read gives what the whole gives.
use Rattle.std.proofs.Common.{◌≡◌, length}
use Rattle.std.proofs.lemmas.List.Edits.{sets}
use Rattle.std.specs.Slice.Iter.{chunks_exact_rest, chunks_exact_size}
use Rattle.hextext.specs.Hex.{unhex}
use Rattle.hextext.proofs.decode.Given as goal

abbrev pub invariant-loop-digits : goal.invariant-loop-digits
invariant-loop-digits l =
    (chunks_exact_size l.digits-iterator ≡ 2)
    × (sets l.buffer l.out (unhex (chunks_exact_rest l.digits-iterator)) ≡ sets l.fn.buffer l.at (unhex l.text))
    × (length l.buffer ≡ length l.fn.buffer)
