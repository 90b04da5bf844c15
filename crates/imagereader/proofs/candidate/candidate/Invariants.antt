-- The invariant: what is left of the text gives what the whole gives.
use Rattle.imagereader.proofs.CandidateLaws.{LineAt}
use Rattle.imagereader.proofs.candidate.candidate.Given as goal

abbrev pub invariant-loop-n : goal.invariant-loop-n
invariant-loop-n l = LineAt l.text l.initial.buffer l.classes.layout l.at l.out l._n l.buffer
