-- The invariant: the sum so far.
use Rattle.std.proofs.Common.{◌≡◌, ◌*◌, ◌≤◌, take}
use Rattle.std.specs.Prelude.{sum_by}
use Rattle.imagerules.specs.Text.{class_length}
use Rattle.imagewriter.proofs.text.text_length.Given as goal

abbrev pub invariant-loop-n : goal.invariant-loop-n
invariant-loop-n l = (l.sum ≡ sum_by class_length (take l.n-index l.n-items)) × (l.sum ≤ 200000 * l.n-index)
