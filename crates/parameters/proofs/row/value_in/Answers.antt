-- The image is copied to the front of a buffer.
use Rattle.std.proofs.Common.{rules}
use Rattle.parameters.proofs.FetchLaws.{value_read}
use Rattle.parameters.proofs.row.value_in.Goals as goal

pub returns : goal.returns
returns c = search (rules, value_read)
