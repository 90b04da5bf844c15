-- Two bytes and four, in two's complement: the laws take that each byte is less than 256.
use Rattle.std.proofs.Common.{rules}
use Rattle.integers.proofs.ByteLaws.{reads}
use Rattle.integers.proofs.bytes.integer_of.Goals as goal

pub returns-in-I16 : goal.returns-in-I16
returns-in-I16 c = search (rules, reads)

pub returns-in-I32 : goal.returns-in-I32
returns-in-I32 c = search (rules, reads)
