-- The invariant: what is left to parse leads from the state to the whole's.
use Rattle.std.proofs.Common.{◌≡◌, drop}
use Rattle.scriptrules.specs.Parser.{parser, feed}
use Rattle.scriptparser.proofs.feed.Given as goal

abbrev pub invariant-loop-c : goal.invariant-loop-c
invariant-loop-c l = feed (parser l.after) (drop l.c-index l.chunk) ≡ feed (parser l.fn.state) l.fn.chunk
