-- By the line at each turn.
use Rattle.std.proofs.Common.{rules}
use Rattle.imagereader.proofs.CandidateLaws.{line_start, line_inside, line_next}
use Rattle.imagereader.proofs.candidate.candidate.Goals as goal

pub loop-n-init : goal.loop-n-init
loop-n-init c = search (rules, line_start)

pub take_line-class-requires : goal.take_line-class-requires
take_line-class-requires c = let line = c.in-Some.ensures in search line_inside

pub loop-n-preserved : goal.loop-n-preserved
loop-n-preserved c = let line = c.in-Some.ensures in search (rules, line_next)
