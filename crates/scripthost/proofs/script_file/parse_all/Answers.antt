-- A chunk more was fed.
use Rattle.scripthost.proofs.CheckedLaws.{fed_on}
use Rattle.scripthost.proofs.script_file.parse_all.Goals as goal

pub loop-preserved : goal.loop-preserved
loop-preserved g c = fed_on _ _ _ _ _ _ _ _ _ _ c.loop.invariant c.feed_chunk-parsed.ensures
