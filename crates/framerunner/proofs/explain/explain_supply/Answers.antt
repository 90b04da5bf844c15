-- The line that is put out is that of the supply.
use Rattle.std.proofs.Common.{ap}
use Rattle.flashrules.specs.Outcome.{outcome}
use Rattle.causerules.specs.Answer.{track_answer}
use Rattle.scriptrules.specs.Frame.{supply_frame}
use Rattle.framerunner.specs.Answer.{frame_answer}
use Rattle.framerunner.proofs.ExplainLaws.{explained}
use Rattle.framerunner.proofs.explain.explain_supply.Goals as goal

pub returns : goal.returns
returns c =
    explained c.args.layout c.args.image.now c.args.image.now c.args.session c.args.buffer.now c.put_tracked.new.buffer c.args.at
    c.next_line-notes.result (track_answer c.track_supply-tracked.result) (frame_answer c.put_tracked.result) c.next_line-notes.ensures
    c.put_tracked.ensures.value c.put_tracked.ensures.buffer_after (supply_frame c.args.millivolts)
    (ap (λ t. outcome t c.args.image.now) c.track_supply-tracked.ensures)
