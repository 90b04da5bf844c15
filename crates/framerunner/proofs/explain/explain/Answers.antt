-- The line that is put out is that of the frame that was run.
use Rattle.causerules.specs.Answer.{track_answer}
use Rattle.scriptrules.specs.Given.{frame_given}
use Rattle.framerunner.specs.Answer.{frame_answer}
use Rattle.framerunner.proofs.ExplainLaws.{explained}
use Rattle.framerunner.proofs.explain.explain.Goals as goal

pub returns : goal.returns
returns c =
    explained c.args.layout c.args.image.now c.track_frame-tracked.new.image c.args.session c.args.buffer.now c.put_tracked.new.buffer c.args.at
    c.next_line-notes.result (track_answer c.track_frame-tracked.result) (frame_answer c.put_tracked.result) c.next_line-notes.ensures
    c.put_tracked.ensures.value c.put_tracked.ensures.buffer_after (frame_given c.args.frame) c.track_frame-tracked.ensures
