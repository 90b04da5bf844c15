use Rattle.scriptrules.specs.Frame.{read_frame}
use Rattle.scriptrules.specs.Session.{runner}
use Rattle.scriptrules.specs.declared.session.Report.{Report}
use Rattle.framerunner.specs.Answer.{frame_answer}
use Rattle.framerunner.proofs.ExplainLaws.{read_explained, reported}
use Rattle.framerunner.proofs.report.run_read.Goals as goal

pub returns-in-Causes : goal.returns-in-Causes
returns-in-Causes c =
    reported c.args.layout c.args.report (runner c.args.session c.args.image.now) (read_frame c.args.register c.args.count) c.args.buffer.now c.args.at
    Report.Causes c.from.result _ c.from.ensures c.in-Causes.is
    (read_explained c.args.layout c.args.image.now c.args.buffer.now c.args.session c.args.register c.args.count c.args.at (frame_answer c.explain_read.result) c.explain_read.ensures)

pub returns-in-Replies : goal.returns-in-Replies
returns-in-Replies c =
    reported c.args.layout c.args.report (runner c.args.session c.args.image.now) (read_frame c.args.register c.args.count) c.args.buffer.now c.args.at
    Report.Replies c.from.result _ c.from.ensures c.in-Replies.is c.reply_read.ensures
