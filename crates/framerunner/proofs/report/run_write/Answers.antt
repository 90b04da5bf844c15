use Rattle.std.proofs.Common.{refl}
use Rattle.scriptrules.specs.Frame.{write_frame}
use Rattle.scriptrules.specs.Session.{runner}
use Rattle.framerunner.proofs.ExplainLaws.{reported}
use Rattle.framerunner.proofs.report.run_write.Goals as goal

pub returns : goal.returns
returns c =
    reported c.args.layout c.args.report (runner c.args.session c.args.image.now) (write_frame c.args.register c.args.bytes.now) c.args.buffer.now c.args.at
    c.from-report.result c.from-report.result _ c.from-report.ensures refl c.run_frame.ensures
