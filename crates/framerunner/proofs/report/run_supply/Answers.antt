use Rattle.scriptrules.specs.Frame.{supply_frame}
use Rattle.scriptrules.specs.Session.{runner}
use Rattle.scriptrules.specs.declared.session.Report.{Report}
use Rattle.framerunner.proofs.ExplainLaws.{reported}
use Rattle.framerunner.proofs.report.run_supply.Goals as goal

pub returns-in-Causes : goal.returns-in-Causes
returns-in-Causes c =
    reported c.args.layout c.args.report (runner c.args.session c.args.image.now) (supply_frame c.args.millivolts) c.args.buffer.now c.args.at
    Report.Causes c.from.result _ c.from.ensures c.in-Causes.is c.explain_supply.ensures

pub returns-in-Replies : goal.returns-in-Replies
returns-in-Replies c =
    reported c.args.layout c.args.report (runner c.args.session c.args.image.now) (supply_frame c.args.millivolts) c.args.buffer.now c.args.at
    Report.Replies c.from.result _ c.from.ensures c.in-Replies.is c.reply_supply.ensures
