-- What is held is run, and then more is read or not.
use Rattle.std.proofs.Common.{rules}
use Rattle.scriptrules.specs.Answer.{run_answer}
use Rattle.scriptrules.specs.Session.{report_number}
use Rattle.scripthost.proofs.EventLaws.{turn_ran, turn_read}
use Rattle.scripthost.proofs.pass.turn.Goals as goal

pub returns-then-ran-eq0-clause-turned : goal.returns-then-ran-eq0-clause-turned
returns-then-ran-eq0-clause-turned g c =
    let ran = c.run-ran.ensures.buffer_after in
    turn_read c.args.layout (report_number c.args.report) c.args.pending.now.session c.args.image.now c.run-ran.new.image c.args.buffer.now c.args.out.now c.run-ran.new.buffer
    c.args.pending.now.from c.args.pending.now.to (run_answer c.run-ran.result) (rw ran.1 at ran.2)
    c.refill.new.buffer c.refill.new.pending.from c.refill.new.pending.to c.refill.new.pending.session (search rules)
    c.refill.ensures.from_start c.refill.ensures.session_kept c.refill.ensures.longer

pub returns-clause-turned : goal.returns-clause-turned
returns-clause-turned g c =
    let ran = c.run-ran.ensures.buffer_after in
    turn_ran c.args.layout (report_number c.args.report) c.args.pending.now.session c.args.image.now c.run-ran.new.image c.args.buffer.now c.args.out.now c.run-ran.new.buffer
    c.args.pending.now.from c.args.pending.now.to (run_answer c.run-ran.result) (rw ran.1 at ran.2) (search rules)
