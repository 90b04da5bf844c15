-- The invariant: events of a host led here.
use Rattle.std.proofs.Common.{◌≤◌, [], length}
use Rattle.scriptrules.specs.Session.{report_number, runner, fresh_runner}
use Rattle.scripthost.specs.Held.{held, ByEvents}
use Rattle.scripthost.proofs.pass.turns.Given as goal

abbrev pub invariant-loop : goal.invariant-loop
invariant-loop g l = record {
  events : ByEvents l.layout (report_number l.report) (fresh_runner l.initial.image) [] (runner l.pending.session l.image) (held l.buffer l.pending.from l.pending.to);
  from : l.pending.from ≤ l.pending.to;
  to : l.pending.to ≤ length l.buffer;
}
