-- The invariant: what was fed so far led to the state.
use Rattle.scriptrules.specs.Parser.{start, parser}
use Rattle.scriptrules.specs.Session.{report_number}
use Rattle.scripthost.specs.Checked.{Fed}
use Rattle.scripthost.proofs.script_file.parse_all.Given as goal

abbrev pub invariant-loop : goal.invariant-loop
invariant-loop g l = Fed (report_number l.kind) start 0 0 (parser l.parsed.state) l.parsed.count l.parsed.lines
