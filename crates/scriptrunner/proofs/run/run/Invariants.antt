-- The invariant: the lines that are left give what the whole text gives. What is left gets shorter.
use Rattle.std.proofs.Common.{◌≡◌, ◌-◌, ◌≤◌, length, drop}
use Rattle.std.specs.Prelude.{None}
use Rattle.scriptrules.specs.Frame.{lines_of}
use Rattle.scriptrules.specs.Run.{run_lines, run}
use Rattle.scriptrunner.proofs.run.run.Given as goal

abbrev pub invariant-loop-progress : goal.invariant-loop-progress
invariant-loop-progress g l = record {
  whole : run_lines l.layout l.number l.image l.progress.session (lines_of (drop l.progress.next l.text)) l.buffer l.progress.next l.progress.length ≡ run l.layout l.number l.initial.image l.initial.progress.session l.text l.initial.buffer;
  error : l.progress.error ≡ None;
  next : l.progress.next ≤ length l.text;
  used : l.progress.length ≤ length l.buffer;
}

abbrev pub decreases-loop-progress : goal.decreases-loop-progress
decreases-loop-progress g l = length l.text - l.progress.next
