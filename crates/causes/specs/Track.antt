-- What the loop over a write's bytes does.
use Rattle.std.specs.Prelude.{ℕ, List}
use Rattle.flashrules.specs.Outcome.{Outcome, outcome}
use Rattle.flashrules.specs.declared.layout.Layout.{Layout}
use Rattle.gaugerules.specs.Write.{write_bytes}
use Rattle.gaugerules.specs.declared.state.Gauge.{Gauge}
use Rattle.causerules.specs.History.{byte_steps}
use Rattle.causerules.specs.Notes.{note_all, tracked}
use Rattle.causerules.specs.declared.notes.Notes.{Notes}
use Rattle.causerules.specs.declared.notes.TrackAnswer.{TrackAnswer}

-- `track` (causerules) past the checks of the call, from register r on
unfoldable pub track_bytes : Layout → List ℕ → Gauge → Notes → ℕ → List ℕ → Outcome TrackAnswer (List ℕ)
track_bytes l image g n r bs =
    let w = write_bytes l image g r 0 0 bs in
    outcome (tracked w.answer.error w.answer.gauge (note_all n (byte_steps l image g n.line r bs))) w.lent
