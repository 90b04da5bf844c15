-- A frame whose bytes are noted: a write and a supply as the rules note them, and a read, of which
-- nothing is noted.
use Rattle.std.specs.Prelude.{ℕ, List, length}
use Rattle.flashrules.specs.Outcome.{Outcome, outcome}
use Rattle.flashrules.specs.declared.layout.Layout.{Layout}
use Rattle.gaugerules.specs.declared.state.Gauge.{Gauge}
use Rattle.causerules.specs.declared.notes.TrackAnswer.{TrackAnswer}
use Rattle.causerules.specs.Notes.{tracked, track, track_supply}
use Rattle.causerules.specs.declared.notes.Notes.{Notes}
use Rattle.scriptrules.specs.Frame.{Frame, write_frame, read_frame, supply_frame}

abbrev pub track_frame : Layout → List ℕ → Gauge → Notes → Frame → Outcome TrackAnswer (List ℕ)
track_frame l image g n (write_frame r bytes) = track l image g n r bytes
track_frame l image g n (read_frame r count) = outcome (tracked 0 g n) image
track_frame l image g n (supply_frame millivolts) = outcome (track_supply l (length image) g n millivolts) image
