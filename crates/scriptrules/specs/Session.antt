-- A session: what is carried from line to line, and what a line puts out. The loop over the lines
-- of a script is one, for the replay and for `why`: a report says which of the two it is.
use Rattle.std.specs.Prelude.{ℕ, ◌+◌, Bool, false, cond, List, [], ◌∷◌, ◌++◌, eqb, ltb, length}
use Rattle.flashrules.specs.Outcome.{Outcome}
use Rattle.flashrules.specs.declared.layout.Layout.{Layout}
use Rattle.gaugerules.specs.State.{boot_sealed, power_on}
use Rattle.gaugerules.specs.Script.{Device, device}
use Rattle.gaugerules.specs.declared.state.Gauge.{Gauge}
use Rattle.causerules.specs.Notes.{blank, next_line, max_lines, track, track_supply, tracked_text}
use Rattle.causerules.specs.declared.notes.Notes.{Notes}
use Rattle.causerules.specs.declared.notes.TrackAnswer.{TrackAnswer}
use Rattle.scriptrules.specs.Frame.{Frame, write_frame, read_frame, supply_frame}
use Rattle.scriptrules.specs.Reply.{reply_text, after_frame}
use Rattle.scriptrules.specs.Replay.{replay}
use Rattle.scriptrules.specs.Why.{why}
use Rattle.scriptrules.specs.declared.session.Report.{Report}
use Rattle.scriptrules.specs.declared.session.Session.{Session}

-- ---- reports

abbrev pub report_replies : ℕ
report_replies = 0

abbrev pub report_causes : ℕ
report_causes = 1

-- causes, or replies: any other number is taken as replies
module _ {A : Type 0} where
  abbrev pub by_report : ℕ → A → A → A
  by_report report causes replies = cond (eqb report report_causes) causes replies

-- the two as the values of one type, and that of any number
abbrev pub report_number : Report → ℕ
report_number Report.Replies = report_replies
report_number Report.Causes = report_causes

abbrev pub report_of : ℕ → Report
report_of report = by_report report Report.Causes Report.Replies

-- what is to be printed of an image file's text and a script's text
abbrev pub output : ℕ → List ℕ → List ℕ → List ℕ
output report x y = by_report report (why x y) (replay x y)

-- C-13: "for this tool a script of more lines than four bytes can count breaks its rules"
abbrev pub too_long : ℕ → ℕ → Bool
too_long report lines = by_report report (ltb max_lines lines) false

-- one line more than may be counted
abbrev pub too_many : ℕ
too_many = max_lines + 1

-- so many lines more than k, and no more than one too many; where their number does not matter they
-- are not counted
abbrev pub count_on : ℕ → ℕ → ℕ → ℕ
count_on report k lines = by_report report (cond (ltb max_lines (k + lines)) too_many (k + lines)) k

-- ---- sessions

abbrev pub session : Gauge → Notes → Session
session g n = record { gauge = g; notes = n }

-- powered on sealed, before the first line
abbrev pub fresh_session : Session
fresh_session = session (power_on boot_sealed) blank

-- a session with the image that it is lent
pub record Runner : Type 0 where
  pub session : Session
  pub image : List ℕ

abbrev pub runner : Session → List ℕ → Runner
runner s image = record { session = s; image = image }

abbrev pub fresh_runner : List ℕ → Runner
fresh_runner bytes = runner fresh_session bytes

abbrev pub device_of : Runner → Device
device_of b = device b.session.gauge b.image

-- ---- one frame, noted as the next line

unfoldable pub track_frame : Layout → Runner → ℕ → List ℕ → Outcome TrackAnswer (List ℕ)
track_frame l b r bytes = track l b.image b.session.gauge (next_line b.session.notes) r bytes

unfoldable pub track_supply_frame : Layout → Runner → ℕ → TrackAnswer
track_supply_frame l b millivolts =
    track_supply l (length b.image) b.session.gauge (next_line b.session.notes) millivolts

-- a read is a line too
abbrev pub noted_text : Layout → Runner → Frame → List ℕ
noted_text l b (write_frame r bytes) = tracked_text (track_frame l b r bytes).answer
noted_text l b (read_frame r n) = []
noted_text l b (supply_frame millivolts) = tracked_text (track_supply_frame l b millivolts)

abbrev pub after_noted : Layout → Runner → Frame → Runner
after_noted l b (write_frame r bytes) =
    let t = track_frame l b r bytes in
    runner (session t.answer.gauge t.answer.notes) t.lent
after_noted l b (read_frame r n) =
    runner (session b.session.gauge (next_line b.session.notes)) b.image
after_noted l b (supply_frame millivolts) =
    let t = track_supply_frame l b millivolts in runner (session t.gauge t.notes) b.image

-- ---- one frame, replied to

abbrev pub after_replied : Layout → Runner → Frame → Runner
after_replied l b f =
    let d = after_frame l (device_of b) f in
    runner (session d.gauge b.session.notes) d.image

-- ---- what a frame puts out, and what it leaves

unfoldable pub frame_text : Layout → ℕ → Runner → Frame → List ℕ
frame_text l report b f = by_report report (noted_text l b f) (reply_text l (device_of b) f)

unfoldable pub after_line : Layout → ℕ → Runner → Frame → Runner
after_line l report b f = by_report report (after_noted l b f) (after_replied l b f)

-- ---- frames one after the other

abbrev pub outputs : Layout → ℕ → Runner → List Frame → List ℕ
outputs l report b [] = []
outputs l report b (f ∷ fs) = frame_text l report b f ++ outputs l report (after_line l report b f) fs

abbrev pub after_lines : Layout → ℕ → Runner → List Frame → Runner
after_lines l report b [] = b
after_lines l report b (f ∷ fs) = after_lines l report (after_line l report b f) fs
