-- Laws of sessions: how long is what a frame puts out, frames one behind the other, and that a
-- session puts out the replies of the replay, or the causes that the history names.
use Prim.Native.Nat.{ℕ, ◌+◌, ◌%◌, ◌^◌, ◌≤◌, ◌<◌}
use mathlib.Core.Path.{◌≡◌, refl, sym, ap, ◌∙◌}
use mathlib.Core.Bool.{true, false}
use mathlib.Core.List.{List, [], ◌∷◌, ◌++◌, append_assoc, append-nil}
use native.Mathlib.Omega.{arith}
use lib.Dec.{eqb}
use lib.ListN.{length}
use borrow.Author.Tests.{ltb-false, le-ltb}
use Rattle.flashrules.specs.Error.{wrong_checksum}
use Rattle.flashrules.specs.Outcome.{outcome}
use Rattle.flashrules.specs.declared.layout.Layout.{Layout}
use Rattle.flashrules.proofs.Picks.{on_test}
use Rattle.gaugerules.specs.Script.{after_call}
use Rattle.gaugerules.specs.Write.{write}
use Rattle.gaugerules.specs.declared.state.Gauge.{Gauge}
use Rattle.causerules.specs.History.{Step, write_steps}
use Rattle.causerules.specs.Cause.{reason_of, cause_text}
use Rattle.causerules.specs.Notes.{blank, next_line, max_lines, note_all, track, track_supply, tracked_text}
use Rattle.causerules.specs.Laws.{Remembers}
use Rattle.causerules.specs.declared.reason.Reason.{Reason}
use Rattle.causerules.specs.declared.notes.Notes.{Notes}
use Rattle.causerules.specs.declared.notes.TrackAnswer.{TrackAnswer}
use Rattle.causerules.proofs.Laws.{notes_remember, supply_remembered}
use Rattle.causerules.proofs.HistoryLaws.{notes_line}
use Rattle.causerules.proofs.SupplyLaws.{supply_itself}
use Rattle.scriptrules.specs.Frame.{Frame, write_frame, read_frame, supply_frame}
use Rattle.scriptrules.specs.Reply.{max_reply, reply_text, replies, after_frame}
use Rattle.scriptrules.specs.Replay.{replay}
use Rattle.scriptrules.specs.Why.{frame_steps, explanation, explanations, why}
use Rattle.scriptrules.specs.Run.{run_frame}
use Rattle.scriptrules.specs.Session.{report_causes, report_number, report_of, Runner, fresh_runner, device_of, track_frame, track_supply_frame, noted_text}
use Rattle.scriptrules.specs.Session.{frame_text, after_line, after_replied, outputs, after_lines}
use Rattle.scriptrules.specs.Laws.{ReportTaken, OutputLength, OutputWhole}
use Rattle.scriptrules.proofs.ReplyLaws.{reply_length}

-- ---- one frame

-- the number, four bytes and a checksum at most, and a line feed
cause_length : (e : ℕ) (g : Gauge) (line : ℕ) → length (cause_text e g line) ≤ max_reply
unfolding cause_text
cause_length e g line =
    on_test (eqb e 0) (λ p. rw p (omega arith))
    (λ p. rw p (on_test (eqb e wrong_checksum) (λ q. rw q (omega arith)) (λ q. rw q (omega arith))))

pub tracked_length : (t : TrackAnswer) → length (tracked_text t) ≤ max_reply
unfolding tracked_text
tracked_length t = cause_length _ _ _

noted_length : (l : Layout) (b : Runner) (f : Frame) → length (noted_text l b f) ≤ max_reply
noted_length l b (write_frame r bytes) = tracked_length (track_frame l b r bytes).answer
noted_length l b (read_frame r n) = omega arith
noted_length l b (supply_frame millivolts) = tracked_length (track_supply_frame l b millivolts)

pub output_length : OutputLength
unfolding frame_text
output_length l report b f =
    on_test (eqb report report_causes) (λ p. rw p (noted_length l b f)) (λ p. rw p (reply_length l (device_of b) f))

-- ---- frames one behind the other

pub outputs_append : (l : Layout) (report : ℕ) (b : Runner) (fs gs : List Frame) → outputs l report b (fs ++ gs) ≡ outputs l report b fs ++ outputs l report (after_lines l report b fs) gs
outputs_append l report b [] gs = refl
outputs_append l report b (f ∷ fs) gs = rw (outputs_append l report (after_line l report b f) fs gs, append_assoc)

-- ---- a session that reports replies

reports_replies : (l : Layout) (report : ℕ) (b : Runner) (fs : List Frame) → eqb report report_causes ≡ false → outputs l report b fs ≡ replies l (device_of b) fs
unfolding frame_text after_line
reports_replies l report b [] p = refl
reports_replies l report b (f ∷ fs) p =
    rw p (ap (λ (x : List ℕ). reply_text l (device_of b) f ++ x) (reports_replies l report (after_replied l b f) fs p))

-- ---- a session that reports causes: its notes are worth the history

next_remembers : (n : Notes) (h : List Step) → Remembers n h → Remembers (next_line n) h
next_remembers n h m Reason.Itself = refl
next_remembers n h m Reason.Sealed = m Reason.Sealed
next_remembers n h m Reason.NothingLoaded = m Reason.NothingLoaded
next_remembers n h m Reason.Protected = m Reason.Protected
next_remembers n h m Reason.Class = m Reason.Class
next_remembers n h m Reason.Window = m Reason.Window

-- a frame as the line behind those that were noted
module _ (l : Layout) (report : ℕ) (b : Runner) (h : List Step) (m : Remembers b.session.notes h) (p : eqb report report_causes ≡ true)
    (few : b.session.notes.line < max_lines) where
  abbrev line : ℕ
  line = b.session.notes.line + 1

  counted : line % 2 ^ 32 ≡ line
  counted = omega arith

  noted_text_lem : (f : Frame) → frame_text l report b f ≡ explanation l (device_of b) h line f
  unfolding frame_text tracked_text track_frame track track_supply_frame track_supply explanation outcome
  noted_text_lem (write_frame r bytes) =
      let w = (write l b.image b.session.gauge r bytes).answer in
      let n = next_line b.session.notes in
      let steps = write_steps l b.image b.session.gauge n.line r bytes in
      let is = notes_remember n h steps (next_remembers b.session.notes h m) (reason_of w.error w.gauge) in
      rw (p, is, notes_line n steps, counted)
  noted_text_lem (read_frame r n) = rw p
  noted_text_lem (supply_frame millivolts) = rw (p, supply_itself l (length b.image) b.session.gauge _ millivolts, counted)

  -- k is its number
  write_remembers : (r : ℕ) (bytes : List ℕ) (k : ℕ) → let n = next_line b.session.notes in
      k ≡ n.line → let steps = write_steps l b.image b.session.gauge in
      Remembers (note_all n (steps n.line r bytes)) (h ++ steps k r bytes)
  write_remembers r bytes k e =
      rw e
      (notes_remember (next_line b.session.notes) h (write_steps l b.image b.session.gauge (next_line b.session.notes).line r bytes)
      (next_remembers b.session.notes h m))

  noted_after : (f : Frame) → (device_of (after_line l report b f) ≡ after_frame l (device_of b) f) × ((after_line l report b f).session.notes.line ≡ line)
      × Remembers (after_line l report b f).session.notes (h ++ frame_steps l (device_of b) line f)
  unfolding after_line track_frame track track_supply_frame track_supply outcome after_frame after_call
  noted_after (write_frame r bytes) =
      let n = next_line b.session.notes in
      let steps = write_steps l b.image b.session.gauge n.line r bytes in
      rw p (refl, notes_line n steps ∙ counted, write_remembers r bytes line (sym counted))
  noted_after (read_frame r n) = rw (p, append-nil) (refl, counted, next_remembers b.session.notes h m)
  noted_after (supply_frame millivolts) =
      rw p
      (refl, counted, supply_remembered l (length b.image) b.session.gauge line millivolts _ h (next_remembers b.session.notes h m))

reports_causes : (l : Layout) (report : ℕ) (b : Runner) (h : List Step) (fs : List Frame) → eqb report report_causes ≡ true
    → Remembers b.session.notes h
    → b.session.notes.line + length fs ≤ max_lines
    → outputs l report b fs ≡ explanations l (device_of b) h (b.session.notes.line + 1) fs
reports_causes l report b h [] p m few = refl
reports_causes l report b h (f ∷ fs) p m few =
    let a = noted_after l report b h m p (omega arith) f in
    let rest = reports_causes l report (after_line l report b f) (h ++ frame_steps l (device_of b) (b.session.notes.line + 1) f) fs p a.2
    (omega (arith, a.1)) in
    rw (noted_text_lem l report b h m p (omega arith) f, rest, a.0, a.1)

-- ---- the whole output

blank_remembers : Remembers blank []
blank_remembers Reason.Itself = refl
blank_remembers Reason.Sealed = refl
blank_remembers Reason.NothingLoaded = refl
blank_remembers Reason.Protected = refl
blank_remembers Reason.Class = refl
blank_remembers Reason.Window = refl

pub output_whole : OutputWhole
unfolding replay why
output_whole report x y l bytes fs p q t =
    on_test (eqb report report_causes)
    (λ e.
    let few = ltb-false max_lines (length fs) (rw e at t) in
    rw (e, p, q, le-ltb max_lines (length fs) few) (reports_causes l report (fresh_runner bytes) [] fs e (blank_remembers) (omega arith)))
    (λ e. rw (e, p, q) (reports_replies l report (fresh_runner bytes) fs e))

-- of one frame too
pub frame_taken : (l : Layout) (report : ℕ) (b : Runner) (f : Frame) (buffer : List ℕ) (at : ℕ)
    → run_frame l (report_number (report_of report)) b f buffer at ≡ run_frame l report b f buffer at
unfolding run_frame frame_text after_line
frame_taken l report b f buffer at = on_test (eqb report report_causes) (λ p. rw p) (λ p. rw p)

pub report_taken : ReportTaken
report_taken report x y = on_test (eqb report report_causes) (λ p. rw p) (λ p. rw p)
