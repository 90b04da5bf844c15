-- What goes into a buffer where causes are reported.
use Rattle.std.proofs.Common.{◌≡◌, ◌∙◌, ap, ℕ, ◌≤◌, List, length}
use Rattle.std.proofs.lemmas.List.Edits.{sets}
use Rattle.flashrules.specs.Outcome.{Outcome, outcome}
use Rattle.flashrules.specs.declared.layout.Layout.{Layout}
use Rattle.causerules.specs.declared.notes.TrackAnswer.{TrackAnswer}
use Rattle.causerules.specs.Cause.{cause_text}
use Rattle.causerules.specs.Notes.{next_line, tracked, track_supply, tracked_text}
use Rattle.causerules.specs.declared.notes.Notes.{Notes}
use Rattle.scriptrules.specs.Frame.{Frame, write_frame, read_frame, supply_frame}
use Rattle.scriptrules.specs.Reply.{max_reply}
use Rattle.scriptrules.specs.Session.{report_causes, report_number, report_of, session, Runner, runner, frame_text, after_line}
use Rattle.scriptrules.specs.Answer.{LineAnswer}
use Rattle.scriptrules.specs.Run.{Lent, lend, answered, run_frame}
use Rattle.scriptrules.specs.declared.session.Session.{Session}
use Rattle.scriptrules.specs.declared.session.Report.{Report}
use Rattle.scriptrules.proofs.SessionLaws.{tracked_length, frame_taken}
use Rattle.framerunner.specs.Track.{track_frame}

-- t is what a frame came to, and a what is answered of it
module _ (l : Layout) (image image' : List ℕ) (s : Session) (buffer buffer' : List ℕ) (at : ℕ) (n : Notes) (t : TrackAnswer) (a : LineAnswer) (e : n ≡ next_line s.notes)
    (k : a ≡ answered 0 (session t.gauge t.notes) (length (tracked_text t))) (q : buffer' ≡ sets buffer at (tracked_text t)) where
  pub explained : (f : Frame) → outcome t image' ≡ track_frame l image s.gauge n f
      → outcome a (lend image' buffer') ≡ run_frame l report_causes (runner s image) f buffer at
  unfolding run_frame frame_text after_line Rattle.scriptrules.specs.Session.track_frame Rattle.scriptrules.specs.Session.track_supply_frame outcome tracked_text cause_text
  explained (write_frame r bytes) p = rw (q, k, ← e, ← p)
  explained (read_frame r c) p =
      let x : t ≡ tracked 0 s.gauge n = ap (λ (o : Outcome TrackAnswer (List ℕ)). o.answer) p in
      let y : image' ≡ image = ap (λ (o : Outcome TrackAnswer (List ℕ)). o.lent) p in
      rw (q, k, x, y, e)
  explained (supply_frame millivolts) p =
      let x : t ≡ track_supply l (length image) s.gauge n millivolts = ap (λ (o : Outcome TrackAnswer (List ℕ)). o.answer) p in
      let y : image' ≡ image = ap (λ (o : Outcome TrackAnswer (List ℕ)). o.lent) p in
      rw (q, k, x, y, e)

pub read_explained : (l : Layout) (image buffer : List ℕ) (s : Session) (r c at : ℕ) (a : LineAnswer) → a ≡ answered 0 (session s.gauge (next_line s.notes)) 0
    → outcome a (lend image buffer) ≡ run_frame l report_causes (runner s image) (read_frame r c) buffer at
unfolding run_frame frame_text after_line
read_explained l image buffer s r c at a k = rw k

-- what was reported by a report's value, by the number that it was taken from
pub reported : (l : Layout) (report : ℕ) (b : Runner) (f : Frame) (buffer : List ℕ) (at : ℕ) (j k : Report) (z : Outcome LineAnswer Lent)
    → k ≡ report_of report → k ≡ j → z ≡ run_frame l (report_number j) b f buffer at → z ≡ run_frame l report b f buffer at
reported l report b f buffer at j k z p q x =
    let y : z ≡ run_frame l (report_number (report_of report)) b f buffer at = rw (← q, p) at x in y ∙ frame_taken l report b f buffer at

pub explained_short : (t : TrackAnswer) (m : ℕ) → m ≡ length (tracked_text t) → m ≤ max_reply
explained_short t m p = rw p (tracked_length t)

pub ruleset explains = (explained_short)
