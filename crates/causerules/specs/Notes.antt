-- What is noted of a history: for each reason the line that a refusal would name. So a script of
-- any length can be run, and none of its history kept.
use Rattle.std.specs.Prelude.{ℕ, ◌+◌, ◌%◌, ◌^◌, cond, List, [], ◌∷◌}
use Rattle.flashrules.specs.Outcome.{Outcome, outcome}
use Rattle.flashrules.specs.declared.layout.Layout.{Layout}
use Rattle.gaugerules.specs.Write.{write}
use Rattle.gaugerules.specs.Supply.{set_supply}
use Rattle.gaugerules.specs.declared.state.Gauge.{Gauge}
use Rattle.causerules.specs.History.{Step, write_steps}
use Rattle.causerules.specs.Cause.{gives, reason_of, cause_text}
use Rattle.causerules.specs.declared.reason.Reason.{Reason}
use Rattle.causerules.specs.declared.notes.Notes.{Notes}
use Rattle.causerules.specs.declared.notes.TrackAnswer.{TrackAnswer}

abbrev pub notes : ℕ → ℕ → ℕ → ℕ → ℕ → ℕ → Notes
notes line sealed unloaded protected class window = record {
  line = line;
  sealed = sealed;
  unloaded = unloaded;
  protected = protected;
  class = class;
  window = window;
}

-- before the first line
abbrev pub blank : Notes
blank = notes 0 0 0 0 0 0

-- "Lines count from 1"; a number has 32 bits
abbrev pub next_line : Notes → Notes
next_line n = notes ((n.line + 1) % 2 ^ 32) n.sealed n.unloaded n.protected n.class n.window

-- "more lines than four bytes can count"
abbrev pub max_lines : ℕ
max_lines = 0xFFFFFFFF

-- the line of a reason
abbrev pub recall : Notes → Reason → ℕ
recall n Reason.Itself = n.line
recall n Reason.Sealed = n.sealed
recall n Reason.NothingLoaded = n.unloaded
recall n Reason.Protected = n.protected
recall n Reason.Class = n.class
recall n Reason.Window = n.window

-- a byte of the history is noted under each reason that it gives
abbrev pub noted : Notes → Step → Reason → ℕ
noted n s r = cond (gives r s) s.line (recall n r)

abbrev pub note : Notes → Step → Notes
note n s =
    notes n.line (noted n s Reason.Sealed) (noted n s Reason.NothingLoaded) (noted n s Reason.Protected)
    (noted n s Reason.Class) (noted n s Reason.Window)

abbrev pub note_all : Notes → List Step → Notes
note_all n [] = n
note_all n (s ∷ h) = note_all (note n s) h

-- ---- a write whose bytes are noted, as the line that the notes say

abbrev pub tracked : ℕ → Gauge → Notes → TrackAnswer
tracked e g n = record { error = e; gauge = g; notes = n }

unfoldable pub track : Layout → List ℕ → Gauge → Notes → ℕ → List ℕ → Outcome TrackAnswer (List ℕ)
track l image g n r bytes =
    let w = write l image g r bytes in
    outcome (tracked w.answer.error w.answer.gauge (note_all n (write_steps l image g n.line r bytes)))
    w.lent

-- a supply call, of which nothing is noted
unfoldable pub track_supply : Layout → ℕ → Gauge → Notes → ℕ → TrackAnswer
track_supply l size g n millivolts = let s = set_supply l size g millivolts in tracked s.error s.gauge n

-- what is printed of either
unfoldable pub tracked_text : TrackAnswer → List ℕ
tracked_text t = cause_text t.error t.gauge (recall t.notes (reason_of t.error t.gauge))
