-- What the calls that run frames answer, and what they leave, whatever is reported. A line that is
-- no frame is refused with 10 and a buffer with less room than the longest reply with 14, in this
-- order; a refused line leaves session, image and buffer as they were.
use Rattle.std.specs.Prelude.{ℕ, ◌+◌, ◌-◌, Bool, cond, not, List, [], ◌∷◌, eqb, ltb, length}
use Rattle.std.proofs.lemmas.List.Edits.{sets}
use Rattle.flashrules.specs.Error.{malformed, short_buffer}
use Rattle.flashrules.specs.Refusal.{first_error}
use Rattle.flashrules.specs.Outcome.{Outcome, outcome}
use Rattle.flashrules.specs.declared.layout.Layout.{Layout}
use Rattle.scriptrules.specs.Frame.{Frame, frame_of, lines_of}
use Rattle.scriptrules.specs.Parser.{is_frame}
use Rattle.scriptrules.specs.Reply.{max_reply}
use Rattle.scriptrules.specs.Session.{Runner, runner, frame_text, after_line}
use Rattle.scriptrules.specs.declared.session.Session.{Session}
use Rattle.scriptrules.specs.Answer.{LineAnswer}
use Rattle.scriptrules.specs.Answer.{RunAnswer}

-- what these calls are lent to be written into
pub record Lent : Type 0 where
  pub image : List ℕ
  pub buffer : List ℕ

abbrev pub lend : List ℕ → List ℕ → Lent
lend image buffer = record { image = image; buffer = buffer }

-- ---- one line

-- of a line, without its line feed, where the buffer has so much room
abbrev pub line_tests : List ℕ → ℕ → List (Bool × ℕ)
line_tests line room = (not (is_frame line), malformed) ∷ (ltb room max_reply, short_buffer) ∷ []

unfoldable pub line_error : List ℕ → ℕ → ℕ
line_error line room = first_error (line_tests line room)

abbrev pub answered : ℕ → Session → ℕ → LineAnswer
answered e s n = record { error = e; session = s; length = n }

-- a frame is run, and what it puts out goes into the buffer from `at` on
unfoldable pub run_frame : Layout → ℕ → Runner → Frame → List ℕ → ℕ → Outcome LineAnswer Lent
run_frame l report b f buffer at =
    let x = frame_text l report b f in
    let b' = after_line l report b f in
    outcome (answered 0 b'.session (length x)) (lend b'.image (sets buffer at x))

unfoldable pub run_line : Layout → ℕ → List ℕ → Session → List ℕ → List ℕ → ℕ → Outcome LineAnswer Lent
run_line l report image s line buffer at =
    let e = line_error line (length buffer - at) in
    cond (eqb e 0) (run_frame l report (runner s image) (frame_of line) buffer at) (outcome (answered e s 0) (lend image buffer))

-- ---- the whole lines of a text

abbrev pub progress : ℕ → Session → ℕ → ℕ → RunAnswer
progress e s next n = record { error = e; session = s; next = next; length = n }

-- line by line, until one is refused: `next` characters of the text and `n` of the buffer come
-- before
abbrev pub run_lines : Layout → ℕ → List ℕ → Session → List (List ℕ) → List ℕ → ℕ → ℕ → Outcome RunAnswer Lent
run_lines l report image s [] buffer next n = outcome (progress 0 s next n) (lend image buffer)
run_lines l report image s (x ∷ xs) buffer next n =
    let o = run_line l report image s x buffer n in
    let a = o.answer in
    cond (eqb a.error 0)
    (run_lines l report o.lent.image a.session xs o.lent.buffer (next + length x + 1) (n + a.length))
    (outcome (progress a.error a.session next n) o.lent)

unfoldable pub run : Layout → ℕ → List ℕ → Session → List ℕ → List ℕ → Outcome RunAnswer Lent
run l report image s text buffer = run_lines l report image s (lines_of text) buffer 0 0
