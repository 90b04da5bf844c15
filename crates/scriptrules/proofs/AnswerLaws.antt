-- Laws of one line answered, and of a host that runs a frame at a time.
use Prim.Native.Nat.{ℕ, ◌+◌, ◌-◌, ◌≤◌, ◌<◌}
use mathlib.Core.Path.{◌≡◌, refl, ◌∙◌}
use mathlib.Core.Bool.{true, false}
use mathlib.Core.List.{List, [], ◌∷◌}
use native.Mathlib.Omega.{arith}
use lib.ListN.{length}
use lib.Seq.{sets, length-sets}
use borrow.Author.Tests.{lt-ltb, le-ltb}
use Rattle.hextext.proofs.StoreLaws.{sets_start}
use Rattle.flashrules.specs.Error.{malformed, short_buffer}
use Rattle.flashrules.specs.declared.layout.Layout.{Layout}
use Rattle.scriptrules.specs.Frame.{Frame, line_of, frame_of}
use Rattle.scriptrules.specs.Parser.{is_frame}
use Rattle.scriptrules.specs.Reply.{max_reply}
use Rattle.scriptrules.specs.Session.{Runner, fresh_runner, frame_text, after_line, outputs}
use Rattle.flashrules.specs.Outcome.{outcome}
use Rattle.scriptrules.specs.Run.{lend, line_error, answered, run_frame, run_line}
use Rattle.scriptrules.specs.Laws.{Sendable, AllSendable, one_by_one, OneByOne}
use Rattle.scriptrules.proofs.ScriptLaws.{accepted_line, accepted_script}
use Rattle.scriptrules.proofs.SessionLaws.{output_length, output_whole}

-- ---- one line

module _ (l : Layout) (report : ℕ) (b : Runner) (line buffer : List ℕ) (at : ℕ) where
  pub answer_runs : is_frame line ≡ true → at + max_reply ≤ length buffer
      → run_line l report b.image b.session line buffer at ≡ run_frame l report b (frame_of line) buffer at
  unfolding run_line line_error
  answer_runs t h = rw (t, le-ltb (length buffer - at) max_reply (omega arith))

  pub answer_full : is_frame line ≡ true → length buffer < at + max_reply
      → run_line l report b.image b.session line buffer at ≡ outcome (answered short_buffer b.session 0) (lend b.image buffer)
  unfolding run_line line_error
  answer_full t h = rw (t, lt-ltb (length buffer - at) max_reply (omega arith))

  pub answer_wrong : is_frame line ≡ false
      → run_line l report b.image b.session line buffer at ≡ outcome (answered malformed b.session 0) (lend b.image buffer)
  unfolding run_line line_error
  answer_wrong t = rw t

-- ---- a frame at a time

answer_frame : (l : Layout) (report : ℕ) (b : Runner) (f : Frame) (buffer : List ℕ) (at : ℕ) → Sendable f → at + max_reply ≤ length buffer
    → run_line l report b.image b.session (line_of f) buffer at ≡ run_frame l report b f buffer at
answer_frame l report b f buffer at s h =
    let p = (accepted_line (line_of f) f).1 (record { sendable = s; text = refl }) in
    answer_runs l report b (line_of f) buffer at p.0 h ∙ rw p.1

each_alone : (l : Layout) (report : ℕ) (b : Runner) (buffer : List ℕ) (fs : List Frame) → AllSendable fs → max_reply ≤ length buffer
    → one_by_one l report b buffer fs ≡ outputs l report b fs
unfolding run_frame outcome
each_alone l report b buffer [] s h = refl
each_alone l report b buffer (f ∷ fs) s h =
    let x = frame_text l report b f in
    rw (
      answer_frame l report b f buffer 0 s.0 h,
      sets_start buffer x (omega (arith, output_length l report b f)),
      each_alone l report (after_line l report b f) (sets buffer 0 x) fs s.1 (rw length-sets h),
    )

pub one_by_one_lem : OneByOne
one_by_one_lem report x y buffer l bytes fs p q t h =
    each_alone l report (fresh_runner bytes) buffer fs ((accepted_script y fs).0 q).sendable h ∙ output_whole report x y l bytes fs p q t
