-- A host's output: however the script is cut and whatever buffers are lent, the frames of the text
-- that it holds and of all that is yet to come are those that it still has to run.
use Prim.Native.Nat.{ℕ, suc}
use mathlib.Core.Path.{◌≡◌, refl, ap, ◌∙◌}
use mathlib.Core.List.{List, [], ◌∷◌, ◌++◌, append_assoc, append-nil}
use native.Mathlib.Omega.{arith}
use lib.ListN.{length, take, drop, take-append-drop}
use borrow.Author.Tests.{eq-eqb}
use Rattle.hextext.proofs.StoreLaws.{sets_start}
use Rattle.flashrules.specs.declared.layout.Layout.{Layout}
use Rattle.scriptrules.specs.Frame.{serialize_script, lines_of, frames_of}
use Rattle.scriptrules.specs.Parser.{start, feed, end_error, script, parse_script}
use Rattle.scriptrules.specs.Session.{Runner, runner, fresh_runner, outputs}
use Rattle.flashrules.specs.Outcome.{Outcome}
use Rattle.scriptrules.specs.Run.{Lent, run}
use Rattle.scriptrules.specs.Host.{Event, arrives, runs, host, handle_all, arrived}
use Rattle.scriptrules.specs.Laws.{Ran, HostPrints}
use Rattle.scriptrules.specs.Answer.{RunAnswer}
use Rattle.scriptrules.proofs.SessionLaws.{outputs_append, output_whole}
use Rattle.scriptrules.proofs.ScriptLaws.{frames_script}
use Rattle.scriptrules.proofs.RunLaws.{run_frames}

parse_frames : (y : List ℕ) → end_error (feed start y) ≡ 0 → parse_script y ≡ script (frames_of (lines_of y))
unfolding parse_script
parse_frames y e = rw (eq-eqb _ _ e)

-- what one call printed and what is still to be run, of a text held and one to come
run_prints : (l : Layout) (report : ℕ) (b : Runner) (held more buffer : List ℕ) (s : Outcome RunAnswer Lent) → Ran l report b held buffer s
    → let left = frames_of (lines_of (drop s.answer.next held ++ more)) in
    take s.answer.length s.lent.buffer ++ outputs l report (runner s.answer.session s.lent.image) left ≡ outputs l report b (frames_of (lines_of (held ++ more)))
run_prints l report b held more buffer s w =
    let fs = w.frames in
    let rest = drop s.answer.next held in
    let whole : serialize_script fs ++ (rest ++ more) ≡ held ++ more = rw (w.text.text, ← append_assoc, take-append-drop) in
    let out : take s.answer.length s.lent.buffer ≡ outputs l report b fs = rw (w.output, w.size) (sets_start buffer (outputs l report b fs) (omega arith)) in
    rw (← whole, frames_script fs (rest ++ more) w.text.sendable, outputs_append, out, w.after)

prints : (l : Layout) (report : ℕ) (ss : List Event) (b : Runner) (held printed : List ℕ) → let h = handle_all l report (host b held printed) ss in
    h.held ≡ [] → h.printed ≡ printed ++ outputs l report b (frames_of (lines_of (held ++ arrived ss)))
prints l report [] b held printed e = rw (e, append-nil)
prints l report (arrives x ∷ ss) b held printed e = rw append_assoc at (prints l report ss b (held ++ x) printed e)
prints l report (runs buffer ∷ ss) b held printed e =
    let s = run l report b.image b.session held buffer in
    let p = run_prints l report b held (arrived ss) buffer s (run_frames l report b held buffer) in
    prints l report ss (runner s.answer.session s.lent.image) (drop s.answer.next held) (printed ++ take s.answer.length s.lent.buffer) e
    ∙ rw (append_assoc, p)

-- there are as many frames as lines
frames_length : (lines : List (List ℕ)) → length (frames_of lines) ≡ length lines
frames_length [] = refl
frames_length (x ∷ xs) = ap suc (frames_length xs)

pub host_prints : HostPrints
host_prints report x y l bytes ss p q t a e =
    let fs = frames_of (lines_of y) in
    rw a at (prints l report ss (fresh_runner bytes) [] [] e)
    ∙ output_whole report x y l bytes fs p (parse_frames y q) (rw frames_length t)
