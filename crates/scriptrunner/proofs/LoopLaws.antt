-- Line by line, as the code runs a text: why a line is refused, and the loop's turns.
use Prim.Native.Nat.{ℕ, suc, ◌+◌, ◌-◌, ◌≤◌, ◌<◌}
use mathlib.Core.Path.{◌≡◌, refl, sym, ◌∙◌}
use mathlib.Core.Bool.{Bool, true, false}
use mathlib.Core.List.{List, [], ◌∷◌, ◌++◌, append_assoc, append-nil}
use native.Mathlib.Omega.{arith}
use lib.Dec.{eqb}
use lib.ListN.{length, take, drop, length-take, length-drop, drop_of_length-le}
use lib.Seq.{drop-drop}
use borrow.Author.Tests.{ne_eqb, lt-ltb, le-ltb, ltb-false, not-false}
use Rattle.std.specs.Prelude.{slice_range}
use Rattle.hextext.specs.Scan.{index_of}
use Rattle.std.specs.Prelude.{Result, Ok, Err, None}
use Rattle.flashrules.specs.declared.error.Error.{Error}
use Rattle.flashrules.proofs.ErrorLaws.{number_some, check_passed, check_number}
use Rattle.scriptrules.specs.Answer.{LineAnswer, RunAnswer, line_answer, run_answer}
use Rattle.flashrules.specs.Error.{number, number_or_none, number_of, malformed, short_buffer}
use Rattle.flashrules.specs.Refusal.{NoneHolds}
use Rattle.flashrules.specs.Outcome.{Outcome, outcome}
use Rattle.flashrules.specs.declared.layout.Layout.{Layout}
use Rattle.flashrules.proofs.Laws.{no_error}
use Rattle.flashrules.proofs.Picks.{on_test}
use Rattle.hextext.specs.Hex.{line_feed}
use Rattle.imagerules.proofs.LineLaws.{line_end}
use Rattle.scriptrules.specs.Frame.{frame_of, lines_after, lines_of}
use Rattle.scriptrules.specs.Parser.{is_frame}
use Rattle.scriptrules.specs.Reply.{max_reply}
use Rattle.scriptrules.specs.Session.{report_number, report_of, runner}
use Rattle.scriptrules.specs.declared.session.Report.{Report}
use Rattle.scriptrules.proofs.SessionLaws.{frame_taken}
use Rattle.scriptrules.specs.Run.{Lent, lend, line_tests, line_error, answered, run_frame, run_line, progress, run_lines, run}
use Rattle.scriptrules.specs.declared.session.Session.{Session}
use Rattle.scriptrules.specs.declared.answer.Answered.{Answered}
use Rattle.scriptrules.specs.declared.answer.Progress.{Progress}

-- ---- why a line is refused

module _ (line : List ℕ) (n at : ℕ) (k : Bool) (p : k ≡ is_frame line) where
  pub refused_short : k ≡ true → n - at < max_reply → short_buffer ≡ line_error line (n - at)
  unfolding line_error
  refused_short t h = rw (← p, t, lt-ltb (n - at) max_reply h)

  pub not_refused : k ≡ true → max_reply ≤ n - at → 0 ≡ line_error line (n - at)
  unfolding line_error
  not_refused t h = rw (← p, t, le-ltb (n - at) max_reply h)

  pub refused_line : k ≡ false → malformed ≡ line_error line (n - at)
  unfolding line_error
  refused_line t = rw (← p, t)

-- what proves `line_error`
pub ruleset line_errors = (refused_short, not_refused, refused_line)

module _ (line : List ℕ) (room : ℕ) (r : Result Unit Error) (p : number_of r ≡ line_error line room) (q : r ≡ Ok tt) where
  passed : NoneHolds (line_tests line room)
  unfolding line_error
  passed = (no_error (line_tests line room) (omega arith, (omega arith, tt))).0 (check_passed r _ p tt q)

  pub line_runs : is_frame line ≡ true
  line_runs = not-false (is_frame line) passed.0

  line_room : max_reply ≤ room
  line_room = ltb-false room max_reply passed.1.0

  pub line_fits : (n : ℕ) → n ≤ max_reply → n ≤ room
  line_fits n h = omega (arith, line_room)

-- ---- one line

module _ (l : Layout) (report : ℕ) (image : List ℕ) (s : Session) (line buffer : List ℕ) (at : ℕ) (r : Result Unit Error)
    (p : number_of r ≡ line_error line (length buffer - at)) where
  pub answers : (z : Outcome LineAnswer Lent) → r ≡ Ok tt → z ≡ run_frame l report (runner s image) (frame_of line) buffer at → z ≡ run_line l report image s line buffer at
  unfolding run_line
  answers z q x = x ∙ rw (check_passed r _ p tt q)

  -- run with the report of the number
  pub answers_report : (z : Outcome LineAnswer Lent) (k : Report) → k ≡ report_of report → r ≡ Ok tt
      → z ≡ run_frame l (report_number k) (runner s image) (frame_of line) buffer at → z ≡ run_line l report image s line buffer at
  answers_report z k t q x = answers z q (rw t at x ∙ frame_taken l report (runner s image) (frame_of line) buffer at)

  pub answers_not : (e : Error) → r ≡ Err e → outcome (answered (number e) s 0) (lend image buffer) ≡ run_line l report image s line buffer at
  unfolding run_line
  answers_not e q = rw (check_number r _ p e q, ne_eqb (number e) 0 (λ y. omega (arith, number_some e)))

-- ---- the first line of a text, by its line feed

lines_first : (line x : List ℕ) → index_of line_feed x < length x
    → lines_after line x ≡ (line ++ take (index_of line_feed x) x) ∷ lines_of (drop (suc (index_of line_feed x)) x)
unfolding index_of
lines_first line [] h = absurd (omega arith)
lines_first line (c ∷ cs) h =
    on_test (eqb c line_feed) (λ t. rw (t, append-nil))
    (λ t. rw t (rw append_assoc at (lines_first (line ++ (c ∷ [])) cs (let k = rw t at h in omega arith))))

lines_none : (line x : List ℕ) → length x ≤ index_of line_feed x → lines_after line x ≡ []
unfolding index_of
lines_none line [] h = refl
lines_none line (c ∷ cs) h =
    on_test (eqb c line_feed) (λ t. let k = rw t at h in absurd (omega arith))
    (λ t. rw t (lines_none (line ++ (c ∷ [])) cs (let k = rw t at h in omega arith)))

-- ---- the loop: `inv` is its invariant

pub run_start : (l : Layout) (report : ℕ) (text image buffer : List ℕ) (s : Session) → run_lines l report image s (lines_of (drop 0 text)) buffer 0 0 ≡ run l report image s text buffer
unfolding run
run_start l report text image buffer s = refl

module _ (l : Layout) (report : ℕ) (text image buffer : List ℕ) (s : Session) (from out : ℕ) (z : Outcome RunAnswer Lent) (inv : run_lines l report image s (lines_of (drop from text)) buffer from out ≡ z) where
  -- no line is left
  pub run_done : length text ≤ from → outcome (progress 0 s from out) (lend image buffer) ≡ z
  run_done h = rw (drop_of_length-le text h) at inv

  module _ (end : ℕ) (p : end ≡ from + index_of line_feed (slice_range text from (length text))) where
    gap : index_of line_feed (drop from text) ≡ end - from
    gap = omega (arith, line_end text from end p)

    pub run_end : (g : Progress) → g.error ≡ None → g.session ≡ s → g.next ≡ from → g.length ≡ out → from ≤ length text → length text ≤ end
        → outcome (run_answer g) (lend image buffer) ≡ z
    run_end g e₀ e₁ e₂ e₃ k h =
        let q : progress 0 s from out ≡ run_answer g = λ j. progress (number_or_none (sym e₀ j)) (sym e₁ j) (sym e₂ j) (sym e₃ j) in
        rw (← q) (rw (lines_none [] (drop from text) (rw (length-drop, gap) (omega (arith, line_end text from end p)))) at inv)

    module _ (h : end < length text) where
      first : lines_of (drop from text) ≡ take (end - from) (drop from text) ∷ lines_of (drop (end + 1) text)
      first =
          let m : from + suc (end - from) ≡ end + 1 = omega (arith, line_end text from end p) in
          lines_first [] (drop from text) (rw (length-drop, gap) (omega (arith, line_end text from end p)))
          ∙ rw (gap, drop-drop, m)

      -- a is what the line's answer was
      module _ (image' buffer' : List ℕ) (a : Result Answered Error)
          (q : outcome (line_answer s a) (lend image' buffer') ≡ run_line l report image s (take (end - from) (drop from text)) buffer out) where
        pub run_more : (w : Answered) → a ≡ Ok w → run_lines l report image' w.session (lines_of (drop (end + 1) text)) buffer' (end + 1) (out + w.length) ≡ z
        unfolding outcome
        run_more w r =
            let n : from + length (take (end - from) (drop from text)) + 1 ≡ end + 1
            = rw (length-take, length-drop) (omega (arith, line_end text from end p)) in
            rw (first, ← q, r, n) at inv

        pub run_stop : (e : Error) → a ≡ Err e → outcome (progress (number e) s from out) (lend image' buffer') ≡ z
        unfolding outcome
        run_stop e r = rw (first, ← q, r, ne_eqb (number e) 0 (λ y. omega (arith, number_some e))) at inv

-- what proves `run_line` and `run`
pub ruleset one_line = (line_runs, line_fits, answers_report, answers_not)

pub ruleset lines = (run_start, run_done, run_end, run_more, run_stop)
