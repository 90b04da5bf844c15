-- Laws of a run over the lines of a text: what it did, line by line.
use Prim.Native.Nat.{ℕ, ◌+◌, ◌≤◌, ◌<◌}
use mathlib.Core.Path.{◌≡◌, refl, sym, ap, ◌∙◌}
use mathlib.Core.Bool.{true≢false}
use mathlib.Core.Logic.{◌⊎◌, inl, inr}
use mathlib.Core.List.{List, [], ◌∷◌, ◌++◌, append_assoc}
use native.Mathlib.Omega.{arith}
use lib.Dec.{ltb}
use lib.ListN.{length, take, drop, length-append}
use lib.Seq.{sets, length-sets, take_at, drop_at}
use borrow.Author.Tests.{ltb-true, ltb-false}
use Rattle.hextext.proofs.StoreLaws.{sets_append}
use Rattle.flashrules.specs.Error.{malformed, short_buffer}
use Rattle.flashrules.specs.declared.layout.Layout.{Layout}
use Rattle.flashrules.proofs.Picks.{on_test}
use Rattle.hextext.specs.Hex.{line_feed}
use Rattle.scriptrules.specs.Frame.{Frame, line_of, serialize_script, lines_of, frame_of}
use Rattle.scriptrules.specs.Parser.{is_frame}
use Rattle.scriptrules.specs.Reply.{max_reply}
use Rattle.scriptrules.specs.Session.{Runner, runner, frame_text, after_line, outputs, after_lines}
use Rattle.flashrules.specs.Outcome.{Outcome, outcome}
use Rattle.scriptrules.specs.Run.{Lent, lend, run_frame, progress, run_lines, run}
use Rattle.scriptrules.specs.Laws.{Sendable, AllSendable, IsLine, Ran, RunFrames}
use Rattle.scriptrules.specs.Answer.{RunAnswer}
use Rattle.scriptrules.proofs.ScriptLaws.{accepted_line}
use Rattle.scriptrules.proofs.SessionLaws.{output_length}
use Rattle.scriptrules.proofs.WholeLines.{lines_line, lines_behind}
use Rattle.scriptrules.proofs.AnswerLaws.{answer_runs, answer_full, answer_wrong}

-- ---- what is claimed of it, by induction

-- why a run of lines ended with error e: `rest` is the text left, and n characters of the buffer's
-- `room` are output
record Stop (rest : List ℕ) (room e n : ℕ) : Type 0 where
  errors : (e ≡ 0) ⊎ ((e ≡ malformed) ⊎ (e ≡ short_buffer))
  ended : e ≡ 0 → lines_of rest ≡ []
  wrong : e ≡ malformed → (f : Frame) (y : List ℕ) → Sendable f → rest ≡ line_of f ++ (line_feed ∷ y) → ⊥
  full : e ≡ short_buffer → room < n + max_reply

-- what is claimed of a run over a text that begins at `next`, with n characters of output before
record Went (l : Layout) (report : ℕ) (b : Runner) (x buffer : List ℕ) (next n : ℕ) (s : Outcome RunAnswer Lent) : Type 0 where
  frames : List Frame
  rest : List ℕ
  sendable : AllSendable frames
  text : x ≡ serialize_script frames ++ rest
  end : s.answer.next ≡ next + length (serialize_script frames)
  output : s.lent.buffer ≡ sets buffer n (outputs l report b frames)
  size : s.answer.length ≡ n + length (outputs l report b frames)
  inside : s.answer.length ≤ length buffer
  after : runner s.answer.session s.lent.image ≡ after_lines l report b frames
  stop : Stop rest (length buffer) s.answer.error s.answer.length

module _ (l : Layout) (report : ℕ) (b : Runner) where
  -- it ends at once
  went_none : (x buffer : List ℕ) (next n e : ℕ) → n ≤ length buffer → Stop x (length buffer) e n
      → Went l report b x buffer next n (outcome (progress e b.session next n) (lend b.image buffer))
  unfolding outcome
  went_none x buffer next n e h p = record {
    frames = [];
    rest = x;
    sendable = tt;
    text = refl;
    end = omega arith;
    output = refl;
    size = omega arith;
    inside = h;
    after = refl;
    stop = p;
  }

  -- it runs one frame, and goes on behind its line
  went_more : (f : Frame) (line x y buffer : List ℕ) (next n : ℕ) (s : Outcome RunAnswer Lent) → IsLine f line → x ≡ line ++ (line_feed ∷ y)
      → let r = frame_text l report b f in
      Went l report (after_line l report b f) y (sets buffer n r) (next + length line + 1) (n + length r) s → Went l report b x buffer next n s
  went_more f line x y buffer next n s p q w = record {
    frames = f ∷ w.frames;
    rest = w.rest;
    sendable = (p.sendable, w.sendable);
    text = q ∙ rw (w.text, p.text, append_assoc);
    end = rw (length-append, p.text) (omega (arith, w.end));
    output = w.output ∙ sym (sets_append buffer n (frame_text l report b f) (outputs l report (after_line l report b f) w.frames));
    size = rw length-append (omega (arith, w.size));
    inside = rw length-sets at w.inside;
    after = w.after;
    stop = rw length-sets at w.stop;
  }

  went_ran : (x buffer : List ℕ) (s : Outcome RunAnswer Lent) → Went l report b x buffer 0 0 s → Ran l report b x buffer s
  went_ran x buffer s w =
      let e : length (serialize_script w.frames) ≡ s.answer.next = omega (arith, w.end) in
      let t = ap (take s.answer.next) w.text ∙ take_at (serialize_script w.frames) w.rest s.answer.next e in
      let u = ap (drop s.answer.next) w.text ∙ drop_at (serialize_script w.frames) w.rest s.answer.next e in
      record {
        frames = w.frames;
        text = record { sendable = w.sendable; text = sym t };
        within = omega (arith, simp length-append at (ap length w.text));
        output = w.output;
        size = omega (arith, w.size);
        inside = w.inside;
        after = w.after;
        errors = w.stop.errors;
        ended = λ q. rw u (w.stop.ended q);
        wrong = λ q f y p r. w.stop.wrong q f y p (sym u ∙ r);
        full = w.stop.full;
      }

-- ---- line by line

module _ (l : Layout) (report : ℕ) where
  -- what is claimed of the run over these lines
  abbrev Goes : List (List ℕ) → Type 0
  Goes lines =
      (b : Runner) (x buffer : List ℕ) (next n : ℕ) → lines_of x ≡ lines → n ≤ length buffer
      → Went l report b x buffer next n (run_lines l report b.image b.session lines buffer next n)

  one_more : (z : List ℕ) (zs : List (List ℕ)) → Goes zs → Goes (z ∷ zs)
  unfolding outcome run_frame
  one_more z zs ih b x buffer next n e h =
      on_test (is_frame z)
      (λ t.
      on_test (ltb (length buffer) (n + max_reply))
      (λ o.
      rw (answer_full l report b z buffer n t (ltb-true _ _ o))
      (went_none l report b x buffer next n short_buffer h
      (record { errors = inr (inr refl); ended = λ q. absurd (omega arith); wrong = λ q. absurd (omega arith); full = λ _. ltb-true _ _ o })))
      (λ o.
      let room : n + max_reply ≤ length buffer = ltb-false _ _ o in
      let f = frame_of z in
      let r = frame_text l report b f in
      let behind = lines_behind [] x z zs e in
      let fit : n + length r ≤ length (sets buffer n r) = rw length-sets (omega (arith, output_length l report b f)) in
      let w = ih (after_line l report b f) behind.rest (sets buffer n r) (next + length z + 1) (n + length r) behind.more fit in
      rw (answer_runs l report b z buffer n t room) (went_more l report b f z x behind.rest buffer next n _ ((accepted_line z f).0 (t, refl)) behind.whole w)))
      (λ t.
      rw (answer_wrong l report b z buffer n t)
      (went_none l report b x buffer next n malformed h
      (record {
        errors = inr (inl refl);
        ended = λ q. absurd (omega arith);
        wrong = λ _ f y p q.
            let a : line_of f ≡ z = cc (lines_line f y) in
            true≢false (sym ((accepted_line z f).1 (record { sendable = p; text = a })).0 ∙ t);
        full = λ q. absurd (omega arith);
      })))

  goes : (lines : List (List ℕ)) → Goes lines
  goes [] = λ b x buffer next n e h.
      went_none l report b x buffer next n 0 h
      (record { errors = inl refl; ended = λ _. e; wrong = λ q. absurd (omega arith); full = λ q. absurd (omega arith) })
  goes (z ∷ zs) = one_more z zs (goes zs)

pub run_frames : RunFrames
unfolding run
run_frames l report b x buffer = went_ran l report b x buffer _ (goes l report (lines_of x) b x buffer 0 0 refl (omega arith))
