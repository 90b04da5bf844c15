-- Laws of what the call leaves: w is its answer, and b' what it left of the buffer b.
use Prim.Native.Nat.{ℕ, ◌≤◌}
use mathlib.Core.Path.{◌≡◌, ap, ◌∙◌}
use mathlib.Core.Bool.{true}
use mathlib.Core.List.{List}
use native.Mathlib.Omega.{arith}
use lib.Dec.{eqb, ltb}
use lib.ListN.{length}
use lib.Seq.{sets}
use borrow.Author.Tests.{ltb-false, le-ltb}
use Rattle.flashrules.specs.Error.{layout_mismatch}
use Rattle.flashrules.specs.Outcome.{Outcome, outcome}
use Rattle.flashrules.specs.Layout.{fits, same_layout}
use Rattle.flashrules.specs.declared.layout.Layout.{Layout}
use Rattle.flashrules.proofs.Picks.{on_test, on_cond}
use Rattle.flashrules.proofs.Laws.{same_test, same_layout_lem}
use Rattle.imagerules.specs.File.{not_written}
use Rattle.imagerules.specs.Answer.{FileWriteAnswer}
use Rattle.imagerules.proofs.CallLaws.{same_answer}
use Rattle.deltarules.specs.Run.{runs}
use Rattle.deltarules.specs.Text.{serialize_runs, max_runs_text}
use Rattle.deltarules.specs.Compare.{pair_error, compare}
use Rattle.deltarules.proofs.TextLaws.{runs_text_most}

module _ (l : Layout) (old : List ℕ) (l' : Layout) (new b b' : List ℕ) (w : FileWriteAnswer) (p : outcome w b' ≡ compare l old l' new b) where
  -- the text is within the buffer
  pub compare_within : w.length ≤ length b
  unfolding compare outcome
  compare_within =
      let x = serialize_runs (runs l old new) in
      let Within : Outcome FileWriteAnswer (List ℕ) → Type 0 = λ (o : Outcome FileWriteAnswer (List ℕ)). o.answer.length ≤ length b in
      rw (ap (λ (o : Outcome FileWriteAnswer (List ℕ)). o.answer.length) p)
      (on_cond Within (eqb (pair_error l (length old) l' (length new)) 0) _ _
      (λ t. on_cond Within (ltb (length b) (length x)) _ _ (λ s. omega arith) (λ s. ltb-false (length b) (length x) s))
      (λ t. omega arith))

  -- with room for the longest text, two images that fit their layouts are refused only because
  -- those differ
  pub compare_mismatch : fits l (length old) ≡ true → fits l' (length new) ≡ true → max_runs_text ≤ length b → (w.error ≡ 0 → ⊥) → w.error ≡ layout_mismatch
  unfolding compare pair_error
  compare_mismatch f g h d =
      let x = serialize_runs (runs l old new) in
      let is : (v : FileWriteAnswer) (c : List ℕ) → outcome w b' ≡ outcome v c → w.error ≡ v.error = λ v c q. ap (λ (a : FileWriteAnswer). a.error) (same_answer w v b' c q) in
      on_test (same_layout l l')
      (λ t.
      let same : fits l (length new) ≡ true = (same_layout_lem l l' ((same_test l l').0 t)).fits (length new) ∙ g in
      let room : length x ≤ length b = omega (arith, runs_text_most l old new (record { first = f; second = same })) in
      absurd (d (is (record { error = 0; length = length x }) (sets b 0 x) (rw (f, g, t, le-ltb (length b) (length x) room) at p))))
      (λ t. is (not_written layout_mismatch) b (rw (f, g, t) at p))
