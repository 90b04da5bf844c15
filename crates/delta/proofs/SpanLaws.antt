-- Laws of spans: the loop that finds the end of one, and the runs of a class by the spans of its
-- bytes, which take turns.
use Prim.Native.Nat.{ℕ, suc, ◌+◌, ◌≤◌, ◌<◌}
use mathlib.Core.Path.{◌≡◌, refl, ap, ◌∙◌}
use mathlib.Core.Bool.{Bool, true, false, not, cond}
use mathlib.Core.List.{List, [], ◌∷◌}
use native.Mathlib.Nat.{add-zero}
use native.Mathlib.Numerals.{add-one}
use native.Mathlib.Omega.{arith}
use borrow.Author.Tests.{eq-eqb, ne_eqb}
use lib.Dec.{eqb}
use lib.ListN.{length, take, drop, get_or, drop_of_length-le}
use lib.Seq.{drop-cons}
use Rattle.flashrules.proofs.Picks.{not_not, on_test}
use Rattle.deltarules.specs.Run.{Run, run, prepend, class_runs}
use Rattle.deltarules.specs.Delta.{Each}
use Rattle.deltarules.proofs.ClassLaws.{From, class_from}
use Rattle.delta.specs.Span.{span}

-- ---- the loop: `e` is its invariant

module _ (equal : Bool) (xs ys : List ℕ) (i z : ℕ) (l : length xs ≡ length ys) (e : i + span equal (drop i xs) (drop i ys) ≡ z) where
  pub span_out : length xs ≤ i → i ≡ z
  span_out h = let t = rw (drop_of_length-le xs {i = i} h) at e in omega arith

  module _ (h : i < length xs) where
    span_turn : i + cond (cond (eqb (get_or xs i 0) (get_or ys i 0)) equal (not equal)) (suc (span equal (drop (i + 1) xs) (drop (i + 1) ys))) 0 ≡ z
    span_turn =
        let g : i < length ys = omega arith in
        rw (add-one i) (rw (drop-cons xs i 0 h, drop-cons ys i 0 g) at e)

    module _ (p : get_or xs i 0 ≡ get_or ys i 0) where
      pub equal_end : not equal ≡ true → i ≡ z
      equal_end n =
          let q : equal ≡ false = not_not equal ∙ ap not n in
          let t = rw (eq-eqb _ _ p, q) at span_turn in
          omega arith

      pub equal_on : not equal ≡ false → i + 1 + span equal (drop (i + 1) xs) (drop (i + 1) ys) ≡ z
      equal_on n =
          let q : equal ≡ true = not_not equal ∙ ap not n in
          let t = rw (eq-eqb _ _ p, q) at span_turn in
          rw q (omega arith)

    module _ (p : get_or xs i 0 ≡ get_or ys i 0 → ⊥) where
      pub differing_end : equal ≡ true → i ≡ z
      differing_end q = let t = rw (ne_eqb _ _ p, q) at span_turn in omega arith

      pub differing_on : equal ≡ false → i + 1 + span equal (drop (i + 1) xs) (drop (i + 1) ys) ≡ z
      differing_on q = let t = rw (ne_eqb _ _ p, q) at span_turn in rw q (omega arith)

-- what proves `span_end`
pub ruleset spans = (span_out, equal_end, equal_on, differing_end, differing_on)

-- ---- the runs of a class, by the spans of its bytes

-- equal bytes are passed over
pub runs_skip : (i o : ℕ) (xs ys : List ℕ)
    → class_runs i o xs ys ≡ class_runs i (o + span true xs ys) (drop (span true xs ys) xs) (drop (span true xs ys) ys)
runs_skip i o [] ys = refl
runs_skip i o (x ∷ xs) [] = refl
runs_skip i o (x ∷ xs) (y ∷ ys) =
    let n : o + 1 + span true xs ys ≡ o + suc (span true xs ys) = omega arith in
    on_test (eqb x y) (λ e. rw (e, ← n) (runs_skip i (o + 1) xs ys)) (λ e. rw (e, add-zero) (rw e))

-- and then two bytes differ, if there are any left
pub skip_apart : (xs ys : List ℕ) → length xs ≡ length ys → span true xs ys < length xs
    → 1 ≤ span false (drop (span true xs ys) xs) (drop (span true xs ys) ys)
skip_apart [] ys l h = absurd (omega arith)
skip_apart (x ∷ xs) [] l h = absurd (omega arith)
skip_apart (x ∷ xs) (y ∷ ys) l h =
    on_test (eqb x y)
    (λ e. let g = rw e at h in rw e (skip_apart xs ys (omega arith) (omega arith)))
    (λ e. rw e (rw e (omega arith)))

-- a byte is a run of its own in front of an equal one
prepend_alone : (i o x y : ℕ) (rs : List Run) → Each (From i (o + 1 + 1)) rs → prepend i o x y rs ≡ run i o (x ∷ []) (y ∷ []) ∷ rs
prepend_alone i o x y [] h = refl
prepend_alone i o x y (r ∷ rs) h = rw (ne_eqb r.offset (o + 1) (λ e. omega (arith, h.0.1)))

-- differing bytes are a run
runs_first : (i o x y : ℕ) (xs ys : List ℕ) → prepend i o x y (class_runs i (o + 1) xs ys)
    ≡ run i o (x ∷ take (span false xs ys) xs) (y ∷ take (span false xs ys) ys)
    ∷ class_runs i (o + 1 + span false xs ys) (drop (span false xs ys) xs) (drop (span false xs ys) ys)
runs_first i o x y [] ys = refl
runs_first i o x y (x' ∷ xs) [] = refl
runs_first i o x y (x' ∷ xs) (y' ∷ ys) =
    let d = span false xs ys in
    let n : o + 1 + 1 + d ≡ o + 1 + suc d = omega arith in
    on_test (eqb x' y')
    (λ e. rw (e, add-zero) (rw e (prepend_alone i o x y (class_runs i (o + 1 + 1) xs ys) (class_from i (o + 1 + 1) xs ys))))
    (λ e. rw (e, runs_first i (o + 1) x' y' xs ys, eq-eqb (o + 1) (o + 1) refl, n))

pub runs_run : (i o : ℕ) (xs ys : List ℕ) → 1 ≤ span false xs ys → class_runs i o xs ys
    ≡ run i o (take (span false xs ys) xs) (take (span false xs ys) ys)
    ∷ class_runs i (o + span false xs ys) (drop (span false xs ys) xs) (drop (span false xs ys) ys)
runs_run i o [] ys h = absurd (omega arith)
runs_run i o (x ∷ xs) [] h = absurd (omega arith)
runs_run i o (x ∷ xs) (y ∷ ys) h =
    let n : o + 1 + span false xs ys ≡ o + suc (span false xs ys) = omega arith in
    on_test (eqb x y)
    (λ e. let g = rw e at h in absurd (omega arith))
    (λ e. rw (e, ← n) (runs_first i o x y xs ys))
