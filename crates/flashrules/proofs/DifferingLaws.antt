-- Laws of the number of places in which two lists differ.
use Prim.Native.Nat.{ℕ, ◌+◌, ◌≤◌}
use mathlib.Core.Path.{◌≡◌, refl, sym, ◌∙◌}
use mathlib.Core.List.{List, [], ◌∷◌, ◌++◌}
use native.Mathlib.Omega.{arith}
use lib.Dec.{eqb}
use lib.ListN.{length, take, drop, length-append}
use lib.Seq.{paste, length-take-le}
use borrow.Author.Tests.{eqb-true, eqb-false, eq-eqb, ne_eqb}
use Rattle.flashrules.specs.Choice.{differing}
use Rattle.flashrules.specs.Laws.{DifferingNone, DifferingSymmetric, DifferingMost, DifferingAppend}
use Rattle.flashrules.proofs.Picks.{on_test}

none_equal : (xs ys : List ℕ) → differing xs ys ≡ 0 → xs ≡ ys
none_equal [] [] e = refl
none_equal [] (y ∷ ys) e = absurd (omega arith)
none_equal (x ∷ xs) [] e = absurd (omega arith)
none_equal (x ∷ xs) (y ∷ ys) e =
    on_test (eqb x y)
    (λ p. let q : 0 + differing xs ys ≡ 0 = rw p at e in rw (eqb-true x y p, none_equal xs ys (omega arith)))
    (λ p. absurd (let q : 1 + differing xs ys ≡ 0 = rw p at e in omega arith))

pub differing_self : (xs : List ℕ) → differing xs xs ≡ 0
differing_self [] = refl
differing_self (x ∷ xs) = rw (eq-eqb x x refl, differing_self xs)

pub differing_none : DifferingNone
differing_none xs ys = (none_equal xs ys, λ p. rw p (differing_self ys))

pub differing_symmetric : DifferingSymmetric
differing_symmetric [] [] = refl
differing_symmetric [] (y ∷ ys) = refl
differing_symmetric (x ∷ xs) [] = refl
differing_symmetric (x ∷ xs) (y ∷ ys) =
    on_test (eqb x y) (λ p. rw (p, eq-eqb y x (sym (eqb-true x y p)), differing_symmetric xs ys))
    (λ p. rw (p, ne_eqb y x (λ e. eqb-false x y p (sym e)), differing_symmetric xs ys))

pub differing_most : DifferingMost
differing_most [] [] e = omega arith
differing_most [] (y ∷ ys) e = absurd (omega arith)
differing_most (x ∷ xs) [] e = absurd (omega arith)
differing_most (x ∷ xs) (y ∷ ys) e =
    let h = differing_most xs ys (omega arith) in
    on_test (eqb x y) (λ p. rw p (omega arith)) (λ p. rw p (omega arith))

pub differing_append : DifferingAppend
differing_append [] [] xs' ys' e = omega arith
differing_append [] (y ∷ ys) xs' ys' e = absurd (omega arith)
differing_append (x ∷ xs) [] xs' ys' e = absurd (omega arith)
differing_append (x ∷ xs) (y ∷ ys) xs' ys' e = let h = differing_append xs ys xs' ys' (omega arith) in omega arith

-- two lists pasted at one place
pub differing_paste : (d x w : List ℕ) (at n : ℕ) → n ≤ length x → n ≤ length w → differing (paste d at x n) (paste d at w n) ≡ differing (take n x) (take n w)
differing_paste d x w at n hx hw =
    let a = take at d in
    let z = drop (at + n) d in
    let e : length (take n x) ≡ length (take n w) = length-take-le n x hx ∙ sym (length-take-le n w hw) in
    let front : length (a ++ take n x) ≡ length (a ++ take n w) = simp length-append (rw e) in
    let whole = differing_append (a ++ take n x) (a ++ take n w) z z front in
    let fronts = differing_append a a (take n x) (take n w) refl in
    omega (arith, whole, fronts, differing_self a, differing_self z)
