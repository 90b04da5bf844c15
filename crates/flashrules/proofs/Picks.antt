-- How a choice of the rules is answered at a `return`: by what the place knows of the choice, and
-- by the answer of that branch. `search picks` takes a goal `z ≡ cond t x y` apart so, however deep
-- the choices nest, and finds what is known in the record of the place.
use Prim.Native.Nat.{ℕ, ◌<◌, ◌≤◌}
use borrow.Author.Tests.{eqb-true, eq-eqb, ne_eqb, lt-ltb, le-ltb, le-leb, lt-leb}
use mathlib.Core.Path.{◌≡◌, refl, sym, ◌∙◌}
use mathlib.Core.Bool.{Bool, true, false, cond, not, true≢false}
use mathlib.Core.List.{List, [], ◌∷◌}
use Rattle.std.specs.Prelude.{Ok, Err}
use lib.Dec.{eqb, ltb, leb}
use Rattle.flashrules.specs.Error.{number}
use Rattle.flashrules.specs.Answer.{Lookup, found, refused, if_found, error_of}
use Rattle.flashrules.specs.Choice.{same}
use Rattle.flashrules.specs.declared.error.Error.{Error}

module _ {A : Type 0} (z x y : A) (a b : ℕ) where
  pub pick_eq : a ≡ b → z ≡ x → z ≡ cond (eqb a b) x y
  pick_eq p e = rw (eq-eqb a b p) e

  pub pick_ne : (a ≡ b → ⊥) → z ≡ y → z ≡ cond (eqb a b) x y
  pick_ne p e = rw (ne_eqb a b p) e

  pub pick_lt : a < b → z ≡ x → z ≡ cond (ltb a b) x y
  pick_lt p e = rw (lt-ltb a b p) e

  pub pick_ge : b ≤ a → z ≡ y → z ≡ cond (ltb a b) x y
  pick_ge p e = rw (le-ltb a b p) e

  pub pick_le : a ≤ b → z ≡ x → z ≡ cond (leb a b) x y
  pick_le p e = rw (le-leb a b p) e

  pub pick_gt : b < a → z ≡ y → z ≡ cond (leb a b) x y
  pick_gt p e = rw (lt-leb a b p) e

-- the last of several tests is the answer
pub pick_last : (z t : Bool) → z ≡ t → z ≡ cond t true false
pick_last z true e = e
pick_last z false e = e

pub ruleset picks = (pick_eq, pick_ne, pick_lt, pick_ge, pick_le, pick_gt, pick_last)

-- the same where a call gave what is tested: k is what the call gave, and t, j or a what the rule
-- tests
module _ {A : Type 0} (z x y : A) (t k : Bool) (p : k ≡ t) where
  pub call_true : k ≡ true → z ≡ x → z ≡ cond t x y
  call_true q e = rw (← p, q) e

  pub call_false : k ≡ false → z ≡ y → z ≡ cond t x y
  call_false q e = rw (← p, q) e

  -- where the rule tests that it is not so
  pub call_not_true : k ≡ true → z ≡ y → z ≡ cond (not t) x y
  call_not_true q e = rw (← p, q) e

  pub call_not_false : k ≡ false → z ≡ x → z ≡ cond (not t) x y
  call_not_false q e = rw (← p, q) e

module _ {A : Type 0} (z x y : A) (j k v : ℕ) (p : k ≡ j) where
  pub call_eq : k ≡ v → z ≡ x → z ≡ cond (eqb j v) x y
  call_eq q e = pick_eq z x y j v (sym p ∙ q) e

  pub call_ne : (k ≡ v → ⊥) → z ≡ y → z ≡ cond (eqb j v) x y
  call_ne q e = pick_ne z x y j v (λ r. q (p ∙ r)) e

  pub call_le : k ≤ v → z ≡ x → z ≡ cond (leb j v) x y
  call_le q e = pick_le z x y j v (rw p at q) e

  pub call_gt : v < k → z ≡ y → z ≡ cond (leb j v) x y
  call_gt q e = pick_gt z x y j v (rw p at q) e

module _ (j k v : ℕ) (p : k ≡ j) where
  pub call_last_eq : eqb v k ≡ cond (eqb v j) true false
  call_last_eq = pick_last (eqb v k) (eqb v j) (rw p)

  pub call_last_le : leb v k ≡ cond (leb v j) true false
  call_last_le = pick_last (leb v k) (leb v j) (rw p)

-- the test itself is the answer
pub call_lt : (j k v : ℕ) → k ≡ j → ltb k v ≡ ltb j v
call_lt j k v p = rw p

module _ {A : Type 0} (z : A) (f : ℕ → ℕ → A) (r : ℕ → A) (a k : Lookup) (p : k ≡ a) where
  pub call_found : (s n : ℕ) → k ≡ found s n → z ≡ f s n → z ≡ if_found a f r
  call_found s n q e = rw (← p, q) e

  pub call_refused : (n : Error) → k ≡ refused n → z ≡ r (number n) → z ≡ if_found a f r
  call_refused n q e = rw (← p, q) e

-- the error number of an answer, by a call on what a call answered
pub call_error_lem : (e : ℕ) (a k : Lookup) → k ≡ a → e ≡ error_of k → e ≡ error_of a
call_error_lem e a k p q = rw p at q

pub ruleset calls = (call_true, call_false, call_not_true, call_not_false, call_eq, call_ne, call_le, call_gt, call_last_eq, call_last_le, call_lt, call_found, call_refused, call_error_lem)

-- several tests at once, taken apart and put together: `search` goes along them by these
pub and_first : (t u : Bool) → cond t u false ≡ true → t ≡ true
and_first true u e = refl
and_first false u e = e

pub and_rest : (t u : Bool) → cond t u false ≡ true → u ≡ true
and_rest true u e = e
and_rest false u e = absurd (true≢false (sym e))

pub and_both : (t u : Bool) → t ≡ true → u ≡ true → cond t u false ≡ true
and_both t u p q = rw (p, q)

-- a test that is negated twice
pub not_not : (t : Bool) → t ≡ not (not t)
not_not true = refl
not_not false = refl

-- the same list, by its test
pub same_refl : (xs : List ℕ) → same xs xs ≡ true
same_refl [] = refl
same_refl (x ∷ xs) = rw (eq-eqb x x refl, same_refl xs)

pub same_eq : (xs ys : List ℕ) → same xs ys ≡ true → xs ≡ ys
same_eq [] [] e = refl
same_eq [] (y ∷ ys) e = absurd (true≢false (sym e))
same_eq (x ∷ xs) [] e = absurd (true≢false (sym e))
same_eq (x ∷ xs) (y ∷ ys) e = λ j. eqb-true x y (and_first (eqb x y) _ e) j ∷ same_eq xs ys (and_first _ _ (and_rest (eqb x y) _ e)) j

-- a proof by the cases of a test or of an answer, which keeps what the case says
module _ {P : Type 0} where
  pub on_test : (t : Bool) → (t ≡ true → P) → (t ≡ false → P) → P
  on_test true f g = f refl
  on_test false f g = g refl

  pub on_answer : (a : Lookup) → ((s k : ℕ) → a ≡ found s k → P) → ((e : Error) → a ≡ refused e → P) → P
  on_answer (Ok p) f g = f p.start p.len refl
  on_answer (Err e) f g = g e refl

-- a fact of a choice, from what it is on each side
pub on_cond : {A : Type 0} (P : A → Type 0) (t : Bool) (x y : A) → (t ≡ true → P x) → (t ≡ false → P y) → P (cond t x y)
on_cond P true x y f g = f refl
on_cond P false x y f g = g refl
