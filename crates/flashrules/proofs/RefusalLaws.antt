-- Laws of the order of refusals: when none of the tests holds, and one list of tests behind
-- another.
use Prim.Native.Nat.{ℕ}
use mathlib.Core.Path.{◌≡◌, refl, sym, ◌∙◌}
use Rattle.std.specs.Prelude.{Result, Ok, Err}
use Rattle.flashrules.specs.Error.{number, number_of}
use Rattle.flashrules.specs.declared.error.Error.{Error}
use Rattle.flashrules.proofs.ErrorLaws.{check_passed, check_number, check_refused}
use mathlib.Core.Bool.{Bool, cond}
use mathlib.Core.List.{List, [], ◌∷◌, ◌++◌}
use native.Mathlib.Omega.{arith}
use lib.Dec.{eqb}
use borrow.Author.Tests.{ne_eqb}
use Rattle.flashrules.specs.Refusal.{first_error, NoneHolds, Numbered}
use Rattle.flashrules.specs.Laws.{NoError}
use Rattle.flashrules.proofs.Picks.{on_test, on_cond}

none_holds : (ts : List (Bool × ℕ)) → Numbered ts → first_error ts ≡ 0 → NoneHolds ts
none_holds [] n e = tt
none_holds (t ∷ ts) n e =
    on_test t.0 (λ p. absurd (let z : t.1 ≡ 0 = rw p at e in omega (arith, n.0)))
    (λ p. (p, none_holds ts n.1 (rw p at e)))

no_number : (ts : List (Bool × ℕ)) → NoneHolds ts → first_error ts ≡ 0
no_number [] n = refl
no_number (t ∷ ts) n = rw n.0 (no_number ts n.1)

pub no_error : NoError
no_error ts n = (none_holds ts n, no_number ts)

first_append : (ts us : List (Bool × ℕ)) → Numbered ts → first_error (ts ++ us) ≡ cond (eqb (first_error ts) 0) (first_error us) (first_error ts)
first_append [] us n = refl
first_append (t ∷ ts) us n =
    on_test t.0 (λ p. rw (p, ne_eqb t.1 0 (λ e. omega (arith, n.0)))) (λ p. rw p (first_append ts us n.1))

-- what holds of 0 and of every number holds of the error
module _ (P : ℕ → Type 0) where
  abbrev pub EachNumber : List (Bool × ℕ) → Type 0
  EachNumber [] = Unit
  EachNumber (t ∷ ts) = P t.1 × EachNumber ts

  pub first_in : (ts : List (Bool × ℕ)) → P 0 → EachNumber ts → P (first_error ts)
  first_in [] z n = z
  first_in (t ∷ ts) z n = on_cond P t.0 t.1 (first_error ts) (λ _. n.0) (λ _. first_in ts z n.1)

-- more tests behind others, whose error is e: they count where that is 0
module _ (ts us : List (Bool × ℕ)) (n : Numbered ts) (e : ℕ) (p : e ≡ first_error ts) where
  pub error_first : (e ≡ 0 → ⊥) → e ≡ first_error (ts ++ us)
  error_first h = rw (first_append ts us n, ← p, ne_eqb e 0 h)

  pub error_behind : e ≡ 0 → (k : ℕ) → k ≡ first_error us → k ≡ first_error (ts ++ us)
  error_behind h k q = rw (first_append ts us n, ← p, h) q

-- the same of a check that answers the error of the tests
module _ {A : Type 0} (ts us : List (Bool × ℕ)) (n : Numbered ts) (r : Result A Error) (p : number_of r ≡ first_error ts) where
  pub check_first : (e : Error) → r ≡ Err e → number e ≡ first_error (ts ++ us)
  check_first e q = sym (check_number r _ p e q) ∙ error_first ts us n _ refl (check_refused r _ p e q)

  pub check_behind : (x : A) → r ≡ Ok x → (k : ℕ) → k ≡ first_error us → k ≡ first_error (ts ++ us)
  check_behind x q = error_behind ts us n _ refl (check_passed r _ p x q)
