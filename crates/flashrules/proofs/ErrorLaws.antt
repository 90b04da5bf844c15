-- Laws of the refusals' numbers: no refusal has the number 0, and no two have one number.
use Rattle.std.specs.Prelude.{ℕ, ◌≡◌, cond, eqb, Option, Some, None, Result, Ok, Err}
use mathlib.Core.Path.{refl, sym, ap, ◌∙◌}
use native.Mathlib.Omega.{arith}
use Rattle.flashrules.specs.Error.{number, number_or_none, number_of}
use Rattle.flashrules.specs.Laws.{NumberSome, NumbersApart}
use Rattle.flashrules.specs.declared.error.Error.{Error}

pub number_some : NumberSome
number_some Error.InvalidArgument = omega arith
number_some Error.ReadOnly = omega arith
number_some Error.SealedRegister = omega arith
number_some Error.UnknownClass = omega arith
number_some Error.UnknownBlock = omega arith
number_some Error.NothingLoaded = omega arith
number_some Error.ProtectedBlock = omega arith
number_some Error.WrongChecksum = omega arith
number_some Error.InvalidControl = omega arith
number_some Error.Malformed = omega arith
number_some Error.InvalidParameter = omega arith
number_some Error.MisplacedParameter = omega arith
number_some Error.OutOfRange = omega arith
number_some Error.ShortBuffer = omega arith
number_some Error.InvalidGauge = omega arith
number_some Error.ProtectedKeys = omega arith
number_some Error.LowSupply = omega arith
number_some Error.LayoutMismatch = omega arith

-- the refusal with a number
abbrev error_at : ℕ → Error
error_at n =
    cond (eqb n 1) Error.InvalidArgument (
    cond (eqb n 2) Error.ReadOnly (
    cond (eqb n 3) Error.SealedRegister (
    cond (eqb n 4) Error.UnknownClass (
    cond (eqb n 5) Error.UnknownBlock (
    cond (eqb n 6) Error.NothingLoaded (
    cond (eqb n 7) Error.ProtectedBlock (
    cond (eqb n 8) Error.WrongChecksum (
    cond (eqb n 9) Error.InvalidControl (
    cond (eqb n 10) Error.Malformed (
    cond (eqb n 11) Error.InvalidParameter (
    cond (eqb n 12) Error.MisplacedParameter (
    cond (eqb n 13) Error.OutOfRange (
    cond (eqb n 14) Error.ShortBuffer (
    cond (eqb n 15) Error.InvalidGauge (
    cond (eqb n 16) Error.ProtectedKeys (
    cond (eqb n 17) Error.LowSupply (
    Error.LayoutMismatch)))))))))))))))))

error_at_number : (e : Error) → error_at (number e) ≡ e
error_at_number Error.InvalidArgument = refl
error_at_number Error.ReadOnly = refl
error_at_number Error.SealedRegister = refl
error_at_number Error.UnknownClass = refl
error_at_number Error.UnknownBlock = refl
error_at_number Error.NothingLoaded = refl
error_at_number Error.ProtectedBlock = refl
error_at_number Error.WrongChecksum = refl
error_at_number Error.InvalidControl = refl
error_at_number Error.Malformed = refl
error_at_number Error.InvalidParameter = refl
error_at_number Error.MisplacedParameter = refl
error_at_number Error.OutOfRange = refl
error_at_number Error.ShortBuffer = refl
error_at_number Error.InvalidGauge = refl
error_at_number Error.ProtectedKeys = refl
error_at_number Error.LowSupply = refl
error_at_number Error.LayoutMismatch = refl

pub numbers_apart : NumbersApart
numbers_apart e f p = sym (error_at_number e) ∙ ap error_at p ∙ error_at_number f

-- and with 0 for none no two either
pub none_apart : (a b : Option Error) → number_or_none a ≡ number_or_none b → a ≡ b
none_apart None None p = refl
none_apart None (Some f) p = absurd (omega (arith, p, number_some f))
none_apart (Some e) None p = absurd (omega (arith, p, number_some e))
none_apart (Some e) (Some f) p = ap Some (numbers_apart e f p)

-- ---- for the callers of a check, which answers n

module _ {A : Type 0} (r : Result A Error) (n : ℕ) (p : number_of r ≡ n) where
  pub check_passed : (x : A) → r ≡ Ok x → n ≡ 0
  check_passed x q = sym p ∙ rw q

  pub check_number : (e : Error) → r ≡ Err e → n ≡ number e
  check_number e q = sym p ∙ rw q

  pub check_refused : (e : Error) → r ≡ Err e → n ≡ 0 → ⊥
  check_refused e q z = let g : n ≡ number e = check_number e q in omega (arith, number_some e)

pub ruleset checks = (check_passed, check_number, check_refused)
