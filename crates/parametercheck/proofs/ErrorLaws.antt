-- The error of a reading, and that of a setting: 13 comes behind the others.
use Rattle.std.proofs.Common.{◌≡◌, ℕ, sym, Bool, not, cond, List, [], ◌∷◌, refl, ℤ}
use Rattle.flashrules.specs.Error.{out_of_range}
use Rattle.flashrules.specs.Refusal.{first_error}
use Rattle.flashrules.specs.declared.layout.Layout.{Layout}
use Rattle.flashrules.proofs.ErrorLaws.{check_passed, check_number, check_refused}
use Rattle.flashrules.proofs.RefusalLaws.{error_first, error_behind}
use Rattle.parameterrules.specs.Parameter.{in_range, get_tests, get_error, set_error}
use Rattle.parameterrules.specs.declared.parameter.Parameter.{Parameter}
use Rattle.parameterrules.proofs.PlaceLaws.{get_numbered}
use Rattle.parametercheck.proofs.KindLaws.{kind_number, get_refused}

pub get_error_is : (l : Layout) (size : ℕ) (p : Parameter) → get_error l size p ≡ first_error (get_tests l size p)
unfolding get_error
get_error_is l size p = refl

pub ruleset get_errors = (get_error_is, kind_number, get_refused)

module _ (l : Layout) (size : ℕ) (p : Parameter) (v : ℤ) where
  -- the test behind those of reading
  abbrev more : List (Bool × ℕ)
  more = (not (in_range p v), out_of_range) ∷ []

  pub error_stays : (get_error l size p ≡ 0 → ⊥) → set_error l size p v ≡ get_error l size p
  unfolding get_error set_error
  error_stays h = sym (error_first (get_tests l size p) more (get_numbered l size p) (get_error l size p) refl h)

  pub error_by_range : get_error l size p ≡ 0 → set_error l size p v ≡ cond (not (in_range p v)) out_of_range 0
  unfolding get_error set_error
  error_by_range z = sym (error_behind (get_tests l size p) more (get_numbered l size p) (get_error l size p) refl z _ refl)

pub ruleset set_errors = (error_stays, error_by_range, check_passed, check_number, check_refused)
