-- Laws of `compare`: what it means that two images can be compared, and what is answered.
use Prim.Native.Nat.{ℕ, ◌≤◌, ◌<◌}
use mathlib.Core.Path.{◌≡◌, sym, ap, ◌∙◌}
use mathlib.Core.Bool.{true, not}
use mathlib.Core.List.{List}
use borrow.Author.Rules.{rules}
use borrow.Author.Tests.{ne_eqb, lt-ltb, le-ltb}
use lib.ListN.{length}
use lib.Seq.{sets}
use Rattle.flashrules.specs.Error.{short_buffer}
use Rattle.flashrules.specs.Refusal.{NoneHolds}
use Rattle.flashrules.specs.Outcome.{outcome}
use Rattle.flashrules.specs.Layout.{fits, same_layout, size_of}
use Rattle.flashrules.specs.declared.layout.Layout.{Layout}
use Rattle.flashrules.proofs.Picks.{not_not}
use Rattle.flashrules.proofs.LayoutLaws.{fits_parts}
use Rattle.flashrules.proofs.Laws.{no_error, same_test}
use Rattle.imagerules.specs.File.{not_written}
use Rattle.deltarules.specs.Run.{runs}
use Rattle.deltarules.specs.Text.{serialize_runs}
use Rattle.deltarules.specs.Compare.{pair_tests, pair_error, compare}

-- ---- two images that can be compared: both fit one layout, so they are as long

module _ (l : Layout) (n : ℕ) (l' : Layout) (n' : ℕ) (e : pair_error l n l' n' ≡ 0) where
  none_holds : NoneHolds (pair_tests l n l' n')
  unfolding pair_error
  none_holds = (no_error (pair_tests l n l' n') (search rules)).0 e

  pub good_first : fits l n ≡ true
  good_first = not_not (fits l n) ∙ ap not none_holds.0

  good_second : fits l' n' ≡ true
  good_second = not_not (fits l' n') ∙ ap not none_holds.1.0

  good_same : same_layout l l' ≡ true
  good_same = not_not (same_layout l l') ∙ ap not none_holds.1.1.0

  pub good_length : n ≡ n'
  good_length =
      let c = ((same_test l l').0 good_same).classes in
      (fits_parts l n good_first).1 ∙ ap size_of c ∙ sym (fits_parts l' n' good_second).1

-- ---- comparing

module _ (l : Layout) (old : List ℕ) (l' : Layout) (new r : List ℕ) where
  pub compare_bad : (pair_error l (length old) l' (length new) ≡ 0 → ⊥)
      → outcome (not_written (pair_error l (length old) l' (length new))) r ≡ compare l old l' new r
  unfolding compare
  compare_bad h = rw (ne_eqb (pair_error l (length old) l' (length new)) 0 h)

  module _ (e : pair_error l (length old) l' (length new) ≡ 0) where
    pub compare_short : length r < length (serialize_runs (runs l old new)) → outcome (not_written short_buffer) r ≡ compare l old l' new r
    unfolding compare
    compare_short h = rw (e, lt-ltb (length r) (length (serialize_runs (runs l old new))) h)

    pub compare_good : length (serialize_runs (runs l old new)) ≤ length r
        → outcome (record { error = 0; length = length (serialize_runs (runs l old new)) }) (sets r 0 (serialize_runs (runs l old new)))
        ≡ compare l old l' new r
    unfolding compare
    compare_good h = rw (e, le-ltb (length r) (length (serialize_runs (runs l old new))) h)

-- what proves `compare`
pub ruleset compares = (good_first, good_length, compare_bad, compare_short, compare_good)
