-- What a supply call answers, by the error that its tests come to.
use Prim.Native.Nat.{ℕ}
use mathlib.Core.Path.{◌≡◌, refl}
use mathlib.Core.Bool.{cond}
use lib.Dec.{eqb, ltb}
use Rattle.flashrules.specs.Refusal.{first_error}
use Rattle.flashrules.specs.declared.layout.Layout.{Layout}
use Rattle.gaugerules.specs.State.{max_supply, with_supply}
use Rattle.gaugerules.specs.Write.{entry_tests}
use Rattle.gaugerules.specs.Supply.{supplied, supply_error, set_supply}
use Rattle.gaugerules.specs.declared.state.Gauge.{Gauge}

pub supply_is : (l : Layout) (size : ℕ) (g : Gauge) (millivolts : ℕ) → set_supply l size g millivolts
    ≡ cond (eqb (first_error (entry_tests l size g (ltb max_supply millivolts))) 0) (supplied 0 (with_supply g millivolts))
    (supplied (first_error (entry_tests l size g (ltb max_supply millivolts))) g)
unfolding set_supply supply_error
supply_is l size g millivolts = refl
