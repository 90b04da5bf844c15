-- A proof by the cases of what a supply call does: it sets the supply, or leaves the gauge. The one
-- place that goes through its rule.
use Prim.Native.Nat.{ℕ, ◌≤◌}
use mathlib.Core.Path.{◌≡◌, refl}
use lib.Dec.{eqb}
use borrow.Author.Tests.{eqb-true, ltb-false}
use native.Mathlib.Omega.{arith}
use Rattle.flashrules.specs.declared.layout.Layout.{Layout}
use Rattle.flashrules.proofs.Laws.{no_error}
use Rattle.flashrules.proofs.Picks.{on_cond}
use Rattle.gaugerules.specs.State.{max_supply, with_supply}
use Rattle.gaugerules.specs.Supply.{supplied, supply_tests, supply_error, set_supply}
use Rattle.gaugerules.specs.declared.state.Gauge.{Gauge}
use Rattle.gaugerules.specs.Answer.{SupplyAnswer}
use Rattle.gaugerules.proofs.LockLaws.{lock}

module _ (l : Layout) (size : ℕ) (g : Gauge) (millivolts : ℕ) where
  few : supply_error l size g millivolts ≡ 0 → millivolts ≤ max_supply
  unfolding supply_error
  few e =
      let t = (no_error (supply_tests l size g millivolts) (omega arith, (omega arith, (omega arith, tt)))).0 e in
      ltb-false max_supply millivolts t.1.1.0

  pub on_supply : (P : SupplyAnswer → Type 0) → (millivolts ≤ max_supply → P (supplied 0 (with_supply g millivolts))) → ((e : ℕ) → P (supplied e g))
      → P (set_supply l size g millivolts)
  unfolding set_supply
  on_supply P accepted refused =
      on_cond P (eqb (supply_error l size g millivolts) 0) _ _ (λ e. accepted (few (eqb-true _ _ e))) (λ _. refused _)

  -- no word and no mode is touched
  pub supply_lock : lock (set_supply l size g millivolts).gauge ≡ lock g
  supply_lock = on_supply (λ s. lock s.gauge ≡ lock g) (λ _. refl) (λ e. refl)
