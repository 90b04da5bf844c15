-- The supply of a gauge is set. Document 02, C-16: "The gauge record gains its supply in
-- millivolts, 0 to 4,500", and a frame "sets it and replies the number alone". It works in every
-- mode.
use Rattle.std.specs.Prelude.{ℕ, Bool, cond, List, eqb, ltb}
use Rattle.flashrules.specs.Refusal.{first_error}
use Rattle.flashrules.specs.declared.layout.Layout.{Layout}
use Rattle.gaugerules.specs.State.{max_supply, with_supply}
use Rattle.gaugerules.specs.Write.{entry_tests}
use Rattle.gaugerules.specs.declared.state.Gauge.{Gauge}
use Rattle.gaugerules.specs.Answer.{SupplyAnswer}

abbrev pub supplied : ℕ → Gauge → SupplyAnswer
supplied e g = record { error = e; gauge = g }

-- "Refusals: 10, 15, 1 for a supply above 4,500". The image has `size` bytes
abbrev pub supply_tests : Layout → ℕ → Gauge → ℕ → List (Bool × ℕ)
supply_tests l size g millivolts = entry_tests l size g (ltb max_supply millivolts)

unfoldable pub supply_error : Layout → ℕ → Gauge → ℕ → ℕ
supply_error l size g millivolts = first_error (supply_tests l size g millivolts)

-- refused, the gauge is as it was
unfoldable pub set_supply : Layout → ℕ → Gauge → ℕ → SupplyAnswer
set_supply l size g millivolts =
    let e = supply_error l size g millivolts in
    cond (eqb e 0) (supplied 0 (with_supply g millivolts)) (supplied e g)
