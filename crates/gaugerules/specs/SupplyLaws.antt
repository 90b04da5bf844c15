-- No flash writes on a low supply, and what a supply is changed by. Document 02, C-16.
-- proofs/Laws.antt has a proof of each claim, under its name in small letters.
use Rattle.std.specs.Prelude.{ℕ, ◌≡◌, Bool, true, false, cond, List, [], ◌∷◌, leb, length}
use Rattle.flashrules.specs.Error.{invalid_argument}
use Rattle.flashrules.specs.Choice.{and}
use Rattle.flashrules.specs.declared.layout.Layout.{Layout}
use Rattle.gaugerules.specs.State.{boot_sealed, max_supply, has_low_supply, with_supply, power_on}
use Rattle.gaugerules.specs.Word.{seal_word, reset_word, obey}
use Rattle.gaugerules.specs.Write.{write}
use Rattle.gaugerules.specs.Supply.{supplied, set_supply}
use Rattle.gaugerules.specs.Script.{Device, Call, to_write, to_read, to_supply, after_call, after_calls, unseals}
use Rattle.gaugerules.specs.Laws.{Good}
use Rattle.gaugerules.specs.Noninterference.{CallBytes}
use Rattle.gaugerules.specs.declared.state.Gauge.{Gauge}

-- ---- what changes the supply

-- "kept through sealing and reset": else these leave the record of power-on
abbrev pub RestartKeepsSupply : Type 0
RestartKeepsSupply =
    (l : Layout) (image : List ℕ) (g : Gauge)
    → (obey l image g seal_word ≡ with_supply (power_on boot_sealed) g.supply)
    × (obey l image g reset_word ≡ with_supply (power_on g.boot) g.supply)

-- no write changes it, whatever it sends, sealing and reset among it
abbrev pub WriteKeepsSupply : Type 0
WriteKeepsSupply =
    (l : Layout) (image : List ℕ) (g : Gauge) (r : ℕ) (bytes : List ℕ)
    → (write l image g r bytes).answer.gauge.supply ≡ g.supply

-- over an image of the layout a valid gauge takes every supply in range, and nothing else of it
-- changes; any other is refused with 1
abbrev pub SupplySet : Type 0
SupplySet =
    (l : Layout) (image : List ℕ) (g : Gauge) (millivolts : ℕ) → Good l image g
    → set_supply l (length image) g millivolts
    ≡ cond (leb millivolts max_supply) (supplied 0 (with_supply g millivolts)) (supplied invalid_argument g)

-- and stays valid
abbrev pub SupplyGood : Type 0
SupplyGood =
    (l : Layout) (image : List ℕ) (g : Gauge) (millivolts : ℕ) → Good l image g
    → Good l image (set_supply l (length image) g millivolts).gauge

-- the supply after a script, by its supply calls alone: the last one in range, or what it was
abbrev pub supply_after : ℕ → List Call → ℕ
supply_after s [] = s
supply_after s (to_write r bytes ∷ cs) = supply_after s cs
supply_after s (to_read r n buffer ∷ cs) = supply_after s cs
supply_after s (to_supply millivolts ∷ cs) = supply_after (cond (leb millivolts max_supply) millivolts s) cs

abbrev pub AllBytes : List Call → Type 0
AllBytes [] = Unit
AllBytes (c ∷ cs) = CallBytes c × AllBytes cs

-- so nothing but this call changes it, in any script
abbrev pub ScriptSupply : Type 0
ScriptSupply =
    (l : Layout) (d : Device) (cs : List Call) → Good l d.image d.gauge → AllBytes cs
    → (after_calls l d cs).gauge.supply ≡ supply_after d.gauge.supply cs

-- it never unseals a gauge
abbrev pub SupplyNeverUnseals : Type 0
SupplyNeverUnseals = (l : Layout) (d : Device) (millivolts : ℕ) → unseals l d (to_supply millivolts) ≡ false

-- ---- "No flash writes on a low supply."

-- every call meets the gauge on one
abbrev pub always_low : Layout → Device → List Call → Bool
always_low l d [] = true
always_low l d (c ∷ cs) = and (has_low_supply d.gauge ∷ always_low l (after_call l d c) cs ∷ [])

-- no byte of the image changes, whatever is written: from any state over any image, and after any
-- script, so after every call of it
abbrev pub LowSupplyKeepsImage : Type 0
LowSupplyKeepsImage =
    (l : Layout) (d : Device) (cs : List Call) → always_low l d cs ≡ true → (after_calls l d cs).image ≡ d.image
