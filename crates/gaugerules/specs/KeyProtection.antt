-- Only full access changes keys. Document 02, C-14. proofs/Laws.antt has a proof of each claim,
-- under its name in small letters.
use Rattle.std.specs.Prelude.{ℕ, ◌≡◌, ◌↔◌, Bool, true, false, cond, not, List, [], ◌∷◌, length}
use Rattle.flashrules.specs.Choice.{and}
use Rattle.flashrules.specs.Layout.{fits}
use Rattle.flashrules.specs.declared.layout.Layout.{Layout}
use Rattle.gaugerules.specs.State.{boot_sealed, is_unsealed, is_full_access, power_on}
use Rattle.gaugerules.specs.Valid.{valid}
use Rattle.gaugerules.specs.Keys.{full_access_key, keys, key_bytes, is_key}
use Rattle.gaugerules.specs.Transfer.{changes_keys, committed}
use Rattle.gaugerules.specs.Script.{Device, device, Call, after_call, after_calls, words}
use Rattle.gaugerules.specs.declared.state.Gauge.{Gauge}

-- ---- one commit

-- what 16 is given for: the gauge is unsealed, and the image that the commit would leave has other
-- key bytes. So not in full access, not where the bytes are those that are there, and not for any
-- other block
abbrev pub KeyChange : Type 0
KeyChange =
    (l : Layout) (image : List ℕ) (g : Gauge) → fits l (length image) ≡ true → valid l g ≡ true
    → (changes_keys l image g ≡ true)
    ↔ ((is_unsealed g ≡ true) × (key_bytes l (committed l image g) ≡ key_bytes l image → ⊥))

-- ---- whole scripts

-- no call meets the gauge in full access
abbrev pub never_full_access : Layout → Device → List Call → Bool
never_full_access l d [] = true
never_full_access l d (c ∷ cs) = and (not (is_full_access d.gauge) ∷ never_full_access l (after_call l d c) cs ∷ [])

-- as long as a gauge never reaches full access, the eight key bytes of its image are what they
-- were, whatever is written: from any state over any image, and after any script, so after every
-- call of it. A call that reaches full access leaves them too
abbrev pub KeysKept : Type 0
KeysKept =
    (l : Layout) (d : Device) (cs : List Call) → never_full_access l d cs ≡ true
    → key_bytes l (after_calls l d cs).image ≡ key_bytes l d.image

-- ---- scripts without the key

-- two words, one behind the other, are the full access key that these bytes hold
abbrev pub sends_full_access_key : List ℕ → List ℕ → Bool
sends_full_access_key bs [] = false
sends_full_access_key bs (u ∷ []) = false
sends_full_access_key bs (u ∷ w ∷ ws) = cond (is_key bs full_access_key u w) true (sends_full_access_key bs (w ∷ ws))

-- a script on a gauge powered on sealed that never sends the full access key of its image leaves
-- the keys
abbrev pub KeysKeptWithoutKey : Type 0
KeysKeptWithoutKey =
    (l : Layout) (image : List ℕ) (cs : List Call) → let d = device (power_on boot_sealed) image in
    sends_full_access_key (keys l image) (words l d cs) ≡ false
    → key_bytes l (after_calls l d cs).image ≡ key_bytes l image
