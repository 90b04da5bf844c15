-- Demand 3: two sealed gauges with equal layouts and manufacturer info blocks cannot be told apart;
-- and what unseals a gauge. Document 01, "Two gauges, one script". proofs/Laws.antt has a proof of
-- each claim, under its name in small letters.
use Rattle.std.specs.Prelude.{ℕ, ◌<◌, ◌≡◌, true, false, List, [], ◌∷◌, ◌++◌, length, get_or}
use Rattle.flashrules.specs.Layout.{info_class, fits}
use Rattle.flashrules.specs.Lookup.{find_block}
use Rattle.flashrules.specs.Image.{Bytes, block_bytes}
use Rattle.flashrules.specs.Laws.{Within, SameClasses}
use Rattle.flashrules.specs.declared.layout.Layout.{Layout}
use Rattle.gaugerules.specs.State.{boot_sealed, info_blocks, block_b, block_c, is_sealed, power_on}
use Rattle.gaugerules.specs.Valid.{valid}
use Rattle.gaugerules.specs.Script.{Device, device, Call, to_write, to_read, to_supply, reply, after_call, unseals}
use Rattle.gaugerules.specs.Script.{obeyed, enters_key}
use Rattle.gaugerules.specs.declared.state.Gauge.{Gauge}

-- ---- what a sealed gauge may look at

-- two images agree there
pub record Agree (l : Layout) (image₁ image₂ : List ℕ) : Type 0 where
  pub info : (b : ℕ) → b < info_blocks → block_bytes l image₁ info_class b ≡ block_bytes l image₂ info_class b

-- ---- what it may change

-- every byte outside blocks B and C is what it was at the start
pub record Kept (l : Layout) (start image : List ℕ) : Type 0 where
  pub size : length image ≡ length start
  pub outside : (j : ℕ)
      → (Within (find_block l (length start) info_class block_b) j → ⊥)
      → (Within (find_block l (length start) info_class block_c) j → ⊥)
      → get_or image j 0 ≡ get_or start j 0

-- ---- two devices under one script

-- they began with the images start₁ and start₂: as long as no call unseals either, the replies are
-- equal, and after the call the images agree and each is kept; and so on with the rest of the
-- script. The layouts mean the same, so that l₁ tells where the blocks of both lie
abbrev pub Indistinguishable : Layout → Layout → List ℕ → List ℕ → Device → Device → List Call → Type 0
Indistinguishable l₁ l₂ start₁ start₂ d₁ d₂ [] = Unit
Indistinguishable l₁ l₂ start₁ start₂ d₁ d₂ (c ∷ cs) =
    unseals l₁ d₁ c ≡ false
    → unseals l₂ d₂ c ≡ false
    → (reply l₁ d₁ c ≡ reply l₂ d₂ c)
    × Agree l₁ (after_call l₁ d₁ c).image (after_call l₂ d₂ c).image
    × Kept l₁ start₁ (after_call l₁ d₁ c).image
    × Kept l₁ start₂ (after_call l₂ d₂ c).image
    × Indistinguishable l₁ l₂ start₁ start₂ (after_call l₁ d₁ c) (after_call l₂ d₂ c) cs

-- two gauges in one valid sealed state, over images that agree, of layouts that mean the same; and
-- any script
abbrev pub SealedNoninterference : Type 0
SealedNoninterference =
    (l₁ l₂ : Layout) (image₁ image₂ : List ℕ) (g : Gauge) → SameClasses l₁ l₂ → fits l₁ (length image₁) ≡ true
    → fits l₂ (length image₂) ≡ true → valid l₁ g ≡ true → is_sealed g ≡ true → Agree l₁ image₁ image₂
    → (cs : List Call) → Indistinguishable l₁ l₂ image₁ image₂ (device g image₁) (device g image₂) cs

-- demand 3: "Two sealed gauges with equal layouts and manufacturer blocks, whatever else their
-- flash holds", from power-on with home sealed
abbrev pub Noninterference : Type 0
Noninterference =
    (l₁ l₂ : Layout) (image₁ image₂ : List ℕ) → SameClasses l₁ l₂ → fits l₁ (length image₁) ≡ true
    → fits l₂ (length image₂) ≡ true
    → Agree l₁ image₁ image₂ → let g = power_on boot_sealed in
    (cs : List Call) → Indistinguishable l₁ l₂ image₁ image₂ (device g image₁) (device g image₂) cs

-- ---- a write unseals exactly by the key

-- what the type of a call's bytes says of them
abbrev pub CallBytes : Call → Type 0
CallBytes (to_write r bytes) = Bytes bytes
CallBytes (to_read r n buffer) = Unit
CallBytes (to_supply millivolts) = Unit

-- a device that has obeyed the words `past`, the last one first, under a script: a call unseals it
-- exactly if it enters the key; and if it does not, so on with the rest of the script
abbrev pub ByKeyAlone : Layout → Device → List ℕ → List Call → Type 0
ByKeyAlone l d past [] = Unit
ByKeyAlone l d past (c ∷ cs) =
    CallBytes c
    → (unseals l d c ≡ enters_key l d.image (obeyed l d c) past)
    × (unseals l d c ≡ false → ByKeyAlone l (after_call l d c) (obeyed l d c ++ past) cs)

-- 01: "From this start that is: a byte taken at 0x01 makes a word, another word was obeyed before
-- it, .."
abbrev pub UnsealsByKey : Type 0
UnsealsByKey = (l : Layout) (image : List ℕ) (cs : List Call) → ByKeyAlone l (device (power_on boot_sealed) image) [] cs
