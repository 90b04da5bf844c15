-- What a cut of power finds while a parameter is set on the gauge, and what can be done then.
-- Document 02, C-17. proofs/Laws.antt has a proof of each claim, under its name in small letters.
use Rattle.std.specs.Prelude.{ℕ, suc, ◌+◌, ◌-◌, ◌/◌, ◌%◌, ◌≤◌, ◌<◌, ◌≡◌, true, false, cond, List, [], ◌∷◌, ℤ}
use Rattle.flashrules.specs.Lookup.{block_size}
use Rattle.flashrules.specs.Image.{max_byte}
use Rattle.flashrules.specs.declared.layout.Layout.{Layout}
use Rattle.gaugerules.specs.State.{is_full_access, has_low_supply}
use Rattle.gaugerules.specs.Script.{device, images_after, all_accepted}
use Rattle.gaugerules.specs.Laws.{Good}
use Rattle.gaugerules.specs.declared.state.Gauge.{Gauge}
use Rattle.parameterrules.specs.Integer.{from_bytes}
use Rattle.parameterrules.specs.Kind.{width_of, is_signed}
use Rattle.parameterrules.specs.Parameter.{in_range, parameter_value, get, set}
use Rattle.parameterrules.specs.Commits.{lower_width, crosses_block, between_commits, mixed_bytes, set_calls}
use Rattle.parameterrules.specs.Laws.{Replaced}
use Rattle.parameterrules.specs.declared.parameter.Parameter.{Parameter}

-- no parameter touches three blocks: what crosses a block's end begins the next one, and ends in it
abbrev pub UpperBlock : Type 0
UpperBlock =
    (p : Parameter) → crosses_block p ≡ true → let at = p.offset + lower_width p in
    (at / block_size ≡ suc (p.offset / block_size))
    × (at % block_size ≡ 0)
    × (width_of p.kind - lower_width p < block_size)

-- a full access gauge, valid and on a supply that is not low, accepts every call of a setting
abbrev pub SetAccepted : Type 0
SetAccepted =
    (l : Layout) (image : List ℕ) (g : Gauge) (p : Parameter) (v : ℤ) → Good l image g → is_full_access g ≡ true
    → has_low_supply g ≡ false → p.class ≤ max_byte → (set l image p v).answer ≡ 0
    → all_accepted l (device g image) (set_calls l image p v) ≡ true

-- "before the first commit the old bytes, between the two the new bytes of the lower block with the
-- old of the upper, afterwards all new": the images that the calls leave on such a gauge, one after
-- the other. Three calls come before the first commit, 0 to 0x61, class and block, and the bytes,
-- and two before the second, class and block, and the bytes. So nothing is stored at any other
-- moment
abbrev pub PowerCut : Type 0
PowerCut =
    (l : Layout) (image : List ℕ) (g : Gauge) (p : Parameter) (v : ℤ) → Good l image g → is_full_access g ≡ true
    → has_low_supply g ≡ false → p.class ≤ max_byte → let s = set l image p v in
    s.answer ≡ 0
    → let between = between_commits l image p v in
    images_after l (device g image) (set_calls l image p v)
    ≡ image ∷ image ∷ image
    ∷ cond (crosses_block p) (between ∷ between ∷ between ∷ s.lent ∷ []) (s.lent ∷ [])

-- "and in each case no byte outside the row altered": of the one between; `SetReplaces` says it of
-- the last
abbrev pub CutReplaces : Type 0
CutReplaces =
    (l : Layout) (image : List ℕ) (p : Parameter) (v : ℤ) → (set l image p v).answer ≡ 0
    → Replaced l image p (mixed_bytes l image p v) (between_commits l image p v)

-- what is read then is the value of those bytes, which need be neither the old nor the new one, and
-- may be out of range
abbrev pub GetAfterCut : Type 0
GetAfterCut =
    (l : Layout) (image : List ℕ) (p : Parameter) (v : ℤ) → (set l image p v).answer ≡ 0
    → let u = from_bytes (is_signed p.kind) (mixed_bytes l image p v) in
    get l (between_commits l image p v) p ≡ parameter_value 0 u (in_range p u)

-- the same setting once more leaves what it would have left without the cut
abbrev pub SetAfterCut : Type 0
SetAfterCut =
    (l : Layout) (image : List ℕ) (p : Parameter) (v : ℤ) → let s = set l image p v in
    s.answer ≡ 0 → set l (between_commits l image p v) p v ≡ s
