-- What the rules of integers and parameters amount to, claim by claim. proofs/Laws.antt has a proof
-- of each, under its name in small letters.
use Rattle.std.specs.Prelude.{ℕ, suc, ◌+◌, ◌^◌, ◌≤◌, ◌<◌, ◌≡◌, ◌⊎◌, Bool, true, false, List, length, get_or, ℤ, pos, negsuc}
use Rattle.flashrules.specs.Outcome.{outcome}
use Rattle.flashrules.specs.Image.{max_byte, Bytes}
use Rattle.flashrules.specs.declared.layout.Layout.{Layout}
use Rattle.gaugerules.specs.State.{is_full_access, has_low_supply}
use Rattle.gaugerules.specs.Script.{device, after_calls}
use Rattle.gaugerules.specs.Laws.{Good}
use Rattle.gaugerules.specs.declared.state.Gauge.{Gauge}
use Rattle.parameterrules.specs.Integer.{unsigned, to_bytes, from_bytes, fits_in}
use Rattle.parameterrules.specs.Kind.{width_of}
use Rattle.parameterrules.specs.Parameter.{start_in, row_bytes, parameter_value, get, set}
use Rattle.parameterrules.specs.Commits.{set_calls}
use Rattle.parameterrules.specs.declared.parameter.Parameter.{Parameter}

-- ---- integers in bytes, of every width, signed or not

abbrev pub ToBytesLength : Type 0
ToBytesLength = (width : ℕ) (v : ℤ) → length (to_bytes width v) ≡ width

abbrev pub ToBytesBytes : Type 0
ToBytesBytes = (width : ℕ) (v : ℤ) → Bytes (to_bytes width v)

-- value to bytes to value
abbrev pub ToFromBytes : Type 0
ToFromBytes =
    (signed : Bool) (width : ℕ) (v : ℤ) → fits_in signed width v ≡ true → from_bytes signed (to_bytes width v) ≡ v

-- bytes to value to bytes
abbrev pub FromToBytes : Type 0
FromToBytes = (signed : Bool) (bs : List ℕ) → Bytes bs → to_bytes (length bs) (from_bytes signed bs) ≡ bs

-- what is read fits
abbrev pub FromBytesFits : Type 0
FromBytesFits =
    (signed : Bool) (bs : List ℕ) → Bytes bs → 1 ≤ length bs → fits_in signed (length bs) (from_bytes signed bs) ≡ true

-- the bytes of n are n to the base 256
abbrev pub UnsignedBytes : Type 0
UnsignedBytes = (width n : ℕ) → n < 256 ^ width → unsigned (to_bytes width (pos n)) ≡ n

-- and those of -(n + 1) are that much less than the power: two's complement
abbrev pub TwosComplement : Type 0
TwosComplement = (width n : ℕ) → n < 256 ^ width → unsigned (to_bytes width (negsuc n)) + suc n ≡ 256 ^ width

-- ---- parameters

-- "image untouched"
abbrev pub SetRefused : Type 0
SetRefused =
    (l : Layout) (image : List ℕ) (p : Parameter) (v : ℤ) → let s = set l image p v in
    (s.answer ≡ 0 → ⊥) → s.lent ≡ image

-- a row's bytes are these, and every other byte is what it was
pub record Replaced (l : Layout) (image : List ℕ) (p : Parameter) (bs to : List ℕ) : Type 0 where
  pub size : length to ≡ length image
  pub here : row_bytes l to p ≡ bs
  pub outside : (j : ℕ) → (j < start_in l p) ⊎ (start_in l p + width_of p.kind ≤ j) → get_or to j 0 ≡ get_or image j 0

-- 01: "Setting changes exactly the bytes of that row"
abbrev pub SetReplaces : Type 0
SetReplaces =
    (l : Layout) (image : List ℕ) (p : Parameter) (v : ℤ) → let s = set l image p v in
    s.answer ≡ 0 → Replaced l image p (to_bytes (width_of p.kind) v) s.lent

-- what was set is read, and in range
abbrev pub SetThenGet : Type 0
SetThenGet =
    (l : Layout) (image : List ℕ) (p : Parameter) (v : ℤ) → let s = set l image p v in
    s.answer ≡ 0 → get l s.lent p ≡ parameter_value 0 v true

-- what was read in range can be set, and changes nothing
abbrev pub GetThenSet : Type 0
GetThenSet =
    (l : Layout) (image : List ℕ) (p : Parameter) → let g = get l image p in
    Bytes image → g.error ≡ 0 → g.in_range ≡ true → set l image p g.value ≡ outcome 0 image

-- a parameter whose bytes lie elsewhere reads as before
abbrev pub SetElsewhere : Type 0
SetElsewhere =
    (l : Layout) (image : List ℕ) (p q : Parameter) (v : ℤ) → let s = set l image p v in
    s.answer ≡ 0
    → (start_in l q + width_of q.kind ≤ start_in l p) ⊎ (start_in l p + width_of p.kind ≤ start_in l q)
    → get l s.lent q ≡ get l image q

-- ---- through the gauge

-- 01: "the image becomes what a full access gauge leaves that loads the block, writes them and
-- commits", any that is valid and on a supply that is not low; C-17: by two commits where the row
-- crosses a block's end
abbrev pub SetByGauge : Type 0
SetByGauge =
    (l : Layout) (image : List ℕ) (g : Gauge) (p : Parameter) (v : ℤ) → let s = set l image p v in
    Good l image g → is_full_access g ≡ true → has_low_supply g ≡ false → p.class ≤ max_byte → s.answer ≡ 0
    → (after_calls l (device g image) (set_calls l image p v)).image ≡ s.lent
