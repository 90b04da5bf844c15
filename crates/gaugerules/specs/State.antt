-- The state of a gauge: named numbers, tests, and the changes that the rules make. Document 01,
-- "The gauge record". A field that is added to the record is added to the changes here and to
-- `in_range` of specs/Valid.antt.
use Rattle.std.specs.Prelude.{ℕ, ◌+◌, ◌*◌, ◌/◌, ◌%◌, Bool, true, false, cond, List, [], ◌∷◌, eqb, ltb, replicate, Option, None, Some}
use Rattle.flashrules.specs.Choice.{and}
use Rattle.flashrules.specs.Lookup.{block_size}
use Rattle.gaugerules.specs.declared.state.Gauge.{Gauge}
use Rattle.gaugerules.specs.declared.state.BlockId.{BlockId}

-- ---- named numbers

-- 01: "Mode (sealed, unsealed, full access)"
abbrev pub sealed : ℕ
sealed = 0

abbrev pub unsealed : ℕ
unsealed = 1

abbrev pub full_access : ℕ
full_access = 2

-- 01: "home (sealed or open)"
abbrev pub boot_sealed : ℕ
boot_sealed = 0

abbrev pub boot_open : ℕ
boot_open = 1

-- 01: "a waiting key word or none". A word has 16 bits, so this is none
abbrev pub no_word : ℕ
no_word = 0x10000

-- 01: "loaded block or none". A loaded block is 256 x class + block, so this is none
abbrev pub no_block : ℕ
no_block = 0x10000

-- 01: "BlockDataControl (0 or 1)": 0 selects the data flash, 1 the manufacturer info blocks
abbrev pub control_flash : ℕ
control_flash = 0

abbrev pub control_info : ℕ
control_info = 1

-- 01: "Manufacturer blocks A, B, C are blocks 0, 1, 2 of class 58."
abbrev pub info_blocks : ℕ
info_blocks = 3

abbrev pub block_a : ℕ
block_a = 0

abbrev pub block_b : ℕ
block_b = 1

abbrev pub block_c : ℕ
block_c = 2

abbrev pub zero_window : List ℕ
zero_window = replicate block_size 0

-- 02, C-16: "its supply in millivolts, 0 to 4,500, at 3,600 on power-on"
abbrev pub max_supply : ℕ
max_supply = 4500

abbrev pub power_on_supply : ℕ
power_on_supply = 3600

-- 02, C-16: "2,700 itself is accepted": the least that a commit takes
abbrev pub min_commit_supply : ℕ
min_commit_supply = 2700

-- ---- tests

abbrev pub is_sealed : Gauge → Bool
is_sealed g = eqb g.mode sealed

abbrev pub is_unsealed : Gauge → Bool
is_unsealed g = eqb g.mode unsealed

abbrev pub is_full_access : Gauge → Bool
is_full_access g = eqb g.mode full_access

abbrev pub none_pending : Gauge → Bool
none_pending g = eqb g.pending no_word

-- C-16: "A commit under 2,700 is refused"
abbrev pub has_low_supply : Gauge → Bool
has_low_supply g = ltb g.supply min_commit_supply

-- 01: "General access means not sealed and BlockDataControl 0."
abbrev pub general_access : Gauge → Bool
general_access g = cond (is_sealed g) false (eqb g.control control_flash)

-- ---- what is loaded

-- a loaded block as one number
abbrev pub packed : ℕ → ℕ → ℕ
packed i b = 256 * i + b

-- 01: "loaded block or none": none, or a block of a class
abbrev pub Loaded : Type 0
Loaded = Option BlockId

abbrev pub block_loaded : ℕ → ℕ → Loaded
block_loaded i b = Some (record { class = i; block = b })

unfoldable pub loaded_of : ℕ → Loaded
loaded_of n = cond (eqb n no_block) None (block_loaded (n / 256 % 256) (n % 256))

-- the rules go by its cases
module _ {A : Type 0} where
  abbrev pub if_loaded : Loaded → A → (ℕ → ℕ → A) → A
  if_loaded None x f = x
  if_loaded (Some k) x f = f k.class k.block

abbrev pub none_loaded : Gauge → Bool
none_loaded g = if_loaded (loaded_of g.loaded) true (λ i b. false)

-- this block of this class is
abbrev pub is_loaded : Gauge → ℕ → ℕ → Bool
is_loaded g class block =
    if_loaded (loaded_of g.loaded) false (λ i b. and (eqb i class ∷ eqb b block ∷ []))

-- ---- changes of one field

abbrev pub gauge : ℕ → ℕ → ℕ → ℕ → ℕ → ℕ → ℕ → ℕ → ℕ → ℕ → List ℕ → Gauge
gauge m h l p r c i b n s w = record {
  mode = m;
  boot = h;
  low = l;
  pending = p;
  result = r;
  control = c;
  class = i;
  block = b;
  loaded = n;
  supply = s;
  window = w;
}

abbrev pub with_mode : Gauge → ℕ → Gauge
with_mode g x =
    gauge x g.boot g.low g.pending g.result g.control g.class g.block g.loaded g.supply
    g.window

abbrev pub with_low : Gauge → ℕ → Gauge
with_low g x =
    gauge g.mode g.boot x g.pending g.result g.control g.class g.block g.loaded g.supply
    g.window

abbrev pub with_pending : Gauge → ℕ → Gauge
with_pending g x =
    gauge g.mode g.boot g.low x g.result g.control g.class g.block g.loaded g.supply
    g.window

abbrev pub with_result : Gauge → ℕ → Gauge
with_result g x =
    gauge g.mode g.boot g.low g.pending x g.control g.class g.block g.loaded g.supply
    g.window

abbrev pub with_control : Gauge → ℕ → Gauge
with_control g x =
    gauge g.mode g.boot g.low g.pending g.result x g.class g.block g.loaded g.supply
    g.window

abbrev pub with_class : Gauge → ℕ → Gauge
with_class g x =
    gauge g.mode g.boot g.low g.pending g.result g.control x g.block g.loaded g.supply
    g.window

abbrev pub with_block : Gauge → ℕ → Gauge
with_block g x =
    gauge g.mode g.boot g.low g.pending g.result g.control g.class x g.loaded g.supply
    g.window

abbrev pub with_loaded : Gauge → ℕ → Gauge
with_loaded g x =
    gauge g.mode g.boot g.low g.pending g.result g.control g.class g.block x g.supply
    g.window

abbrev pub with_supply : Gauge → ℕ → Gauge
with_supply g x =
    gauge g.mode g.boot g.low g.pending g.result g.control g.class g.block g.loaded x
    g.window

abbrev pub with_window : Gauge → List ℕ → Gauge
with_window g x =
    gauge g.mode g.boot g.low g.pending g.result g.control g.class g.block g.loaded g.supply
    x

-- ---- power-on, restart, load and unload

-- 01: "Home sealed starts sealed, home open starts in full access." Any other number is taken as
-- sealed
abbrev pub boot_mode : ℕ → ℕ
boot_mode boot = cond (eqb boot boot_open) full_access sealed

abbrev pub boot_of : ℕ → ℕ
boot_of boot = cond (eqb boot boot_open) boot_open boot_sealed

-- 01: "All else is 0, none loaded, none waiting, BlockDataControl 1."
abbrev pub power_on : ℕ → Gauge
power_on boot = gauge (boot_mode boot) (boot_of boot) 0 no_word 0 control_info 0 0 no_block power_on_supply zero_window

-- 01: "record becomes that of power-on with ..": what sealing and reset leave of a gauge. C-16: its
-- supply is "kept through sealing and reset"
abbrev pub restart : Gauge → ℕ → Gauge
restart g boot = with_supply (power_on boot) g.supply

-- 01: "Unload: none loaded, window zero, block 0."
abbrev pub unload : Gauge → Gauge
unload g = with_window (with_loaded (with_block g 0) no_block) zero_window

-- 01: "Loading sets the block register to the byte written." Block b of class i, whose bytes as
-- loaded are w
abbrev pub load : Gauge → ℕ → ℕ → ℕ → List ℕ → Gauge
load g byte i b w = with_window (with_loaded (with_block g byte) (packed i b)) w
