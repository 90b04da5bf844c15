-- What the laws of sending and fetching share: a gauge just powered on, and a parameter that is not
-- refused.
use Prim.Native.Nat.{ℕ, ◌+◌, ◌/◌, ◌≤◌}
use mathlib.Core.Path.{◌≡◌, refl}
use mathlib.Core.Bool.{true}
use mathlib.Core.List.{List}
use native.Mathlib.Omega.{arith}
use lib.ListN.{length, get_or}
use lib.IntN.{ℤ}
use mir.Syntax.{w8}
use mir.Val.{Fits}
use Rattle.flashrules.specs.Layout.{fits}
use Rattle.flashrules.specs.Lookup.{block_size}
use Rattle.flashrules.specs.Image.{max_byte, Bytes}
use Rattle.flashrules.specs.declared.layout.Layout.{Layout}
use Rattle.gaugerules.specs.State.{boot_open, power_on}
use Rattle.gaugerules.specs.Laws.{Good}
use Rattle.gaugerules.specs.BlockAccess.{flash_selected, FlashSelects}
use Rattle.gaugerules.specs.declared.state.Gauge.{Gauge}
use Rattle.gaugerules.proofs.Laws.{power_on_valid}
use Rattle.parameterrules.specs.Parameter.{get_error, set_error}
use Rattle.parameterrules.specs.Commits.{lower_width}
use Rattle.parameterrules.specs.declared.parameter.Parameter.{Parameter}
use Rattle.parameterrules.proofs.PlaceLaws.{readable, settable, in_lower}
use Rattle.parameterrules.proofs.GaugeLaws.{Open, flash_selects, stands_open}

-- what its type says of a byte, and of a slice's elements
pub byte_of : (x : ℕ) → Fits w8 x → x ≤ max_byte
byte_of x h = let f = h.fits in omega arith

bytes_of : (image : List ℕ) → ((k : ℕ) → Fits w8 (get_or image k 0)) → Bytes image
bytes_of image h k = byte_of (get_or image k 0) (h k)

-- ---- a gauge just powered on open, over an image of its layout, and once it has general access

abbrev pub open_gauge : Gauge
open_gauge = flash_selected (power_on boot_open)

module _ (l : Layout) (image : List ℕ) (f : fits l (length image) ≡ true) (h : (k : ℕ) → Fits w8 (get_or image k 0)) where
  pub powered : Good l image (power_on boot_open)
  powered = record { fits = f; valid = power_on_valid l boot_open; bytes = bytes_of image h }

  pub powered_selects : FlashSelects l image (power_on boot_open)
  powered_selects = flash_selects l image (power_on boot_open) powered refl refl

  pub powered_open : Open l image open_gauge
  powered_open = stands_open l image (power_on boot_open) powered refl refl

-- ---- a parameter that is not refused

-- a parameter that may be set can be read
pub free_of_set : (l : Layout) (n : ℕ) (p : Parameter) (v : ℤ) → set_error l n p v ≡ 0 → get_error l n p ≡ 0
free_of_set l n p v e = (settable l n p v e).0

-- ---- where its bytes lie

module _ (l : Layout) (n : ℕ) (p : Parameter) (e : get_error l n p ≡ 0) where
  pub lower_byte : p.offset / block_size ≤ max_byte
  lower_byte = (in_lower l n p (readable l n p e)).byte

  pub upper_byte : (k : ℕ) → k ≡ lower_width p → (p.offset + k) / block_size ≤ max_byte
  upper_byte k a = let r = readable l n p e in omega (arith, r.inside, r.end, r.small)
