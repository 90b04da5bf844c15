-- What the calls amount to that read and write bytes of one block, over any device: whether they
-- are accepted is left to the laws. `at` is the first of the bytes in its class.
use Rattle.std.specs.Prelude.{ℕ, ◌+◌, ◌/◌, ◌%◌, List, [], ◌∷◌, ℤ}
use Rattle.checksum.specs.Checksum.{checksum}
use Rattle.flashrules.specs.Lookup.{block_size}
use Rattle.flashrules.specs.declared.layout.Layout.{Layout}
use Rattle.gaugerules.specs.State.{boot_open, control_flash, power_on}
use Rattle.gaugerules.specs.Register.{data_flash_class, block_data, block_data_checksum, block_data_control}
use Rattle.gaugerules.specs.Script.{Device, device, to_write, after_call, after_calls}
use Rattle.parameterrules.specs.Commits.{lower_bytes, set_calls}
use Rattle.parameterrules.specs.declared.parameter.Parameter.{Parameter}

-- a gauge is powered on open, and 0 is written to 0x61
abbrev pub opened : Layout → List ℕ → Device
opened l image = after_call l (device (power_on boot_open) image) (to_write block_data_control (control_flash ∷ []))

-- the block is loaded
abbrev pub selected_at : Layout → Device → ℕ → ℕ → Device
selected_at l d i at = after_call l d (to_write data_flash_class (i ∷ at / block_size ∷ []))

-- bytes are written to the window
abbrev pub edited_at : Layout → Device → ℕ → List ℕ → Device
edited_at l d at bs = after_call l d (to_write (block_data + at % block_size) bs)

-- the window's checksum is written
abbrev pub commit_sent : Layout → Device → Device
commit_sent l d = after_call l d (to_write block_data_checksum (checksum d.gauge.window ∷ []))

-- all three, one after the other
abbrev pub sent_at : Layout → Device → ℕ → ℕ → List ℕ → Device
sent_at l d i at bs = commit_sent l (edited_at l (selected_at l d i at) at bs)

-- ---- a parameter's bytes

-- those of a value for the lower block are sent, by a gauge just powered on
abbrev pub first_commit : Layout → List ℕ → Parameter → ℤ → Device
first_commit l image p v = sent_at l (opened l image) p.class p.offset (lower_bytes p v)

-- all calls of a setting
abbrev pub set_on_gauge : Layout → List ℕ → Parameter → ℤ → Device
set_on_gauge l image p v = after_calls l (device (power_on boot_open) image) (set_calls l image p v)
