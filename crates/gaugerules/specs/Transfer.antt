-- Block transfer: what a byte at 0x3E, 0x3F, 0x40 to 0x5F, 0x60 and 0x61 does. Document 01,
-- "Transactions", the table of bytes written; the refusals of a byte in the order 3, 9, 4, 5, 6, 7,
-- 8, and then document 02's.
use Rattle.std.specs.Prelude.{ℕ, ◌-◌, Bool, cond, not, List, [], ◌∷◌, ◌++◌, eqb, leb, length, take, set}
use Rattle.checksum.specs.Checksum.{checksum}
use Rattle.flashrules.specs.Error.{sealed_register, unknown_block, nothing_loaded, protected_block, wrong_checksum}
use Rattle.flashrules.specs.Error.{invalid_control, protected_keys, low_supply}
use Rattle.flashrules.specs.Refusal.{first_error}
use Rattle.flashrules.specs.Choice.{and, differing}
use Rattle.flashrules.specs.Answer.{if_found}
use Rattle.flashrules.specs.Layout.{info_class, key_class}
use Rattle.flashrules.specs.Lookup.{find_block}
use Rattle.flashrules.specs.Image.{block_bytes, store_block, as_loaded}
use Rattle.flashrules.specs.declared.layout.Layout.{Layout}
use Rattle.gaugerules.specs.State.{control_info, info_blocks, block_a, is_sealed, is_unsealed, has_low_supply}
use Rattle.gaugerules.specs.State.{general_access, loaded_of, if_loaded, none_loaded, is_loaded, with_control}
use Rattle.gaugerules.specs.State.{with_class, with_window, unload, load}
use Rattle.gaugerules.specs.Keys.{key_block, keys_end, key_bytes}
use Rattle.gaugerules.specs.declared.state.Gauge.{Gauge}
use Rattle.gaugerules.specs.Answer.{ByteAnswer}

-- ---- what a byte did

-- it changed so many bytes of the image
abbrev pub byte_written : ℕ → ℕ → Gauge → ByteAnswer
byte_written e changed g = record { error = e; changed = changed; gauge = g }

-- where it leaves the image alone
abbrev pub accept : Gauge → ByteAnswer
accept g = byte_written 0 0 g

abbrev pub refuse : ℕ → Gauge → ByteAnswer
refuse e g = byte_written e 0 g

-- ---- 0x3E

-- 01: "0x3E | not sealed: class set, in the layout or not; unload"
unfoldable pub set_class : Gauge → ℕ → ByteAnswer
set_class g byte = cond (is_sealed g) (refuse sealed_register g) (accept (unload (with_class g byte)))

-- ---- 0x3F

-- block b of class i is loaded as the lookup finds it, by this byte
unfoldable pub load_block : Layout → List ℕ → Gauge → ℕ → ℕ → ℕ → ByteAnswer
load_block l image g byte i b =
    if_found (find_block l (length image) i b)
    (λ s k. accept (load g byte i b (as_loaded (block_bytes l image i b)))) (λ e. refuse e g)

-- 01: "1, 2, 3 load A, B, C"
abbrev pub selects_info : ℕ → Bool
selects_info byte = and (leb 1 byte ∷ leb byte info_blocks ∷ [])

-- 01: "0x3F | general: loads that block of the class. Otherwise 1, 2, 3 load A, B, C"
unfoldable pub select_block : Layout → List ℕ → Gauge → ℕ → ByteAnswer
select_block l image g byte =
    cond (general_access g) (load_block l image g byte g.class byte)
    (cond (selects_info byte) (load_block l image g byte info_class (byte - 1)) (refuse unknown_block g))

-- ---- 0x40 to 0x60

-- 7: "block A, sealed"
unfoldable pub is_protected : Gauge → Bool
is_protected g = and (is_sealed g ∷ is_loaded g info_class block_a ∷ [])

-- 6, then 7
abbrev pub edit_tests : Gauge → List (Bool × ℕ)
edit_tests g = (none_loaded g, nothing_loaded) ∷ (is_protected g, protected_block) ∷ []

unfoldable pub edit_error : Gauge → ℕ
edit_error g = first_error (edit_tests g)

-- 01: "0x40 to 0x5F | window byte replaced, also past the end of a short block"
unfoldable pub edit : Gauge → ℕ → ℕ → ByteAnswer
edit g k byte = cond (eqb (edit_error g) 0) (accept (with_window g (set g.window k byte))) (refuse (edit_error g) g)

-- 16: 02, C-14, "An unsealed commit to block 0 of class 112 that would change any of bytes 0 to 7"
unfoldable pub changes_keys : Layout → List ℕ → Gauge → Bool
changes_keys l image g =
    and
    (is_unsealed g
    ∷ is_loaded g key_class key_block
    ∷ not (eqb (differing (key_bytes l image) (take keys_end g.window)) 0)
    ∷ [])

-- 16, then C-16's "17 for a commit on low supply, after 16": whatever byte is written
abbrev pub guard_tests : Layout → List ℕ → Gauge → List (Bool × ℕ)
guard_tests l image g = (changes_keys l image g, protected_keys) ∷ (has_low_supply g, low_supply) ∷ []

-- 8: "checksum differs"; then these
abbrev pub store_tests : Layout → List ℕ → Gauge → ℕ → List (Bool × ℕ)
store_tests l image g byte = (not (eqb byte (checksum g.window)), wrong_checksum) ∷ guard_tests l image g

-- 6 and 7, then these
abbrev pub commit_tests : Layout → List ℕ → Gauge → ℕ → List (Bool × ℕ)
commit_tests l image g byte = edit_tests g ++ store_tests l image g byte

unfoldable pub commit_error : Layout → List ℕ → Gauge → ℕ → ℕ
commit_error l image g byte = first_error (commit_tests l image g byte)

-- 01: "A commit copies the window's bytes into the loaded block, as many as that block has; window
-- and loading stay."
unfoldable pub committed : Layout → List ℕ → Gauge → List ℕ
committed l image g = if_loaded (loaded_of g.loaded) image (λ i b. store_block l image i b g.window)

-- ---- 0x61

-- 01: "0x61 | not sealed: 0 or 1 set; unload"; 3 comes before 9
unfoldable pub set_control : Gauge → ℕ → ByteAnswer
set_control g byte =
    cond (is_sealed g) (refuse sealed_register g)
    (cond (leb byte control_info) (accept (unload (with_control g byte))) (refuse invalid_control g))
