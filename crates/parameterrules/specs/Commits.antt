-- The commits that set a parameter: one where its bytes lie inside a block, two where they cross a
-- block's end. Which of them lie in which block, what a programmer sends, and the image between the
-- two commits. Document 02, C-17.
use Rattle.std.specs.Prelude.{ℕ, ◌+◌, ◌-◌, ◌/◌, ◌%◌, min, Bool, cond, List, [], ◌∷◌, ◌++◌, ltb, take, drop, ℤ}
use Rattle.std.proofs.lemmas.List.Edits.{sets}
use Rattle.checksum.specs.Checksum.{checksum}
use Rattle.flashrules.specs.Outcome.{Outcome}
use Rattle.flashrules.specs.Lookup.{block_size}
use Rattle.flashrules.specs.Image.{block_bytes, as_loaded}
use Rattle.flashrules.specs.declared.layout.Layout.{Layout}
use Rattle.gaugerules.specs.State.{control_flash}
use Rattle.gaugerules.specs.Register.{data_flash_class, block_data, block_data_checksum, block_data_control}
use Rattle.gaugerules.specs.Script.{Call, to_write}
use Rattle.parameterrules.specs.Integer.{to_bytes}
use Rattle.parameterrules.specs.Kind.{width_of}
use Rattle.parameterrules.specs.Parameter.{start_in, row_bytes, if_settable}
use Rattle.parameterrules.specs.declared.parameter.Parameter.{Parameter}

-- ---- the two blocks

-- how many bytes of a parameter lie in the block that it begins in, the lower one
abbrev pub lower_width : Parameter → ℕ
lower_width p = min (width_of p.kind) (block_size - p.offset % block_size)

-- "a row that crosses a block's end": the others lie in the next one
abbrev pub crosses_block : Parameter → Bool
crosses_block p = ltb (lower_width p) (width_of p.kind)

-- the bytes of a value that go to the lower block, and those that go to the upper one
abbrev pub lower_bytes : Parameter → ℤ → List ℕ
lower_bytes p v = take (lower_width p) (to_bytes (width_of p.kind) v)

abbrev pub upper_bytes : Parameter → ℤ → List ℕ
upper_bytes p v = drop (lower_width p) (to_bytes (width_of p.kind) v)

-- ---- between the commits

-- the image after the first commit
abbrev pub between_commits : Layout → List ℕ → Parameter → ℤ → List ℕ
between_commits l image p v = sets image (start_in l p) (lower_bytes p v)

-- what the parameter's bytes are then: "the new bytes of the lower block with the old of the upper"
abbrev pub mixed_bytes : Layout → List ℕ → Parameter → ℤ → List ℕ
mixed_bytes l image p v = lower_bytes p v ++ drop (lower_width p) (row_bytes l image p)

-- a setting that ends after the first commit; where there is no second one, that is all of it
unfoldable pub set_lower : Layout → List ℕ → Parameter → ℤ → Outcome ℕ (List ℕ)
set_lower l image p v = if_settable l image p v (between_commits l image p v)

-- ---- what is sent

-- bytes of class i from byte `at` on, inside one block: class and block to 0x3E, the bytes to 0x40
-- on, and the checksum of the window then
abbrev pub block_calls : Layout → List ℕ → ℕ → ℕ → List ℕ → List Call
block_calls l image i at bs =
    let b = at / block_size in
    let o = at % block_size in
    to_write data_flash_class (i ∷ b ∷ [])
    ∷ to_write (block_data + o) bs
    ∷ to_write block_data_checksum (checksum (sets (as_loaded (block_bytes l image i b)) o bs) ∷ [])
    ∷ []

abbrev pub lower_calls : Layout → List ℕ → Parameter → ℤ → List Call
lower_calls l image p v = block_calls l image p.class p.offset (lower_bytes p v)

abbrev pub upper_calls : Layout → List ℕ → Parameter → ℤ → List Call
upper_calls l image p v =
    block_calls l (between_commits l image p v) p.class (p.offset + lower_width p) (upper_bytes p v)

-- 0 to 0x61, and then "two commits, lower block first"; inside a block one
abbrev pub set_calls : Layout → List ℕ → Parameter → ℤ → List Call
set_calls l image p v =
    to_write block_data_control (control_flash ∷ [])
    ∷ lower_calls l image p v ++ cond (crosses_block p) (upper_calls l image p v) []
