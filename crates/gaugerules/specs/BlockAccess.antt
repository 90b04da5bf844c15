-- A block of the data flash through the registers, as a host reads and writes one: 0 at 0x61, class
-- and block at 0x3E, bytes at 0x40 on, the checksum at 0x60. Every byte of it is accepted in full
-- access, and unsealed where the keys stay, on a supply that is not low. Document 01, "The
-- parameter desk": "a full access gauge .. that loads the block, writes them and commits".
-- proofs/Laws.antt has a proof of each claim, under its name in small letters, with `_lem` behind
-- it where a definition has that name.
use Rattle.std.specs.Prelude.{ℕ, ◌+◌, ◌≤◌, ◌≡◌, ◌⊎◌, true, false, List, [], ◌∷◌, ◌++◌, length, take, drop}
use Rattle.std.proofs.lemmas.List.Edits.{sets}
use Rattle.checksum.specs.Checksum.{checksum}
use Rattle.flashrules.specs.Answer.{found}
use Rattle.flashrules.specs.Outcome.{outcome}
use Rattle.flashrules.specs.Choice.{differing}
use Rattle.flashrules.specs.Lookup.{find_block}
use Rattle.flashrules.specs.Image.{max_byte, Bytes, block_bytes, as_loaded}
use Rattle.flashrules.specs.declared.layout.Layout.{Layout}
use Rattle.gaugerules.specs.State.{control_flash, is_sealed, is_full_access, has_low_supply, general_access, with_control}
use Rattle.gaugerules.specs.State.{with_class, with_window, unload, load}
use Rattle.gaugerules.specs.Keys.{key_bytes}
use Rattle.gaugerules.specs.Register.{data_flash_class, block_data, block_data_checksum, block_data_control}
use Rattle.gaugerules.specs.Write.{written, write}
use Rattle.gaugerules.specs.Read.{reading, read}
use Rattle.gaugerules.specs.Laws.{Good}
use Rattle.gaugerules.specs.declared.state.Gauge.{Gauge}

-- ---- the gauge on the way

-- the data flash is selected
abbrev pub flash_selected : Gauge → Gauge
flash_selected g = unload (with_control g control_flash)

-- block b of class i is loaded
abbrev pub block_selected : Layout → List ℕ → Gauge → ℕ → ℕ → Gauge
block_selected l image g i b = load (unload (with_class g i)) b i b (as_loaded (block_bytes l image i b))

-- and bytes are written from its byte o on
abbrev pub block_edited : Layout → List ℕ → Gauge → ℕ → ℕ → ℕ → List ℕ → Gauge
block_edited l image g i b o bs =
    let h = block_selected l image g i b in with_window h (sets h.window o bs)

-- ---- general access

pub record FlashSelects (l : Layout) (image : List ℕ) (g : Gauge) : Type 0 where
  pub accepted : write l image g block_data_control (control_flash ∷ []) ≡ outcome (written 0 1 0 (flash_selected g)) image
  pub good : Good l image (flash_selected g)
  pub access : general_access (flash_selected g) ≡ true

-- a gauge that is not sealed gets it by 0 at 0x61
abbrev pub SelectFlash : Type 0
SelectFlash =
    (l : Layout) (image : List ℕ) (g : Gauge) → Good l image g → is_sealed g ≡ false → FlashSelects l image g

-- ---- a block is loaded, and read

pub record BlockSelects (l : Layout) (image : List ℕ) (g : Gauge) (i b : ℕ) : Type 0 where
  pub accepted : write l image g data_flash_class (i ∷ b ∷ [])
      ≡ outcome (written 0 2 0 (block_selected l image g i b)) image
  pub good : Good l image (block_selected l image g i b)
  pub access : general_access (block_selected l image g i b) ≡ true

-- any block that the lookup finds
abbrev pub SelectBlock : Type 0
SelectBlock =
    (l : Layout) (image : List ℕ) (g : Gauge) (i b s k : ℕ) → Good l image g → general_access g ≡ true → i ≤ max_byte
    → b ≤ max_byte → find_block l (length image) i b ≡ found s k → BlockSelects l image g i b

-- n of its bytes, from byte o on, are read at 0x40 + o: they are the image's own
abbrev pub ReadBlock : Type 0
ReadBlock =
    (l : Layout) (image : List ℕ) (g : Gauge) (i b s k : ℕ) → Good l image g → general_access g ≡ true → i ≤ max_byte
    → b ≤ max_byte → find_block l (length image) i b ≡ found s k
    → (o n : ℕ) (buffer : List ℕ) → 1 ≤ n → o + n ≤ k → n ≤ length buffer
    → read l image (block_selected l image g i b) (block_data + o) n buffer
    ≡ outcome (reading 0 n) (take n (drop (s + o) image) ++ drop n buffer)

-- ---- a block is written

-- class and block, the bytes, the checksum: three writes, each accepted whole, and the image that
-- they leave, which the third alone changes. Mode, general access and supply stay, so that the next
-- block can follow
pub record BlockWrites (l : Layout) (image : List ℕ) (g : Gauge) (i b o : ℕ) (bs to : List ℕ) : Type 0 where
  pub select : write l image g data_flash_class (i ∷ b ∷ [])
      ≡ outcome (written 0 2 0 (block_selected l image g i b)) image
  pub edit : write l image (block_selected l image g i b) (block_data + o) bs
      ≡ outcome (written 0 (length bs) 0 (block_edited l image g i b o bs)) image
  pub commit : let h = block_edited l image g i b o bs in
      write l image h block_data_checksum (checksum h.window ∷ []) ≡ outcome (written 0 1 (differing image to) h) to
  pub mode : (block_edited l image g i b o bs).mode ≡ g.mode
  pub access : general_access (block_edited l image g i b o bs) ≡ true
  pub supply : (block_edited l image g i b o bs).supply ≡ g.supply
  pub good : Good l to (block_edited l image g i b o bs)

-- C-14: which images a gauge may leave, in full access any, else those with the same keys
abbrev pub MayLeave : Layout → List ℕ → Gauge → List ℕ → Type 0
MayLeave l image g to = (is_full_access g ≡ true) ⊎ (key_bytes l to ≡ key_bytes l image)

-- any bytes that fit at any place of any block that the lookup finds: the image then has them
-- there, and is else what it was
abbrev pub WriteBlock : Type 0
WriteBlock =
    (l : Layout) (image : List ℕ) (g : Gauge) (i b s k : ℕ) → Good l image g → general_access g ≡ true
    → has_low_supply g ≡ false
    → i ≤ max_byte → b ≤ max_byte → find_block l (length image) i b ≡ found s k
    → (o : ℕ) (bs : List ℕ) → Bytes bs → 1 ≤ length bs → o + length bs ≤ k
    → let to = sets image (s + o) bs in MayLeave l image g to → BlockWrites l image g i b o bs to
