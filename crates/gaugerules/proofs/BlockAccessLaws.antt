-- The claims of specs/BlockAccess.antt: a host's writes and reads of one block, call by call.
use Prim.Native.Nat.{ℕ, zero, suc, ◌+◌, ◌≤◌, ◌<◌}
use mathlib.Core.Path.{◌≡◌, refl, sym, ap, ◌∙◌}
use mathlib.Core.Logic.{⊎_elim}
use mathlib.Core.Bool.{true, false, true≢false}
use mathlib.Core.List.{List, [], ◌∷◌, ◌++◌}
use native.Mathlib.Nat.{zero-add}
use native.Mathlib.Omega.{arith}
use lib.Dec.{ltb}
use lib.ListN.{length, take, drop, set}
use lib.Seq.{sets, drop-cons}
use borrow.Author.Tests.{eqb-true, eq-eqb, le-ltb}
use Rattle.checksum.specs.Checksum.{checksum}
use Rattle.flashrules.specs.Answer.{found}
use Rattle.flashrules.specs.Error.{short_buffer}
use Rattle.flashrules.specs.Outcome.{outcome}
use Rattle.flashrules.specs.Choice.{differing}
use Rattle.flashrules.specs.Lookup.{block_size, find_block}
use Rattle.flashrules.specs.Image.{max_byte, Bytes, block_bytes, as_loaded}
use Rattle.flashrules.specs.declared.layout.Layout.{Layout}
use Rattle.flashrules.proofs.Laws.{block_inside, loaded_length, store_edited}
use Rattle.flashrules.proofs.PartLaws.{part_loaded}
use Rattle.flashrules.proofs.RefusalLaws.{error_behind}
use Rattle.flashrules.proofs.Picks.{on_test}
use Rattle.gaugerules.specs.State.{full_access, control_flash, is_sealed, is_full_access, has_low_supply, general_access, loaded_of, with_class, with_window, unload}
use Rattle.gaugerules.specs.Keys.{key_bytes}
use Rattle.gaugerules.specs.Register.{data_flash_class, block_data, block_data_checksum, block_data_control, registers, register_of}
use Rattle.gaugerules.specs.Transfer.{accept, set_class, load_block, select_block, is_protected, edit_error, edit, changes_keys, commit_error, committed, set_control}
use Rattle.gaugerules.specs.Write.{written, call_tests, call_error, commit, write_at, write_byte, write_bytes, write}
use Rattle.gaugerules.specs.Read.{read_at, read_byte, read_bytes, read_error, reading, read}
use Rattle.gaugerules.specs.Laws.{Good}
use Rattle.gaugerules.specs.BlockAccess.{flash_selected, block_selected, block_edited, FlashSelects, SelectFlash, BlockSelects, SelectBlock, ReadBlock}
use Rattle.gaugerules.specs.BlockAccess.{BlockWrites, MayLeave, WriteBlock}
use Rattle.gaugerules.specs.declared.state.Gauge.{Gauge}
use Rattle.gaugerules.specs.State.{block_loaded}
use Rattle.gaugerules.specs.declared.register.Register.{Register}
use Rattle.gaugerules.proofs.LoadedLaws.{load_view}
use Rattle.gaugerules.proofs.RegisterLaws.{on_register}
use Rattle.gaugerules.proofs.RunLaws.{goes_on, calls_with}
use Rattle.gaugerules.proofs.ValidLaws.{write_good}
use Rattle.gaugerules.proofs.KeyProtectionLaws.{key_change}

-- ---- calls of a good gauge

-- no byte is refused before it is looked at
runs_whole : (l : Layout) (image : List ℕ) (g : Gauge) (r : ℕ) (bs : List ℕ) → Good l image g → 1 ≤ length bs → r + length bs ≤ registers
    → write l image g r bs ≡ write_bytes l image g r 0 0 bs
unfolding write
runs_whole l image g r bs o some span =
    rw (calls_with l (length image) g r (length bs) (record { fitting = o.fits; sound = o.valid; span = span; some = some }))

-- what an accepted write leaves is good
goes_good : (l : Layout) (image : List ℕ) (g h : Gauge) (r n c : ℕ) (bs to : List ℕ) → Bytes bs → Good l image g
    → write l image g r bs ≡ outcome (written 0 n c h) to → Good l to h
unfolding outcome
goes_good l image g h r n c bs to b o e = rw e at (write_good l image g r bs b o)

one_byte : (x : ℕ) → x ≤ max_byte → Bytes (x ∷ [])
one_byte x h zero = h
one_byte x h (suc k) = omega arith

-- general access is had by a gauge that is not sealed
not_sealed : (g : Gauge) → general_access g ≡ true → is_sealed g ≡ false
not_sealed g a = on_test (is_sealed g) (λ p. absurd (true≢false (sym a ∙ rw p))) (λ p. p)

-- ---- general access

module _ (l : Layout) (image : List ℕ) (g : Gauge) (o : Good l image g) (u : is_sealed g ≡ false) where
  control_accepted : write l image g block_data_control (control_flash ∷ []) ≡ outcome (written 0 1 0 (flash_selected g)) image
  unfolding write_bytes write_byte write_at register_of set_control outcome
  control_accepted = rw (runs_whole l image g block_data_control (control_flash ∷ []) o (omega arith) (omega arith), u)

  selects_flash : FlashSelects l image g
  selects_flash =
      record {
        accepted = control_accepted;
        good = goes_good l image g (flash_selected g) block_data_control 1 0 (control_flash ∷ []) image (one_byte control_flash (omega arith)) o control_accepted;
        access = rw u;
      }

pub select_flash : SelectFlash
select_flash = selects_flash

-- ---- a block is loaded

module _ (l : Layout) (image : List ℕ) (g : Gauge) (i b s k : ℕ) (o : Good l image g) (a : general_access g ≡ true) (hi : i ≤ max_byte) (hb : b ≤ max_byte)
    (p : find_block l (length image) i b ≡ found s k) where
  both_bytes : Bytes (i ∷ b ∷ [])
  both_bytes zero = hi
  both_bytes (suc j) = one_byte b hb j

  block_accepted : write l image g data_flash_class (i ∷ b ∷ []) ≡ outcome (written 0 2 0 (block_selected l image g i b)) image
  unfolding write_bytes write_byte write_at register_of set_class select_block load_block outcome
  block_accepted = rw (runs_whole l image g data_flash_class (i ∷ b ∷ []) o (omega arith) (omega arith), not_sealed g a, a, p)

  block_good : Good l image (block_selected l image g i b)
  block_good = goes_good l image g (block_selected l image g i b) data_flash_class 2 0 (i ∷ b ∷ []) image both_bytes o block_accepted

  selects_block : BlockSelects l image g i b
  selects_block = record { accepted = block_accepted; good = block_good; access = a }

pub select_block_lem : SelectBlock
select_block_lem = selects_block

-- ---- a block is read

window_register : (o : ℕ) → o < block_size → register_of (block_data + o) ≡ Register.BlockData o
window_register o h =
    on_register (λ (k : Register). k ≡ Register.BlockData o) (block_data + o) (λ e. absurd (omega arith)) (λ e. absurd (omega arith))
    (λ e. absurd (omega arith)) (λ e. absurd (omega arith)) (λ k e _. ap Register.BlockData (omega arith)) (λ e. absurd (omega arith))
    (λ e. absurd (omega arith)) (λ _ e. absurd (⊎_elim (λ (u : block_data + o < data_flash_class). omega arith) (λ (u : block_data_control < block_data + o). omega arith) e))

-- the registers from 0x40 + o on are the window's bytes
reads_window : (g : Gauge) (n o : ℕ) → length g.window ≡ block_size → o + n ≤ block_size
    → read_bytes g (block_data + o) n ≡ take n (drop o g.window)
unfolding read_bytes read_byte read_at
reads_window g zero o w h = refl
reads_window g (suc n) o w h =
    let next : block_data + o + 1 ≡ block_data + suc o = omega arith in
    let ih = reads_window g n (suc o) w (omega arith) in
    rw (window_register o (omega arith), drop-cons g.window o 0 (omega arith), next, ih)

module _ (l : Layout) (image : List ℕ) (g : Gauge) (i b s k : ℕ) (o : Good l image g) (a : general_access g ≡ true) (hi : i ≤ max_byte) (hb : b ≤ max_byte)
    (p : find_block l (length image) i b ≡ found s k) (at n : ℕ) (buffer : List ℕ) (some : 1 ≤ n) (end : at + n ≤ k) (room : n ≤ length buffer) where
  abbrev h : Gauge
  h = block_selected l image g i b

  read_none : read_error l (length image) h (block_data + at) n (length buffer) ≡ 0
  unfolding read_error call_error
  read_none =
      let c = block_good l image g i b s k o a hi hb p in
      let most = (block_inside l (length image) i b s k p).most in
      let free = calls_with l (length image) h (block_data + at) n (record { fitting = c.fits; sound = c.valid; span = omega arith; some = some }) in
      sym
      (error_behind (call_tests l (length image) h (block_data + at) n) ((ltb (length buffer) n, short_buffer) ∷ [])
      (omega arith, (omega arith, (omega arith, tt))) 0 (sym free) refl 0 (rw (le-ltb (length buffer) n room)))

  window_part : take n (drop at h.window) ≡ take n (drop (s + at) image)
  unfolding block_bytes as_loaded
  window_part = rw p (part_loaded image s k (block_inside l (length image) i b s k p).end at n _ end)

  reads_block : read l image h (block_data + at) n buffer ≡ outcome (reading 0 n) (take n (drop (s + at) image) ++ drop n buffer)
  unfolding read
  reads_block =
      let most = (block_inside l (length image) i b s k p).most in
      rw (read_none, reads_window h n at (loaded_length l image i b) (omega arith), window_part)

pub read_block : ReadBlock
read_block = reads_block

-- ---- a block is written

edit_accepted : (l : Layout) (image : List ℕ) (g : Gauge) (o b : ℕ) → edit_error g ≡ 0 → o < block_size
    → write_byte l image g (block_data + o) b ≡ outcome (accept (with_window g (set g.window o b))) image
unfolding write_byte write_at edit
edit_accepted l image g o b e h = rw (window_register o h, e)

-- bytes for the window are accepted one by one
runs_edits : (l : Layout) (image bs : List ℕ) (g : Gauge) (o n : ℕ) → edit_error g ≡ 0 → o + length bs ≤ block_size
    → write_bytes l image g (block_data + o) n 0 bs ≡ outcome (written 0 (n + length bs) 0 (with_window g (sets g.window o bs))) image
unfolding write_bytes edit_error is_protected
runs_edits l image [] g o n e h = ap (λ (m : ℕ). outcome (written 0 m 0 g) image) (omega arith)
runs_edits l image (b ∷ bs) g o n e h =
    let next : block_data + o + 1 ≡ block_data + suc o = omega arith in
    let c : Gauge = with_window g (set g.window o b) in
    let ih = runs_edits l image bs c (suc o) (n + 1) e (omega arith) in
    let m : n + 1 + length bs ≡ n + length (b ∷ bs) = omega arith in
    goes_on l image g (block_data + o) n 0 b bs (accept c) image (edit_accepted l image g o b e (omega arith)) refl
    ∙ ap (λ (r : ℕ). write_bytes l image c r (n + 1) 0 bs) next ∙ ih
    ∙ ap (λ (j : ℕ). outcome (written 0 j 0 (with_window g (sets (set g.window o b) (suc o) bs))) image) m

module _ (l : Layout) (image : List ℕ) (g : Gauge) (i b s k : ℕ) (good : Good l image g) (a : general_access g ≡ true) (supplied : has_low_supply g ≡ false)
    (hi : i ≤ max_byte) (hb : b ≤ max_byte)
    (p : find_block l (length image) i b ≡ found s k) (o : ℕ) (bs : List ℕ) (bytes : Bytes bs) (some : 1 ≤ length bs) (end : o + length bs ≤ k)
    (may : MayLeave l image g (sets image (s + o) bs)) where
  abbrev loaded : Gauge
  loaded = block_selected l image g i b

  abbrev edited : Gauge
  edited = block_edited l image g i b o bs

  is_loaded_lem : loaded_of loaded.loaded ≡ block_loaded i b
  is_loaded_lem = load_view (unload (with_class g i)) b i b (as_loaded (block_bytes l image i b)) hi hb

  editable : edit_error loaded ≡ 0
  unfolding edit_error is_protected
  editable = rw (is_loaded_lem, not_sealed g a)

  edits : write l image loaded (block_data + o) bs ≡ outcome (written 0 (length bs) 0 edited) image
  edits =
      let most = (block_inside l (length image) i b s k p).most in
      let n : 0 + length bs ≡ length bs = omega arith in
      runs_whole l image loaded (block_data + o) bs (block_good l image g i b s k good a hi hb p) some (omega arith)
      ∙ runs_edits l image bs loaded o 0 editable (omega arith) ∙ ap (λ (m : ℕ). outcome (written 0 m 0 edited) image) n

  edited_good : Good l image edited
  edited_good =
      goes_good l image loaded edited (block_data + o) (length bs) 0 bs image bytes (block_good l image g i b s k good a hi hb p) edits

  abbrev after : List ℕ
  after = sets image (s + o) bs

  stores : committed l image edited ≡ after
  unfolding committed
  stores = rw is_loaded_lem (store_edited l image i b s k p o bs end)

  -- 16 is not given
  free : changes_keys l image edited ≡ false
  unfolding changes_keys
  free =
      ⊎_elim (λ (f : is_full_access g ≡ true). rw (eqb-true g.mode full_access f))
      (λ (e : key_bytes l after ≡ key_bytes l image).
      on_test (changes_keys l image edited)
      (λ c. absurd (((key_change l image edited edited_good.fits edited_good.valid).0 c).1 (ap (key_bytes l) stores ∙ e))) (λ n. n))
      may

  commits_edited : write l image edited block_data_checksum (checksum edited.window ∷ []) ≡ outcome (written 0 1 (differing image after) edited) after
  unfolding write_bytes write_byte write_at register_of commit commit_error committed is_protected outcome
  commits_edited =
      rw (runs_whole l image edited block_data_checksum (checksum edited.window ∷ []) edited_good (omega arith) (omega arith), is_loaded_lem, not_sealed g a, eq-eqb (checksum edited.window) (checksum edited.window) refl, free, supplied)
      (ap (λ (to : List ℕ). outcome (written 0 1 (0 + differing image to) edited) to) (store_edited l image i b s k p o bs end)
      ∙ ap (λ (n : ℕ). outcome (written 0 1 n edited) after) (zero-add (differing image after)))

  writes_block : BlockWrites l image g i b o bs after
  writes_block =
      record {
        select = block_accepted l image g i b s k good a hi hb p;
        edit = edits;
        commit = commits_edited;
        mode = refl;
        access = a;
        supply = refl;
        good = goes_good l image edited edited block_data_checksum 1 (differing image after) (checksum edited.window ∷ []) after
            (one_byte (checksum edited.window) (omega arith)) edited_good commits_edited;
      }

pub write_block : WriteBlock
write_block = writes_block
