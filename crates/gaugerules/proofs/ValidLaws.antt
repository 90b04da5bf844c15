-- A valid gauge stays valid: every change that a byte makes keeps each part of `valid`, and so do
-- the bytes of a write. Bytes are at most 255, so words fit 16 bits; a block is loaded only where
-- the lookup finds it, so it exists; a commit keeps the image's length, so the layout still fits.
use Prim.Native.Nat.{ℕ, zero, suc, ◌+◌, ◌-◌, ◌≤◌, ◌<◌}
use mathlib.Core.Path.{◌≡◌, refl, sym, ◌∙◌}
use mathlib.Core.Bool.{true, false, true≢false}
use mathlib.Core.List.{List, [], ◌∷◌}
use native.Mathlib.Omega.{arith}
use lib.Dec.{eqb}
use lib.ListN.{length, length-set}
use borrow.Author.Tests.{eqb-true, leb-true, eq-eqb, lt-ltb, le-leb}
use Rattle.flashrules.specs.Outcome.{Outcome, outcome}
use Rattle.flashrules.specs.Choice.{differing}
use Rattle.flashrules.specs.Layout.{info_class, fits}
use Rattle.flashrules.specs.Lookup.{block_size, block_exists}
use Rattle.flashrules.specs.Image.{max_byte, Bytes, block_bytes, as_loaded}
use Rattle.flashrules.specs.declared.layout.Layout.{Layout}
use Rattle.flashrules.proofs.BytesLaws.{bytes_set, bytes_zeros, are_bytes_lem, test_bytes, loaded_bytes, stored_bytes}
use Rattle.flashrules.proofs.Laws.{loaded_length, exists_found, store_length}
use Rattle.flashrules.proofs.Picks.{and_first, and_rest, and_both, on_test, on_cond}
use Rattle.gaugerules.specs.State.{unsealed, full_access, boot_sealed, boot_open, no_word, no_block, control_info, info_blocks, max_supply, power_on_supply}
use Rattle.gaugerules.specs.State.{is_sealed, is_full_access, loaded_of, with_low, with_pending, with_result, with_control, with_class}
use Rattle.gaugerules.specs.State.{with_supply, power_on, load, unload}
use Rattle.gaugerules.specs.Valid.{max_word, in_range, loaded_valid, pending_valid, sealed_valid, valid}
use Rattle.gaugerules.specs.Register.{register_of}
use Rattle.gaugerules.specs.Word.{word, status, waits, opened, obey}
use Rattle.gaugerules.specs.Transfer.{byte_written, set_class, load_block, select_block, edit, commit_error, committed, set_control}
use Rattle.gaugerules.specs.Write.{write_at, write_byte, write_bytes, call_error, write}
use Rattle.gaugerules.specs.Laws.{Good, PowerOnValid, ByteGood, WriteGood}
use Rattle.gaugerules.specs.declared.state.Gauge.{Gauge}
use Rattle.gaugerules.specs.declared.register.Register.{Register}
use Rattle.gaugerules.specs.Answer.{ByteAnswer}
use Rattle.gaugerules.specs.Answer.{WriteAnswer}
use Rattle.gaugerules.proofs.LoadedLaws.{load_view, editable, committable}
use Rattle.gaugerules.proofs.ByteCases.{on_class, on_control, on_edit, on_load, on_select, on_commit, on_word}

-- ---- what a valid gauge has

pub record InRange (g : Gauge) : Type 0 where
  pub mode : g.mode ≤ full_access
  pub boot : g.boot ≤ boot_open
  pub low : g.low ≤ max_byte
  pub pending : g.pending ≤ no_word
  pub result : g.result ≤ max_word
  pub control : g.control ≤ control_info
  pub class : g.class ≤ max_byte
  pub block : g.block ≤ max_byte
  pub loaded : g.loaded ≤ no_block
  pub supply : g.supply ≤ max_supply
  pub window : length g.window ≡ block_size

pub record Valid (l : Layout) (g : Gauge) : Type 0 where
  pub range : InRange g
  pub bytes : Bytes g.window
  pub loaded : loaded_valid l g ≡ true
  pub pending : pending_valid g ≡ true
  pub sealed : sealed_valid g ≡ true

range_parts : (g : Gauge) → in_range g ≡ true → InRange g
unfolding in_range
range_parts g e = search (and_first, and_rest, leb-true, eqb-true) depth 14

bytes_part : (g : Gauge) → in_range g ≡ true → Bytes g.window
unfolding in_range
bytes_part g e = search (and_first, and_rest, test_bytes) depth 14

parts_range : (g : Gauge) → InRange g → Bytes g.window → in_range g ≡ true
unfolding in_range
parts_range g v b = search (and_both, le-leb, eq-eqb, are_bytes_lem) depth 14

pub valid_parts : (l : Layout) (g : Gauge) → valid l g ≡ true → Valid l g
unfolding valid
valid_parts l g e = search (and_first, and_rest, range_parts, bytes_part)

pub parts_valid : (l : Layout) (g : Gauge) → Valid l g → valid l g ≡ true
unfolding valid
parts_valid l g v = search (and_both, parts_range)

-- ---- power-on

-- with any supply in range, as sealing and reset leave it
power_on_parts : (l : Layout) (boot supply : ℕ) → supply ≤ max_supply → Valid l (with_supply (power_on boot) supply)
unfolding loaded_of
power_on_parts l boot supply h =
    on_test (eqb boot boot_open)
    (λ p. record { range = rw p (omega arith); bytes = bytes_zeros block_size; loaded = refl; pending = rw p; sealed = rw p })
    (λ p. record { range = rw p (omega arith); bytes = bytes_zeros block_size; loaded = refl; pending = rw p; sealed = rw p })

pub power_on_valid : PowerOnValid
power_on_valid l boot = parts_valid l (power_on boot) (power_on_parts l boot power_on_supply (omega arith))

-- ---- one byte

-- the gauge after a step is valid
abbrev ToValid : Layout → ByteAnswer → Type 0
ToValid l s = Valid l s.gauge

module _ (l : Layout) (g : Gauge) (v : Valid l g) where
  low_valid : (byte : ℕ) → byte ≤ max_byte → Valid l (with_low g byte)
  low_valid byte h = record { range = omega arith; bytes = v.bytes; loaded = v.loaded; pending = v.pending; sealed = v.sealed }

  pub supply_valid : (millivolts : ℕ) → millivolts ≤ max_supply → Valid l (with_supply g millivolts)
  supply_valid x h = record { range = omega arith; bytes = v.bytes; loaded = v.loaded; pending = v.pending; sealed = v.sealed }

  -- ---- words

  -- no word waits: right in any mode
  cleared_valid : (result : ℕ) → result ≤ max_word → Valid l (with_pending (with_result g result) no_word)
  cleared_valid x h = record { range = omega arith; bytes = v.bytes; loaded = v.loaded; pending = on_test (is_full_access g) (λ p. rw p) (λ p. rw p); sealed = v.sealed }

  waits_valid : (w : ℕ) → w ≤ max_word → is_full_access g ≡ false → Valid l (waits g w)
  waits_valid w h p = record { range = omega arith; bytes = v.bytes; loaded = v.loaded; pending = rw p; sealed = v.sealed }

  opened_valid : Valid l (opened g)
  opened_valid =
      on_test (is_sealed g)
      (λ p. record { range = rw p (omega arith); bytes = v.bytes; loaded = v.loaded; pending = rw p; sealed = rw p })
      (λ p. record { range = rw p (omega arith); bytes = v.bytes; loaded = v.loaded; pending = rw p; sealed = rw p })

  status_fits : status g ≤ max_word
  status_fits = on_cond Fits (is_sealed g) _ _ (λ _. omega arith) (λ _. on_cond Fits (eqb g.mode unsealed) _ _ (λ _. omega arith) (λ _. omega arith))
    where
      Fits : ℕ → Type 0
      Fits x = x ≤ max_word

  module _ (image : List ℕ) (w : ℕ) (h : w ≤ max_word) where
    obey_valid : Valid l (obey l image g w)
    obey_valid =
        on_word (Valid l) l image g w (cleared_valid (status g) status_fits) (power_on_parts l boot_sealed g.supply v.range.supply)
        (power_on_parts l g.boot g.supply v.range.supply) (λ _. cleared_valid 0 (omega arith)) (waits_valid w h) (λ _ _. opened_valid)

  -- ---- unload, and the two registers that unload

  unload_valid : (control class : ℕ) → control ≤ control_info → class ≤ max_byte → is_sealed g ≡ false → Valid l (unload (with_control (with_class g class) control))
  unfolding loaded_of
  unload_valid x i hx hi p = record { range = omega arith; bytes = bytes_zeros block_size; loaded = refl; pending = v.pending; sealed = rw p }

  class_valid : (byte : ℕ) → byte ≤ max_byte → ToValid l (set_class g byte)
  class_valid byte h = on_class (ToValid l) g byte v (λ s. unload_valid g.control byte v.range.control h s)

  control_valid : (byte : ℕ) → ToValid l (set_control g byte)
  control_valid byte = on_control (ToValid l) g byte v (λ s h. unload_valid byte g.class h v.range.class s) v

  -- ---- the window

  -- what can be edited is loaded: the window of an unloaded gauge has to stay zero
  edit_valid : (k byte : ℕ) → byte ≤ max_byte → ToValid l (edit g k byte)
  edit_valid k byte h =
      on_edit (ToValid l) g byte k
      (λ e.
      let p = (editable g e).loaded in
      record {
        range = omega (arith, length-set g.window k byte);
        bytes = bytes_set g.window k byte h v.bytes;
        loaded = rw p (rw p at v.loaded);
        pending = v.pending;
        sealed = v.sealed;
      })
      v

  -- ---- load

  sealed_control : is_sealed g ≡ true → eqb g.control control_info ≡ true
  sealed_control s = and_first (eqb g.control control_info) _ (rw s at v.sealed)

  -- what a sealed gauge may load
  abbrev MayLoad : ℕ → ℕ → Type 0
  MayLoad i b = is_sealed g ≡ true → (i ≡ info_class) × (b < info_blocks)

  module _ (byte i b : ℕ) (h : byte ≤ max_byte) (hi : i ≤ max_byte) (hb : b ≤ max_byte) (may : MayLoad i b) where
    load_valid : (w : List ℕ) → length w ≡ block_size → Bytes w → block_exists l i b ≡ true → Valid l (load g byte i b w)
    load_valid w long bs exists =
        let view = load_view g byte i b w hi hb in
        record {
          range = omega arith;
          bytes = bs;
          loaded = rw view exists;
          pending = v.pending;
          sealed = on_test (is_sealed g) (λ s. rw (s, sealed_control s, view, eq-eqb i info_class (may s).0, lt-ltb b info_blocks (may s).1)) (λ s. rw s);
        }

    found_valid : (image : List ℕ) → fits l (length image) ≡ true → Bytes image → ToValid l (load_block l image g byte i b)
    found_valid image f bs =
        on_load (ToValid l) g byte l image i b
        (λ s k q.
        load_valid (as_loaded (block_bytes l image i b)) (loaded_length l image i b) (loaded_bytes l image i b bs)
        (exists_found l (length image) i b f ∙ rw q))
        (λ e. v)

  module _ (image : List ℕ) (f : fits l (length image) ≡ true) (bs : Bytes image) (byte : ℕ) (h : byte ≤ max_byte) where
    select_valid : ToValid l (select_block l image g byte)
    select_valid =
        on_select (ToValid l) g byte l image
        (λ a. found_valid byte g.class byte h v.range.class h (λ s. absurd (true≢false (sym (rw s at a)))) image f bs)
        (λ low high. found_valid byte info_class (byte - 1) h (omega arith) (omega arith) (λ s. (refl, omega arith)) image f bs)
        v

    -- ---- any register

    -- a valid gauge, and an image of bytes, of the layout's length
    abbrev Stays : Outcome ByteAnswer (List ℕ) → Type 0
    Stays s = Valid l s.answer.gauge × (length s.lent ≡ length image) × Bytes s.lent

    commits_valid : commit_error l image g byte ≡ 0 → let to = committed l image g in Stays (outcome (byte_written 0 (differing image to) g) to)
    unfolding committed outcome
    commits_valid e =
        let c = committable l image g byte e in
        rw c.loaded
        (v, store_length l image c.class c.block g.window v.range.window, stored_bytes l image c.class c.block bs g.window v.bytes)

    byte_valid : (k : Register) → Stays (write_at k l image g byte)
    unfolding write_at outcome
    byte_valid Register.ControlLow = (low_valid byte h, refl, bs)
    byte_valid Register.ControlHigh = (obey_valid image (word g.low byte) (omega arith), refl, bs)
    byte_valid Register.DataFlashClass = (class_valid byte h, refl, bs)
    byte_valid Register.DataFlashBlock = (select_valid, refl, bs)
    byte_valid (Register.BlockData k) = (edit_valid k byte h, refl, bs)
    byte_valid Register.BlockDataChecksum = on_commit Stays l image g byte commits_valid (v, refl, bs)
    byte_valid Register.BlockDataControl = (control_valid byte, refl, bs)
    byte_valid Register.Other = (v, refl, bs)

pub byte_good : ByteGood
unfolding write_byte
byte_good l image g r byte h o =
    let s = byte_valid l g (valid_parts l g o.valid) image o.fits o.bytes byte h (register_of r) in
    record { fits = rw s.1 o.fits; valid = parts_valid l _ s.0; bytes = s.2 }

-- ---- the bytes of a write

abbrev Ends : Layout → Outcome WriteAnswer (List ℕ) → Type 0
Ends l w = Good l w.lent w.answer.gauge

run_good : (l : Layout) (bs : List ℕ) → Bytes bs → (image : List ℕ) (g : Gauge) (r n c : ℕ) → Good l image g → Ends l (write_bytes l image g r n c bs)
unfolding write_bytes outcome
run_good l [] h image g r n c o = o
run_good l (b ∷ bs) h image g r n c o =
    let s = write_byte l image g r b in
    let o' = byte_good l image g r b (h zero) o in
    on_cond (Ends l) (eqb s.answer.error 0) _ _
    (λ _. run_good l bs (λ k. h (suc k)) s.lent s.answer.gauge (r + 1) (n + 1) (c + s.answer.changed) o') (λ _. o')

pub write_good : WriteGood
unfolding write outcome
write_good l image g r bytes h o =
    on_cond (Ends l) (eqb (call_error l (length image) g r (length bytes)) 0) _ _ (λ _. run_good l bytes h image g r 0 0 o) (λ _. o)
