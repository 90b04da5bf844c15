-- Layouts that mean the same are the same to every rule of the gauge: each asks of the layout only
-- what the lookups answer.
use Prim.Native.Nat.{ℕ, ◌+◌, ◌-◌}
use mathlib.Core.Path.{◌≡◌, refl, ap, ◌∙◌}
use mathlib.Core.Bool.{cond}
use mathlib.Core.List.{List, [], ◌∷◌}
use lib.Dec.{eqb}
use lib.ListN.{length}
use Rattle.flashrules.specs.Outcome.{Outcome, outcome}
use Rattle.flashrules.specs.Layout.{info_class, key_class}
use Rattle.flashrules.specs.Image.{block_bytes, store_block}
use Rattle.flashrules.specs.Laws.{SameClasses, SameLookups}
use Rattle.flashrules.specs.declared.layout.Layout.{Layout}
use Rattle.flashrules.proofs.Laws.{same_layout_lem}
use Rattle.gaugerules.specs.State.{loaded_of}
use Rattle.gaugerules.specs.Valid.{valid}
use Rattle.gaugerules.specs.Register.{register_of}
use Rattle.gaugerules.specs.Keys.{key_block}
use Rattle.gaugerules.specs.Word.{key_word, obey}
use Rattle.gaugerules.specs.Transfer.{load_block, select_block, changes_keys, committed, commit_error}
use Rattle.gaugerules.specs.Write.{commit, write_at, write_byte, written, write_bytes, call_error, write}
use Rattle.gaugerules.specs.Read.{read_error, read}
use Rattle.gaugerules.specs.Supply.{supply_error, set_supply}
use Rattle.gaugerules.specs.Script.{Device, Call, to_write, to_read, to_supply, reply, after_call}
use Rattle.gaugerules.specs.Laws.{SameValid, SameWrite, SameRead, SameSupply}
use Rattle.gaugerules.specs.declared.state.Gauge.{Gauge}
use Rattle.gaugerules.specs.declared.register.Register.{Register}
use Rattle.gaugerules.specs.Answer.{WriteAnswer}
use Rattle.gaugerules.proofs.Picks.{on_loaded}

pub same_valid : SameValid
unfolding valid
same_valid l l' s g = on_loaded (loaded_of g.loaded) (λ p. rw p) (λ i b p. rw (p, (same_layout_lem l l' s).exists i b))

module _ (l l' : Layout) (s : SameClasses l l') where
  found : SameLookups l l'
  found = same_layout_lem l l' s

  same_bytes : (image : List ℕ) (i b : ℕ) → block_bytes l image i b ≡ block_bytes l' image i b
  unfolding block_bytes
  same_bytes image i b = rw (found.block (length image) i b)

  same_store : (image : List ℕ) (i b : ℕ) (w : List ℕ) → store_block l image i b w ≡ store_block l' image i b w
  unfolding store_block
  same_store image i b w = rw (found.block (length image) i b)

  same_load : (image : List ℕ) (g : Gauge) (byte i b : ℕ) → load_block l image g byte i b ≡ load_block l' image g byte i b
  unfolding load_block
  same_load image g byte i b = rw (found.block (length image) i b, same_bytes image i b)

  same_committed : (image : List ℕ) (g : Gauge) → committed l image g ≡ committed l' image g
  unfolding committed
  same_committed image g = on_loaded (loaded_of g.loaded) (λ p. rw p) (λ i b p. rw (p, same_store image i b g.window))

  same_at : (k : Register) (image : List ℕ) (g : Gauge) (byte : ℕ) → write_at k l image g byte ≡ write_at k l' image g byte
  unfolding write_at obey key_word select_block commit commit_error changes_keys
  same_at Register.ControlLow image g byte = refl
  same_at Register.ControlHigh image g byte = rw (same_bytes image key_class key_block)
  same_at Register.DataFlashClass image g byte = refl
  same_at Register.DataFlashBlock image g byte = rw (same_load image g byte g.class byte, same_load image g byte info_class (byte - 1))
  same_at (Register.BlockData k) image g byte = refl
  same_at Register.BlockDataChecksum image g byte = rw (same_committed image g, same_bytes image key_class key_block)
  same_at Register.BlockDataControl image g byte = refl
  same_at Register.Other image g byte = refl

  same_bytes_run : (bs image : List ℕ) (g : Gauge) (r n c : ℕ) → write_bytes l image g r n c bs ≡ write_bytes l' image g r n c bs
  unfolding write_bytes write_byte
  same_bytes_run [] image g r n c = refl
  same_bytes_run (b ∷ bs) image g r n c =
      let t = write_at (register_of r) l image g b in
      ap
      (λ (w : Outcome WriteAnswer (List ℕ)).
      cond (eqb t.answer.error 0) w (outcome (written t.answer.error n (c + t.answer.changed) t.answer.gauge) t.lent))
      (same_bytes_run bs t.lent t.answer.gauge (r + 1) (n + 1) (c + t.answer.changed))
      ∙ rw (same_at (register_of r) image g b)

  same_call : (size : ℕ) (g : Gauge) (r n : ℕ) → call_error l size g r n ≡ call_error l' size g r n
  unfolding call_error
  same_call size g r n = rw (found.fits size, same_valid l l' s g)

pub same_write : SameWrite
unfolding write
same_write l l' s image g r bytes = rw (same_call l l' s (length image) g r (length bytes), same_bytes_run l l' s bytes image g r 0 0)

pub same_read : SameRead
unfolding read read_error
same_read l l' s image g r n buffer = rw ((found l l' s).fits (length image), same_valid l l' s g)

pub same_supply : SameSupply
unfolding set_supply supply_error
same_supply l l' s size g millivolts = rw ((found l l' s).fits size, same_valid l l' s g)

module _ (l l' : Layout) (s : SameClasses l l') where
  pub same_reply : (d : Device) (c : Call) → reply l d c ≡ reply l' d c
  unfolding reply
  same_reply d (to_write r bytes) = rw (same_write l l' s d.image d.gauge r bytes)
  same_reply d (to_read r n buffer) = rw (same_read l l' s d.image d.gauge r n buffer)
  same_reply d (to_supply millivolts) = rw (same_supply l l' s (length d.image) d.gauge millivolts)

  pub same_after : (d : Device) (c : Call) → after_call l d c ≡ after_call l' d c
  unfolding after_call
  same_after d (to_write r bytes) = rw (same_write l l' s d.image d.gauge r bytes)
  same_after d (to_read r n buffer) = refl
  same_after d (to_supply millivolts) = rw (same_supply l l' s (length d.image) d.gauge millivolts)
