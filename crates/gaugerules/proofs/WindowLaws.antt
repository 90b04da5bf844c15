-- Lengths: a window of 32 bytes keeps them whatever is written, and so an image keeps its length.
use Prim.Native.Nat.{ℕ, ◌+◌, ◌-◌}
use mathlib.Core.Path.{◌≡◌, refl, ◌∙◌}
use mathlib.Core.List.{List, [], ◌∷◌}
use lib.Dec.{eqb}
use lib.ListN.{length, length-set}
use borrow.Author.Tests.{eqb-true}
use Rattle.flashrules.specs.Outcome.{Outcome, outcome}
use Rattle.flashrules.specs.Choice.{differing}
use Rattle.flashrules.specs.Layout.{info_class}
use Rattle.flashrules.specs.Lookup.{block_size}
use Rattle.flashrules.specs.declared.layout.Layout.{Layout}
use Rattle.flashrules.proofs.Laws.{loaded_length, store_length}
use Rattle.flashrules.proofs.Picks.{on_cond}
use Rattle.gaugerules.specs.Register.{register_of}
use Rattle.gaugerules.specs.Word.{word, obey}
use Rattle.gaugerules.specs.Transfer.{byte_written, load_block, committed, commit_error}
use Rattle.gaugerules.specs.Write.{write_at, write_byte, write_bytes, call_error, write}
use Rattle.gaugerules.specs.Laws.{WriteLength}
use Rattle.gaugerules.specs.declared.state.Gauge.{Gauge}
use Rattle.gaugerules.specs.declared.register.Register.{Register}
use Rattle.gaugerules.specs.Answer.{ByteAnswer}
use Rattle.gaugerules.specs.Answer.{WriteAnswer}
use Rattle.gaugerules.proofs.LoadedLaws.{committable}
use Rattle.gaugerules.proofs.ByteCases.{on_class, on_control, on_edit, on_load, on_select, on_commit, on_word}
use Rattle.gaugerules.proofs.RunLaws.{called}
use Rattle.gaugerules.proofs.ValidLaws.{valid_parts}

abbrev pub Whole : Gauge → Type 0
Whole g = length g.window ≡ block_size

module _ (l : Layout) (image : List ℕ) (g : Gauge) (byte : ℕ) (h : Whole g) where
  word_whole : (w : ℕ) → Whole (obey l image g w)
  word_whole w = on_word Whole l image g w h refl refl (λ _. h) (λ _. h) (λ _ _. h)

  abbrev ToWhole : ByteAnswer → Type 0
  ToWhole s = Whole s.gauge

  load_whole : (i b : ℕ) → ToWhole (load_block l image g byte i b)
  load_whole i b = on_load ToWhole g byte l image i b (λ _ _ _. loaded_length l image i b) (λ _. h)

  abbrev Both : Outcome ByteAnswer (List ℕ) → Type 0
  Both s = ToWhole s.answer × (length s.lent ≡ length image)

  commit_whole : commit_error l image g byte ≡ 0 → let to = committed l image g in Both (outcome (byte_written 0 (differing image to) g) to)
  unfolding committed outcome
  commit_whole e = let c = committable l image g byte e in rw c.loaded (h, store_length l image c.class c.block g.window h)

  pub byte_whole : (k : Register) → Both (write_at k l image g byte)
  unfolding write_at outcome
  byte_whole Register.ControlLow = (h, refl)
  byte_whole Register.ControlHigh = (word_whole (word g.low byte), refl)
  byte_whole Register.DataFlashClass = (on_class ToWhole g byte h (λ _. refl), refl)
  byte_whole Register.DataFlashBlock = (on_select ToWhole g byte l image (λ _. load_whole g.class byte) (λ _ _. load_whole info_class (byte - 1)) h, refl)
  byte_whole (Register.BlockData k) = (on_edit ToWhole g byte k (λ _. length-set g.window k byte ∙ h) h, refl)
  byte_whole Register.BlockDataChecksum = on_commit Both l image g byte commit_whole (h, refl)
  byte_whole Register.BlockDataControl = (on_control ToWhole g byte h (λ _ _. refl) h, refl)
  byte_whole Register.Other = (h, refl)

run_length : (l : Layout) (bs image : List ℕ) (g : Gauge) (r n c : ℕ) → Whole g → length (write_bytes l image g r n c bs).lent ≡ length image
unfolding write_bytes write_byte outcome
run_length l [] image g r n c h = refl
run_length l (b ∷ bs) image g r n c h =
    let s = write_byte l image g r b in
    let k = byte_whole l image g b h (register_of r) in
    on_cond (λ (w : Outcome WriteAnswer (List ℕ)). length w.lent ≡ length image) (eqb s.answer.error 0) _ _
    (λ _. run_length l bs s.lent s.answer.gauge (r + 1) (n + 1) (c + s.answer.changed) k.0 ∙ k.1) (λ _. k.1)

pub write_length : WriteLength
unfolding write outcome
write_length l image g r bytes =
    let e = call_error l (length image) g r (length bytes) in
    on_cond (λ (w : Outcome WriteAnswer (List ℕ)). length w.lent ≡ length image) (eqb e 0) _ _
    (λ p. run_length l bytes image g r 0 0 (valid_parts l g (called l (length image) g r (length bytes) (eqb-true _ _ p)).sound).range.window)
    (λ _. refl)
