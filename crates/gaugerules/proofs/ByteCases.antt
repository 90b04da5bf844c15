-- A proof by the cases of what one byte does: for each rule of block transfer, and for a control
-- word, what it comes to and when. The one place that goes through these rules; a law of all bytes
-- goes by them.
use Prim.Native.Nat.{ℕ, ◌-◌, ◌≤◌}
use mathlib.Core.Path.{◌≡◌}
use mathlib.Core.Bool.{true, false}
use mathlib.Core.List.{List}
use lib.Dec.{eqb, leb}
use lib.ListN.{length, set}
use borrow.Author.Tests.{eqb-true, leb-true}
use Rattle.flashrules.specs.Error.{number}
use Rattle.flashrules.specs.Answer.{found}
use Rattle.flashrules.specs.Error.{sealed_register, unknown_block, invalid_control}
use Rattle.flashrules.specs.Outcome.{Outcome, outcome}
use Rattle.flashrules.specs.Choice.{differing}
use Rattle.flashrules.specs.Layout.{info_class}
use Rattle.flashrules.specs.Lookup.{find_block}
use Rattle.flashrules.specs.Image.{block_bytes, as_loaded}
use Rattle.flashrules.specs.declared.layout.Layout.{Layout}
use Rattle.flashrules.proofs.Picks.{and_first, and_rest, on_test, on_answer, on_cond}
use Rattle.gaugerules.specs.State.{boot_sealed, no_word, control_info, info_blocks, is_sealed, is_full_access, none_pending, general_access}
use Rattle.gaugerules.specs.State.{with_control, with_class, with_window, restart, unload, load}
use Rattle.gaugerules.specs.Keys.{keys, is_key}
use Rattle.gaugerules.specs.Word.{status_word, seal_word, reset_word, key_wanted, waits, opened, key_word, with_status, obey}
use Rattle.gaugerules.specs.Transfer.{byte_written, accept, refuse, set_class, load_block, selects_info, select_block, edit_error, edit, commit_error, committed, set_control}
use Rattle.gaugerules.specs.Write.{commit}
use Rattle.gaugerules.specs.declared.state.Gauge.{Gauge}
use Rattle.gaugerules.specs.Answer.{ByteAnswer}

module _ (P : ByteAnswer → Type 0) (g : Gauge) (byte : ℕ) where
  pub on_class : P (refuse sealed_register g) → (is_sealed g ≡ false → P (accept (unload (with_class g byte)))) → P (set_class g byte)
  unfolding set_class
  on_class refused accepted = on_cond P (is_sealed g) _ _ (λ _. refused) accepted

  pub on_control : P (refuse sealed_register g) → (is_sealed g ≡ false → byte ≤ control_info → P (accept (unload (with_control g byte))))
      → P (refuse invalid_control g) → P (set_control g byte)
  unfolding set_control
  on_control refused accepted bad =
      on_cond P (is_sealed g) _ _ (λ _. refused) (λ s. on_cond P (leb byte control_info) _ _ (λ h. accepted s (leb-true _ _ h)) (λ _. bad))

  pub on_edit : (k : ℕ) → (edit_error g ≡ 0 → P (accept (with_window g (set g.window k byte)))) → P (refuse (edit_error g) g) → P (edit g k byte)
  unfolding edit
  on_edit k accepted refused = on_cond P (eqb (edit_error g) 0) _ _ (λ e. accepted (eqb-true _ _ e)) (λ _. refused)

  module _ (l : Layout) (image : List ℕ) where
    pub on_load : (i b : ℕ) → ((s k : ℕ) → find_block l (length image) i b ≡ found s k → P (accept (load g byte i b (as_loaded (block_bytes l image i b)))))
        → ((e : ℕ) → P (refuse e g)) → P (load_block l image g byte i b)
    unfolding load_block
    on_load i b accepted refused = on_answer (find_block l (length image) i b) (λ s k p. rw p (accepted s k p)) (λ e p. rw p (refused (number e)))

    pub on_select : (general_access g ≡ true → P (load_block l image g byte g.class byte))
        → (1 ≤ byte → byte ≤ info_blocks → P (load_block l image g byte info_class (byte - 1))) → P (refuse unknown_block g) → P (select_block l image g byte)
    unfolding select_block
    on_select general info refused =
        on_cond P (general_access g) _ _ general (λ _.
        on_cond P (selects_info byte) _ _ (λ t. info (search (and_first, leb-true)) (search (and_first, and_rest, leb-true))) (λ _. refused))

pub on_commit : (P : Outcome ByteAnswer (List ℕ) → Type 0) (l : Layout) (image : List ℕ) (g : Gauge) (byte : ℕ)
    → (commit_error l image g byte ≡ 0 → let to = committed l image g in P (outcome (byte_written 0 (differing image to) g) to))
    → P (outcome (refuse (commit_error l image g byte) g) image) → P (commit l image g byte)
unfolding commit
on_commit P l image g byte accepted refused =
    on_test (eqb (commit_error l image g byte) 0) (λ e. rw e (accepted (eqb-true _ _ e))) (λ e. rw e refused)

-- ---- a control word

module _ (P : Gauge → Type 0) (l : Layout) (image : List ℕ) (g : Gauge) (w : ℕ) where
  pub on_word : P (with_status g) → P (restart g boot_sealed) → P (restart g g.boot) → (is_full_access g ≡ true → P (waits g no_word))
      → (is_full_access g ≡ false → P (waits g w))
      → (none_pending g ≡ false → is_key (keys l image) (key_wanted g) g.pending w ≡ true → P (opened g)) → P (obey l image g w)
  unfolding obey key_word
  on_word status seal reset full wait key =
      on_cond P (eqb w status_word) _ _ (λ _. status) (λ _.
      on_cond P (eqb w seal_word) _ _ (λ _. seal) (λ _.
      on_cond P (eqb w reset_word) _ _ (λ _. reset) (λ _.
      on_cond P (is_full_access g) _ _ full (λ f.
      on_cond P (none_pending g) _ _ (λ _. wait f) (λ n.
      on_cond P (is_key (keys l image) (key_wanted g) g.pending w) _ _ (key n) (λ _. wait f))))))
