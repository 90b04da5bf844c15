-- What the bytes of block transfer leave of a gauge: all that neither an unload nor a load, neither
-- the class nor the control and no byte of the window touches. So of a byte at any register, where
-- the two of the control words are answered.
use Prim.Native.Nat.{ℕ, ◌-◌}
use mathlib.Core.Path.{◌≡◌, refl}
use mathlib.Core.List.{List}
use Rattle.flashrules.specs.Outcome.{Outcome, outcome}
use Rattle.flashrules.specs.Layout.{info_class}
use Rattle.flashrules.specs.declared.layout.Layout.{Layout}
use Rattle.gaugerules.specs.State.{with_low, with_control, with_class, with_window, unload, load}
use Rattle.gaugerules.specs.Register.{control_low, control_high}
use Rattle.gaugerules.specs.Word.{word, obey}
use Rattle.gaugerules.specs.Transfer.{load_block}
use Rattle.gaugerules.specs.Write.{write_at, write_byte}
use Rattle.gaugerules.specs.declared.state.Gauge.{Gauge}
use Rattle.gaugerules.specs.declared.register.Register.{Register}
use Rattle.gaugerules.specs.Answer.{ByteAnswer}
use Rattle.gaugerules.proofs.RegisterLaws.{on_register}
use Rattle.gaugerules.proofs.ByteCases.{on_class, on_control, on_edit, on_load, on_select, on_commit}

module _ {A : Type 0} (part : Gauge → A) where
  -- block transfer leaves this part of every gauge
  pub record Untouched : Type 0 where
    pub class : (g : Gauge) (i : ℕ) → part (unload (with_class g i)) ≡ part g
    pub control : (g : Gauge) (x : ℕ) → part (unload (with_control g x)) ≡ part g
    pub load : (g : Gauge) (byte i b : ℕ) (w : List ℕ) → part (load g byte i b w) ≡ part g
    pub window : (g : Gauge) (w : List ℕ) → part (with_window g w) ≡ part g

  module _ (u : Untouched) (l : Layout) (image : List ℕ) (g : Gauge) (byte : ℕ) where
    abbrev Keeps : ByteAnswer → Type 0
    Keeps s = part s.gauge ≡ part g

    load_keeps : (i b : ℕ) → Keeps (load_block l image g byte i b)
    load_keeps i b = on_load Keeps g byte l image i b (λ s k p. u.load g byte i b _) (λ e. refl)

    pub byte_keeps_part : (r : ℕ) → (r ≡ control_low → part (with_low g byte) ≡ part g)
        → (r ≡ control_high → part (obey l image g (word g.low byte)) ≡ part g) → Keeps (write_byte l image g r byte).answer
    unfolding write_byte write_at outcome
    byte_keeps_part r low high =
        on_register (λ (k : Register). Keeps (write_at k l image g byte).answer) r low high
        (λ _. on_class Keeps g byte refl (λ _. u.class g byte))
        (λ _. on_select Keeps g byte l image (λ _. load_keeps g.class byte) (λ _ _. load_keeps info_class (byte - 1)) refl)
        (λ k _ _. on_edit Keeps g byte k (λ _. u.window g _) refl)
        (λ _. on_commit (λ (s : Outcome ByteAnswer (List ℕ)). Keeps s.answer) l image g byte (λ _. refl) refl)
        (λ _. on_control Keeps g byte refl (λ _ _. u.control g byte) refl)
        (λ _ _. refl)
