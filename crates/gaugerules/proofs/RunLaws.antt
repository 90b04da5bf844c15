-- Laws of a transaction: the turns of a run over its bytes, by what the first byte did; its end
-- after a control word; and what a call has that is not refused as a whole.
use Prim.Native.Nat.{ℕ, ◌+◌, ◌≤◌}
use mathlib.Core.Path.{◌≡◌, refl}
use mathlib.Core.Bool.{true, false, true≢false}
use mathlib.Core.List.{List, [], ◌∷◌}
use native.Mathlib.Omega.{arith}
use lib.Dec.{eqb}
use borrow.Author.Tests.{eqb-false, ltb-false, not-false, ne_eqb, le-ltb}
use Rattle.flashrules.specs.Outcome.{outcome}
use Rattle.flashrules.specs.Layout.{fits}
use Rattle.flashrules.specs.declared.layout.Layout.{Layout}
use Rattle.flashrules.proofs.Laws.{no_error}
use Rattle.flashrules.proofs.Picks.{on_test}
use Rattle.gaugerules.specs.Valid.{valid}
use Rattle.gaugerules.specs.Register.{control_high, registers, register_of}
use Rattle.gaugerules.specs.Write.{write_at, write_byte, written, write_bytes, bad_span, call_tests, call_error}
use Rattle.gaugerules.specs.declared.state.Gauge.{Gauge}
use Rattle.gaugerules.specs.declared.register.Register.{Register}
use Rattle.gaugerules.specs.Answer.{ByteAnswer}
use Rattle.gaugerules.proofs.RegisterLaws.{on_register}

-- ---- one turn, by what its byte did

module _ (l : Layout) (image : List ℕ) (g : Gauge) (r n c b : ℕ) (bs : List ℕ) (s : ByteAnswer) (to : List ℕ)
    (p : write_byte l image g r b ≡ outcome s to) where
  pub goes_on : eqb s.error 0 ≡ true → write_bytes l image g r n c (b ∷ bs) ≡ write_bytes l to s.gauge (r + 1) (n + 1) (c + s.changed) bs
  unfolding write_bytes outcome
  goes_on q = rw (p, q)

  pub stops : eqb s.error 0 ≡ false → write_bytes l image g r n c (b ∷ bs) ≡ outcome (written s.error n (c + s.changed) s.gauge) to
  unfolding write_bytes outcome
  stops q = rw (p, q)

-- ---- after a control word: the next register takes no write, so the run ends there

pub ends_after_word : (l : Layout) (image : List ℕ) (g : Gauge) (n c : ℕ) (bs : List ℕ) → let w = write_bytes l image g (control_high + 1) n c bs in
    (w.answer.gauge ≡ g) × (w.lent ≡ image)
unfolding write_bytes write_byte write_at register_of outcome
ends_after_word l image g n c [] = (refl, refl)
ends_after_word l image g n c (b ∷ bs) = (refl, refl)

-- which is the register of a control word
pub is_control_high : (r : ℕ) → register_of r ≡ Register.ControlHigh → r ≡ control_high
is_control_high r =
    on_register (λ (k : Register). k ≡ Register.ControlHigh → r ≡ control_high) r (λ _ e. never Register.ControlLow refl e) (λ p _. p)
    (λ _ e. never Register.DataFlashClass refl e) (λ _ e. never Register.DataFlashBlock refl e) (λ k _ _ e. never (Register.BlockData k) refl e)
    (λ _ e. never Register.BlockDataChecksum refl e) (λ _ e. never Register.BlockDataControl refl e) (λ _ _ e. never Register.Other refl e)
  where
    is_high : Register → ℕ
    is_high Register.ControlLow = 0
    is_high Register.ControlHigh = 1
    is_high Register.DataFlashClass = 0
    is_high Register.DataFlashBlock = 0
    is_high (Register.BlockData k) = 0
    is_high Register.BlockDataChecksum = 0
    is_high Register.BlockDataControl = 0
    is_high Register.Other = 0

    never : (k : Register) → is_high k ≡ 0 → k ≡ Register.ControlHigh → r ≡ control_high
    never k z e = let q : ◌≡◌ {A = ℕ} 1 0 = rw e at z in omega arith

-- ---- a call that is not refused as a whole

pub record Called (l : Layout) (size : ℕ) (g : Gauge) (r n : ℕ) : Type 0 where
  pub fitting : fits l size ≡ true
  pub sound : valid l g ≡ true
  pub span : r + n ≤ registers
  pub some : 1 ≤ n

good_span : (r n : ℕ) → bad_span r n ≡ false → (r + n ≤ registers) × (1 ≤ n)
unfolding bad_span
good_span r n e =
    on_test (eqb n 0) (λ z. absurd (true≢false (rw z at e)))
    (λ z. (ltb-false registers (r + n) (rw z at e), omega (arith, eqb-false n 0 z)))

pub called : (l : Layout) (size : ℕ) (g : Gauge) (r n : ℕ) → call_error l size g r n ≡ 0 → Called l size g r n
unfolding call_error
called l size g r n e =
    let t = (no_error (call_tests l size g r n) (omega arith, (omega arith, (omega arith, tt)))).0 e in
    record { fitting = not-false _ t.0; sound = not-false _ t.1.0; span = (good_span r n t.1.1.0).0; some = (good_span r n t.1.1.0).1 }

-- and such a call is one of them
pub calls_with : (l : Layout) (size : ℕ) (g : Gauge) (r n : ℕ) → Called l size g r n → call_error l size g r n ≡ 0
unfolding call_error bad_span
calls_with l size g r n c =
    rw (c.fitting, c.sound, ne_eqb n 0 (λ z. omega (arith, c.some)), le-ltb registers (r + n) c.span)
