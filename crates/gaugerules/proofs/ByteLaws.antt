-- Laws of one byte. Each rule either accepts it or hands the gauge and the image back, so a refused
-- byte alters nothing and the bytes before it stand; and no register but 0x60 touches the image.
use Prim.Native.Nat.{ℕ, suc, ◌+◌, ◌-◌, ◌≤◌}
use mathlib.Core.Path.{◌≡◌, refl, sym, ap, ◌∙◌}
use mathlib.Core.List.{List, [], ◌∷◌}
use native.Mathlib.Omega.{arith}
use lib.Dec.{eqb}
use lib.ListN.{take}
use borrow.Author.Tests.{eqb-false}
use Rattle.flashrules.specs.Error.{sealed_register, unknown_block, invalid_control}
use Rattle.flashrules.specs.Outcome.{Outcome, outcome}
use Rattle.flashrules.specs.Choice.{differing}
use Rattle.flashrules.specs.Layout.{info_class}
use Rattle.flashrules.specs.declared.layout.Layout.{Layout}
use Rattle.flashrules.proofs.DifferingLaws.{differing_self}
use Rattle.flashrules.proofs.Picks.{on_test}
use Rattle.gaugerules.specs.Register.{register_of}
use Rattle.gaugerules.specs.Transfer.{accept, refuse, load_block, select_block, edit_error}
use Rattle.gaugerules.specs.Write.{write_at, write_byte, written, write_bytes}
use Rattle.gaugerules.specs.Laws.{RefusedByte, BytesStand, OnlyCommit, ByteChanged}
use Rattle.gaugerules.specs.declared.state.Gauge.{Gauge}
use Rattle.gaugerules.specs.declared.register.Register.{Register}
use Rattle.gaugerules.specs.Answer.{ByteAnswer}
use Rattle.gaugerules.specs.Answer.{WriteAnswer}
use Rattle.gaugerules.proofs.RegisterLaws.{on_register}
use Rattle.gaugerules.proofs.ByteCases.{on_class, on_control, on_edit, on_load, on_select, on_commit}

-- ---- a refused byte

module _ (l : Layout) (image : List ℕ) (g : Gauge) (byte : ℕ) where
  -- the gauge is as it was, if the step is a refusal
  abbrev Unaltered : ByteAnswer → Type 0
  Unaltered s = (s.error ≡ 0 → ⊥) → s.gauge ≡ g

  by_accept : (c : Gauge) → Unaltered (accept c)
  by_accept c n = absurd (n refl)

  by_refuse : (e : ℕ) → Unaltered (refuse e g)
  by_refuse e n = refl

  select_unaltered : Unaltered (select_block l image g byte)
  select_unaltered = on_select Unaltered g byte l image (λ _. loads g.class byte) (λ _ _. loads info_class (byte - 1)) (by_refuse unknown_block)
    where
      loads : (i b : ℕ) → Unaltered (load_block l image g byte i b)
      loads i b = on_load Unaltered g byte l image i b (λ s k p. by_accept _) by_refuse

  refused_at : (k : Register) → let s = write_at k l image g byte in
      (s.answer.error ≡ 0 → ⊥) → (s.answer.gauge ≡ g) × (s.lent ≡ image)
  unfolding write_at outcome
  refused_at Register.ControlLow n = absurd (n refl)
  refused_at Register.ControlHigh n = absurd (n refl)
  refused_at Register.DataFlashClass n = (on_class Unaltered g byte (by_refuse sealed_register) (λ _. by_accept _) n, refl)
  refused_at Register.DataFlashBlock n = (select_unaltered n, refl)
  refused_at (Register.BlockData k) n = (on_edit Unaltered g byte k (λ _. by_accept _) (by_refuse (edit_error g)) n, refl)
  refused_at Register.BlockDataChecksum n =
      on_commit (λ (s : Outcome ByteAnswer (List ℕ)). (s.answer.error ≡ 0 → ⊥) → (s.answer.gauge ≡ g) × (s.lent ≡ image)) l image g byte
      (λ _ z. absurd (z refl)) (λ _. (refl, refl)) n
  refused_at Register.BlockDataControl n =
      (on_control Unaltered g byte (by_refuse sealed_register) (λ _ _. by_accept _) (by_refuse invalid_control) n, refl)
  refused_at Register.Other n = (refl, refl)

pub refused_byte : RefusedByte
unfolding write_byte
refused_byte l image g r byte = refused_at l image g byte (register_of r)

-- ---- how many bytes of the image a byte changes

module _ (l : Layout) (image : List ℕ) (g : Gauge) (byte : ℕ) where
  abbrev Unchanged : ByteAnswer → Type 0
  Unchanged s = s.changed ≡ differing image image

  none : ◌≡◌ {A = ℕ} 0 (differing image image)
  none = sym (differing_self image)

  loads_none : (i b : ℕ) → Unchanged (load_block l image g byte i b)
  loads_none i b = on_load Unchanged g byte l image i b (λ s k p. none) (λ e. none)

  changed_at : (k : Register) → let s = write_at k l image g byte in s.answer.changed ≡ differing image s.lent
  unfolding write_at outcome
  changed_at Register.ControlLow = none
  changed_at Register.ControlHigh = none
  changed_at Register.DataFlashClass = on_class Unchanged g byte none (λ _. none)
  changed_at Register.DataFlashBlock = on_select Unchanged g byte l image (λ _. loads_none g.class byte) (λ _ _. loads_none info_class (byte - 1)) none
  changed_at (Register.BlockData k) = on_edit Unchanged g byte k (λ _. none) none
  changed_at Register.BlockDataChecksum =
      on_commit (λ (s : Outcome ByteAnswer (List ℕ)). s.answer.changed ≡ differing image s.lent) l image g byte (λ _. refl) none
  changed_at Register.BlockDataControl = on_control Unchanged g byte none (λ _ _. none) none
  changed_at Register.Other = none

pub byte_changed : ByteChanged
unfolding write_byte
byte_changed l image g r byte = changed_at l image g byte (register_of r)

-- none where the image stays
pub unchanged : (l : Layout) (image : List ℕ) (g : Gauge) (r byte : ℕ) → let s = write_byte l image g r byte in
    s.lent ≡ image → s.answer.changed ≡ 0
unchanged l image g r byte e = byte_changed l image g r byte ∙ ap (differing image) e ∙ differing_self image

-- ---- the bytes before a refused one

-- of bytes before which n were accepted, `count` more are; sent alone they leave what all of them
-- leave
record Stands (l : Layout) (image : List ℕ) (g : Gauge) (r n c : ℕ) (bytes : List ℕ) (w : Outcome WriteAnswer (List ℕ)) : Type 0 where
  count : ℕ
  accepted : w.answer.accepted ≡ n + count
  stands : write_bytes l image g r n c (take count bytes) ≡ outcome (written 0 w.answer.accepted w.answer.changed w.answer.gauge) w.lent

stand : (l : Layout) (image : List ℕ) (g : Gauge) (r n c : ℕ) (bytes : List ℕ) → Stands l image g r n c bytes (write_bytes l image g r n c bytes)
unfolding write_bytes outcome
stand l image g r n c [] = record { count = 0; accepted = omega arith; stands = refl }
stand l image g r n c (b ∷ bs) =
    let s = write_byte l image g r b in
    let ih = stand l s.lent s.answer.gauge (r + 1) (n + 1) (c + s.answer.changed) bs in
    on_test (eqb s.answer.error 0)
    (λ p. record { count = suc ih.count; accepted = rw p (omega (arith, ih.accepted)); stands = rw p ih.stands })
    (λ p.
    let same = refused_byte l image g r b (eqb-false s.answer.error 0 p) in
    let none : c + s.answer.changed ≡ c = omega (arith, unchanged l image g r b same.1) in
    record { count = 0; accepted = rw p (omega arith); stands = rw (none, p, same.0, same.1) })

-- no fewer than were accepted before
pub accepted_least : (l : Layout) (bytes image : List ℕ) (g : Gauge) (r n c : ℕ) → n ≤ (write_bytes l image g r n c bytes).answer.accepted
accepted_least l bytes image g r n c = let s = stand l image g r n c bytes in omega (arith, s.accepted)

pub bytes_stand : BytesStand
bytes_stand l image g r bytes =
    let s = stand l image g r 0 0 bytes in
    let p : (write_bytes l image g r 0 0 bytes).answer.accepted ≡ s.count = omega (arith, s.accepted) in
    ap (λ (k : ℕ). write_bytes l image g r 0 0 (take k bytes)) p ∙ s.stands

-- ---- no register but 0x60 touches the image

pub only_commit : OnlyCommit
unfolding write_byte write_at outcome
only_commit l image g r byte n =
    on_register (λ (k : Register). (write_at k l image g byte).lent ≡ image) r (λ _. refl) (λ _. refl) (λ _. refl) (λ _. refl) (λ _ _ _. refl)
    (λ e. absurd (n e)) (λ _. refl) (λ _ _. refl)
