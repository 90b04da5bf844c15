-- A proof by the cases of a register number: the one place that goes through the map of registers.
use Prim.Native.Nat.{ℕ, ◌+◌, ◌-◌, ◌<◌}
use mathlib.Core.Path.{◌≡◌}
use mathlib.Core.Logic.{◌⊎◌, inl, inr}
use native.Mathlib.Omega.{arith}
use lib.Dec.{eqb, ltb}
use borrow.Author.Tests.{eqb-true, eqb-false, ltb-true, ltb-false}
use Rattle.flashrules.specs.Lookup.{block_size}
use Rattle.flashrules.proofs.Picks.{on_cond}
use Rattle.gaugerules.specs.Register.{control_low, control_high, data_flash_class, data_flash_block, block_data}
use Rattle.gaugerules.specs.Register.{block_data_checksum, block_data_control, register_of}
use Rattle.gaugerules.specs.declared.register.Register.{Register}

pub on_register : (P : Register → Type 0) (r : ℕ)
    → (r ≡ control_low → P Register.ControlLow)
    → (r ≡ control_high → P Register.ControlHigh)
    → (r ≡ data_flash_class → P Register.DataFlashClass)
    → (r ≡ data_flash_block → P Register.DataFlashBlock)
    → ((k : ℕ) → r ≡ block_data + k → k < block_size → P (Register.BlockData k))
    → (r ≡ block_data_checksum → P Register.BlockDataChecksum)
    → (r ≡ block_data_control → P Register.BlockDataControl)
    → (control_high < r → (r < data_flash_class) ⊎ (block_data_control < r) → P Register.Other)
    → P (register_of r)
unfolding register_of
on_register P r low high class block window checksum control other =
    on_cond P (eqb r control_low) _ _ (λ e. low (eqb-true _ _ e)) (λ n0.
    on_cond P (eqb r control_high) _ _ (λ e. high (eqb-true _ _ e)) (λ n1.
    let above : control_high < r = omega (arith, eqb-false r control_low n0, eqb-false r control_high n1) in
    on_cond P (eqb r data_flash_class) _ _ (λ e. class (eqb-true _ _ e)) (λ n2.
    on_cond P (eqb r data_flash_block) _ _ (λ e. block (eqb-true _ _ e)) (λ n3.
    on_cond P (ltb r block_data) _ _
    (λ u. other above (inl (omega (arith, eqb-false r data_flash_class n2, eqb-false r data_flash_block n3, ltb-true r block_data u)))) (λ from.
    on_cond P (ltb r block_data_checksum) _ _
    (λ to.
    let h = ltb-false r block_data from in
    window (r - block_data) (omega arith) (omega (arith, ltb-true r block_data_checksum to))) (λ to.
    on_cond P (eqb r block_data_checksum) _ _ (λ e. checksum (eqb-true _ _ e)) (λ n4.
    on_cond P (eqb r block_data_control) _ _ (λ e. control (eqb-true _ _ e)) (λ n5.
    other above
    (inr (omega (arith, ltb-false r block_data_checksum to, eqb-false r block_data_checksum n4, eqb-false r block_data_control n5)))))))))))
