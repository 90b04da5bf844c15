-- The registers: which number is which. Document 01, "Transactions", the table of bytes written.
use Rattle.std.specs.Prelude.{ℕ, ◌-◌, cond, eqb, ltb}
use Rattle.gaugerules.specs.declared.register.Register.{Register}

abbrev pub control_low : ℕ
control_low = 0x00

abbrev pub control_high : ℕ
control_high = 0x01

abbrev pub data_flash_class : ℕ
data_flash_class = 0x3E

abbrev pub data_flash_block : ℕ
data_flash_block = 0x3F

-- 01: "0x40 to 0x5F"
abbrev pub block_data : ℕ
block_data = 0x40

abbrev pub block_data_checksum : ℕ
block_data_checksum = 0x60

abbrev pub block_data_control : ℕ
block_data_control = 0x61

-- 01: "r + n at most 128"
abbrev pub registers : ℕ
registers = 128

unfoldable pub register_of : ℕ → Register
register_of r =
    cond (eqb r control_low) Register.ControlLow
    (cond (eqb r control_high) Register.ControlHigh
    (cond (eqb r data_flash_class) Register.DataFlashClass
    (cond (eqb r data_flash_block) Register.DataFlashBlock
    (cond (ltb r block_data) Register.Other
    (cond (ltb r block_data_checksum) (Register.BlockData (r - block_data))
    (cond (eqb r block_data_checksum) Register.BlockDataChecksum
    (cond (eqb r block_data_control) Register.BlockDataControl Register.Other)))))))
