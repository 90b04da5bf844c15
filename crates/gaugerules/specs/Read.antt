-- A read. Document 01, "Transactions", "Reads: ..": it changes nothing but the buffer that is lent
-- for the answer.
use Rattle.std.specs.Prelude.{ℕ, zero, suc, ◌+◌, ◌/◌, ◌%◌, Bool, cond, List, [], ◌∷◌, ◌++◌, eqb, ltb, length, get_or, drop}
use Rattle.checksum.specs.Checksum.{checksum}
use Rattle.flashrules.specs.Error.{short_buffer}
use Rattle.flashrules.specs.Refusal.{first_error}
use Rattle.flashrules.specs.Outcome.{Outcome, outcome}
use Rattle.flashrules.specs.declared.layout.Layout.{Layout}
use Rattle.gaugerules.specs.State.{is_sealed}
use Rattle.gaugerules.specs.Register.{register_of}
use Rattle.gaugerules.specs.Write.{call_tests}
use Rattle.gaugerules.specs.declared.state.Gauge.{Gauge}
use Rattle.gaugerules.specs.declared.register.Register.{Register}
use Rattle.gaugerules.specs.Answer.{ReadAnswer}

-- "both 0 when sealed"
abbrev pub unless_sealed : Gauge → ℕ → ℕ
unless_sealed g x = cond (is_sealed g) 0 x

-- 01: "0x00, 0x01 the result, low byte first; 0x3E class and 0x61 BlockDataControl, both 0 when
-- sealed; 0x3F block; 0x40 to 0x5F window; 0x60 its checksum; every other register 0"
unfoldable pub read_at : Register → Gauge → ℕ
read_at Register.ControlLow g = g.result % 256
read_at Register.ControlHigh g = g.result / 256
read_at Register.DataFlashClass g = unless_sealed g g.class
read_at Register.DataFlashBlock g = g.block
read_at (Register.BlockData k) g = get_or g.window k 0
read_at Register.BlockDataChecksum g = checksum g.window
read_at Register.BlockDataControl g = unless_sealed g g.control
read_at Register.Other g = 0

unfoldable pub read_byte : Gauge → ℕ → ℕ
read_byte g r = read_at (register_of r) g

-- n registers from r on
unfoldable pub read_bytes : Gauge → ℕ → ℕ → List ℕ
read_bytes g r zero = []
read_bytes g r (suc n) = read_byte g r ∷ read_bytes g (r + 1) n

-- 01: "An accepted read takes n, a refused one 0."
abbrev pub reading : ℕ → ℕ → ReadAnswer
reading e n = record { error = e; accepted = n }

-- 01: "Order for a transaction: 10, 15, 1, 14". The image has `size` bytes, the buffer `room`
abbrev pub read_tests : Layout → ℕ → Gauge → ℕ → ℕ → ℕ → List (Bool × ℕ)
read_tests l size g r n room = call_tests l size g r n ++ ((ltb room n, short_buffer) ∷ [])

unfoldable pub read_error : Layout → ℕ → Gauge → ℕ → ℕ → ℕ → ℕ
read_error l size g r n room = first_error (read_tests l size g r n room)

-- 14: "room untouched; if accepted, only past the answer"
unfoldable pub read : Layout → List ℕ → Gauge → ℕ → ℕ → List ℕ → Outcome ReadAnswer (List ℕ)
read l image g r n buffer =
    let e = read_error l (length image) g r n (length buffer) in
    cond (eqb e 0) (outcome (reading 0 n) (read_bytes g r n ++ drop n buffer)) (outcome (reading e 0) buffer)
