-- A write. Document 01, "Transactions": "A write takes its bytes one by one at r, r+1 and so on.
-- The first refused byte ends it."
use Rattle.std.specs.Prelude.{ℕ, ◌+◌, Bool, true, cond, not, List, [], ◌∷◌, eqb, ltb, length}
use Rattle.flashrules.specs.Error.{invalid_argument, read_only, malformed, invalid_gauge}
use Rattle.flashrules.specs.Refusal.{first_error}
use Rattle.flashrules.specs.Outcome.{Outcome, outcome}
use Rattle.flashrules.specs.Choice.{differing}
use Rattle.flashrules.specs.Layout.{fits}
use Rattle.flashrules.specs.declared.layout.Layout.{Layout}
use Rattle.gaugerules.specs.State.{with_low}
use Rattle.gaugerules.specs.Valid.{valid}
use Rattle.gaugerules.specs.Register.{registers, register_of}
use Rattle.gaugerules.specs.Word.{word, obey}
use Rattle.gaugerules.specs.Transfer.{byte_written, accept, refuse, set_class, select_block, edit, commit_error}
use Rattle.gaugerules.specs.Transfer.{committed, set_control}
use Rattle.gaugerules.specs.declared.state.Gauge.{Gauge}
use Rattle.gaugerules.specs.declared.register.Register.{Register}
use Rattle.gaugerules.specs.Answer.{ByteAnswer}
use Rattle.gaugerules.specs.Answer.{WriteAnswer}

-- ---- one byte, and the image after it

-- 01: "0x60 | commit, if it equals the window's checksum". C-12: "The commit shall also answer how
-- many bytes of the image differ before and after"
unfoldable pub commit : Layout → List ℕ → Gauge → ℕ → Outcome ByteAnswer (List ℕ)
commit l image g byte =
    let e = commit_error l image g byte in
    let after = committed l image g in
    cond (eqb e 0) (outcome (byte_written 0 (differing image after) g) after) (outcome (refuse e g) image)

-- 01: the table of registers and bytes written
unfoldable pub write_at : Register → Layout → List ℕ → Gauge → ℕ → Outcome ByteAnswer (List ℕ)
write_at Register.ControlLow l image g byte = outcome (accept (with_low g byte)) image
write_at Register.ControlHigh l image g byte = outcome (accept (obey l image g (word g.low byte))) image
write_at Register.DataFlashClass l image g byte = outcome (set_class g byte) image
write_at Register.DataFlashBlock l image g byte = outcome (select_block l image g byte) image
write_at (Register.BlockData k) l image g byte = outcome (edit g k byte) image
write_at Register.BlockDataChecksum l image g byte = commit l image g byte
write_at Register.BlockDataControl l image g byte = outcome (set_control g byte) image
write_at Register.Other l image g byte = outcome (refuse read_only g) image

unfoldable pub write_byte : Layout → List ℕ → Gauge → ℕ → ℕ → Outcome ByteAnswer (List ℕ)
write_byte l image g r byte = write_at (register_of r) l image g byte

-- ---- the whole write

-- 01: "The answer is the refusal number (0 if none) and the number of bytes taken."; C-12: "every
-- write answer carries it as a third number"; with the gauge
abbrev pub written : ℕ → ℕ → ℕ → Gauge → WriteAnswer
written e n changed g = record { error = e; accepted = n; changed = changed; gauge = g }

-- the bytes from register r on; n were accepted before, and they changed c bytes of the image. What
-- a commit changed is answered also where a later byte is refused
unfoldable pub write_bytes : Layout → List ℕ → Gauge → ℕ → ℕ → ℕ → List ℕ → Outcome WriteAnswer (List ℕ)
write_bytes l image g r n c [] = outcome (written 0 n c g) image
write_bytes l image g r n c (b ∷ bs) =
    let s = write_byte l image g r b in
    let c' = c + s.answer.changed in
    cond (eqb s.answer.error 0) (write_bytes l s.lent s.answer.gauge (r + 1) (n + 1) c' bs)
    (outcome (written s.answer.error n c' s.answer.gauge) s.lent)

-- 1: "n is 0 or r + n above 128"
unfoldable pub bad_span : ℕ → ℕ → Bool
bad_span r n = cond (eqb n 0) true (ltb registers (r + n))

-- 01: "Order for a transaction: 10, 15, 1". The image has `size` bytes, and 1 is given where an
-- argument is `bad`
abbrev pub entry_tests : Layout → ℕ → Gauge → Bool → List (Bool × ℕ)
entry_tests l size g bad =
    (not (fits l size), malformed) ∷ (not (valid l g), invalid_gauge) ∷ (bad, invalid_argument) ∷ []

abbrev pub call_tests : Layout → ℕ → Gauge → ℕ → ℕ → List (Bool × ℕ)
call_tests l size g r n = entry_tests l size g (bad_span r n)

unfoldable pub call_error : Layout → ℕ → Gauge → ℕ → ℕ → ℕ
call_error l size g r n = first_error (call_tests l size g r n)

unfoldable pub write : Layout → List ℕ → Gauge → ℕ → List ℕ → Outcome WriteAnswer (List ℕ)
write l image g r bytes =
    let e = call_error l (length image) g r (length bytes) in
    cond (eqb e 0) (write_bytes l image g r 0 0 bytes) (outcome (written e 0 0 g) image)
