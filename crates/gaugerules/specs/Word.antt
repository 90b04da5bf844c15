-- Control words: what a byte at 0x01 does. Document 01, "Transactions", "Words."
use Rattle.std.specs.Prelude.{ℕ, ◌+◌, ◌*◌, cond, List, eqb}
use Rattle.flashrules.specs.declared.layout.Layout.{Layout}
use Rattle.gaugerules.specs.State.{unsealed, full_access, boot_sealed, no_word, is_sealed, is_unsealed, is_full_access}
use Rattle.gaugerules.specs.State.{none_pending, with_mode, with_pending, with_result, restart}
use Rattle.gaugerules.specs.Keys.{unseal_key, full_access_key, keys, is_key}
use Rattle.gaugerules.specs.declared.state.Gauge.{Gauge}

-- 01: "word = 256 x this + low byte"
abbrev pub word : ℕ → ℕ → ℕ
word low high = 256 * high + low

-- ---- the three words that are never key words

abbrev pub status_word : ℕ
status_word = 0x0000

abbrev pub seal_word : ℕ
seal_word = 0x0020

abbrev pub reset_word : ℕ
reset_word = 0x0041

-- 01: "the status, 0x6000 sealed, 0x4000 unsealed, 0x0000 full access"
abbrev pub status_sealed : ℕ
status_sealed = 0x6000

abbrev pub status_unsealed : ℕ
status_unsealed = 0x4000

abbrev pub status_full_access : ℕ
status_full_access = 0x0000

abbrev pub status : Gauge → ℕ
status g = cond (is_sealed g) status_sealed (cond (is_unsealed g) status_unsealed status_full_access)

-- ---- key words

-- 01: "if sealed (or unsealed) .. the unseal key (or full access key)", "mode becomes unsealed (or
-- full access)"
abbrev pub key_wanted : Gauge → ℕ
key_wanted g = cond (is_sealed g) unseal_key full_access_key

abbrev pub mode_opened : Gauge → ℕ
mode_opened g = cond (is_sealed g) unsealed full_access

-- 01: "Any other word sets the result to 0"; w waits, none for no_word
abbrev pub waits : Gauge → ℕ → Gauge
waits g w = with_pending (with_result g 0) w

abbrev pub opened : Gauge → Gauge
opened g = with_mode (waits g no_word) (mode_opened g)

-- 01: "if sealed (or unsealed) and a word is waiting, .. Equal: .. Otherwise this word waits. In
-- full access none waits."
unfoldable pub key_word : Layout → List ℕ → Gauge → ℕ → Gauge
key_word l image g w =
    cond (is_full_access g) (waits g no_word)
    (cond (none_pending g) (waits g w)
    (cond (is_key (keys l image) (key_wanted g) g.pending w) (opened g) (waits g w)))

-- ---- the word is obeyed

-- 01: "0x0000: result becomes the status", "These three clear the waiting word first"
abbrev pub with_status : Gauge → Gauge
with_status g = with_result (with_pending g no_word) (status g)

-- 01: "0x0020: record becomes that of power-on with home sealed. 0x0041: record becomes that of
-- power-on with its own home."
unfoldable pub obey : Layout → List ℕ → Gauge → ℕ → Gauge
obey l image g w =
    cond (eqb w status_word) (with_status g)
    (cond (eqb w seal_word) (restart g boot_sealed) (cond (eqb w reset_word) (restart g g.boot) (key_word l image g w)))
