-- The line that caused a refusal. Document 02, C-13: ".. prints, one hexadecimal line a refused
-- write, the refusal and then the line that caused it."
use Rattle.std.specs.Prelude.{ℕ, ◌/◌, ◌%◌, Bool, true, false, cond, not, List, [], ◌∷◌, ◌++◌, eqb}
use Rattle.hextext.specs.Hex.{hex_line}
use Rattle.checksum.specs.Checksum.{checksum}
use Rattle.flashrules.specs.Choice.{and}
use Rattle.flashrules.specs.Error.{sealed_register, unknown_class, unknown_block, nothing_loaded, protected_block}
use Rattle.flashrules.specs.Error.{wrong_checksum}
use Rattle.gaugerules.specs.State.{is_sealed, none_loaded, general_access}
use Rattle.gaugerules.specs.Register.{register_of}
use Rattle.gaugerules.specs.Transfer.{is_protected}
use Rattle.gaugerules.specs.declared.state.Gauge.{Gauge}
use Rattle.gaugerules.specs.declared.register.Register.{Register}
use Rattle.causerules.specs.History.{Step}
use Rattle.causerules.specs.declared.reason.Reason.{Reason}

-- ---- which byte of a history

-- "the line of the latest byte" of a history, in the script's order, that is one of these; `line`
-- where none is
abbrev pub latest_or : ℕ → (Step → Bool) → List Step → ℕ
latest_or line is [] = line
latest_or line is (s ∷ h) = latest_or (cond (is s) s.line line) is h

-- "0 if so since power-on"
abbrev pub latest : (Step → Bool) → List Step → ℕ
latest is h = latest_or 0 is h

-- "after which .. holds and before which it did not"
abbrev pub begins : (Gauge → Bool) → Step → Bool
begins P s = and (P s.after ∷ not (P s.before) ∷ [])

-- "gave the class register another number"
abbrev pub changes_class : Step → Bool
changes_class s = not (eqb s.before.class s.after.class)

-- "wrote or loaded the window": a byte at 0x40 to 0x5F, also one that was there, or at 0x3F
abbrev pub sets_at : Register → Bool
sets_at Register.ControlLow = false
sets_at Register.ControlHigh = false
sets_at Register.DataFlashClass = false
sets_at Register.DataFlashBlock = true
sets_at (Register.BlockData k) = true
sets_at Register.BlockDataChecksum = false
sets_at Register.BlockDataControl = false
sets_at Register.Other = false

abbrev pub sets_window : Step → Bool
sets_window s = sets_at (register_of s.register)

-- ---- which line is named

-- which bytes give a reason
abbrev pub gives : Reason → Step → Bool
gives Reason.Itself s = false
gives Reason.Sealed s = begins is_sealed s
gives Reason.NothingLoaded s = begins none_loaded s
gives Reason.Protected s = begins is_protected s
gives Reason.Class s = changes_class s
gives Reason.Window s = sets_window s

-- the reason of a refusal, of a byte that met gauge g: "For 1, 2 and 9 that is the line itself. For
-- 3, 6 and 7 ..", "For 4 and 5 in general access ..; for 5 otherwise, the line itself. For 8 ..".
-- C-14: "16, after 8; C-13 names the line itself"; C-16: "for both names the line itself", for 17
-- and for a supply
unfoldable pub reason_of : ℕ → Gauge → Reason
reason_of e g =
    cond (eqb e sealed_register) Reason.Sealed
    (cond (eqb e nothing_loaded) Reason.NothingLoaded
    (cond (eqb e protected_block) Reason.Protected
    (cond (eqb e unknown_class) Reason.Class
    (cond (eqb e unknown_block) (cond (general_access g) Reason.Class Reason.Itself)
    (cond (eqb e wrong_checksum) Reason.Window Reason.Itself)))))

-- the line of a reason, for a byte of this line after this history
abbrev pub line_for : Reason → ℕ → List Step → ℕ
line_for Reason.Itself line h = line
line_for Reason.Sealed line h = latest (gives Reason.Sealed) h
line_for Reason.NothingLoaded line h = latest (gives Reason.NothingLoaded) h
line_for Reason.Protected line h = latest (gives Reason.Protected) h
line_for Reason.Class line h = latest (gives Reason.Class) h
line_for Reason.Window line h = latest (gives Reason.Window) h

-- a byte of this line, after this history, that met gauge g and was refused with e
abbrev pub cause : List Step → ℕ → Gauge → ℕ → ℕ
cause h line g e = line_for (reason_of e g) line h

-- ---- what is printed

-- "four bytes, high first"
abbrev pub four_bytes : ℕ → List ℕ
four_bytes n = n / 0x1000000 % 256 ∷ n / 0x10000 % 256 ∷ n / 0x100 % 256 ∷ n % 256 ∷ []

-- "then the checksum that would have matched", for 8
abbrev pub matching : ℕ → Gauge → List ℕ
matching e g = cond (eqb e wrong_checksum) (checksum g.window ∷ []) []

-- "one hexadecimal line a refused write, the refusal and then the line"; of a write that ended with
-- error e, 0 where none was refused, at gauge g
unfoldable pub cause_text : ℕ → Gauge → ℕ → List ℕ
cause_text e g line = cond (eqb e 0) [] (hex_line (e ∷ four_bytes line ++ matching e g))
