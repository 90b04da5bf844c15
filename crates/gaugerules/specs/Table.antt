-- The rows 2 to 9 of document 01's table, "Numbers of the refusals", for one byte of a write: each
-- row as a test of the gauge, the register's number and the byte, in the order of "then byte by
-- byte 2, 3, 9, 4, 5, 6, 7, 8", and behind them document 02's "16, after 8" and "17 .., after 16".
-- specs/Laws.antt claims that the rules keep to it (`ByteError`).
use Rattle.std.specs.Prelude.{ℕ, Bool, true, false, cond, not, List, [], ◌∷◌, eqb, leb}
use Rattle.checksum.specs.Checksum.{checksum}
use Rattle.flashrules.specs.Error.{read_only, sealed_register, unknown_class, unknown_block, nothing_loaded}
use Rattle.flashrules.specs.Error.{protected_block, wrong_checksum, invalid_control, protected_keys, low_supply}
use Rattle.flashrules.specs.Choice.{and}
use Rattle.flashrules.specs.Answer.{if_found}
use Rattle.flashrules.specs.Lookup.{find_class, block_exists}
use Rattle.flashrules.specs.declared.layout.Layout.{Layout}
use Rattle.gaugerules.specs.State.{is_sealed, has_low_supply, general_access, none_loaded}
use Rattle.gaugerules.specs.Transfer.{is_protected, changes_keys}
use Rattle.gaugerules.specs.declared.state.Gauge.{Gauge}

-- "register takes no writes": the table of bytes written has 0x00, 0x01 and 0x3E to 0x61
abbrev pub row2 : ℕ → Bool
row2 r = not (cond (leb r 0x01) true (and (leb 0x3E r ∷ leb r 0x61 ∷ [])))

-- "0x3E or 0x61 while sealed"
abbrev pub row3 : Gauge → ℕ → Bool
row3 g r = and (cond (eqb r 0x3E) true (eqb r 0x61) ∷ is_sealed g ∷ [])

-- "0x61 byte not 0 or 1"
abbrev pub row9 : ℕ → ℕ → Bool
row9 r byte = and (eqb r 0x61 ∷ not (leb byte 1) ∷ [])

-- "0x3F in general access, ..: class not in layout"
abbrev pub row4 : Layout → Gauge → ℕ → Bool
row4 l g r = and (eqb r 0x3F ∷ general_access g ∷ if_found (find_class l g.class) (λ s n. false) (λ e. true) ∷ [])

-- "0x3F in general access ..: block does not exist; 0x3F without general access: byte not 1 to 3"
abbrev pub row5 : Layout → Gauge → ℕ → ℕ → Bool
row5 l g r byte =
    and
    (eqb r 0x3F
    ∷ cond (general_access g) (not (block_exists l g.class byte)) (not (and (leb 1 byte ∷ leb byte 3 ∷ [])))
    ∷ [])

-- "0x40 to 0x60 with none loaded"
abbrev pub row6 : Gauge → ℕ → Bool
row6 g r = and (leb 0x40 r ∷ leb r 0x60 ∷ none_loaded g ∷ [])

-- "0x40 to 0x60, block A, sealed"
abbrev pub row7 : Gauge → ℕ → Bool
row7 g r = and (leb 0x40 r ∷ leb r 0x60 ∷ is_protected g ∷ [])

-- "checksum differs"
abbrev pub row8 : Gauge → ℕ → ℕ → Bool
row8 g r byte = and (eqb r 0x60 ∷ not (eqb byte (checksum g.window)) ∷ [])

-- 02, C-14: "An unsealed commit to block 0 of class 112 that would change any of bytes 0 to 7"
abbrev pub row16 : Layout → List ℕ → Gauge → ℕ → Bool
row16 l image g r = and (eqb r 0x60 ∷ changes_keys l image g ∷ [])

-- 02, C-16: "17 for a commit on low supply"
abbrev pub row17 : Gauge → ℕ → Bool
row17 g r = and (eqb r 0x60 ∷ has_low_supply g ∷ [])

abbrev pub byte_tests : Layout → List ℕ → Gauge → ℕ → ℕ → List (Bool × ℕ)
byte_tests l image g r byte =
    (row2 r, read_only)
    ∷ (row3 g r, sealed_register)
    ∷ (row9 r byte, invalid_control)
    ∷ (row4 l g r, unknown_class)
    ∷ (row5 l g r byte, unknown_block)
    ∷ (row6 g r, nothing_loaded)
    ∷ (row7 g r, protected_block)
    ∷ (row8 g r byte, wrong_checksum)
    ∷ (row16 l image g r, protected_keys)
    ∷ (row17 g r, low_supply)
    ∷ []
