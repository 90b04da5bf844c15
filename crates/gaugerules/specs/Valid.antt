-- Which gauges are valid for a layout (document 01: sound). Document 01, "The gauge record", "A
-- record is sound ..".
use Rattle.std.specs.Prelude.{ℕ, Bool, true, false, cond, List, [], ◌∷◌, eqb, leb, ltb, length}
use Rattle.flashrules.specs.Choice.{and}
use Rattle.flashrules.specs.Layout.{info_class}
use Rattle.flashrules.specs.Lookup.{block_size, block_exists}
use Rattle.flashrules.specs.Image.{max_byte, are_bytes}
use Rattle.flashrules.specs.declared.layout.Layout.{Layout}
use Rattle.gaugerules.specs.State.{full_access, boot_open, no_word, no_block, control_info, info_blocks, max_supply}
use Rattle.gaugerules.specs.State.{is_sealed, is_full_access, none_pending, loaded_of, if_loaded}
use Rattle.gaugerules.specs.declared.state.Gauge.{Gauge}

abbrev pub max_word : ℕ
max_word = 65535

-- 01: "its numbers are in range", those of the "32 window bytes" among them. C-16: "Soundness gains
-- the range"
unfoldable pub in_range : Gauge → Bool
in_range g =
    and
    (leb g.mode full_access
    ∷ leb g.boot boot_open
    ∷ leb g.low max_byte
    ∷ leb g.pending no_word
    ∷ leb g.result max_word
    ∷ leb g.control control_info
    ∷ leb g.class max_byte
    ∷ leb g.block max_byte
    ∷ leb g.loaded no_block
    ∷ leb g.supply max_supply
    ∷ eqb (length g.window) block_size
    ∷ are_bytes g.window
    ∷ [])

abbrev pub is_zero : List ℕ → Bool
is_zero [] = true
is_zero (b ∷ bs) = cond (eqb b 0) (is_zero bs) false

-- 01: "a loaded block exists, with none loaded the window is zero"
abbrev pub loaded_valid : Layout → Gauge → Bool
loaded_valid l g = if_loaded (loaded_of g.loaded) (is_zero g.window) (λ i b. block_exists l i b)

-- 01: "in full access no word waits"
abbrev pub pending_valid : Gauge → Bool
pending_valid g = cond (is_full_access g) (none_pending g) true

-- "nothing but a manufacturer block loaded"
abbrev pub only_info_loaded : Gauge → Bool
only_info_loaded g = if_loaded (loaded_of g.loaded) true (λ i b. and (eqb i info_class ∷ ltb b info_blocks ∷ []))

-- 01: "a sealed record has BlockDataControl 1 and nothing but a manufacturer block loaded"
abbrev pub sealed_valid : Gauge → Bool
sealed_valid g = cond (is_sealed g) (and (eqb g.control control_info ∷ only_info_loaded g ∷ [])) true

unfoldable pub valid : Layout → Gauge → Bool
valid l g = and (in_range g ∷ loaded_valid l g ∷ pending_valid g ∷ sealed_valid g ∷ [])
