-- What a text might hold: a candidate that asks little of it. Line feeds are found, and pairs of
-- characters are taken for bytes, whatever they are. specs/File.antt holds the candidate to the
-- text that it would have, so nothing here has to be believed: specs/Laws.antt says what comes out.
use Rattle.std.specs.Prelude.{ℕ, zero, suc, ◌+◌, ◌-◌, ◌*◌, ◌/◌, ◌%◌, Bool, cond, List, [], ◌∷◌, ◌++◌, eqb, leb, ltb, length, take, drop, get_or, set}
use Rattle.hextext.specs.Scan.{index_of}
use Rattle.hextext.specs.Hex.{pair, unhex, line_feed}
use Rattle.flashrules.specs.Choice.{and}
use Rattle.flashrules.specs.Layout.{max_classes, no_classes}
use Rattle.flashrules.specs.Lookup.{block_size}
use Rattle.flashrules.specs.declared.layout.Layout.{Layout}
use Rattle.imagerules.specs.Text.{max_lines}

-- ---- one line: the first of a text

-- so many pairs of characters hold so many data bytes: all but class, block and checksum. 0 where
-- it is not 1 to 32
abbrev pub data_bytes : ℕ → ℕ
data_bytes n = cond (leb n (block_size + 3)) (n - 3) 0

-- how many data bytes the line has, 0 where there is no such line
unfoldable pub width : List ℕ → ℕ
width x = cond (ltb (index_of line_feed x) (length x)) (data_bytes (index_of line_feed x / 2)) 0

abbrev pub class_byte : List ℕ → ℕ
class_byte x = pair (get_or x 0 0) (get_or x 1 0)

abbrev pub line_bytes : List ℕ → List ℕ
line_bytes x = unhex (take (2 * width x) (drop 4 x))

abbrev pub next_line : List ℕ → List ℕ
next_line x = drop (index_of line_feed x + 1) x

-- ---- the layout, line by line

abbrev pub is_last : Layout → ℕ → Bool
is_last l i = and (leb 1 l.count ∷ eqb (get_or l.ids (l.count - 1) 0) i ∷ [])

-- n bytes more for the last class; a length has 16 bits
abbrev pub longer : Layout → ℕ → Layout
longer l n =
    let k = l.count - 1 in
    record { count = l.count; ids = l.ids; lengths = set l.lengths k ((get_or l.lengths k 0 + n) % 65536) }

-- another class, where there is an entry for it
abbrev pub another : Layout → ℕ → ℕ → Layout
another l i n =
    cond (ltb l.count max_classes)
    (record { count = l.count + 1; ids = set l.ids l.count i; lengths = set l.lengths l.count n })
    l

unfoldable pub add_line : Layout → ℕ → ℕ → Layout
add_line l i n = cond (is_last l i) (longer l n) (another l i n)

-- ---- all lines

pub record Content : Type 0 where
  pub layout : Layout
  pub bytes : List ℕ

abbrev pub content : Layout → List ℕ → Content
content l bytes = record { layout = l; bytes = bytes }

-- at most n lines more, behind a layout and its bytes
abbrev pub gather : ℕ → Layout → List ℕ → List ℕ → Content
gather zero l bytes x = content l bytes
gather (suc n) l bytes x =
    cond (eqb (width x) 0) (content l bytes)
    (gather n (add_line l (class_byte x) (width x)) (bytes ++ line_bytes x) (next_line x))

unfoldable pub candidate : List ℕ → Content
candidate x = gather max_lines no_classes [] x
