-- The text of a layout and its image. Document 01, "Image file".
use Rattle.std.specs.Prelude.{ℕ, zero, suc, ◌+◌, ◌*◌, ◌/◌, List, [], ◌∷◌, ◌++◌, length, take, drop}
use Rattle.hextext.specs.Hex.{hex_line}
use Rattle.checksum.specs.Checksum.{checksum}
use Rattle.flashrules.specs.Layout.{Class, classes}
use Rattle.flashrules.specs.Lookup.{block_size}
use Rattle.flashrules.specs.Image.{as_loaded}
use Rattle.flashrules.specs.declared.layout.Layout.{Layout}

-- 01: "Class, block, the data bytes, checksum. Two upper-case digits a byte, no blanks, each line
-- ended by one line feed.", "The checksum is that of the block as loaded."
unfoldable pub line : ℕ → ℕ → List ℕ → List ℕ
line i b bytes = hex_line (i ∷ b ∷ (bytes ++ (checksum (as_loaded bytes) ∷ [])))

-- the lines of n blocks of class i, from block b on; its bytes from there on are given
abbrev pub lines : ℕ → ℕ → ℕ → List ℕ → List ℕ
lines zero i b bytes = []
lines (suc n) i b bytes = line i b (take block_size bytes) ++ lines n i (b + 1) (drop block_size bytes)

-- how many blocks so many bytes make
abbrev pub block_count : ℕ → ℕ
block_count n = (n + 31) / block_size

-- the lines of a class's bytes from block b on
unfoldable pub block_lines : ℕ → ℕ → List ℕ → List ℕ
block_lines i b bytes = lines (block_count (length bytes)) i b bytes

-- 01: "blocks of a class run from 0 without gaps, all but the last hold 32 bytes, the last 1 to 32"
abbrev pub class_text : ℕ → List ℕ → List ℕ
class_text i bytes = block_lines i 0 bytes

-- 01: "Classes ascend": in the layout's order
abbrev pub class_texts : List Class → List ℕ → List ℕ
class_texts [] bytes = []
class_texts (c ∷ cs) bytes = class_text c.id (take c.len bytes) ++ class_texts cs (drop c.len bytes)

-- the text of an image
unfoldable pub serialize_image : Layout → List ℕ → List ℕ
serialize_image l image = class_texts (classes l) image

-- ---- how long it is

-- the text of n bytes of a class: two digits a byte, and for each block three bytes more and a line
-- feed
abbrev pub class_length : ℕ → ℕ
class_length n = 2 * n + 7 * block_count n

abbrev pub text_length : List Class → ℕ
text_length [] = 0
text_length (c ∷ cs) = class_length c.len + text_length cs

-- no text of a valid layout has more lines: 4096 bytes make 128 full blocks, and each of 32 classes
-- may have one that is not full
abbrev pub max_lines : ℕ
max_lines = 160

-- and none is longer: two digits for each of 4096 bytes, and seven characters more for each of 160
-- lines
abbrev pub max_text : ℕ
max_text = 9312
