-- Texts as the paper prints them: lines of bytes.
use Rattle.std.specs.Prelude.{ℕ, List, [], ◌∷◌, ◌++◌}
use Rattle.hextext.specs.Hex.{hex_line}

-- two digits a byte, and a line feed behind each line
abbrev pub lines_text : List (List ℕ) → List ℕ
lines_text [] = []
lines_text (bs ∷ bss) = hex_line bs ++ lines_text bss
