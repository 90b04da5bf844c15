-- Upper-case hexadecimal, both ways. Document 01, "Image file": "Two upper-case digits a byte".
use Rattle.std.specs.Prelude.{ℕ, ◌+◌, ◌*◌, ◌/◌, ◌%◌, cond, List, [], ◌∷◌, ◌++◌, ltb}

-- the digit of a number's low four bits: 0 to 9 from character 48 on, A to F from 65 on
unfoldable pub digit : ℕ → ℕ
digit n = cond (ltb (n % 16) 10) (48 + n % 16) (55 + n % 16)

-- the number of a digit; of any other character some number below 16
unfoldable pub value : ℕ → ℕ
value c = cond (ltb c 65) (c % 16) ((c % 16 + 9) % 16)

-- the byte of two digits
abbrev pub pair : ℕ → ℕ → ℕ
pair high low = value high * 16 + value low

-- bytes as text, the high digit first
abbrev pub hex : List ℕ → List ℕ
hex [] = []
hex (b ∷ bs) = digit (b / 16) ∷ digit b ∷ hex bs

-- text as bytes, pair by pair
abbrev pub unhex : List ℕ → List ℕ
unhex [] = []
unhex (a ∷ []) = []
unhex (a ∷ b ∷ cs) = pair a b ∷ unhex cs

-- ---- lines

abbrev pub line_feed : ℕ
line_feed = 10

-- "each line ended by one line feed": the line of some bytes
abbrev pub hex_line : List ℕ → List ℕ
hex_line bs = hex bs ++ (line_feed ∷ [])
