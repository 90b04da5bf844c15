-- What the definitions amount to. proofs/Laws.antt has a proof of each claim, under its name in
-- small letters.
use Rattle.std.specs.Prelude.{ℕ, ◌+◌, ◌*◌, ◌≤◌, ◌≡◌, List, ◌++◌, length, get_or}
use Rattle.hextext.specs.Hex.{hex, unhex, hex_line}

-- the text of bytes stands for those bytes
abbrev pub HexBack : Type 0
HexBack = (bs : List ℕ) → ((k : ℕ) → get_or bs k 0 ≤ 255) → unhex (hex bs) ≡ bs

abbrev pub HexLength : Type 0
HexLength = (bs : List ℕ) → length (hex bs) ≡ 2 * length bs

-- any text stands for bytes
abbrev pub UnhexBytes : Type 0
UnhexBytes = (x : List ℕ) (k : ℕ) → get_or (unhex x) k 0 ≤ 255

abbrev pub LineLength : Type 0
LineLength = (bs : List ℕ) → length (hex_line bs) ≡ 2 * length bs + 1

-- the first line of a text determines its bytes, and what comes behind it
abbrev pub LineUnique : Type 0
LineUnique =
    (bs bs' rest rest' : List ℕ) → ((k : ℕ) → get_or bs k 0 ≤ 255) → ((k : ℕ) → get_or bs' k 0 ≤ 255)
    → hex_line bs ++ rest ≡ hex_line bs' ++ rest' → (bs ≡ bs') × (rest ≡ rest')
