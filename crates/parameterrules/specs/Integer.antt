-- Integers in bytes, most significant byte first, of any width, in two's complement or unsigned.
-- Document 01, "The parameter desk": "unsigned or two's complement signed, of 1, 2 or 4 bytes, most
-- significant byte first".
--
-- An integer is taken as a sign and a magnitude: the magnitude of n is n, and that of -(n + 1) is n
-- (`mag` of lib.Signed). In two's complement the bytes of -(n + 1) are those of n with every bit
-- inverted, so that one definition serves both signs. specs/Laws.antt claims that this is two's
-- complement (`TwosComplement`).
use Rattle.std.specs.Prelude.{ℕ, zero, suc, ◌+◌, ◌-◌, ◌*◌, ◌/◌, ◌%◌, ◌^◌, Bool, true, false, cond, List, [], ◌∷◌, ltb, leb, length, get_or, ℤ, pos, negsuc}
use Rattle.std.specs.Int.Signed.{mag}

-- ---- magnitudes

-- a byte, or the byte with every bit inverted
abbrev pub invert_if : Bool → ℕ → ℕ
invert_if neg b = cond neg (255 - b) b

-- the lowest digits of n to the base 256, so many, most significant first
abbrev pub big_endian : Bool → ℕ → ℕ → List ℕ
big_endian neg zero n = []
big_endian neg (suc k) n = invert_if neg (n / 256 ^ k % 256) ∷ big_endian neg k (n % 256 ^ k)

-- the number whose digits they are
abbrev pub magnitude_of : Bool → List ℕ → ℕ
magnitude_of neg [] = 0
magnitude_of neg (b ∷ bs) = invert_if neg b * 256 ^ length bs + magnitude_of neg bs

-- bytes as one unsigned number
abbrev pub unsigned : List ℕ → ℕ
unsigned bs = magnitude_of false bs

-- ---- integers

abbrev pub is_negative : ℤ → Bool
is_negative (pos n) = false
is_negative (negsuc n) = true

-- the integer of a sign and a magnitude
abbrev pub integer : Bool → ℕ → ℤ
integer neg n = cond neg (negsuc n) (pos n)

unfoldable pub to_bytes : ℕ → ℤ → List ℕ
to_bytes width v = big_endian (is_negative v) width (mag v)

-- whether bytes that begin with b are those of a negative integer: the sign bit
abbrev pub sign_of : Bool → ℕ → Bool
sign_of signed b = cond signed (leb 128 b) false

unfoldable pub from_bytes : Bool → List ℕ → ℤ
from_bytes signed bs = let neg = sign_of signed (get_or bs 0 0) in integer neg (magnitude_of neg bs)

-- 01: "both fit the kind": whether so many bytes hold an integer
unfoldable pub fits_in : Bool → ℕ → ℤ → Bool
fits_in signed width v =
    cond signed (ltb (mag v) (256 ^ width / 2)) (cond (is_negative v) false (ltb (mag v) (256 ^ width)))
