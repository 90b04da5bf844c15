-- The kinds of a parameter. Document 01, "The parameter desk": "Kinds: unsigned or two's complement
-- signed, of 1, 2 or 4 bytes". A kind is a number: how many bytes, and the top bit besides if it is
-- signed.
use Rattle.std.specs.Prelude.{ℕ, ◌%◌, Bool, cond, eqb, leb, ℤ}
use Rattle.parameterrules.specs.Integer.{fits_in}

abbrev pub signed_bit : ℕ
signed_bit = 0x80

-- no kind has more bytes
abbrev pub max_width : ℕ
max_width = 4

-- how many bytes a kind has; 0 where the number is no kind
unfoldable pub width_of : ℕ → ℕ
width_of kind =
    let n = kind % signed_bit in
    cond (eqb n 1) 1 (cond (eqb n 2) 2 (cond (eqb n 4) 4 0))

unfoldable pub is_signed : ℕ → Bool
is_signed kind = leb signed_bit kind

-- whether an integer fits a kind
unfoldable pub holds : ℕ → ℤ → Bool
holds kind v = fits_in (is_signed kind) (width_of kind) v
