-- Laws of integers in bytes: for every width, signed or not.
use Prim.Native.Nat.{ℕ, zero, suc, ◌+◌, ◌-◌, ◌*◌, ◌/◌, ◌%◌, ◌^◌, ◌≤◌, ◌<◌}
use mathlib.Core.Path.{◌≡◌, refl, sym, ap, ◌∙◌}
use mathlib.Core.Bool.{Bool, true, false, true≢false}
use mathlib.Core.List.{List, [], ◌∷◌}
use native.Mathlib.Nat.{add-mul, one-le-pow, zero-lt-suc, pow-suc, mul_comm, mod-eq_of_lt, mod-lt, div-add-mod', div-lt_iff_lt-mul}
use native.Mathlib.Omega.{arith}
use borrow.Author.Tests.{ltb-true, lt-ltb, le-leb, lt-leb, leb-true, leb-false}
use lib.Arith.{digits_lt, digits_div, digits_mod}
use lib.Dec.{leb}
use lib.ListN.{length, get_or}
use lib.IntN.{ℤ, pos, negsuc}
use lib.Signed.{mag}
use Rattle.flashrules.specs.Image.{Bytes}
use Rattle.parameterrules.specs.Integer.{invert_if, big_endian, magnitude_of, unsigned, is_negative, integer, to_bytes, sign_of, from_bytes, fits_in}
use Rattle.parameterrules.specs.Laws.{ToBytesLength, ToBytesBytes, ToFromBytes, FromToBytes, FromBytesFits, UnsignedBytes, TwosComplement}

-- ---- one byte

invert_twice : (neg : Bool) (b : ℕ) → b ≤ 255 → invert_if neg (invert_if neg b) ≡ b
invert_twice true b h = omega arith
invert_twice false b h = refl

invert_byte : (neg : Bool) (b : ℕ) → b ≤ 255 → invert_if neg b ≤ 255
invert_byte true b h = omega arith
invert_byte false b h = h

-- ---- powers

pow_above : (k : ℕ) → 0 < 256 ^ k
pow_above k = one-le-pow k 256 (zero-lt-suc 255)

suc_pow : (k : ℕ) → 256 ^ suc k ≡ 256 * 256 ^ k
suc_pow k = pow-suc 256 k ∙ mul_comm (256 ^ k) 256

first_lt : (k n m : ℕ) → n < m * 256 ^ k → n / 256 ^ k < m
first_lt k n m h = (div-lt_iff_lt-mul (pow_above k)).1 h

-- ---- digits and their number

digits_length : (neg : Bool) (k n : ℕ) → length (big_endian neg k n) ≡ k
digits_length neg zero n = refl
digits_length neg (suc k) n = ap suc (digits_length neg k (n % 256 ^ k))

digits_bytes : (neg : Bool) (k n : ℕ) → Bytes (big_endian neg k n)
digits_bytes neg zero n j = omega arith
digits_bytes neg (suc k) n zero = invert_byte neg (n / 256 ^ k % 256) (omega arith)
digits_bytes neg (suc k) n (suc j) = digits_bytes neg k (n % 256 ^ k) j

magnitude_digits : (neg : Bool) (k n : ℕ) → n < 256 ^ k → magnitude_of neg (big_endian neg k n) ≡ n
magnitude_digits neg zero n h = omega arith
magnitude_digits neg (suc k) n h =
    let f : n / 256 ^ k < 256 = first_lt k n 256 (rw suc_pow at h) in
    let r = n % 256 ^ k in
    let i = invert_twice neg (n / 256 ^ k) (omega arith) in
    let m = magnitude_digits neg k r (mod-lt n (pow_above k)) in
    rw (mod-eq_of_lt f, i, digits_length neg k r, m) (div-add-mod' n (256 ^ k))

magnitude_lt : (neg : Bool) (bs : List ℕ) → Bytes bs → magnitude_of neg bs < 256 ^ length bs
magnitude_lt neg [] h = omega arith
magnitude_lt neg (b ∷ bs) h =
    let i = invert_byte neg b (h zero) in
    let l : invert_if neg b < 256 = omega arith in
    rw suc_pow (digits_lt l (magnitude_lt neg bs (λ k. h (suc k))))

digits_magnitude : (neg : Bool) (bs : List ℕ) → Bytes bs → big_endian neg (length bs) (magnitude_of neg bs) ≡ bs
digits_magnitude neg [] h = refl
digits_magnitude neg (b ∷ bs) h =
    let t : Bytes bs = λ k. h (suc k) in
    let d = invert_if neg b in
    let i = invert_byte neg b (h zero) in
    let f : d < 256 = omega arith in
    let l = magnitude_lt neg bs t in
    rw (digits_div d l, mod-eq_of_lt f, invert_twice neg b (h zero), digits_mod d l, digits_magnitude neg bs t)

-- ---- integers

pub to_bytes_length : ToBytesLength
unfolding to_bytes
to_bytes_length width v = digits_length (is_negative v) width (mag v)

pub to_bytes_bytes : ToBytesBytes
unfolding to_bytes
to_bytes_bytes width v = digits_bytes (is_negative v) width (mag v)

sign_back : (neg : Bool) (n : ℕ) → is_negative (integer neg n) ≡ neg
sign_back true n = refl
sign_back false n = refl

mag_back : (neg : Bool) (n : ℕ) → mag (integer neg n) ≡ n
mag_back true n = refl
mag_back false n = refl

-- sign and magnitude say all of an integer
pub whole : (v : ℤ) → integer (is_negative v) (mag v) ≡ v
whole (pos n) = refl
whole (negsuc n) = refl

pub from_to_bytes : FromToBytes
unfolding to_bytes from_bytes
from_to_bytes signed bs h =
    let neg = sign_of signed (get_or bs 0 0) in
    rw (sign_back neg (magnitude_of neg bs), mag_back neg (magnitude_of neg bs)) (digits_magnitude neg bs h)

-- the bound of a signed integer of k + 1 bytes
half : (k : ℕ) → 256 ^ suc k / 2 ≡ 128 * 256 ^ k
half k = rw suc_pow (omega arith)

-- the first byte tells the sign
first_sign : (neg : Bool) (b : ℕ) → b < 128 → leb 128 (invert_if neg b) ≡ neg
first_sign true b h = le-leb 128 (255 - b) (omega arith)
first_sign false b h = lt-leb 128 b h

sign_told : (signed : Bool) (width : ℕ) (v : ℤ) → fits_in signed width v ≡ true → sign_of signed (get_or (to_bytes width v) 0 0) ≡ is_negative v
unfolding fits_in to_bytes
sign_told true zero v h = let k = ltb-true (mag v) 0 h in absurd (omega arith)
sign_told true (suc k) v h =
    let l : mag v / 256 ^ k < 128 = first_lt k (mag v) 128 (rw half at (ltb-true (mag v) (256 ^ suc k / 2) h)) in
    let m : mag v / 256 ^ k < 256 = omega arith in
    rw (mod-eq_of_lt m) (first_sign (is_negative v) (mag v / 256 ^ k) l)
sign_told false width (pos n) h = refl
sign_told false width (negsuc n) h = h

mag_lt : (signed : Bool) (width : ℕ) (v : ℤ) → fits_in signed width v ≡ true → mag v < 256 ^ width
unfolding fits_in
mag_lt true width v h = let k = ltb-true (mag v) (256 ^ width / 2) h in omega arith
mag_lt false width (pos n) h = ltb-true n (256 ^ width) h
mag_lt false width (negsuc n) h = absurd (true≢false (sym h))

magnitude_told : (signed : Bool) (width : ℕ) (v : ℤ) → fits_in signed width v ≡ true → magnitude_of (is_negative v) (to_bytes width v) ≡ mag v
unfolding to_bytes
magnitude_told signed width v h = magnitude_digits (is_negative v) width (mag v) (mag_lt signed width v h)

pub to_from_bytes : ToFromBytes
unfolding from_bytes
to_from_bytes signed width v h = rw (sign_told signed width v h, magnitude_told signed width v h) (whole v)

first_below : (b : ℕ) (t : Bool) → leb 128 b ≡ t → invert_if t b < 128
first_below b true e = let k = leb-true 128 b e in omega arith
first_below b false e = leb-false 128 b e

pub from_bytes_fits : FromBytesFits
unfolding fits_in from_bytes
from_bytes_fits signed [] h l = absurd (omega arith)
from_bytes_fits false (b ∷ bs) h l = lt-ltb _ _ (magnitude_lt false (b ∷ bs) h)
from_bytes_fits true (b ∷ bs) h l =
    let neg = leb 128 b in
    let m = magnitude_lt neg bs (λ k. h (suc k)) in
    rw (mag_back neg (magnitude_of neg (b ∷ bs)), half (length bs)) (lt-ltb _ _ (digits_lt (first_below b neg refl) m))

-- ---- two's complement

pub unsigned_bytes : UnsignedBytes
unfolding to_bytes
unsigned_bytes width n h = magnitude_digits false width n h

-- digits and the inverted digits are together one less than the power
complement : (k n : ℕ) → unsigned (big_endian true k n) + unsigned (big_endian false k n) + 1 ≡ 256 ^ k
complement zero n = omega arith
complement (suc k) n =
    let d = n / 256 ^ k % 256 in
    let r = n % 256 ^ k in
    rw (digits_length true k r, digits_length false k r, suc_pow) (sum d (256 ^ k) _ _ (omega arith) (complement k r))
  where
    sum : (d c x y : ℕ) → d < 256 → x + y + 1 ≡ c → (255 - d) * c + x + (d * c + y) + 1 ≡ 256 * c
    sum d c x y l e =
        let p : (255 - d) * c + d * c ≡ 255 * c = sym (add-mul (255 - d) d c) ∙ ap (λ (m : ℕ). m * c) (omega arith) in
        omega (arith, p, e)

pub twos_complement : TwosComplement
unfolding to_bytes
twos_complement width n h =
    let c = rw (magnitude_digits false width n h) at (complement width n) in
    omega (arith, c)
