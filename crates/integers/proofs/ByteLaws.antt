-- Laws of the integers that a kind holds, of their bytes in front of zeros, and of the integer that
-- bytes are.
use Rattle.std.proofs.Common.{ℕ, zero, suc, ◌+◌, ◌-◌, ◌*◌, ◌/◌, ◌%◌, ◌^◌, ◌≤◌, ◌<◌, ◌≡◌, refl, sym, ap, ◌∙◌, inl, inr, Bool, true, false, List, [], ◌∷◌, ◌++◌, length, get_or, take, drop, ℤ, pos, negsuc, SFits, w8, w16, w32, w64, of_z, to_z, to_z-of_z, arith, ltb}
use Rattle.std.proofs.lemmas.Bool.{lt-ltb, le-ltb, lt-leb, le-leb, cases_lt}
use Rattle.std.proofs.lemmas.List.Edits.{sets}
use Rattle.std.specs.Prelude.{Result, Ok, Err, cond}
use Rattle.std.specs.Result.{OkIff, is_ok}
use Rattle.std.specs.Int.{Width, FitsUnsignedBits, bytes_high_first}
use Rattle.std.specs.Int.Signed.{mag}
use mir.Val.{hbits}
use Rattle.parameterrules.specs.Integer.{is_negative, fits_in, big_endian, to_bytes, from_bytes}
use Rattle.parameterrules.specs.Kind.{holds, width_of, is_signed}
use Rattle.integers.specs.Kind.{number}
use Rattle.integers.specs.declared.kind.Kind.{Kind}

-- ---- the integers that a kind holds

tested : (a b : ℕ) → (a < b → ⊥) → false ≡ ltb a b
tested a b h = sym (le-ltb a b (omega (arith, h)))

unsigned_fit : {E : Type 0} (n top : ℕ) (v : ℤ) (r : Result ℕ E) (x : ℕ) → 2 ^ n ≡ top → OkIff r (FitsUnsignedBits n v) x
    → is_ok r ≡ cond (is_negative v) false (ltb (mag v) top)
unsigned_fit n top (pos m) (Ok y) x w h = sym (lt-ltb m top (rw w at h.0))
unsigned_fit n top (pos m) (Err e) x w h = tested m top (rw w at h)
unsigned_fit n top (negsuc m) (Ok y) x w h = absurd h.0
unsigned_fit n top (negsuc m) (Err e) x w h = refl

signed_fit : {E : Type 0} (w : Width) (half : ℕ) (v : ℤ) (r : Result ℤ E) (x : ℤ) → 2 ^ hbits w ≡ half → OkIff r (SFits w v) x → is_ok r ≡ ltb (mag v) half
signed_fit w half v (Ok y) x e h = let f = h.0 in let g = f.sfits in sym (lt-ltb (mag v) half (rw e at g))
signed_fit w half v (Err d) x e h = tested (mag v) half (λ l. h (record { sfits = rw e l }))

-- the numbers of the kinds are written out
module _ {E : Type 0} (v : ℤ) where
  module _ (r : Result ℕ E) (x : ℕ) where
    pub held_u8 : OkIff r (FitsUnsignedBits 8 v) x → is_ok r ≡ holds 1 v
    unfolding holds fits_in width_of is_signed
    held_u8 = unsigned_fit 8 256 v r x refl

    pub held_u16 : OkIff r (FitsUnsignedBits 16 v) x → is_ok r ≡ holds 2 v
    unfolding holds fits_in width_of is_signed
    held_u16 = unsigned_fit 16 65536 v r x refl

    pub held_u32 : OkIff r (FitsUnsignedBits 32 v) x → is_ok r ≡ holds 4 v
    unfolding holds fits_in width_of is_signed
    held_u32 = unsigned_fit 32 4294967296 v r x refl

  module _ (r : Result ℤ E) (x : ℤ) where
    pub held_i8 : OkIff r (SFits w8 v) x → is_ok r ≡ holds 0x81 v
    unfolding holds fits_in width_of is_signed
    held_i8 = signed_fit w8 128 v r x refl

    pub held_i16 : OkIff r (SFits w16 v) x → is_ok r ≡ holds 0x82 v
    unfolding holds fits_in width_of is_signed
    held_i16 = signed_fit w16 32768 v r x refl

    pub held_i32 : OkIff r (SFits w32 v) x → is_ok r ≡ holds 0x84 v
    unfolding holds fits_in width_of is_signed
    held_i32 = signed_fit w32 2147483648 v r x refl

pub ruleset held = (held_u8, held_u16, held_u32, held_i8, held_i16, held_i32, to_z-of_z)

-- ---- the bytes of an integer

one_byte : (v : ℤ) → SFits w64 v → bytes_high_first 1 (of_z w64 v) ≡ big_endian (is_negative v) 1 (mag v)
one_byte (pos n) f = let a : n % 256 ≡ n / 1 % 256 = omega arith in ap (λ x. x ∷ []) a
one_byte (negsuc n) f =
    let h : n < 2 ^ 63 = f.sfits in
    let a : (2 ^ 64 - suc n) % 256 ≡ 255 - n / 1 % 256 = omega (arith, h) in
    ap (λ x. x ∷ []) a

two_bytes : (v : ℤ) → SFits w64 v → bytes_high_first 2 (of_z w64 v) ≡ big_endian (is_negative v) 2 (mag v)
two_bytes (pos n) f = let a : n % 256 ≡ n % 256 / 1 % 256 = omega arith in ap (λ x. n / 256 % 256 ∷ x ∷ []) a
two_bytes (negsuc n) f =
    let h : n < 2 ^ 63 = f.sfits in
    let a : (2 ^ 64 - suc n) / 256 % 256 ≡ 255 - n / 256 % 256 = omega (arith, h) in
    let b : (2 ^ 64 - suc n) % 256 ≡ 255 - n % 256 / 1 % 256 = omega (arith, h) in
    rw (a, b) refl

four_bytes : (v : ℤ) → SFits w64 v → bytes_high_first 4 (of_z w64 v) ≡ big_endian (is_negative v) 4 (mag v)
four_bytes (pos n) f =
    let a : n / 65536 % 256 ≡ n % 16777216 / 65536 % 256 = omega arith in
    let b : n / 256 % 256 ≡ n % 16777216 % 65536 / 256 % 256 = omega arith in
    let c : n % 256 ≡ n % 16777216 % 65536 % 256 / 1 % 256 = omega arith in
    rw (a, b, c) refl
four_bytes (negsuc n) f =
    let h : n < 2 ^ 63 = f.sfits in
    let a : (2 ^ 64 - suc n) / 16777216 % 256 ≡ 255 - n / 16777216 % 256 = omega (arith, h) in
    let b : (2 ^ 64 - suc n) / 65536 % 256 ≡ 255 - n % 16777216 / 65536 % 256 = omega (arith, h) in
    let c : (2 ^ 64 - suc n) / 256 % 256 ≡ 255 - n % 16777216 % 65536 / 256 % 256 = omega (arith, h) in
    let d : (2 ^ 64 - suc n) % 256 ≡ 255 - n % 16777216 % 65536 % 256 / 1 % 256 = omega (arith, h) in
    rw (a, b, c, d) refl

-- the last bytes of eight, as many as a kind has, in front of zeros
pub last_bytes : (k : Kind) (v : ℤ) → SFits w64 v
    → (let w = width_of (number k) in take (8 - (8 - w)) (drop (8 - w) (bytes_high_first 8 (of_z w64 v))) ++ drop w (0 ∷ 0 ∷ 0 ∷ 0 ∷ []) ≡ sets (0 ∷ 0 ∷ 0 ∷ 0 ∷ []) 0 (to_bytes w v))
unfolding width_of to_bytes
last_bytes Kind.U8 v f = ap (λ xs. sets (0 ∷ 0 ∷ 0 ∷ 0 ∷ []) 0 xs) (one_byte v f)
last_bytes Kind.I8 v f = ap (λ xs. sets (0 ∷ 0 ∷ 0 ∷ 0 ∷ []) 0 xs) (one_byte v f)
last_bytes Kind.U16 v f = ap (λ xs. sets (0 ∷ 0 ∷ 0 ∷ 0 ∷ []) 0 xs) (two_bytes v f)
last_bytes Kind.I16 v f = ap (λ xs. sets (0 ∷ 0 ∷ 0 ∷ 0 ∷ []) 0 xs) (two_bytes v f)
last_bytes Kind.U32 v f = ap (λ xs. sets (0 ∷ 0 ∷ 0 ∷ 0 ∷ []) 0 xs) (four_bytes v f)
last_bytes Kind.I32 v f = ap (λ xs. sets (0 ∷ 0 ∷ 0 ∷ 0 ∷ []) 0 xs) (four_bytes v f)

pub ruleset writes = (last_bytes, to_z-of_z)

-- ---- the integer that bytes are

-- two's complement of one byte, of two and of four
signed_one : (a : ℕ) → from_bytes true (a ∷ []) ≡ to_z w8 a
unfolding from_bytes
signed_one a =
    elim (cases_lt a 128) [
      | inl h ↦ let e : a * 1 + 0 ≡ a = omega arith in rw (lt-leb 128 a h, lt-ltb a 128 h) (ap pos e)
      | inr h ↦ let e : (255 - a) * 1 + 0 ≡ 256 - suc a = omega arith in rw (le-leb 128 a h, le-ltb a 128 h) (ap negsuc e)
    ]

signed_two : (a b : ℕ) → a < 256 → b < 256 → from_bytes true (a ∷ b ∷ []) ≡ to_z w16 (a * 256 + b)
unfolding from_bytes
signed_two a b s t =
    let n = a * 256 + b in
    elim (cases_lt a 128) [
      | inl h ↦
          let e : a * 256 + (b * 1 + 0) ≡ n = omega arith in
          rw (lt-leb 128 a h, lt-ltb n 32768 (omega (arith, h, t))) (ap pos e)
      | inr h ↦
          let e : (255 - a) * 256 + ((255 - b) * 1 + 0) ≡ 65536 - suc n = omega (arith, h, s, t) in
          rw (le-leb 128 a h, le-ltb n 32768 (omega (arith, h))) (ap negsuc e)
    ]

signed_four : (a b c d : ℕ) → a < 256 → b < 256 → c < 256 → d < 256
    → from_bytes true (a ∷ b ∷ c ∷ d ∷ []) ≡ to_z w32 (a * 16777216 + b * 65536 + c * 256 + d)
unfolding from_bytes
signed_four a b c d s t u v =
    let n = a * 16777216 + b * 65536 + c * 256 + d in
    elim (cases_lt a 128) [
      | inl h ↦
          let e : a * 16777216 + (b * 65536 + (c * 256 + (d * 1 + 0))) ≡ n = omega arith in
          rw (lt-leb 128 a h, lt-ltb n 2147483648 (omega (arith, h, t, u, v))) (ap pos e)
      | inr h ↦
          let low = (255 - b) * 65536 + ((255 - c) * 256 + ((255 - d) * 1 + 0)) in
          let e : (255 - a) * 16777216 + low ≡ 4294967296 - suc n = omega (arith, h, s, t, u, v) in
          rw (le-leb 128 a h, le-ltb n 2147483648 (omega (arith, h))) (ap negsuc e)
    ]

-- four bytes, one by one
four : (bs : List ℕ) → length bs ≡ 4 → bs ≡ get_or bs 0 0 ∷ get_or bs 1 0 ∷ get_or bs 2 0 ∷ get_or bs 3 0 ∷ []
four [] h = absurd (omega (arith, h))
four (a ∷ []) h = absurd (omega (arith, h))
four (a ∷ b ∷ []) h = absurd (omega (arith, h))
four (a ∷ b ∷ c ∷ []) h = absurd (omega (arith, h))
four (a ∷ b ∷ c ∷ d ∷ []) h = refl
four (a ∷ b ∷ c ∷ d ∷ e ∷ bs) h = absurd (omega (arith, h))

-- what four bytes are by each kind, whose number is written out
module _ (bs : List ℕ) (l : length bs ≡ 4) where
  module _ (signed : Bool) where
    first_one : from_bytes signed (take 1 bs) ≡ from_bytes signed (get_or bs 0 0 ∷ [])
    first_one = ap (λ x. from_bytes signed (take 1 x)) (four bs l)

    first_two : from_bytes signed (take 2 bs) ≡ from_bytes signed (get_or bs 0 0 ∷ get_or bs 1 0 ∷ [])
    first_two = ap (λ x. from_bytes signed (take 2 x)) (four bs l)

    first_four : from_bytes signed (take 4 bs) ≡ from_bytes signed (get_or bs 0 0 ∷ get_or bs 1 0 ∷ get_or bs 2 0 ∷ get_or bs 3 0 ∷ [])
    first_four = ap (λ x. from_bytes signed (take 4 x)) (four bs l)

  pub read_u8 : from_bytes (is_signed 1) (take (width_of 1) bs) ≡ pos (get_or bs 0 0)
  unfolding from_bytes width_of is_signed
  read_u8 = first_one false ∙ ap pos (omega arith)

  pub read_u16 : from_bytes (is_signed 2) (take (width_of 2) bs) ≡ pos (get_or bs 0 0 * 256 + get_or bs 1 0)
  unfolding from_bytes width_of is_signed
  read_u16 = first_two false ∙ ap pos (omega arith)

  pub read_u32 : from_bytes (is_signed 4) (take (width_of 4) bs) ≡ pos (get_or bs 0 0 * 16777216 + get_or bs 1 0 * 65536 + get_or bs 2 0 * 256 + get_or bs 3 0)
  unfolding from_bytes width_of is_signed
  read_u32 = first_four false ∙ ap pos (omega arith)

  pub read_i8 : from_bytes (is_signed 0x81) (take (width_of 0x81) bs) ≡ to_z w8 (get_or bs 0 0)
  unfolding width_of is_signed
  read_i8 = first_one true ∙ signed_one (get_or bs 0 0)

  module _ (p : get_or bs 0 0 < 256) (q : get_or bs 1 0 < 256) where
    pub read_i16 : from_bytes (is_signed 0x82) (take (width_of 0x82) bs) ≡ to_z w16 (get_or bs 0 0 * 256 + get_or bs 1 0)
    unfolding width_of is_signed
    read_i16 = first_two true ∙ signed_two _ _ p q

    pub read_i32 : get_or bs 2 0 < 256 → get_or bs 3 0 < 256 → from_bytes (is_signed 0x84) (take (width_of 0x84) bs) ≡ to_z w32 (get_or bs 0 0 * 16777216 + get_or bs 1 0 * 65536 + get_or bs 2 0 * 256 + get_or bs 3 0)
    unfolding width_of is_signed
    read_i32 r s = first_four true ∙ signed_four _ _ _ _ p q r s

pub ruleset reads = (read_u8, read_u16, read_u32, read_i8, read_i16, read_i32, to_z-of_z)
