-- Laws of digits, and of the loops that write and read them.
use Prim.Native.Nat.{ℕ, zero, suc, ◌+◌, ◌-◌, ◌*◌, ◌/◌, ◌%◌, ◌≤◌, ◌<◌}
use mathlib.Core.Path.{◌≡◌, refl, sym, ap, ◌∙◌}
use mathlib.Core.List.{List, [], ◌∷◌, ◌++◌, head-eq_of_cons-eq, tail-eq_of_cons-eq}
use native.Mathlib.Omega.{arith}
use native.Mathlib.Decide.{dec_lt}
use lib.ListN.{length, drop, set, get_or, length-append, drop_of_length-le}
use lib.Seq.{sets, drop-cons}
use borrow.Author.Tests.{lt-ltb, le-ltb}
use Rattle.hextext.specs.Hex.{digit, value, pair, hex, unhex, line_feed, hex_line}
use Rattle.hextext.specs.Laws.{HexBack, HexLength, UnhexBytes, LineLength, LineUnique}
use Rattle.hextext.proofs.StoreLaws.{sets_out, sets_past, sets_on}

-- ---- one digit

module _ (n : ℕ) where
  pub digit_low : n % 16 < 10 → 48 + n % 16 ≡ digit n
  unfolding digit
  digit_low h = rw (lt-ltb (n % 16) 10 h)

  pub digit_high : 10 ≤ n % 16 → 55 + n % 16 ≡ digit n
  unfolding digit
  digit_high h = rw (le-ltb (n % 16) 10 h)

module _ (c : ℕ) where
  pub value_low : c < 65 → c % 16 ≡ value c
  unfolding value
  value_low h = rw (lt-ltb c 65 h)

  pub value_high : 65 ≤ c → (c % 16 + 9) % 16 ≡ value c
  unfolding value
  value_high h = rw (le-ltb c 65 h)

  pub value_small : value c < 16
  value_small = elim (dec_lt c 65) [ yes h ↦ rw (← value_low h) (omega arith) | no h ↦ rw (← value_high (omega arith)) (omega arith) ]

-- the number of a number's digit
value_digit : (n : ℕ) → value (digit n) ≡ n % 16
value_digit n =
    elim (dec_lt (n % 16) 10) [
      | yes h ↦ rw (← digit_low n h, ← value_low (48 + n % 16) (omega arith)) (omega arith)
      | no h ↦ rw (← digit_high n (omega arith), ← value_high (55 + n % 16) (omega arith)) (omega arith)
    ]

pub pair_back : (b : ℕ) → b ≤ 255 → pair (digit (b / 16)) (digit b) ≡ b
pair_back b h = rw (value_digit (b / 16), value_digit b) (omega arith)

-- a digit is no control character: the first one is "0"
pub digit_above : (n : ℕ) → 48 ≤ digit n
digit_above n = elim (dec_lt (n % 16) 10) [ yes h ↦ rw (← digit_low n h) (omega arith) | no h ↦ rw (← digit_high n (omega arith)) (omega arith) ]

-- ---- bytes

pub hex_back : HexBack
hex_back [] h = refl
hex_back (b ∷ bs) h = rw (pair_back b (h 0), hex_back bs (λ k. h (suc k)))

pub hex_length : HexLength
hex_length [] = refl
hex_length (b ∷ bs) = rw (hex_length bs) (omega arith)

pub hex_append : (xs ys : List ℕ) → hex (xs ++ ys) ≡ hex xs ++ hex ys
hex_append [] ys = refl
hex_append (x ∷ xs) ys = ap (λ (l : List ℕ). digit (x / 16) ∷ digit x ∷ l) (hex_append xs ys)

pub unhex_bytes : UnhexBytes
unhex_bytes [] k = omega arith
unhex_bytes (a ∷ []) k = omega arith
unhex_bytes (a ∷ b ∷ cs) zero = omega (arith, value_small a, value_small b)
unhex_bytes (a ∷ b ∷ cs) (suc k) = unhex_bytes cs k

pub unhex_length : (n : ℕ) (x : List ℕ) → length x ≡ 2 * n → length (unhex x) ≡ n
unhex_length zero [] e = refl
unhex_length zero (a ∷ x) e = absurd (omega arith)
unhex_length (suc n) [] e = absurd (omega arith)
unhex_length (suc n) (a ∷ []) e = absurd (omega arith)
unhex_length (suc n) (a ∷ b ∷ x) e = ap suc (unhex_length n x (omega arith))

-- ---- the loop that writes: `e` is its invariant

module _ (bs r z : List ℕ) (i out : ℕ) (e : sets r out (hex (drop i bs)) ≡ z) where
  pub encode_more : (r' : List ℕ) → i < length bs → r' ≡ sets r out (hex (get_or bs i 0 ∷ [])) → sets r' (out + 2) (hex (drop (i + 1) bs)) ≡ z
  encode_more r' h p =
      let s : out + 2 ≡ suc (suc out) = omega arith in
      let t : i + 1 ≡ suc i = omega arith in
      rw (p, s, t) (rw (drop-cons bs i 0 h) at e)

  pub encode_end : length bs ≤ i → r ≡ z
  encode_end h = rw (drop_of_length-le bs h) at e

pub ruleset encodes = (sets_past, encode_more, encode_end)

-- ---- a line: its bytes are stored, and then the line feed

pub line_length : LineLength
line_length bs = length-append (hex bs) (line_feed ∷ []) ∙ rw (hex_length bs)

module _ (bs r r' : List ℕ) (at : ℕ) (p : r' ≡ sets r at (hex bs)) where
  -- one store behind the bytes makes the line
  line_end : sets r' (at + 2 * length bs) (line_feed ∷ []) ≡ sets r at (hex_line bs)
  line_end = sets_on r r' at (at + 2 * length bs) (hex bs) (line_feed ∷ []) p (rw (hex_length bs))

  pub line_stored : (z : List ℕ) → z ≡ sets r' (at + 2 * length bs) (line_feed ∷ []) → z ≡ sets r at (hex_line bs)
  line_stored z e = e ∙ line_end

  -- there is no room for it
  full : length r' ≤ at + 2 * length bs → r' ≡ sets r at (hex_line bs)
  full h = sets_out r' (at + 2 * length bs) (line_feed ∷ []) h ∙ line_end

  pub line_outside : length r' ≤ at → r' ≡ sets r at (hex_line bs)
  line_outside h = full (omega arith)

  pub line_cut : (length r' - at) / 2 < length bs → r' ≡ sets r at (hex_line bs)
  line_cut h = full (omega arith)

pub ruleset lines = (line_outside, line_cut, line_stored)

-- a digit is no line feed, so the first line feed ends the line
pub line_unique : LineUnique
line_unique [] [] rest rest' h g e = (refl, tail-eq_of_cons-eq e)
line_unique [] (c ∷ cs) rest rest' h g e = absurd (omega (arith, head-eq_of_cons-eq e, digit_above (c / 16)))
line_unique (b ∷ bs) [] rest rest' h g e = absurd (omega (arith, head-eq_of_cons-eq e, digit_above (b / 16)))
line_unique (b ∷ bs) (c ∷ cs) rest rest' h g e =
    let high = head-eq_of_cons-eq e in
    let low = head-eq_of_cons-eq (tail-eq_of_cons-eq e) in
    let byte : b ≡ c = sym (pair_back b (h 0)) ∙ rw (high, low) (pair_back c (g 0)) in
    let more = line_unique bs cs rest rest' (λ k. h (suc k)) (λ k. g (suc k)) (tail-eq_of_cons-eq (tail-eq_of_cons-eq e)) in
    (λ j. byte j ∷ more.0 j, more.1)

-- ---- the loop that reads

unhex_short : (x : List ℕ) → length x ≤ 1 → unhex x ≡ []
unhex_short [] h = refl
unhex_short (a ∷ []) h = refl
unhex_short (a ∷ b ∷ cs) h = absurd (omega arith)

-- a pair more: it and what is left make what was left
unhex_next : (x digits left : List ℕ) → x ≡ digits ++ left → length digits ≡ 2
    → unhex x ≡ pair (get_or digits 0 0) (get_or digits 1 0) ∷ unhex left
unhex_next x [] left e h = absurd (omega arith)
unhex_next x (a ∷ []) left e h = absurd (omega arith)
unhex_next x (a ∷ b ∷ []) left e h = rw e
unhex_next x (a ∷ b ∷ c ∷ cs) left e h = absurd (omega arith)

module _ (x r z : List ℕ) (out : ℕ) (e : sets r out (unhex x) ≡ z) where
  pub decode_more : (digits left : List ℕ) (b : ℕ) → x ≡ digits ++ left → length digits ≡ 2
      → b ≡ pair (get_or digits 0 0) (get_or digits 1 0) → sets (set r out b) (out + 1) (unhex left) ≡ z
  decode_more digits left b q h p =
      let s : out + 1 ≡ suc out = omega arith in
      rw (p, s) (rw (unhex_next x digits left q h) at e)

  pub decode_end : length x < 2 → r ≡ z
  decode_end h = rw (unhex_short x (omega arith)) at e

pub ruleset decodes = (sets_past, decode_more, decode_end)
