-- Frames, their bytes and their text, both ways.
use Prim.Native.Nat.{ℕ, ◌+◌, ◌*◌, ◌/◌, ◌%◌, ◌≤◌}
use mathlib.Core.Path.{◌≡◌, refl, sym, ap, ◌∙◌}
use mathlib.Core.Bool.{true, false}
use mathlib.Core.List.{List, [], ◌∷◌}
use native.Mathlib.Omega.{arith}
use native.Mathlib.Decide.{dec_lt}
use lib.Dec.{eqb, leb}
use lib.ListN.{length, get_or}
use borrow.Author.Tests.{lt-ltb, le-ltb, le-leb, leb-true, ne_eqb}
use Rattle.hextext.specs.Hex.{digit, value, pair, hex, unhex, line_feed}
use Rattle.hextext.proofs.HexLaws.{digit_low, digit_high, value_low, value_high, value_small, hex_back, unhex_length}
use Rattle.flashrules.specs.Image.{Bytes}
use Rattle.flashrules.proofs.Picks.{and_first, and_rest}
use Rattle.gaugerules.specs.Word.{word}
use Rattle.scriptrules.specs.Frame.{Frame, write_frame, read_frame, supply_frame, read_kind, write_kind, supply_kind, frame_bytes, line_of, frame_with, frame_of}
use Rattle.scriptrules.specs.Parser.{is_digit}
use Rattle.scriptrules.specs.Laws.{Sendable}

-- ---- digits

-- 0 to 9, or A to F
data Range (c : ℕ) : Type 0 where
  low : 48 ≤ c → c ≤ 57 → Range c
  high : 65 ≤ c → c ≤ 70 → Range c

module _ (c : ℕ) where
  digit_range : is_digit c ≡ true → Range c
  unfolding is_digit
  digit_range e =
      elim (dec_lt c 65) [
        | yes h ↦
            let d = rw (lt-ltb c 65 h) at e in
            low (leb-true 48 c (and_first (leb 48 c) _ d)) (leb-true c 57 (and_first (leb c 57) _ (and_rest (leb 48 c) _ d)))
        | no h ↦ high (omega arith) (leb-true c 70 (rw (le-ltb c 65 (omega arith)) at e))
      ]

  range_digit : Range c → is_digit c ≡ true
  unfolding is_digit
  range_digit (low h k) = rw (lt-ltb c 65 (omega arith), le-leb 48 c h, le-leb c 57 k)
  range_digit (high h k) = rw (le-ltb c 65 h, le-leb c 70 k)

  -- a digit is no line feed
  pub digit_other : is_digit c ≡ true → eqb c line_feed ≡ false
  digit_other e = elim (digit_range e) [ low h k ↦ ne_eqb c line_feed (λ z. omega arith) | high h k ↦ ne_eqb c line_feed (λ z. omega arith) ]

  -- the digit of a digit's number
  digit_value : is_digit c ≡ true → (n : ℕ) → n % 16 ≡ value c → digit n ≡ c
  digit_value e n p =
      elim (digit_range e) [
        | low h k ↦ let q = value_low c (omega arith) in sym (digit_low n (omega arith)) ∙ omega arith
        | high h k ↦ let q = value_high c (omega arith) in sym (digit_high n (omega arith)) ∙ omega arith
      ]

digit_is : (n : ℕ) → is_digit (digit n) ≡ true
digit_is n =
    elim (dec_lt (n % 16) 10) [
      | yes h ↦ rw (← digit_low n h) (range_digit (48 + n % 16) (low (omega arith) (omega arith)))
      | no h ↦ rw (← digit_high n (omega arith)) (range_digit (55 + n % 16) (high (omega arith) (omega arith)))
    ]

abbrev pub Digits : List ℕ → Type 0
Digits [] = Unit
Digits (c ∷ cs) = (is_digit c ≡ true) × Digits cs

pub hex_digits : (bs : List ℕ) → Digits (hex bs)
hex_digits [] = tt
hex_digits (b ∷ bs) = (digit_is (b / 16), (digit_is b, hex_digits bs))

pub hex_unhex : (x : List ℕ) → Digits x → length x % 2 ≡ 0 → hex (unhex x) ≡ x
hex_unhex [] d e = refl
hex_unhex (a ∷ []) d e = absurd (omega arith)
hex_unhex (a ∷ b ∷ x) d e =
    let h = value_small a in
    let l = value_small b in
    rw (digit_value a d.0 (pair a b / 16) (omega arith), digit_value b d.1.0 (pair a b) (omega arith), hex_unhex x d.1.1 (omega arith))

pub unhex_half : (x : List ℕ) → length x % 2 ≡ 0 → length (unhex x) * 2 ≡ length x
unhex_half x e = rw (unhex_length (length x / 2) x (omega arith)) (omega arith)

-- ---- frames

frame_back : (f : Frame) → frame_with (frame_bytes f) ≡ f
frame_back (write_frame r bytes) = refl
frame_back (read_frame r n) = refl
frame_back (supply_frame millivolts) = ap supply_frame (omega arith)

pub line_back : (f : Frame) → Sendable f → frame_of (line_of f) ≡ f
line_back f s = rw (hex_back (frame_bytes f) s.bytes) (frame_back f)

three : (bs : List ℕ) → length bs ≡ 3 → get_or bs 0 0 ∷ get_or bs 1 0 ∷ get_or bs 2 0 ∷ [] ≡ bs
three [] e = absurd (omega arith)
three (a ∷ []) e = absurd (omega arith)
three (a ∷ b ∷ []) e = absurd (omega arith)
three (a ∷ b ∷ c ∷ []) e = refl
three (a ∷ b ∷ c ∷ d ∷ bs) e = absurd (omega arith)

pub read_back : (bs : List ℕ) → get_or bs 0 0 ≡ read_kind → length bs ≡ 3 → frame_bytes (frame_with bs) ≡ bs
read_back bs k e = rw k (rw k at (three bs e))

pub supply_back : (bs : List ℕ) → Bytes bs → get_or bs 0 0 ≡ supply_kind → length bs ≡ 3 → frame_bytes (frame_with bs) ≡ bs
supply_back bs h k e =
    let high : word (get_or bs 2 0) (get_or bs 1 0) / 256 ≡ get_or bs 1 0 = omega (arith, h 2) in
    let low : word (get_or bs 2 0) (get_or bs 1 0) % 256 ≡ get_or bs 2 0 = omega (arith, h 2) in
    rw (k, high, low) (rw k at (three bs e))

pub write_back : (bs : List ℕ) → get_or bs 0 0 ≡ write_kind → 2 ≤ length bs → frame_bytes (frame_with bs) ≡ bs
write_back [] k h = absurd (omega arith)
write_back (a ∷ []) k h = absurd (omega arith)
write_back (a ∷ b ∷ bs) k h = rw k
