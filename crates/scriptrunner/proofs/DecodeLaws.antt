-- A frame's line, decoded into an array of zeros: what stands in the array is the frame.
use Prim.Native.Nat.{ℕ, zero, suc, ◌-◌, ◌/◌, ◌≤◌}
use mathlib.Core.Path.{◌≡◌, refl, sym, ◌∙◌}
use mathlib.Core.Bool.{true}
use mathlib.Core.List.{List, [], ◌∷◌, ◌++◌}
use native.Mathlib.Nat.{sub-zero, zero-add}
use native.Mathlib.Omega.{arith}
use lib.ListN.{length, take, drop, get_or, replicate, length-replicate}
use lib.Seq.{sets, sets-eq, take_at}
use borrow.Author.Tests.{eq-eqb, ne_eqb}
use Rattle.hextext.specs.Hex.{unhex}
use Rattle.scriptrules.specs.Frame.{write_frame, read_frame, supply_frame, read_kind, supply_kind, max_frame, frame_of}
use Rattle.gaugerules.specs.Word.{word}
use Rattle.scriptrules.specs.Parser.{is_frame}
use Rattle.scriptrules.proofs.ScriptLaws.{frame_least, frame_most, frame_even}

-- ---- bytes in front of zeros

abbrev zeros : ℕ → List ℕ
zeros n = replicate n 0

zeros_get : (n i : ℕ) → get_or (zeros n) i 0 ≡ 0
zeros_get zero i = refl
zeros_get (suc n) zero = refl
zeros_get (suc n) (suc i) = zeros_get n i

front_get : (bs : List ℕ) (n i : ℕ) → get_or (bs ++ zeros n) i 0 ≡ get_or bs i 0
front_get [] n i = zeros_get n i
front_get (b ∷ bs) n zero = refl
front_get (b ∷ bs) n (suc i) = front_get bs n i

front_rest : (bs r : List ℕ) (n : ℕ) → n ≤ length bs → take (length bs - n) (drop n (bs ++ r)) ≡ drop n bs
front_rest bs r zero h = rw sub-zero (take_at bs r (length bs) refl)
front_rest [] r (suc n) h = absurd (omega arith)
front_rest (b ∷ bs) r (suc n) h =
    let e : suc (length bs) - suc n ≡ length bs - n = omega arith in
    rw e (front_rest bs r n (omega arith))

zeros_drop : (n k : ℕ) → drop n (zeros k) ≡ zeros (k - n)
zeros_drop zero k = rw sub-zero
zeros_drop (suc n) zero = let e : 0 - suc n ≡ 0 = omega arith in rw e
zeros_drop (suc n) (suc k) = let e : suc k - suc n ≡ k - n = omega arith in rw e (zeros_drop n k)

-- ---- a line's bytes in an array

module _ (line : List ℕ) (e : is_frame line ≡ true) where
  pub half_bytes : length line / 2 ≡ length (unhex line)
  half_bytes = omega (arith, frame_even line e)

  pub half_least : 2 ≤ length line / 2
  half_least = omega (arith, frame_least line e)

  pub half_most : length line / 2 ≤ max_frame
  half_most = omega (arith, frame_most line e)

  module _ (frame : List ℕ) (p : frame ≡ sets (replicate max_frame 0) 0 (unhex line)) where
    decoded : frame ≡ unhex line ++ zeros (max_frame - length (unhex line))
    decoded =
        p ∙ sets-eq (unhex line) (zeros max_frame) 0 (rw length-replicate (omega (arith, frame_most line e, frame_even line e)))
        ∙ rw (zero-add, zeros_drop (length (unhex line)) max_frame)

    get : (i : ℕ) → get_or frame i 0 ≡ get_or (unhex line) i 0
    get i = rw decoded (front_get (unhex line) (max_frame - length (unhex line)) i)

    pub decoded_read : get_or frame 0 0 ≡ read_kind → read_frame (get_or frame 1 0) (get_or frame 2 0) ≡ frame_of line
    decoded_read k = rw (get 1, get 2, eq-eqb (get_or (unhex line) 0 0) read_kind (sym (get 0) ∙ k))

    pub decoded_supply : (m : ℕ) → get_or frame 0 0 ≡ supply_kind → m ≡ word (get_or frame 2 0) (get_or frame 1 0) → supply_frame m ≡ frame_of line
    decoded_supply m k e =
        let is : get_or (unhex line) 0 0 ≡ supply_kind = sym (get 0) ∙ k in
        rw (e, get 1, get 2, is)

    pub decoded_write : (get_or frame 0 0 ≡ read_kind → ⊥) → (get_or frame 0 0 ≡ supply_kind → ⊥)
        → write_frame (get_or frame 1 0) (take (length line / 2 - 2) (drop 2 frame)) ≡ frame_of line
    decoded_write k j =
        let rest : take (length line / 2 - 2) (drop 2 frame) ≡ drop 2 (unhex line)
        = rw (half_bytes, decoded) (front_rest (unhex line) (zeros (max_frame - length (unhex line))) 2 (omega (arith, half_bytes, half_least))) in
        rw (rest, get 1, ne_eqb (get_or (unhex line) 0 0) read_kind (λ u. k (get 0 ∙ u)), ne_eqb (get_or (unhex line) 0 0) supply_kind (λ u. j (get 0 ∙ u)))

-- what proves `frame_in`
pub ruleset decodes = (half_least, half_most, decoded_read, decoded_supply, decoded_write)
