-- Lists of bytes: parts of them, and lists put together from them, are bytes again; and the test
-- for it.
use Prim.Native.Nat.{ℕ, zero, suc, ◌+◌, ◌-◌, ◌≤◌}
use mathlib.Core.Path.{◌≡◌, refl}
use mathlib.Core.Bool.{true}
use mathlib.Core.List.{List, [], ◌∷◌, ◌++◌}
use native.Mathlib.Omega.{arith}
use lib.Dec.{leb}
use lib.ListN.{length, take, drop, replicate, set}
use lib.Seq.{get_or-drop}
use borrow.Author.Tests.{leb-true, le-leb}
use Rattle.flashrules.specs.Lookup.{block_size, find_block}
use Rattle.flashrules.specs.Image.{max_byte, Bytes, are_bytes, block_bytes, as_loaded, store_block}
use Rattle.flashrules.specs.declared.layout.Layout.{Layout}
use Rattle.flashrules.proofs.Picks.{and_first, and_rest, on_answer}

pub bytes_take : (n : ℕ) (bs : List ℕ) → Bytes bs → Bytes (take n bs)
bytes_take zero bs h k = omega arith
bytes_take (suc n) [] h k = omega arith
bytes_take (suc n) (b ∷ bs) h zero = h 0
bytes_take (suc n) (b ∷ bs) h (suc k) = bytes_take n bs (λ j. h (suc j)) k

pub bytes_drop : (n : ℕ) (bs : List ℕ) → Bytes bs → Bytes (drop n bs)
bytes_drop n bs h k = rw (get_or-drop n bs k 0) (h (n + k))

pub bytes_append : (xs ys : List ℕ) → Bytes xs → Bytes ys → Bytes (xs ++ ys)
bytes_append [] ys h g k = g k
bytes_append (x ∷ xs) ys h g zero = h 0
bytes_append (x ∷ xs) ys h g (suc k) = bytes_append xs ys (λ j. h (suc j)) g k

pub bytes_set : (xs : List ℕ) (i v : ℕ) → v ≤ max_byte → Bytes xs → Bytes (set xs i v)
bytes_set [] i v h g k = g k
bytes_set (x ∷ xs) zero v h g zero = h
bytes_set (x ∷ xs) zero v h g (suc k) = g (suc k)
bytes_set (x ∷ xs) (suc i) v h g zero = g 0
bytes_set (x ∷ xs) (suc i) v h g (suc k) = bytes_set xs i v h (λ j. g (suc j)) k

pub bytes_zeros : (n : ℕ) → Bytes (replicate n 0)
bytes_zeros zero k = omega arith
bytes_zeros (suc n) zero = omega arith
bytes_zeros (suc n) (suc k) = bytes_zeros n k

-- ---- the test

pub are_bytes_lem : (bs : List ℕ) → Bytes bs → are_bytes bs ≡ true
are_bytes_lem [] h = refl
are_bytes_lem (b ∷ bs) h = rw (le-leb b max_byte (h 0), are_bytes_lem bs (λ k. h (suc k)))

pub test_bytes : (bs : List ℕ) → are_bytes bs ≡ true → Bytes bs
test_bytes [] e k = omega arith
test_bytes (b ∷ bs) e zero = leb-true b max_byte (and_first (leb b max_byte) _ e)
test_bytes (b ∷ bs) e (suc k) = test_bytes bs (and_first (are_bytes bs) _ (and_rest (leb b max_byte) _ e)) k

-- ---- blocks of an image of bytes

module _ (l : Layout) (image : List ℕ) (i b : ℕ) (h : Bytes image) where
  pub loaded_bytes : Bytes (as_loaded (block_bytes l image i b))
  unfolding as_loaded block_bytes
  loaded_bytes =
      on_answer (find_block l (length image) i b)
      (λ s k p.
      let part = take k (drop s image) in
      rw p (bytes_append part _ (bytes_take k (drop s image) (bytes_drop s image h)) (bytes_zeros (block_size - length part))))
      (λ e p. rw p (bytes_zeros block_size))

  pub stored_bytes : (w : List ℕ) → Bytes w → Bytes (store_block l image i b w)
  unfolding store_block
  stored_bytes w g =
      on_answer (find_block l (length image) i b)
      (λ s k p.
      rw p
      (bytes_append (take s image ++ take k w) (drop (s + k) image)
      (bytes_append (take s image) (take k w) (bytes_take s image h) (bytes_take k w g)) (bytes_drop (s + k) image h)))
      (λ e p. rw p h)
