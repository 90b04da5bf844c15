-- Laws of counting: the places that both have, those that one has, and a store's.
use Rattle.std.proofs.Common.{◌≡◌, ℕ, ◌+◌, ◌≤◌, List, [], ◌∷◌, length, take, arith}
use mathlib.Core.Bool.{not}
use Prim.Native.Nat.{max}
use lib.Dec.{eqb}
use Rattle.std.specs.List.{zip, count_by}
use Rattle.std.specs.Int.{abs_diff}
use Rattle.std.proofs.lemmas.Grind.{common_steps}
use Rattle.flashrules.specs.Choice.{differing}
use Rattle.flashrules.specs.Lookup.{block_size}
use Rattle.flashrules.specs.Image.{block_bytes, store_block}
use Rattle.flashrules.specs.declared.layout.Layout.{Layout}
use Rattle.flashrules.proofs.Laws.{store_differing}
use Rattle.dataflash.proofs.Place.{block_window, block_taken}

pub differing_all : (xs ys : List ℕ) → differing xs ys ≡ count_by (λ p. not (eqb p.0 p.1)) (zip xs ys) + abs_diff (length xs) (length ys)
differing_all [] [] = grind (arith, common_steps)
differing_all [] (y ∷ ys) = grind (arith, common_steps)
differing_all (x ∷ xs) [] = grind (arith, common_steps)
differing_all (x ∷ xs) (y ∷ ys) = let more = differing_all xs ys in grind (arith, common_steps)

-- no more than the longer one has
pub count_most : (xs ys : List ℕ) → count_by (λ p. not (eqb p.0 p.1)) (zip xs ys) + abs_diff (length xs) (length ys) ≤ max (length xs) (length ys)
count_most [] [] = grind (arith, common_steps)
count_most [] (y ∷ ys) = grind (arith, common_steps)
count_most (x ∷ xs) [] = grind (arith, common_steps)
count_most (x ∷ xs) (y ∷ ys) = let more = count_most xs ys in grind (arith, common_steps)

pub ruleset counts = (differing_all, count_most)

-- ---- a store

pub store_counted : (l : Layout) (image : List ℕ) (i b : ℕ) (w : List ℕ) → length w ≡ block_size
    → differing image (store_block l image i b w) ≡ differing (block_bytes l image i b) (take (length (block_bytes l image i b)) w)
store_counted = store_differing

pub ruleset stores = (block_window, block_taken, store_counted)
