-- Several tests at once, whether two lists are the same, and in how many places they differ.
use Rattle.std.specs.Prelude.{ℕ, ◌+◌, Bool, true, false, cond, List, [], ◌∷◌, eqb, length}

abbrev pub and : List Bool → Bool
and [] = true
and (t ∷ ts) = cond t (and ts) false

abbrev pub same : List ℕ → List ℕ → Bool
same [] [] = true
same [] (y ∷ ys) = false
same (x ∷ xs) [] = false
same (x ∷ xs) (y ∷ ys) = and (eqb x y ∷ same xs ys ∷ [])

-- a place that only one of them has is one in which they differ
abbrev pub differing : List ℕ → List ℕ → ℕ
differing [] ys = length ys
differing (x ∷ xs) [] = length (x ∷ xs)
differing (x ∷ xs) (y ∷ ys) = cond (eqb x y) 0 1 + differing xs ys
