-- How far two lists of bytes agree, or differ, from their first bytes on.
use Rattle.std.specs.Prelude.{ℕ, suc, Bool, not, cond, List, [], ◌∷◌, eqb}

-- of how many pairs, from the first on, the bytes are equal (true), or differ (false)
abbrev pub span : Bool → List ℕ → List ℕ → ℕ
span equal [] ys = 0
span equal (x ∷ xs) [] = 0
span equal (x ∷ xs) (y ∷ ys) = cond (cond (eqb x y) equal (not equal)) (suc (span equal xs ys)) 0
