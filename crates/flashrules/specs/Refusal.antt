-- The order of refusals: tests with their error numbers, to be read beside document 01's "Order for
-- a transaction: 10, 15, 1, 14, then ..".
use Rattle.std.specs.Prelude.{ℕ, ◌<◌, ◌≡◌, Bool, false, cond, List, [], ◌∷◌}

-- tests with their numbers: the number of the first that holds, 0 if none does
abbrev pub first_error : List (Bool × ℕ) → ℕ
first_error [] = 0
first_error (t ∷ ts) = cond t.0 t.1 (first_error ts)

-- no test holds
abbrev pub NoneHolds : List (Bool × ℕ) → Type 0
NoneHolds [] = Unit
NoneHolds (t ∷ ts) = (t.0 ≡ false) × NoneHolds ts

-- no test has the number 0
abbrev pub Numbered : List (Bool × ℕ) → Type 0
Numbered [] = Unit
Numbered (t ∷ ts) = (0 < t.1) × Numbered ts
