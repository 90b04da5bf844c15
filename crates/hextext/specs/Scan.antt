-- Where a byte first stands in a text.
use Rattle.std.specs.Prelude.{ℕ, zero, suc, cond, List, [], ◌∷◌, eqb}

-- how many bytes stand before the first `byte`; all of them where there is none
unfoldable pub index_of : ℕ → List ℕ → ℕ
index_of byte [] = zero
index_of byte (c ∷ cs) = cond (eqb c byte) zero (suc (index_of byte cs))
