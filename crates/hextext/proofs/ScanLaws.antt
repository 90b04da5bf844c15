-- Laws of the search for a byte.
use Rattle.std.proofs.Common.{◌≡◌, ℕ, ◌≤◌, List, length, refl, ap, arith, cond}
use Rattle.std.specs.Prelude.{slice_range, min, position}
use Rattle.std.specs.List.{position_or_len}
use Rattle.std.specs.Option.{unwrap_or}
use Rattle.std.proofs.lemmas.Grind.{common_steps}
use Rattle.std.proofs.lemmas.List.Recursion.{is_position_or_len}
use Rattle.std.proofs.lemmas.List.Sums.{prefix_len-le-length}
use mathlib.Core.Bool.{not}
use lib.Dec.{eqb}
use Rattle.hextext.specs.Scan.{index_of}

index_position : (byte : ℕ) (xs : List ℕ) → index_of byte xs ≡ position_or_len (λ c. eqb c byte) xs
unfolding index_of
index_position byte xs = is_position_or_len (index_of byte) (λ c. eqb c byte) refl (λ c cs. ap (cond (eqb c byte) 0) (omega arith)) xs

pub index_first : (byte : ℕ) (xs : List ℕ) → index_of byte xs ≡ unwrap_or (position (λ c. eqb c byte) xs) (length xs)
index_first byte xs =
    let h = prefix_len-le-length (λ c. not (eqb c byte)) xs in
    rw index_position (grind (arith, common_steps))

pub range_end : (text : List ℕ) (from to : ℕ) → slice_range text from (min to (length text)) ≡ slice_range text from to
range_end text from to = grind (arith, common_steps)

pub range_none : (byte : ℕ) (text : List ℕ) (from to : ℕ) → min to (length text) ≤ from → index_of byte (slice_range text from to) ≡ 0
unfolding index_of
range_none byte text from to = grind (arith, common_steps)

-- what proves `find`
pub ruleset finds = (index_first, range_end, range_none)
