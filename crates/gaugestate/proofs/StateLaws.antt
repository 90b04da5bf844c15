-- Laws of the state: records that are put together with what calls gave, and the tests of a valid
-- gauge.
use Prim.Native.Nat.{ℕ, ◌≤◌}
use mathlib.Core.Path.{◌≡◌, refl}
use mathlib.Core.Bool.{Bool}
use mathlib.Core.List.{List, [], ◌∷◌}
use native.Mathlib.Omega.{arith}
use lib.Dec.{eqb, leb}
use lib.ListN.{length, get_or, replicate}
use lib.Pointwise.{pointwise}
use Rattle.flashrules.proofs.Picks.{on_test}
use mir.Syntax.{w8}
use mir.Val.{Fits}
use borrow.Author.Tests.{eq-eqb, le-leb}
use Rattle.flashrules.specs.Choice.{and}
use Rattle.flashrules.specs.Lookup.{block_size}
use Rattle.flashrules.specs.Image.{max_byte}
use Rattle.flashrules.proofs.BytesLaws.{are_bytes_lem}
use Rattle.gaugerules.specs.State.{full_access, boot_open, no_word, no_block, control_info, max_supply}
use Rattle.gaugerules.specs.Valid.{max_word, in_range, is_zero}
use Rattle.gaugerules.specs.declared.state.Gauge.{Gauge}

-- ---- a valid gauge

pub in_range_is : (g : Gauge) → g.low ≤ max_byte → g.result ≤ max_word → g.class ≤ max_byte → g.block ≤ max_byte → length g.window ≡ block_size
    → ((k : ℕ) → Fits w8 (get_or g.window k 0)) → in_range g
    ≡ and (leb g.mode full_access ∷ leb g.boot boot_open ∷ leb g.pending no_word ∷ leb g.control control_info ∷ leb g.loaded no_block ∷ leb g.supply max_supply ∷ [])
unfolding in_range
in_range_is g low result class block window bytes =
    rw (
      le-leb _ _ low,
      le-leb _ _ result,
      le-leb _ _ class,
      le-leb _ _ block,
      eq-eqb _ _ window,
      are_bytes_lem g.window (λ k. omega (arith, (bytes k).fits)),
    ) refl

-- a window is compared with one of zeros
zeros : (w : List ℕ) → is_zero w ≡ pointwise eqb w (replicate (length w) 0)
zeros [] = refl
zeros (b ∷ bs) = on_test (eqb b 0) (λ p. rw (p, zeros bs)) (λ p. rw p)

pub zero_is : (w : List ℕ) → length w ≡ block_size → is_zero w ≡ pointwise eqb w (replicate block_size 0)
zero_is w h = rw h at (zeros w)
