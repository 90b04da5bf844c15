-- The text that is held in a buffer: kept, read on, and cut.
use Rattle.std.proofs.Common.{◌≡◌, ℕ, ◌+◌, ◌-◌, ◌≤◌, List, length, take, drop, arith, length-drop, length-take, drop-drop, take-add}
use native.Mathlib.Nat.{sub-zero}
use Rattle.flashrules.proofs.PartLaws.{drop_front}
use Rattle.scripthost.specs.Held.{held, Longer}

-- ---- read on: b₁ is the buffer with the text at its front, b₂ after the read

pub held_longer : (b₀ b₁ b₂ : List ℕ) (from to kept n : ℕ) → take kept b₁ ≡ held b₀ from to → take kept b₂ ≡ take kept b₁
    → Longer (held b₀ from to) (held b₂ 0 (kept + n))
held_longer b₀ b₁ b₂ from to kept n p q = record { more = take n (drop kept b₂); whole = rw (sub-zero, take-add, q, p) }

-- ---- cut

pub held_length : (b : List ℕ) (from to : ℕ) → from ≤ to → to ≤ length b → length (held b from to) ≡ to - from
held_length b from to h k = rw (length-take, length-drop) (omega arith)

module _ (b : List ℕ) (from to n : ℕ) where
  -- what is left of it, where some of it was run, is held from there on
  pub held_drop : from + n ≤ to → drop n (held b from to) ≡ held b (from + n) to
  held_drop h =
      let e : to - from ≡ n + (to - (from + n)) = omega arith in
      rw (e, drop_front, drop-drop)

-- what proves `refill`
pub ruleset refills = (held_longer)
