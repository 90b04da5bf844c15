-- Stores one after the other into a buffer, by the library's `sets`: what every writer's proof
-- cites.
use Prim.Native.Nat.{ℕ, suc, ◌+◌, ◌≤◌, ◌<◌}
use mathlib.Core.Path.{◌≡◌, refl, sym, ap, ◌∙◌}
use mathlib.Core.List.{List, [], ◌∷◌, ◌++◌}
use native.Mathlib.Nat.{add-zero, zero-add}
use native.Mathlib.Omega.{arith}
use lib.ListN.{length, take, drop, set, length-append}
use lib.Seq.{sets, sets-eq, set_out, set-set, set_comm, take_at, length-take-le}

-- past the end of the buffer nothing is stored
pub sets_out : (l : List ℕ) (i : ℕ) (vs : List ℕ) → length l ≤ i → l ≡ sets l i vs
sets_out l i [] h = refl
sets_out l i (v ∷ vs) h = rw (set_out l i v h) (sets_out l (suc i) vs (omega arith))

-- so a loop that stores may end there
pub sets_past : (l : List ℕ) (i : ℕ) (vs : List ℕ) → length l ≤ i → sets l i vs ≡ l
sets_past l i vs h = sym (sets_out l i vs h)

-- two runs of stores, one behind the other
pub sets_append : (l : List ℕ) (i : ℕ) (vs ws : List ℕ) → sets l i (vs ++ ws) ≡ sets (sets l i vs) (i + length vs) ws
sets_append l i [] ws = rw add-zero
sets_append l i (v ∷ vs) ws =
    let e : suc i + length vs ≡ i + suc (length vs) = omega arith in
    sets_append (set l i v) (suc i) vs ws ∙ rw e

-- the same where a call made the first run, and one or more make the second
pub sets_on : (l l₁ : List ℕ) (i j : ℕ) (vs ws : List ℕ) → l₁ ≡ sets l i vs → j ≡ i + length vs → sets l₁ j ws ≡ sets l i (vs ++ ws)
sets_on l l₁ i j vs ws p q = rw (p, q) (sym (sets_append l i vs ws))

-- a store below does not meet a run of them
set_below : (l vs : List ℕ) (i j v : ℕ) → i < j → set (sets l j vs) i v ≡ sets (set l i v) j vs
set_below l [] i j v h = refl
set_below l (w ∷ vs) i j v h =
    set_below (set l j w) vs i (suc j) v (omega arith) ∙ rw (set_comm l j i w v (λ e. omega arith))

-- a run whose first part is stored already
pub sets_again : (l : List ℕ) (i : ℕ) (vs ws : List ℕ) → sets (sets l i vs) i (vs ++ ws) ≡ sets l i (vs ++ ws)
sets_again l i [] ws = refl
sets_again l i (v ∷ vs) ws =
    let first = rw (set-set l i v v) at (set_below (set l i v) vs i (suc i) v (omega arith)) in
    ap (λ (m : List ℕ). sets m (suc i) (vs ++ ws)) first ∙ sets_again (set l i v) (suc i) vs ws

-- what lies in front once they are stored
pub sets_front : (l vs : List ℕ) (i n : ℕ) → length vs ≡ n → i + n ≤ length l → take (i + n) (sets l i vs) ≡ take i l ++ vs
sets_front l vs i n e h =
    let k : length (take i l ++ vs) ≡ i + n = length-append (take i l) vs ∙ rw (length-take-le i l (omega arith), e) in
    rw (sets-eq vs l i (omega arith), take_at (take i l ++ vs) (drop (i + length vs) l) (i + n) k)

-- what is stored from the start is the start
pub sets_start : (l vs : List ℕ) → length vs ≤ length l → take (length vs) (sets l 0 vs) ≡ vs
sets_start l vs h = rw zero-add at (sets_front l vs 0 (length vs) refl (omega arith))
