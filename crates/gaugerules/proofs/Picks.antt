-- How a choice of the rules is answered where a call gave what is tested or what is returned:
-- beside flashrules' `picks` and `calls`. k is what the call gave, and j what the rule names.
use Prim.Native.Nat.{ℕ}
use mathlib.Core.Path.{◌≡◌, refl, sym, ◌∙◌}
use mathlib.Core.Bool.{true, false, cond, not}
use lib.Dec.{eqb, ltb}
use borrow.Author.Tests.{eq-eqb, ne_eqb}
use Rattle.flashrules.proofs.Picks.{pick_last}
use Rattle.gaugerules.specs.State.{if_loaded}
use Rattle.gaugerules.specs.Transfer.{accept, refuse}
use Rattle.gaugerules.specs.declared.state.Gauge.{Gauge}
use Rattle.gaugerules.specs.State.{Loaded, block_loaded}
use Rattle.std.specs.Prelude.{None, Some}
use Rattle.gaugerules.specs.Answer.{ByteAnswer}

-- a refusal by a number that is not the one that a call gave
module _ {A : Type 0} (z x y : A) (j k v : ℕ) (p : k ≡ j) where
  pub right_eq : v ≡ k → z ≡ y → z ≡ cond (not (eqb v j)) x y
  right_eq q e = rw (eq-eqb v j (q ∙ p)) e

  pub right_ne : (v ≡ k → ⊥) → z ≡ x → z ≡ cond (not (eqb v j)) x y
  right_ne q e = rw (ne_eqb v j (λ r. q (r ∙ sym p))) e

-- the last of several tests is the answer
module _ (j k v : ℕ) (p : k ≡ j) where
  pub last_eq : eqb k v ≡ cond (eqb j v) true false
  last_eq = pick_last (eqb k v) (eqb j v) (rw p)

  pub last_ne : not (eqb k v) ≡ cond (not (eqb j v)) true false
  last_ne = pick_last (not (eqb k v)) (not (eqb j v)) (rw p)

  pub last_lt : ltb k v ≡ cond (ltb j v) true false
  last_lt = pick_last (ltb k v) (ltb j v) (rw p)

-- by what is loaded
module _ {A : Type 0} (z x : A) (f : ℕ → ℕ → A) (a k : Loaded) (p : k ≡ a) where
  pub call_none : k ≡ None → z ≡ x → z ≡ if_loaded a x f
  call_none q e = rw (← p, q) e

  pub call_block : (i b : ℕ) → k ≡ block_loaded i b → z ≡ f i b → z ≡ if_loaded a x f
  call_block i b q e = rw (← p, q) e

-- by whether anything is
module _ {A : Type 0} (z x y : A) (a k : Loaded) (p : k ≡ a) where
  pub none_first : k ≡ None → z ≡ x → z ≡ cond (if_loaded a true (λ i b. false)) x y
  none_first q e = rw (← p, q) e

  pub block_first : (i b : ℕ) → k ≡ block_loaded i b → z ≡ y → z ≡ cond (if_loaded a true (λ i b. false)) x y
  block_first i b q e = rw (← p, q) e

-- a byte's answer with what a call gave
pub byte_gauge : (s : ByteAnswer) (h k : Gauge) → k ≡ h → s ≡ accept k → s ≡ accept h
byte_gauge s h k p e = rw p at e

pub byte_error : (s : ByteAnswer) (j k : ℕ) (g : Gauge) → k ≡ j → s ≡ refuse k g → s ≡ refuse j g
byte_error s j k g p e = rw p at e

pub ruleset byte_rules = (right_eq, right_ne, last_eq, last_ne, last_lt, call_none, call_block, none_first, block_first, byte_gauge, byte_error)

-- a proof by the cases of what is loaded, which keeps what the case says
pub on_loaded : {P : Type 0} (a : Loaded) → (a ≡ None → P) → ((i b : ℕ) → a ≡ block_loaded i b → P) → P
on_loaded None f g = f refl
on_loaded (Some k) f g = g k.class k.block refl
