-- Laws of what holds of each run of a list, and of how many runs have a byte.
use Prim.Native.Nat.{ℕ, ◌+◌, ◌≤◌, ◌<◌}
use mathlib.Core.Path.{◌≡◌, refl}
use mathlib.Core.Bool.{true, false}
use mathlib.Core.List.{List, [], ◌∷◌, ◌++◌}
use native.Mathlib.Omega.{arith}
use lib.Dec.{eqb, leb}
use lib.ListN.{length}
use borrow.Author.Tests.{eq-eqb, ne_eqb, le-leb, lt-leb, lt-ltb, le-ltb}
use Rattle.flashrules.proofs.Picks.{on_test}
use Rattle.deltarules.specs.Run.{Run}
use Rattle.deltarules.specs.Delta.{in_run, runs_with, Each, Ascending, Below}

module _ {P Q : Run → Type 0} where
  pub each_map : ((r : Run) → P r → Q r) → (rs : List Run) → Each P rs → Each Q rs
  each_map f [] e = tt
  each_map f (r ∷ rs) e = (f r e.0, each_map f rs e.1)

  module _ {R : Run → Type 0} where
    pub each_both : ((r : Run) → P r → Q r → R r) → (rs : List Run) → Each P rs → Each Q rs → Each R rs
    each_both f [] e d = tt
    each_both f (r ∷ rs) e d = (f r e.0 d.0, each_both f rs e.1 d.1)

pub each_append : (P : Run → Type 0) (rs rs' : List Run) → Each P rs → Each P rs' → Each P (rs ++ rs')
each_append P [] rs' e d = d
each_append P (r ∷ rs) rs' e d = (e.0, each_append P rs rs' e.1 d)

pub ascending_append : (rs rs' : List Run) → Ascending rs → Ascending rs' → Each (λ r. Each (Below r) rs') rs → Ascending (rs ++ rs')
ascending_append [] rs' a b c = b
ascending_append (r ∷ rs) rs' a b c = (each_append (Below r) rs rs' a.0 c.0, ascending_append rs rs' a.1 b c.1)

-- ---- whether a byte is in a run

module _ (i k : ℕ) (r : Run) where
  pub in_run_lem : r.class ≡ i → r.offset ≤ k → k < r.offset + length r.old → in_run i k r ≡ true
  in_run_lem p h g = rw (eq-eqb r.class i p, le-leb r.offset k h, lt-ltb k (r.offset + length r.old) g)

  pub not_class : (r.class ≡ i → ⊥) → in_run i k r ≡ false
  not_class p = rw (ne_eqb r.class i p)

  pub not_before : k < r.offset → in_run i k r ≡ false
  not_before h = on_test (eqb r.class i) (λ p. rw (p, lt-leb r.offset k h)) (λ p. rw p)

  pub not_behind : r.offset + length r.old ≤ k → in_run i k r ≡ false
  not_behind h =
      on_test (eqb r.class i)
      (λ p. on_test (leb r.offset k) (λ q. rw (p, q, le-ltb k (r.offset + length r.old) h)) (λ q. rw (p, q)))
      (λ p. rw p)

pub with_none : (i k : ℕ) (rs : List Run) → Each (λ r. in_run i k r ≡ false) rs → runs_with i k rs ≡ 0
with_none i k [] e = refl
with_none i k (r ∷ rs) e = rw (e.0, with_none i k rs e.1)

pub with_append : (i k : ℕ) (rs rs' : List Run) → runs_with i k (rs ++ rs') ≡ runs_with i k rs + runs_with i k rs'
with_append i k [] rs' = omega arith
with_append i k (r ∷ rs) rs' = omega (arith, with_append i k rs rs')
