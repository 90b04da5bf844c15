-- Laws of a commit: what its refusals and its store come to, put together from calls.
use Prim.Native.Nat.{ℕ, min}
use Rattle.std.proofs.lemmas.Grind.{common_steps}
use mathlib.Core.Path.{◌≡◌}
use mathlib.Core.List.{List}
use native.Mathlib.Omega.{arith}
use lib.ListN.{length, take}
use borrow.Author.Tests.{ne_eqb}
use Rattle.std.specs.Prelude.{Result, Ok, Err, Some, None}
use Rattle.flashrules.specs.Error.{number, number_of}
use Rattle.flashrules.specs.declared.error.Error.{Error}
use Rattle.flashrules.specs.Refusal.{first_error}
use Rattle.flashrules.specs.Outcome.{outcome}
use Rattle.flashrules.specs.Choice.{differing}
use Rattle.flashrules.specs.Image.{store_block}
use Rattle.flashrules.specs.declared.layout.Layout.{Layout}
use Rattle.flashrules.proofs.DifferingLaws.{differing_self}
use Rattle.flashrules.proofs.ErrorLaws.{number_some, check_passed, check_number}
use Rattle.flashrules.proofs.RefusalLaws.{check_first, check_behind}
use Rattle.gaugerules.specs.State.{Loaded, loaded_of}
use Rattle.gaugerules.specs.Keys.{keys_end}
use Rattle.gaugerules.specs.Transfer.{byte_written, edit_tests, edit_error, store_tests, commit_error, committed}
use Rattle.gaugerules.specs.Write.{commit}
use Rattle.gaugerules.specs.declared.state.Gauge.{Gauge}
use Rattle.gaugerules.specs.declared.state.BlockId.{BlockId}

-- the key bytes, of which there may be fewer
pub keys_end_is : (xs : List ℕ) → take (min (length xs) keys_end) xs ≡ take keys_end xs
keys_end_is xs = grind (arith, common_steps)

-- the tests of a store come behind those of an edit
module _ (l : Layout) (image : List ℕ) (g : Gauge) (byte : ℕ) (r : Result Unit Error) (p : number_of r ≡ edit_error g) where
  pub edit_first : (e : Error) → r ≡ Err e → number e ≡ commit_error l image g byte
  unfolding commit_error edit_error
  edit_first = check_first (edit_tests g) (store_tests l image g byte) (omega arith, (omega arith, tt)) r p

  pub store_behind : r ≡ Ok tt → (n : ℕ) → n ≡ first_error (store_tests l image g byte) → n ≡ commit_error l image g byte
  unfolding commit_error edit_error
  store_behind = check_behind (edit_tests g) (store_tests l image g byte) (omega arith, (omega arith, tt)) r p tt

module _ (l : Layout) (image : List ℕ) (g : Gauge) (byte : ℕ) (r : Result Unit Error) (p : number_of r ≡ commit_error l image g byte) where
  pub commits : (x : Unit) → r ≡ Ok x → (a : Loaded) (k : BlockId) (n : ℕ) (to : List ℕ) → a ≡ loaded_of g.loaded → a ≡ Some k
      → n ≡ differing image (store_block l image k.class k.block g.window) → to ≡ store_block l image k.class k.block g.window
      → outcome (byte_written 0 n g) to ≡ commit l image g byte
  unfolding commit committed
  commits t q a k n to x y m z = rw (m, z, check_passed r _ p t q, ← x, y)

  -- nothing is loaded, so nothing is stored
  pub commits_none : (x : Unit) → r ≡ Ok x → (a : Loaded) → a ≡ loaded_of g.loaded → a ≡ None → outcome (byte_written 0 0 g) image ≡ commit l image g byte
  unfolding commit committed
  commits_none t q a x y = rw (check_passed r _ p t q, ← x, y, differing_self image)

  pub commits_not : (e : Error) → r ≡ Err e → outcome (byte_written (number e) 0 g) image ≡ commit l image g byte
  unfolding commit
  commits_not e q = rw (check_number r _ p e q, ne_eqb (number e) 0 (λ z. omega (arith, number_some e)))

pub ruleset commit_refusals = (edit_first, store_behind)

pub ruleset commitments = (commits, commits_none, commits_not)
