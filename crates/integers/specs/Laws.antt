-- What the numbers of the kinds amount to, claim by claim. proofs/Laws.antt has a proof of each.
use Rattle.std.specs.Prelude.{ℕ, ◌≡◌, ◌≤◌, ◌↔◌, Some, None}
use Rattle.flashrules.specs.Image.{max_byte}
use Rattle.parameterrules.specs.Kind.{width_of}
use Rattle.integers.specs.Kind.{number, kind_of}
use Rattle.integers.specs.declared.kind.Kind.{Kind}

-- each kind is the one with its number
abbrev pub KindNumbered : Type 0
KindNumbered = (k : Kind) → kind_of (number k) ≡ Some k

-- no other number is one
abbrev pub KindFound : Type 0
KindFound = (n : ℕ) (k : Kind) → kind_of n ≡ Some k → number k ≡ n

-- a byte that is no kind's number is one that has no bytes
abbrev pub KindMissing : Type 0
KindMissing = (n : ℕ) → n ≤ max_byte → (kind_of n ≡ None) ↔ (width_of n ≡ 0)
