-- `delta::span::span_end` meets its contract. The invariant: what is left of the span ends where
-- the whole ends.
use mathlib.Core.Path.{◌≡◌}
use Prim.Native.Nat.{◌+◌}
use lib.ListN.{drop}
use Rattle.delta.specs.Span.{span}
use Rattle.delta.proofs.span.span_end.Given as goal

abbrev pub invariant-loop-i : goal.invariant-loop-i
invariant-loop-i l = l.i + span l.equal (drop l.i l.pair.old.now) (drop l.i l.pair.new.now) ≡ l.from + span l.equal (drop l.from l.pair.old.now) (drop l.from l.pair.new.now)
