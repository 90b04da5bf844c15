-- The runs between two images fit into their lines.
use Prim.Native.Nat.{ℕ, zero, suc, ◌+◌, ◌≤◌}
use mathlib.Core.Path.{◌≡◌, sym, ◌∙◌}
use mathlib.Core.List.{List, [], ◌∷◌}
use native.Mathlib.Omega.{arith}
use lib.Dec.{eqb}
use lib.ListN.{length, take, drop}
use borrow.Author.Tests.{eqb-true}
use Rattle.flashrules.specs.Answer.{found}
use Rattle.flashrules.specs.declared.error.Error.{Error}
use Rattle.flashrules.specs.Layout.{paired, classes, locate}
use Rattle.flashrules.specs.Lookup.{find_class}
use Rattle.flashrules.specs.Image.{max_byte, Bytes}
use Rattle.flashrules.specs.declared.layout.Layout.{Layout}
use Rattle.flashrules.proofs.Picks.{on_test, on_answer}
use Rattle.flashrules.proofs.BytesLaws.{bytes_take, bytes_drop}
use Rattle.flashrules.proofs.LayoutLaws.{valid_parts, fits_parts}
use Rattle.flashrules.proofs.LookupLaws.{refused_found, locate_inside}
use Rattle.flashrules.proofs.PartLaws.{part_length}
use Rattle.deltarules.specs.Run.{Run, runs}
use Rattle.deltarules.specs.Delta.{RunOf}
use Rattle.deltarules.specs.Laws.{Pair, Writable, RunsWritable}
use Rattle.deltarules.proofs.EachLaws.{each_map}
use Rattle.deltarules.proofs.ImageLaws.{class_found, runs_delta}

-- a class that is found has an identifier of the layout
found_byte : (n at i s k : ℕ) (is ns : List ℕ) → Bytes is → locate at (take n (paired is ns)) i ≡ found s k → i ≤ max_byte
found_byte zero at i s k is ns h p = absurd (refused_found Error.UnknownClass s k p)
found_byte (suc n) at i s k [] ns h p = absurd (refused_found Error.UnknownClass s k p)
found_byte (suc n) at i s k (j ∷ is) [] h p = absurd (refused_found Error.UnknownClass s k p)
found_byte (suc n) at i s k (j ∷ is) (m ∷ ns) h p =
    on_test (eqb j i) (λ t. omega (arith, eqb-true j i t, h 0)) (λ t. found_byte n (at + m) i s k is ns (λ q. h (suc q)) (rw t at p))

module _ (l : Layout) (old new : List ℕ) (p : Pair l old new) (ids : Bytes l.ids) (hold : Bytes old) (hnew : Bytes new) where
  -- its class was found at s, with k bytes
  writable_at : (r : Run) (s k : ℕ) → find_class l r.class ≡ found s k → RunOf l old new r → Writable r
  unfolding classes
  writable_at r s k q e =
      let found = sym (class_found l (length old) r.class p.first) ∙ q in
      let f = fits_parts l (length old) p.first in
      let g = fits_parts l (length new) p.second in
      let place = locate_inside 0 (classes l) r.class s k found in
      let inside : r.offset + length r.old ≤ k = rw q at e.inside in
      let was : r.old ≡ take (length r.old) (drop r.offset (take k (drop s old))) = rw q at e.old_bytes in
      let is : r.new ≡ take (length r.old) (drop r.offset (take k (drop s new))) = rw q at e.new_bytes in
      let long : length (take k (drop s new)) ≡ k = part_length new s k (omega arith) in
      record {
        class = found_byte l.count 0 r.class s k l.ids l.lengths ids found;
        offset = omega (arith, (valid_parts l f.0).small);
        old = rw was (bytes_take (length r.old) (drop r.offset (take k (drop s old))) (bytes_drop r.offset (take k (drop s old)) (bytes_take k (drop s old) (bytes_drop s old hold))));
        new = rw is (bytes_take (length r.old) (drop r.offset (take k (drop s new))) (bytes_drop r.offset (take k (drop s new)) (bytes_take k (drop s new) (bytes_drop s new hnew))));
        long = sym (rw is (part_length (take k (drop s new)) r.offset (length r.old) (omega arith)));
      }

  writable : (r : Run) → RunOf l old new r → Writable r
  writable r e =
      on_answer (find_class l r.class) (λ s k q. writable_at r s k q e)
      (λ n q. absurd (let z : r.offset + length r.old ≤ 0 = rw q at e.inside in omega (arith, e.some)))

pub runs_writable : RunsWritable
runs_writable l old new p ids hold hnew = each_map (writable l old new p ids hold hnew) (runs l old new) (runs_delta l old new p).each
