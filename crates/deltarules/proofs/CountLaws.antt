-- Laws of how many bytes the runs have: as many as differ.
use Prim.Native.Nat.{ℕ, ◌+◌}
use mathlib.Core.Path.{◌≡◌, refl, sym, ◌∙◌}
use mathlib.Core.List.{List, [], ◌∷◌, ◌++◌}
use native.Mathlib.Omega.{arith}
use lib.Dec.{eqb}
use lib.ListN.{length, take, drop, length-drop, take-append-drop}
use lib.Seq.{length-take-le, take_all}
use Rattle.flashrules.specs.Choice.{differing}
use Rattle.flashrules.specs.Layout.{Class, classes, size_of}
use Rattle.flashrules.proofs.Picks.{on_test, on_cond}
use Rattle.flashrules.proofs.Laws.{differing_append}
use Rattle.flashrules.proofs.LayoutLaws.{fits_parts}
use Rattle.deltarules.specs.Run.{Run, adjoins, prepend, class_runs, image_runs, runs}
use Rattle.deltarules.specs.Delta.{run_bytes}
use Rattle.deltarules.specs.Laws.{RunBytes}

prepend_bytes : (i o x y : ℕ) (rs : List Run) → run_bytes (prepend i o x y rs) ≡ 1 + run_bytes rs
prepend_bytes i o x y [] = refl
prepend_bytes i o x y (r ∷ rs) =
    on_cond (λ (z : List Run). run_bytes z ≡ 1 + run_bytes (r ∷ rs)) (adjoins o r) _ _ (λ t. omega arith) (λ t. omega arith)

class_bytes_lem : (i o : ℕ) (xs ys : List ℕ) → length xs ≡ length ys → run_bytes (class_runs i o xs ys) ≡ differing xs ys
class_bytes_lem i o [] [] h = refl
class_bytes_lem i o [] (y ∷ ys) h = absurd (omega arith)
class_bytes_lem i o (x ∷ xs) [] h = absurd (omega arith)
class_bytes_lem i o (x ∷ xs) (y ∷ ys) h =
    let ih = class_bytes_lem i (o + 1) xs ys (omega arith) in
    on_test (eqb x y) (λ t. rw t (omega arith)) (λ t. rw t (omega (arith, prepend_bytes i o x y (class_runs i (o + 1) xs ys))))

bytes_append : (rs ss : List Run) → run_bytes (rs ++ ss) ≡ run_bytes rs + run_bytes ss
bytes_append [] ss = omega arith
bytes_append (r ∷ rs) ss = omega (arith, bytes_append rs ss)

image_bytes : (cs : List Class) (old new : List ℕ) → length old ≡ size_of cs → length new ≡ size_of cs → run_bytes (image_runs cs old new) ≡ differing old new
image_bytes [] old new h g = rw (← take_all 0 old (omega arith), ← take_all 0 new (omega arith))
image_bytes (c ∷ cs) old new h g =
    let n = c.len in
    let same : length (take n old) ≡ length (take n new) = length-take-le n old (omega arith) ∙ sym (length-take-le n new (omega arith)) in
    let first = class_bytes_lem c.id 0 (take n old) (take n new) same in
    let rest = image_bytes cs (drop n old) (drop n new) (length-drop n old ∙ omega arith) (length-drop n new ∙ omega arith) in
    let parts : differing (take n old ++ drop n old) (take n new ++ drop n new) ≡ differing (take n old) (take n new) + differing (drop n old) (drop n new) =
    differing_append (take n old) (take n new) (drop n old) (drop n new) same in
    bytes_append (class_runs c.id 0 (take n old) (take n new)) (image_runs cs (drop n old) (drop n new)) ∙ rw (first, rest, ← parts, take-append-drop n old, take-append-drop n new)

pub run_bytes_lem : RunBytes
unfolding runs
run_bytes_lem l old new p = image_bytes (classes l) old new (fits_parts l (length old) p.first).1 (fits_parts l (length new) p.second).1
