-- Every block of a layout has its line in the text: the line is a part of the text of its class,
-- and that of the text of the image.
use Prim.Native.Nat.{ℕ, zero, suc, ◌+◌, ◌*◌, ◌<◌}
use mathlib.Core.Path.{◌≡◌, refl, sym}
use mathlib.Core.Bool.{true, false, true≢false}
use mathlib.Core.List.{List, [], ◌∷◌, ◌++◌, append_assoc}
use native.Mathlib.Omega.{arith}
use native.Mathlib.Nat.{zero-add, add-zero}
use lib.Dec.{eqb}
use lib.ListN.{length, take, drop, length-take, length-drop}
use lib.Seq.{drop-drop}
use borrow.Author.Tests.{eqb-true}
use Rattle.flashrules.specs.Answer.{found}
use Rattle.flashrules.specs.Layout.{Class, classes, locate}
use Rattle.flashrules.specs.Lookup.{block_size, find_block}
use Rattle.flashrules.specs.Image.{block_bytes}
use Rattle.flashrules.proofs.Picks.{on_test, on_answer}
use Rattle.flashrules.proofs.LayoutLaws.{fits_parts}
use Rattle.flashrules.proofs.Laws.{exists_found}
use Rattle.flashrules.proofs.LookupLaws.{same_found, locate_inside, placed}
use Rattle.imagerules.specs.Text.{line, block_lines, class_text, class_texts, serialize_image}
use Rattle.imagerules.specs.Laws.{PartOf, BlockLine}
use Rattle.imagerules.proofs.TextLaws.{take_part, lines_some}

-- ---- parts

-- a part of a text is a part of a longer one
module _ {p x : List ℕ} (z : List ℕ) (h : PartOf p x) where
  part_left : PartOf p (x ++ z)
  part_left = record { before = h.before; after = h.after ++ z; whole = rw h.whole (simp append_assoc) }

  part_right : PartOf p (z ++ x)
  part_right = record { before = z ++ h.before; after = h.after; whole = rw h.whole (simp append_assoc) }

-- ---- a block of a class, and a class of an image

-- a part of what follows the first line
block_behind : (b i c : ℕ) (bytes : List ℕ) → block_size * suc b < length bytes
    → PartOf (line i (c + 1 + b) (take block_size (drop (block_size * b) (drop block_size bytes)))) (block_lines i (c + 1) (drop block_size bytes))
    → PartOf (line i (c + suc b) (take block_size (drop (block_size * suc b) bytes))) (block_lines i c bytes)
block_behind b i c bytes h g =
    let n : c + 1 + b ≡ c + suc b = omega arith in
    let o : block_size + block_size * b ≡ block_size * suc b = omega arith in
    rw (lines_some i c bytes (omega arith)) (part_right (line i c (take block_size bytes)) (rw (drop-drop, n, o) at g))

-- the bytes are those from block c on
block_part : (b i c : ℕ) (bytes : List ℕ) → block_size * b < length bytes
    → PartOf (line i (c + b) (take block_size (drop (block_size * b) bytes))) (block_lines i c bytes)
block_part zero i c bytes h = rw (lines_some i c bytes (omega arith), add-zero) (record { before = []; after = _; whole = refl })
block_part (suc b) i c bytes h = block_behind b i c bytes h (block_part b i (c + 1) (drop block_size bytes) (rw length-drop (omega arith)))

-- a part of the text of a class; the first class starts at `at`
class_part : (at : ℕ) (cs : List Class) (i s n : ℕ) (p image : List ℕ) → locate at cs i ≡ found s n
    → PartOf p (class_text i (take n (drop s image))) → PartOf p (class_texts cs (drop at image))
class_part at [] i s n p image e h = let z : ◌≡◌ {A = ℕ} 0 1 = cc in absurd (omega arith)
class_part at (c ∷ cs) i s n p image e h =
    on_test (eqb c.id i)
    (λ t.
    let q : found s n ≡ found at c.len = sym (rw t at e) in
    let qi : i ≡ c.id = sym (eqb-true c.id i t) in
    let g = same_found _ s n at c.len refl q in
    part_left _ (rw (qi, g.0, g.1) at h))
    (λ t. part_right (class_text c.id (take c.len (drop at image))) (rw drop-drop (class_part (at + c.len) cs i s n p image (rw t at e) h)))

pub block_line : BlockLine
unfolding block_bytes serialize_image
block_line l image i b f e =
    on_answer (find_block l (length image) i b)
    (λ s k p.
    let v = placed l (length image) i b s k p in
    let d = drop v.base image in
    let n = locate_inside 0 (classes l) i v.base v.len v.class in
    let q = (fits_parts l (length image) f).1 in
    let g = block_part b i 0 (take v.len d) (simp (length-take, length-drop) (omega arith)) in
    rw p (class_part 0 (classes l) i v.base v.len _ image v.class (rw (zero-add, take_part block_size (block_size * b) v.len k d v.size, drop-drop, ← v.start) at g)))
    (λ x p. let z : false ≡ true = rw (exists_found l (length image) i b f, p) at e in absurd (true≢false (sym z)))
