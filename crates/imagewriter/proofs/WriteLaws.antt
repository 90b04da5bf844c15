-- Laws of the functions that write the text: one line out of its parts, and the loops over blocks
-- and over classes.
use Rattle.std.proofs.Common.{ℕ, zero, suc, ◌+◌, ◌-◌, ◌*◌, ◌≤◌, ◌<◌, min, ◌≡◌, refl, ap, ◌∙◌, true, List, [], ◌∷◌, ◌++◌, arith, length, take, drop, length-drop, length-append, length-take-le, append-nil, drop_of_length-le}
use Rattle.std.proofs.lemmas.List.{take_all, take_at, drop_at, nil_from_length}
use Rattle.std.proofs.lemmas.List.Edits.{sets}
use Rattle.std.specs.Prelude.{sum_by}
use native.Mathlib.Decide.{dec_le}
use Rattle.std.proofs.lemmas.List.Sums.{sum_by-cons}
use Rattle.hextext.specs.Hex.{hex, hex_line}
use Rattle.hextext.proofs.StoreLaws.{sets_on}
use Rattle.hextext.proofs.Laws.{hex_length}
use Rattle.checksum.specs.Checksum.{checksum}
use Rattle.flashrules.specs.Layout.{Class, paired, max_classes, max_class_length, classes, size_of, valid, fits}
use Rattle.flashrules.specs.Lookup.{block_size}
use Rattle.flashrules.specs.declared.layout.Layout.{Layout}
use Rattle.flashrules.proofs.LayoutLaws.{valid_parts, fits_parts}
use Rattle.layout.proofs.EntryLaws.{left_next}
use Rattle.imagerules.specs.Text.{line, block_lines, class_text, class_texts, serialize_image, class_length, text_length}
use Rattle.imagerules.proofs.TextLaws.{line_parts, line_length, lines_none, lines_some, class_length_lem, Sized, ordered_sized, text_most}

-- ---- one line

module _ (at : ℕ) (r r₁ r₂ : List ℕ) where
  pub line_put : (i b sum : ℕ) (bytes r₃ : List ℕ) → sum ≡ checksum bytes → r₁ ≡ sets r at (hex (i ∷ b ∷ [])) → r₂ ≡ sets r₁ (at + 4) (hex bytes)
      → r₃ ≡ sets r₂ (at + 4 + 2 * length bytes) (hex_line (sum ∷ [])) → r₃ ≡ sets r at (line i b bytes)
  line_put i b sum bytes r₃ s p q t =
      let tail = hex_line (sum ∷ []) in
      rw (line_parts i b bytes, ← s)
      (t ∙ sets_on r₁ r₂ (at + 4) (at + 4 + 2 * length bytes) (hex bytes) tail q (rw (hex_length bytes))
      ∙ sets_on r r₁ at (at + 4) (hex (i ∷ b ∷ [])) (hex bytes ++ tail) p refl)

-- ---- the blocks of a class

-- the next block, and what is left behind it
block_parts : (left part left' : List ℕ) → left ≡ part ++ left' → length part ≡ min block_size (length left)
    → (take block_size left ≡ part) × (drop block_size left ≡ left')
block_parts left part left' e m =
    let n = ap length e ∙ length-append part left' in
    elim (dec_le (length left) block_size) [
      | yes g ↦
          let z : left' ≡ [] = nil_from_length left' (omega arith) in
          let w : left ≡ part = rw (z, append-nil) at e in
          (take_all block_size left g ∙ w, drop_of_length-le left {i = block_size} g ∙ rw z)
      | no g ↦ (let f : length part ≡ block_size = omega arith in rw e (take_at part left' block_size f, drop_at part left' block_size f))
    ]

-- what holds at the head of the loop: at block b, where these bytes are left of the class, and
-- their first line goes to `at` of the buffer
pub record BlockAt (i at₀ : ℕ) (bytes r₀ : List ℕ) (b : ℕ) (left : List ℕ) (at : ℕ) (r : List ℕ) : Type 0 where
  pub place : 0 < length left → block_size * b + length left ≡ length bytes
  pub room : at + class_length (length left) ≤ length r
  pub long : length r ≡ length r₀
  pub same : sets r at (block_lines i b left) ≡ sets r₀ at₀ (class_text i bytes)

-- the room that is left behind a block of n bytes or less
room_left : (n at at' m : ℕ) → at + class_length n ≤ m → 1 ≤ n → at' ≡ at + (2 * min block_size n + 7) → at' + class_length (n - block_size) ≤ m
room_left n at at' m h f p =
    elim (dec_le n block_size) [
      | yes g ↦ (let z : n - block_size ≡ 0 = omega arith in rw z (omega arith))
      | no g ↦ (let z : n ≡ n - block_size + 32 = omega arith in omega arith)
    ]

module _ (i at₀ : ℕ) (bytes r₀ : List ℕ) (b : ℕ) (left : List ℕ) (at : ℕ) (r : List ℕ) (v : BlockAt i at₀ bytes r₀ b left at r) where
  pub block_end : length left ≡ 0 → r ≡ sets r₀ at₀ (class_text i bytes)
  block_end h = rw (lines_none i b left h) at v.same

  -- `part` is the next block
  pub block_next : (part left' r' : List ℕ) (at' : ℕ) → left ≡ part ++ left' → length part ≡ min block_size (length left) → 0 < length left
      → length r' ≡ length r → r' ≡ sets r at (line i b part) → at' ≡ at + 2 * length part + 7
      → BlockAt i at₀ bytes r₀ (b + 1) left' at' r'
  block_next part left' r' at' e m h q p a =
      let n : at' ≡ at + length (line i b part) = a ∙ rw (line_length i b part) (omega arith) in
      let k : length left' ≡ length left - block_size = omega (arith, ap length e, length-append part left') in
      let d = block_parts left part left' e m in
      record {
        place = λ h'. let g = v.place h in omega arith;
        room = rw (k, q) (room_left (length left) at at' (length r) v.room h (omega arith));
        long = q ∙ v.long;
        same = sets_on r r' at at' (line i b part) (block_lines i (b + 1) left') p n ∙ rw (d.0, d.1) at (rw (lines_some i b left h) at v.same);
      }

-- ---- the length of the text

-- of so many classes, by their lengths
lengths_sum : (n : ℕ) (is ns : List ℕ) → length is ≡ length ns → sum_by class_length (take n ns) ≡ text_length (take n (paired is ns))
lengths_sum zero is ns h = refl
lengths_sum (suc n) [] [] h = refl
lengths_sum (suc n) [] (m ∷ ns) h = absurd (omega arith)
lengths_sum (suc n) (i ∷ is) [] h = absurd (omega arith)
lengths_sum (suc n) (i ∷ is) (m ∷ ns) h =
    sum_by-cons class_length m (take n ns) ∙ ap (λ (k : ℕ). class_length m + k) (lengths_sum n is ns (omega arith))

-- the sum is whole at the end of the loop
pub text_sum : (l : Layout) (k : ℕ) → length l.ids ≡ max_classes → length l.lengths ≡ max_classes → length (take l.count l.lengths) ≤ k
    → sum_by class_length (take k (take l.count l.lengths)) ≡ text_length (classes l)
unfolding classes
text_sum l k hi hn h = rw (take_all k (take l.count l.lengths) h) (lengths_sum l.count l.ids l.lengths (omega arith))

pub valid_count : (l : Layout) → valid l ≡ true → l.count ≤ max_classes
valid_count l e = (valid_parts l e).used

-- what proves `text_length`
pub ruleset lengths = (valid_count, text_sum, text_most)

-- ---- the classes of an image

-- what holds at the head of the loop: these classes are left, and these bytes of the image, and
-- their lines go to `at` of the buffer
pub record ClassAt (l : Layout) (image r₀ : List ℕ) (cs : List Class) (left : List ℕ) (at : ℕ) (r : List ℕ) : Type 0 where
  pub sized : Sized cs
  pub size : size_of cs ≡ length left
  pub room : at + text_length cs ≤ length r
  pub long : length r ≡ length r₀
  pub same : sets r at (class_texts cs left) ≡ sets r₀ 0 (serialize_image l image)

pub class_start : (l : Layout) (image r : List ℕ) (cs : List Class) → cs ≡ classes l → fits l (length image) ≡ true → text_length (classes l) ≤ length r
    → ClassAt l image r cs image 0 r
unfolding serialize_image
class_start l image r cs e f h =
    let p = fits_parts l (length image) f in
    rw e
    record { sized = ordered_sized 0 (classes l) (valid_parts l p.0).order; size = omega (arith, p.1); room = omega arith; long = refl; same = refl }

module _ (l : Layout) (image r₀ : List ℕ) (cs : List Class) (left : List ℕ) (at : ℕ) (r : List ℕ) (v : ClassAt l image r₀ cs left at r) where
  pub class_end : cs ≡ [] → r ≡ sets r₀ 0 (serialize_image l image)
  class_end e = rw e at v.same

  module _ (c : Class) (cs' : List Class) (e : cs ≡ c ∷ cs') where
    pub part_small : c.len ≤ max_class_length
    part_small = (rw e at v.sized).1

    pub part_inside : c.len ≤ length left
    part_inside = let g = rw e at v.size in omega arith

    pub part_room : at + class_length c.len ≤ length r
    part_room = let g = rw e at v.room in omega arith

    pub class_next : (part left' r' : List ℕ) (at' : ℕ) → part ≡ take c.len left → left' ≡ drop c.len left → length r' ≡ length r
        → r' ≡ sets r at (class_text c.id part) → at' ≡ at + class_length (length part) → ClassAt l image r₀ cs' left' at' r'
    class_next part left' r' at' pp pl q p a =
        let m : length part ≡ c.len = rw pp (length-take-le c.len left part_inside) in
        let t : at' ≡ at + length (class_text c.id part) = a ∙ rw (class_length_lem c.id part) in
        record {
          sized = (rw e at v.sized).2;
          size = (let g = rw e at v.size in rw (pl, length-drop c.len left) (omega arith));
          room = (let g = rw e at v.room in (let u = rw m at a in omega arith));
          long = q ∙ v.long;
          same = sets_on r r' at at' (class_text c.id part) (class_texts cs' left') p t ∙ rw (pp, pl) (rw e at v.same);
        }

-- what proves that a class can be put
pub ruleset parts = (part_inside, part_room, left_next)
