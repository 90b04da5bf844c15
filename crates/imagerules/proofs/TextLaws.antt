-- Laws of the text of an image: its lines, block by block and class by class, how many there are
-- and how long they are.
use Prim.Native.Nat.{ℕ, zero, suc, ◌+◌, ◌-◌, ◌*◌, ◌≤◌, min}
use mathlib.Core.Path.{◌≡◌, refl}
use mathlib.Core.Bool.{true}
use mathlib.Core.List.{List, [], ◌∷◌, ◌++◌, append_assoc}
use native.Mathlib.Omega.{arith}
use native.Mathlib.Decide.{dec_le}
use lib.ListN.{length, take, drop, length-append, length-take, length-drop}
use lib.Seq.{length-take-le, take_all, take-nil, take-take}
use borrow.Author.Tests.{leb-true}
use Rattle.hextext.specs.Hex.{hex, line_feed, hex_line}
use Rattle.hextext.proofs.HexLaws.{hex_append}
use Rattle.hextext.proofs.Laws.{hex_length}
use Rattle.checksum.specs.Checksum.{checksum}
use Rattle.flashrules.specs.Layout.{max_class_length, Class, paired, classes, size_of, in_order, ordered, valid}
use Rattle.flashrules.specs.Lookup.{block_size}
use Rattle.flashrules.specs.Image.{as_loaded}
use Rattle.flashrules.specs.declared.layout.Layout.{Layout}
use Rattle.flashrules.proofs.Picks.{and_first, and_rest}
use Rattle.flashrules.proofs.Laws.{checksum_loaded}
use Rattle.flashrules.proofs.LayoutLaws.{valid_parts, fits_parts}
use Rattle.imagerules.specs.Text.{line, lines, block_count, block_lines, class_text, class_texts, serialize_image, class_length, text_length, max_lines, max_text}
use Rattle.imagerules.specs.Laws.{TextLength}

-- ---- parts of bytes

-- some of the first n, behind m of them
pub take_part : (k m n j : ℕ) (xs : List ℕ) → j ≡ min k (n - m) → take k (drop m (take n xs)) ≡ take j (drop m xs)
take_part k zero n j xs e =
    elim (dec_le k n) [
      | yes h ↦ let q : j ≡ k = omega arith in rw (q, take-take k n xs h)
      | no h ↦ let q : j ≡ n = omega arith in rw (q, take_all k (take n xs) (omega (arith, length-take n xs)))
    ]
take_part k (suc m) zero j xs e = let q : j ≡ 0 = omega arith in rw (q, take-nil k)
take_part k (suc m) (suc n) j [] e = rw (take-nil k, take-nil j)
take_part k (suc m) (suc n) j (x ∷ xs) e = take_part k m n j xs (omega arith)

-- ---- one line

-- in the order in which its parts are written
pub line_parts : (i b : ℕ) (bytes : List ℕ)
    → line i b bytes ≡ hex (i ∷ b ∷ []) ++ (hex bytes ++ hex_line (checksum bytes ∷ []))
unfolding line
line_parts i b bytes =
    rw (hex_append bytes (checksum (as_loaded bytes) ∷ []), checksum_loaded bytes, append_assoc (hex bytes) (hex (checksum bytes ∷ [])) (line_feed ∷ []))

pub line_length : (i b : ℕ) (bytes : List ℕ) → length (line i b bytes) ≡ 2 * length bytes + 7
line_length i b bytes = rw (line_parts i b bytes) (simp (length-append, hex_length) (omega arith))

-- ---- the lines of a class

pub lines_none : (i b : ℕ) (bytes : List ℕ) → length bytes ≡ 0 → block_lines i b bytes ≡ []
unfolding block_lines
lines_none i b bytes h = rw h

pub lines_some : (i b : ℕ) (bytes : List ℕ) → 1 ≤ length bytes
    → block_lines i b bytes ≡ line i b (take block_size bytes) ++ block_lines i (b + 1) (drop block_size bytes)
unfolding block_lines
lines_some i b bytes h =
    let n : block_count (length bytes) ≡ suc (block_count (length (drop block_size bytes))) = rw (length-drop block_size bytes) (omega arith) in
    rw n

lines_length : (n i b : ℕ) (bytes : List ℕ) → length bytes ≤ block_size * n → length (lines n i b bytes) ≡ 2 * length bytes + 7 * n
lines_length zero i b bytes h = omega arith
lines_length (suc n) i b bytes h =
    let l = line_length i b (take block_size bytes) in
    let r = lines_length n i (b + 1) (drop block_size bytes) (rw (length-drop block_size bytes) (omega arith)) in
    rw (length-append, l, r) (omega (arith, length-take block_size bytes, length-drop block_size bytes))

pub class_length_lem : (i : ℕ) (bytes : List ℕ) → length (class_text i bytes) ≡ class_length (length bytes)
unfolding block_lines
class_length_lem i bytes = lines_length (block_count (length bytes)) i 0 bytes (omega arith)

-- ---- the classes of a valid layout

-- each has 1 to 512 bytes
abbrev pub Sized : List Class → Type 0
Sized [] = Unit {0}
Sized (c ∷ cs) = (1 ≤ c.len) × (c.len ≤ max_class_length) × Sized cs

pub ordered_sized : (lo : ℕ) (cs : List Class) → ordered lo cs ≡ true → Sized cs
ordered_sized lo [] e = tt
ordered_sized lo (c ∷ cs) e =
    let h = and_first (in_order lo c) _ e in
    (search (and_first, and_rest, leb-true) depth 12, search (and_first, and_rest, leb-true) depth 12, ordered_sized (c.id + 1) cs (and_rest (in_order lo c) _ e))

texts_length : (cs : List Class) (bytes : List ℕ) → length bytes ≡ size_of cs → length (class_texts cs bytes) ≡ text_length cs
texts_length [] bytes h = refl
texts_length (c ∷ cs) bytes h =
    let n : length (take c.len bytes) ≡ c.len = length-take-le c.len bytes (omega arith) in
    rw (length-append, class_length_lem c.id (take c.len bytes), n, texts_length cs (drop c.len bytes) (rw (length-drop c.len bytes) (omega arith)))

pub text_length_lem : TextLength
unfolding serialize_image
text_length_lem l image e = texts_length (classes l) image (fits_parts l (length image) e).1

-- ---- how many lines there are

abbrev pub line_count : List Class → ℕ
line_count [] = 0
line_count (c ∷ cs) = block_count c.len + line_count cs

-- the last block of a class may want up to 31 bytes
lines_most : (cs : List Class) → block_size * line_count cs ≤ size_of cs + 31 * length cs
lines_most [] = omega arith
lines_most (c ∷ cs) = omega (arith, lines_most cs)

by_lines : (cs : List Class) → text_length cs ≡ 2 * size_of cs + 7 * line_count cs
by_lines [] = refl
by_lines (c ∷ cs) = omega (arith, by_lines cs)

module _ (l : Layout) (e : valid l ≡ true) where
  pub line_most : line_count (classes l) ≤ max_lines
  unfolding classes
  line_most = let v = valid_parts l e in omega (arith, lines_most (classes l), v.used, v.small, length-take l.count (paired l.ids l.lengths))

  pub text_most : text_length (classes l) ≤ max_text
  text_most = let v = valid_parts l e in omega (arith, by_lines (classes l), line_most, v.small)
