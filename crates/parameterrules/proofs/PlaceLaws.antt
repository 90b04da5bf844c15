-- Laws of the place of a parameter: what one has that is not refused, where its bytes lie, and in
-- which blocks.
use Prim.Native.Nat.{ℕ, ◌+◌, ◌-◌, ◌*◌, ◌/◌, ◌%◌, ◌≤◌, ◌<◌, min}
use mathlib.Core.Path.{◌≡◌}
use mathlib.Core.Bool.{Bool, true, false, cond, true≢false}
use native.Mathlib.Omega.{arith}
use lib.Dec.{eqb}
use lib.ListN.{length, length-drop}
use lib.Seq.{length-take-le}
use lib.IntN.{ℤ}
use borrow.Author.Tests.{ltb-true, ltb-false, lt-ltb, leb-true, not-false}
use Rattle.flashrules.specs.Refusal.{Numbered}
use Rattle.flashrules.specs.Answer.{Lookup, found, start_of}
use Rattle.flashrules.specs.Layout.{max_image_length, classes, fits}
use Rattle.flashrules.specs.Lookup.{block_size, find_class, find_block}
use Rattle.flashrules.specs.Image.{max_byte}
use Rattle.flashrules.specs.declared.layout.Layout.{Layout}
use Rattle.flashrules.proofs.Laws.{no_error}
use Rattle.flashrules.proofs.LayoutLaws.{valid_parts, fits_parts}
use Rattle.flashrules.proofs.LookupLaws.{locate_inside}
use Rattle.flashrules.proofs.Picks.{on_answer, and_first}
use Rattle.parameterrules.specs.Kind.{signed_bit, max_width, width_of}
use Rattle.parameterrules.specs.Parameter.{valid, in_range, get_tests, get_error, set_tests, set_error, start_in}
use Rattle.parameterrules.specs.Commits.{lower_width, crosses_block, lower_bytes, upper_bytes}
use Rattle.parameterrules.specs.PowerCut.{UpperBlock}
use Rattle.parameterrules.specs.declared.parameter.Parameter.{Parameter}
use Rattle.parameterrules.proofs.IntegerLaws.{to_bytes_length}

-- ---- what a parameter has that is not refused

pub record Readable (l : Layout) (size : ℕ) (p : Parameter) : Type 0 where
  pub base : ℕ
  pub len : ℕ
  pub fitting : fits l size ≡ true
  pub sound : valid p ≡ true
  pub class : find_class l p.class ≡ found base len
  pub inside : p.offset + width_of p.kind ≤ len
  pub end : base + len ≤ size
  pub small : size ≤ max_image_length

-- the class lies inside the image, and the image is small
class_inside : (l : Layout) (size i s n : ℕ) → fits l size ≡ true → find_class l i ≡ found s n → (s + n ≤ size) × (size ≤ max_image_length)
unfolding find_class
class_inside l size i s n f q =
    let p = fits_parts l size f in
    let there = locate_inside 0 (classes l) i s n (rw p.0 at q) in
    (omega (arith, p.1, there.1), omega (arith, p.1, (valid_parts l p.0).small))

-- no test has the number 0
pub get_numbered : (l : Layout) (size : ℕ) (p : Parameter) → Numbered (get_tests l size p)
get_numbered l size p = (omega arith, (omega arith, (omega arith, (omega arith, tt))))

pub readable : (l : Layout) (size : ℕ) (p : Parameter) → get_error l size p ≡ 0 → Readable l size p
unfolding get_error
readable l size p e =
    let t = (no_error (get_tests l size p) (get_numbered l size p)).0 e in
    let f = not-false _ t.0 in
    on_answer (find_class l p.class)
    (λ s n q.
    let c = class_inside l size p.class s n f q in
    record {
      base = s;
      len = n;
      fitting = f;
      sound = not-false _ t.1.0;
      class = q;
      inside = ltb-false n _ (rw q at t.1.1.1.0);
      end = c.0;
      small = c.1;
    })
    (λ k q. absurd (true≢false (rw q at t.1.1.0)))

-- one whose value may be set: it is no refused one, and has the value in range
pub settable : (l : Layout) (size : ℕ) (p : Parameter) (v : ℤ) → set_error l size p v ≡ 0 → (get_error l size p ≡ 0) × (in_range p v ≡ true)
unfolding set_error get_error
settable l size p v e =
    let t = (no_error (set_tests l size p v) (omega arith, (omega arith, (omega arith, (omega arith, (omega arith, tt)))))).0 e in
    let g = (no_error (get_tests l size p) (get_numbered l size p)).1 in
    (g (t.0, (t.1.0, (t.1.1.0, (t.1.1.1.0, tt)))), not-false _ t.1.1.1.1.0)

-- where its bytes lie in the image
bytes_start : (l : Layout) (size : ℕ) (p : Parameter) (r : Readable l size p) → start_in l p ≡ r.base + p.offset
bytes_start l size p r = rw r.class

pub bytes_end : (l : Layout) (size : ℕ) (p : Parameter) → Readable l size p → start_in l p + width_of p.kind ≤ size
bytes_end l size p r = omega (arith, bytes_start l size p r, r.inside, r.end)

pub width_some : (l : Layout) (size : ℕ) (p : Parameter) → Readable l size p → 1 ≤ width_of p.kind
unfolding valid
width_some l size p r = leb-true 1 (width_of p.kind) (and_first _ _ r.sound)

-- no kind has more bytes
pub width_most : (kind : ℕ) → width_of kind ≤ max_width
unfolding width_of
width_most kind =
    let n = kind % signed_bit in
    few (eqb n 1) 1 _ (omega arith) (few (eqb n 2) 2 _ (omega arith) (few (eqb n 4) 4 0 (omega arith) (omega arith)))
  where
    few : (t : Bool) (a b : ℕ) → a ≤ max_width → b ≤ max_width → cond t a b ≤ max_width
    few true a b h k = h
    few false a b h k = k

-- ---- its blocks

pub upper_block : UpperBlock
upper_block p c =
    let h = ltb-true (lower_width p) (width_of p.kind) c in
    let most = width_most p.kind in
    (omega arith, omega arith, omega arith)

-- how many bytes go to each
pub lower_length : (p : Parameter) (v : ℤ) → length (lower_bytes p v) ≡ lower_width p
lower_length p v = length-take-le (lower_width p) _ (omega (arith, to_bytes_length (width_of p.kind) v))

pub upper_length : (p : Parameter) (v : ℤ) → length (upper_bytes p v) ≡ width_of p.kind - lower_width p
upper_length p v = rw (length-drop, to_bytes_length (width_of p.kind) v)

-- n bytes of class i from byte `at` on lie in one block
pub record InBlock (l : Layout) (size i at n : ℕ) : Type 0 where
  pub start : ℕ
  pub len : ℕ
  pub found : find_block l size i (at / block_size) ≡ found start len
  pub some : 1 ≤ n
  pub end : at % block_size + n ≤ len
  pub place : start + at % block_size ≡ start_of (find_class l i) + at
  pub byte : at / block_size ≤ max_byte

-- the lookup of a block of a class that was found
block_of : (l : Layout) (size i b s n : ℕ) → fits l size ≡ true → find_class l i ≡ found s n → block_size * b < n
    → find_block l size i b ≡ found (s + block_size * b) (min block_size (n - block_size * b))
unfolding find_class find_block
block_of l size i b s n f q h =
    let c = rw (fits_parts l size f).0 at q in
    rw (f, c, lt-ltb (block_size * b) n h)

module _ (l : Layout) (size : ℕ) (p : Parameter) (r : Readable l size p) where
  in_block : (at n : ℕ) → 1 ≤ n → at + n ≤ p.offset + width_of p.kind → at % block_size + n ≤ block_size → InBlock l size p.class at n
  in_block at n some inside block =
      let b = at / block_size in
      let whole = r.inside in
      let end = r.end in
      let small = r.small in
      record {
        start = r.base + block_size * b;
        len = min block_size (r.len - block_size * b);
        found = block_of l size p.class b r.base r.len r.fitting r.class (omega arith);
        some = some;
        end = omega arith;
        place = rw r.class (omega arith);
        byte = omega arith;
      }

  pub in_lower : InBlock l size p.class p.offset (lower_width p)
  in_lower =
      let some = width_some l size p r in
      in_block p.offset (lower_width p) (omega arith) (omega arith) (omega arith)

  pub in_upper : crosses_block p ≡ true → InBlock l size p.class (p.offset + lower_width p) (width_of p.kind - lower_width p)
  in_upper c =
      let h = ltb-true (lower_width p) (width_of p.kind) c in
      let u = upper_block p c in
      in_block (p.offset + lower_width p) (width_of p.kind - lower_width p) (omega arith) (omega arith) (omega (arith, u.1, u.2))
