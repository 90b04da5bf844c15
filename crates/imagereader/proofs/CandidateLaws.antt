-- The candidate as the code makes it: the width of a line, the layout with a line more, one turn of
-- the loop, and its end.
use Rattle.std.proofs.Common.{◌≡◌, ℕ, suc, ◌+◌, ◌-◌, ◌*◌, ◌/◌, ◌<◌, ◌≤◌, true, false, List, [], ◌++◌, length, take, drop, refl, ap, ◌∙◌, arith, length-drop, length-take-le, drop-drop, le-ltb, lt-ltb, ne_eqb, le-leb}
use native.Mathlib.Decide.{dec_le, dec_lt}
use lib.Seq.{sets, length-sets}
use borrow.Author.Tests.{lt-leb}
use Rattle.std.specs.Prelude.{slice_range}
use Rattle.hextext.specs.Scan.{index_of}
use Rattle.hextext.specs.Hex.{unhex, line_feed}
use Rattle.hextext.proofs.StoreLaws.{sets_front}
use Rattle.hextext.proofs.HexLaws.{unhex_length}
use Rattle.flashrules.specs.Layout.{no_classes}
use Rattle.flashrules.specs.Lookup.{block_size}
use Rattle.flashrules.specs.declared.layout.Layout.{Layout}
use Rattle.imagerules.specs.Text.{max_lines}
use Rattle.imagerules.specs.Candidate.{data_bytes, width, class_byte, is_last, longer, another, add_line, gather, candidate}
use Rattle.imagerules.proofs.LineLaws.{line_end}

-- ---- one line

-- the line at an index of a text ends at its line feed
module _ (x : List ℕ) (at : ℕ) where
  pub line_rest : index_of line_feed (slice_range x at (length x)) ≡ index_of line_feed (drop at x)
  line_rest = let e = line_end x at (at + index_of line_feed (slice_range x at (length x))) refl in omega arith

  pub width_some : (e : ℕ) → e ≡ at + index_of line_feed (drop at x) → e < length x → data_bytes ((e - at) / 2) ≡ width (drop at x)
  unfolding width
  width_some e p h =
      let gap : index_of line_feed (drop at x) ≡ e - at = omega arith in
      rw (gap, length-drop at x, lt-ltb (e - at) (length x - at) (omega arith))

  pub width_none : (e : ℕ) → e ≡ at + index_of line_feed (drop at x) → length x ≤ e → width (drop at x) ≡ 0
  unfolding width
  width_none e p h =
      let gap : index_of line_feed (drop at x) ≡ e - at = omega arith in
      rw (gap, length-drop at x, le-ltb (e - at) (length x - at) (omega arith))

-- what proves `line_at`
pub ruleset ends = (line_rest, width_some, width_none)

-- what a line is that has a width
pub record Line (x : List ℕ) (w : ℕ) : Type 0 where
  pub most : w ≤ block_size
  pub digits : 2 * w + 6 ≤ index_of line_feed x
  pub feed : index_of line_feed x < length x

line_of : (x : List ℕ) (w : ℕ) → w ≡ width x → 1 ≤ w → Line x w
unfolding width
line_of x w p h =
    elim (dec_lt (index_of line_feed x) (length x)) [
      | yes l ↦ elim (dec_le (index_of line_feed x / 2) (block_size + 3)) [
        | yes k ↦ (let f : w ≡ index_of line_feed x / 2 - 3 = p ∙ rw (lt-ltb _ _ l, le-leb _ _ k) in record { most = omega arith; digits = omega arith; feed = l })
        | no k ↦ (let z : w ≡ 0 = p ∙ rw (lt-ltb _ _ l, lt-leb (index_of line_feed x / 2) (block_size + 3) (omega arith)) in absurd (omega arith))
      ]
      | no l ↦ (let z : w ≡ 0 = p ∙ rw (le-ltb (index_of line_feed x) (length x) (omega arith)) in absurd (omega arith))
    ]

-- ---- the layout, line by line

module _ (l : Layout) (i n : ℕ) where
  pub line_same : is_last l i ≡ true → longer l n ≡ add_line l i n
  unfolding add_line
  line_same e = rw e

  pub line_other : is_last l i ≡ false → another l i n ≡ add_line l i n
  unfolding add_line
  line_other e = rw e

-- what proves `add_line`
pub ruleset adds = (line_same, line_other)

-- ---- the loop

-- what holds at its head: behind n lines, at an index of the text, with so many bytes in front of
-- the buffer
pub record LineAt (x r₀ : List ℕ) (l : Layout) (at out n : ℕ) (r : List ℕ) : Type 0 where
  pub within : n ≤ max_lines
  pub start : at ≤ length x
  pub used : out ≤ block_size * n
  pub room : max_lines * block_size ≤ length r
  pub long : length r ≡ length r₀
  pub same : gather (max_lines - n) l (take out r) (drop at x) ≡ candidate x

pub line_start : (x r : List ℕ) (l : Layout) → l ≡ no_classes → max_lines * block_size ≤ length r → LineAt x r l 0 0 0 r
unfolding candidate
line_start x r l e h =
    record {
      within = omega arith;
      start = omega arith;
      used = omega arith;
      room = h;
      long = refl;
      same = ap (λ (k : Layout). gather max_lines k [] x) e;
    }

module _ (x r₀ : List ℕ) (l : Layout) (at out n : ℕ) (r : List ℕ) (v : LineAt x r₀ l at out n r) where
  module _ (w : ℕ) (p : w ≡ width (drop at x)) (h : n < max_lines) where
    next : max_lines - n ≡ suc (max_lines - (n + 1))
    next = omega arith

    module _ (some : 1 ≤ w) where
      -- the line lies within the text
      pub line_inside : at + 4 + 2 * w ≤ length x
      line_inside = let t = line_of (drop at x) w p some in omega (arith, t, length-drop at x)

      -- there is room for its bytes
      line_room : out + w ≤ length r
      line_room = let t = line_of (drop at x) w p some in omega (arith, t, v.used, v.room)

      pub line_next : (c a : ℕ) (l' : Layout) (r' : List ℕ) → c ≡ class_byte (drop at x) → l' ≡ add_line l c w
          → a ≡ at + index_of line_feed (drop at x) + 1 → r' ≡ sets r out (unhex (take (2 * w) (drop (at + 4) x))) → LineAt x r₀ l' a (out + w) (n + 1) r'
      line_next c a l' r' pc pl pa pr =
          let t = line_of (drop at x) w p some in
          let y = take (2 * w) (drop (at + 4) x) in
          let ly : length y ≡ 2 * w = length-take-le (2 * w) (drop (at + 4) x) (rw (length-drop (at + 4) x) (omega (arith, line_inside))) in
          let lr : length r' ≡ length r = rw pr (length-sets r out (unhex y)) in
          let front : take (out + w) r' ≡ take out r ++ unhex y = rw pr (sets_front r (unhex y) out w (unhex_length w y ly) line_room) in
          let ea : at + (index_of line_feed (drop at x) + 1) ≡ a = omega arith in
          record {
            within = omega arith;
            start = omega (arith, t, length-drop at x);
            used = omega (arith, t, v.used);
            room = rw lr v.room;
            long = lr ∙ v.long;
            same =
                rw (front, pl, pc, ← ea, ← drop-drop (index_of line_feed (drop at x) + 1) at x, ← drop-drop 4 at x, p)
                (rw (next, ne_eqb (width (drop at x)) 0 (λ z. omega arith)) at v.same);
          }
