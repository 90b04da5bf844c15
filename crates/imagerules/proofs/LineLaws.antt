-- Laws of one line: what is found at the front of a text that begins with a line, and one step of
-- `gather` over it.
use Prim.Native.Nat.{ℕ, suc, ◌+◌, ◌*◌, ◌/◌, ◌≤◌}
use mathlib.Core.Path.{◌≡◌, ap, ◌∙◌}
use mathlib.Core.Bool.{false}
use mathlib.Core.List.{List, [], ◌∷◌, ◌++◌, append_assoc}
use native.Mathlib.Omega.{arith}
use lib.Dec.{eqb}
use lib.ListN.{length, drop, length-append, length-drop}
use lib.Seq.{take-length, take_at, drop_at}
use borrow.Author.Tests.{lt-ltb, le-leb, ne_eqb}
use Rattle.std.specs.Prelude.{slice_range}
use Rattle.hextext.specs.Scan.{index_of}
use Rattle.hextext.specs.Hex.{digit, hex, line_feed}
use Rattle.hextext.proofs.HexLaws.{hex_back, hex_length, pair_back, digit_above}
use Rattle.checksum.specs.Checksum.{checksum}
use Rattle.flashrules.specs.Lookup.{block_size}
use Rattle.flashrules.specs.Image.{Bytes, max_byte, as_loaded}
use Rattle.flashrules.specs.declared.layout.Layout.{Layout}
use Rattle.imagerules.specs.Text.{line}
use Rattle.imagerules.specs.Candidate.{width, class_byte, line_bytes, next_line, add_line, gather}
use Rattle.imagerules.proofs.TextLaws.{line_parts, line_length}

-- ---- digits

-- a digit is no line feed
digit_other : (n : ℕ) → eqb (digit n) line_feed ≡ false
digit_other n = ne_eqb (digit n) line_feed (λ e. omega (arith, digit_above n))

-- the first line feed is past the digits
index_hex : (xs r : List ℕ) → index_of line_feed (hex xs ++ r) ≡ 2 * length xs + index_of line_feed r
unfolding index_of
index_hex [] r = omega arith
index_hex (x ∷ xs) r = rw (digit_other (x / 16), digit_other x, index_hex xs r) (omega arith)

-- ---- where the line at an index of a text ends, as a search up to the end of the text finds it

pub line_end : (x : List ℕ) (at e : ℕ) → e ≡ at + index_of line_feed (slice_range x at (length x)) → e ≡ at + index_of line_feed (drop at x)
line_end x at e p =
    let q : slice_range x at (length x) ≡ drop at x = rw (← length-drop at x) (take-length (drop at x)) in
    p ∙ ap (λ (t : List ℕ). at + index_of line_feed t) q

-- ---- a text that begins with a line

module _ (i b : ℕ) (bs r : List ℕ) (hi : i ≤ max_byte) (hb : Bytes bs) (one : 1 ≤ length bs) (most : length bs ≤ block_size) where
  line_index : index_of line_feed (line i b bs ++ r) ≡ 2 * length bs + 6
  unfolding line index_of
  line_index =
      let end = checksum (as_loaded bs) ∷ [] in
      let xs = i ∷ b ∷ (bs ++ end) in
      ap (index_of line_feed) (append_assoc (hex xs) (line_feed ∷ []) r) ∙ index_hex xs (line_feed ∷ r) ∙ rw (length-append bs end) (omega arith)

  line_width : width (line i b bs ++ r) ≡ length bs
  unfolding width
  line_width =
      rw (line_index, length-append, line_length i b bs)
      (simp (lt-ltb (2 * length bs + 6) (2 * length bs + 7 + length r) (omega arith), le-leb ((2 * length bs + 6) / 2) (block_size + 3) (omega arith)) (omega arith))

  line_class : class_byte (line i b bs ++ r) ≡ i
  unfolding line
  line_class = pair_back i hi

  line_bytes_lem : line_bytes (line i b bs ++ r) ≡ bs
  line_bytes_lem =
      let end = hex (checksum bs ∷ []) ++ (line_feed ∷ []) in
      rw (line_width, line_parts i b bs, append_assoc (hex bs) end r, take_at (hex bs) (end ++ r) (2 * length bs) (hex_length bs)) (hex_back bs hb)

  line_rest : next_line (line i b bs ++ r) ≡ r
  line_rest = rw line_index (drop_at (line i b bs) r (2 * length bs + 6 + 1) (omega (arith, line_length i b bs)))

  pub gather_line : (n : ℕ) (l : Layout) (d : List ℕ) → gather (suc n) l d (line i b bs ++ r) ≡ gather n (add_line l i (length bs)) (d ++ bs) r
  gather_line n l d = rw (line_bytes_lem, line_class, line_rest, line_width, ne_eqb (length bs) 0 (λ e. omega arith))
