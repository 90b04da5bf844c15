-- The bench cases of document 01 that are to be proved, and those of change requests, as one table
-- with one claim: `CasesHold`. It stands above every crate whose rules have a case in it, and
-- speaks of those rules alone. Program `cases` runs the same cases: what it hands to the code is
-- required to be in the table.
use Rattle.std.specs.Prelude.{ℕ, ◌≡◌, Bool, true, false, cond, List, [], ◌∷◌, ◌++◌, eqb, get_or, replicate, ℤ, pos, neg_ℤ}
use Rattle.std.proofs.lemmas.List.Edits.{sets}
use Rattle.std.specs.Int.Signed.{le_z}
use Rattle.checksum.specs.Checksum.{checksum, checksum_after}
use Rattle.flashrules.specs.Answer.{error_of, length_of}
use Rattle.flashrules.specs.Choice.{and, same}
use Rattle.flashrules.specs.Layout.{size}
use Rattle.flashrules.specs.Lookup.{find_block}
use Rattle.flashrules.specs.declared.layout.Layout.{Layout}
use Rattle.gaugerules.specs.State.{power_on}
use Rattle.gaugerules.specs.Script.{Device, device}
use Rattle.parameterrules.specs.Parameter.{get, set}
use Rattle.parameterrules.specs.Commits.{set_lower}
use Rattle.parameterrules.specs.declared.parameter.Parameter.{Parameter}
use Rattle.scriptrules.specs.Parser.{ParsedScript, script, no_script, parse_script}
use Rattle.scriptrules.specs.Reply.{replies, after_frames}
use Rattle.casetable.specs.Lines.{lines_text}

-- ---- what a case is, and when it holds

-- the layout of every case: P6's class of 33 bytes, with the two classes that every layout has. The
-- paper's numbers are written out, so that the table holds the rules' names for them to the paper
abbrev pub bench_layout : Layout
bench_layout = record { count = 3; ids = 48 ∷ 58 ∷ 112 ∷ replicate 29 0; lengths = 33 ∷ 96 ∷ 28 ∷ replicate 29 0 }

-- its image: zeros but for the first byte of class 48 and the unseal key, 14 04 72 36
abbrev pub bench_image : ℕ → List ℕ
bench_image first = first ∷ replicate 128 0 ++ (0x14 ∷ 0x04 ∷ 0x72 ∷ 0x36 ∷ replicate 24 0)

-- how many bytes it has
abbrev pub bench_size : ℕ
bench_size = 157

-- a parameter: its class, its offset, its kind, and its range
abbrev pub bench_parameter : ℕ → ℕ → ℕ → ℤ → ℤ → Parameter
bench_parameter class offset kind min max =
    record { class = class; offset = offset; kind = kind; min = min; max = max }

pub data Case : Type 0 where
  -- bytes, and their checksum
  sum : List ℕ → ℕ → Case
  -- a checksum, a byte of the block, the byte that it becomes, and the checksum by the short way
  change : ℕ → ℕ → ℕ → ℕ → Case
  -- a class, a block of it, and the error number and the length that its lookup answers
  lookup : ℕ → ℕ → ℕ → ℕ → Case
  -- the image's first byte, the home at power-on, a script and its output, and the one byte of the
  -- image after it that may be another: its index and its value
  session : ℕ → ℕ → List ℕ → List ℕ → ℕ → ℕ → Case
  -- whether power is cut after the first commit, a parameter, a value to be set, the error number,
  -- and the bytes of the image after it that may be others: the index of the first, and their
  -- values
  set_parameter : Bool → Parameter → ℤ → ℕ → ℕ → List ℕ → Case
  -- the image's first byte, a parameter, and the value in range that is read
  get_parameter : ℕ → Parameter → ℤ → Case

-- a script, on this device, prints this output and leaves this image
abbrev pub prints : Device → ParsedScript → List ℕ → List ℕ → Bool
prints d (script fs) output image =
    and (same (replies bench_layout d fs) output ∷ same (after_frames bench_layout d fs).image image ∷ [])
prints d no_script output image = false

unfoldable pub passes : Case → Bool
passes (sum bs s) = eqb (checksum bs) s
passes (change s old new t) = eqb (checksum_after s old new) t
passes (lookup i b e n) =
    let a = find_block bench_layout (size bench_layout) i b in
    and (eqb (error_of a) e ∷ eqb (length_of a) n ∷ [])
passes (session first boot x output at byte) =
    prints (device (power_on boot) (bench_image first)) (parse_script x) output (sets (bench_image first) at (byte ∷ []))
passes (set_parameter cut p v e at bs) =
    let s = cond cut (set_lower bench_layout (bench_image 0) p v) (set bench_layout (bench_image 0) p v) in
    and (eqb s.answer e ∷ same s.lent (sets (bench_image 0) at bs) ∷ [])
passes (get_parameter first p v) =
    let g = get bench_layout (bench_image first) p in
    and (eqb g.error 0 ∷ le_z g.value v ∷ le_z v g.value ∷ g.in_range ∷ [])

unfoldable pub every : List Case → Bool
every [] = true
every (c ∷ cs) = and (passes c ∷ every cs ∷ [])

-- ---- the cases

abbrev pub cases : List Case
cases =
    -- P1: "32 zero bytes: checksum 255."
    sum (replicate 32 0) 255
    -- P2: "32 bytes FF: 31."
    ∷ sum (replicate 32 0xFF) 31
    -- P3: "from P2, one FF becomes 00 by the short way: 30."
    ∷ change 31 0xFF 0x00 30
    -- P4: "old checksum FE, 01 becomes 02: FD."
    ∷ change 0xFE 0x01 0x02 0xFD
    -- P5: "read 0x7F, 1 byte: accepted; 2 bytes or 0 bytes: 1."
    ∷ session 0 0
    (lines_text ((0x00 ∷ 0x7F ∷ 1 ∷ []) ∷ (0x00 ∷ 0x7F ∷ 2 ∷ []) ∷ (0x00 ∷ 0x7F ∷ 0 ∷ []) ∷ []))
    (lines_text ((0 ∷ 0x00 ∷ []) ∷ (1 ∷ []) ∷ (1 ∷ []) ∷ []))
    0 0
    -- P6: "class of 33 bytes: block 1 has one byte, block 2 is refused with 5."
    ∷ lookup 48 1 0 1
    ∷ lookup 48 2 5 0
    -- P7: "in that block 1, 7 at 0x41 counts in the checksum and is not stored." 5 at 0x40 is, and
    -- the checksum without 7 is refused. C-12: so the commit changes one byte
    ∷ session 0 1
    (lines_text
    ((0x01 ∷ 0x61 ∷ 0 ∷ [])
    ∷ (0x01 ∷ 0x3E ∷ 48 ∷ 1 ∷ [])
    ∷ (0x01 ∷ 0x40 ∷ 5 ∷ 7 ∷ [])
    ∷ (0x00 ∷ 0x60 ∷ 1 ∷ [])
    ∷ (0x01 ∷ 0x60 ∷ 250 ∷ [])
    ∷ (0x01 ∷ 0x60 ∷ 243 ∷ [])
    ∷ []))
    (lines_text
    ((0 ∷ 1 ∷ 0 ∷ [])
    ∷ (0 ∷ 2 ∷ 0 ∷ [])
    ∷ (0 ∷ 2 ∷ 0 ∷ [])
    ∷ (0 ∷ 243 ∷ [])
    ∷ (8 ∷ 0 ∷ 0 ∷ [])
    ∷ (0 ∷ 1 ∷ 1 ∷ [])
    ∷ []))
    32 5
    -- P8: "key above, words 0414 0414 3672: open; 0414 0000 3672: sealed." The status tells
    ∷ session 0 0
    (lines_text
    ((0x01 ∷ 0x00 ∷ 0x14 ∷ 0x04 ∷ [])
    ∷ (0x01 ∷ 0x00 ∷ 0x14 ∷ 0x04 ∷ [])
    ∷ (0x01 ∷ 0x00 ∷ 0x72 ∷ 0x36 ∷ [])
    ∷ (0x01 ∷ 0x00 ∷ 0x00 ∷ 0x00 ∷ [])
    ∷ (0x00 ∷ 0x00 ∷ 2 ∷ [])
    ∷ []))
    (lines_text
    ((0 ∷ 2 ∷ 0 ∷ []) ∷ (0 ∷ 2 ∷ 0 ∷ []) ∷ (0 ∷ 2 ∷ 0 ∷ []) ∷ (0 ∷ 2 ∷ 0 ∷ []) ∷ (0 ∷ 0x00 ∷ 0x40 ∷ []) ∷ []))
    0 0
    ∷ session 0 0
    (lines_text
    ((0x01 ∷ 0x00 ∷ 0x14 ∷ 0x04 ∷ [])
    ∷ (0x01 ∷ 0x00 ∷ 0x00 ∷ 0x00 ∷ [])
    ∷ (0x01 ∷ 0x00 ∷ 0x72 ∷ 0x36 ∷ [])
    ∷ (0x01 ∷ 0x00 ∷ 0x00 ∷ 0x00 ∷ [])
    ∷ (0x00 ∷ 0x00 ∷ 2 ∷ [])
    ∷ []))
    (lines_text
    ((0 ∷ 2 ∷ 0 ∷ []) ∷ (0 ∷ 2 ∷ 0 ∷ []) ∷ (0 ∷ 2 ∷ 0 ∷ []) ∷ (0 ∷ 2 ∷ 0 ∷ []) ∷ (0 ∷ 0x00 ∷ 0x60 ∷ []) ∷ []))
    0 0
    -- P9: "sealed, block A, byte at 0x40: 7."
    ∷ session 0 0
    (lines_text ((0x01 ∷ 0x3F ∷ 1 ∷ []) ∷ (0x01 ∷ 0x40 ∷ 9 ∷ []) ∷ []))
    (lines_text ((0 ∷ 1 ∷ 0 ∷ []) ∷ (7 ∷ 0 ∷ 0 ∷ []) ∷ []))
    0 0
    -- P10: "block of class 48 loaded, then 0x0020: window reads zero."
    ∷ session 0x55 1
    (lines_text
    ((0x01 ∷ 0x61 ∷ 0 ∷ [])
    ∷ (0x01 ∷ 0x3E ∷ 48 ∷ 0 ∷ [])
    ∷ (0x00 ∷ 0x40 ∷ 32 ∷ [])
    ∷ (0x01 ∷ 0x00 ∷ 0x20 ∷ 0x00 ∷ [])
    ∷ (0x00 ∷ 0x40 ∷ 32 ∷ [])
    ∷ []))
    (lines_text
    ((0 ∷ 1 ∷ 0 ∷ [])
    ∷ (0 ∷ 2 ∷ 0 ∷ [])
    ∷ (0 ∷ 0x55 ∷ replicate 31 0)
    ∷ (0 ∷ 2 ∷ 0 ∷ [])
    ∷ (0 ∷ replicate 32 0)
    ∷ []))
    0 0x55
    -- P11: "two bytes at offset 31: 12; at 30: accepted." C-17: "P11's offset 31 is accepted where
    -- the class goes on", as class 48 does; at 95 of class 58, 31 of its last block, it ends
    ∷ set_parameter false (bench_parameter 48 31 2 (pos 0) (pos 65535)) (pos 0x1234) 0 31 (0x12 ∷ 0x34 ∷ [])
    ∷ set_parameter false (bench_parameter 58 95 2 (pos 0) (pos 65535)) (pos 0x1234) 12 0 []
    ∷ set_parameter false (bench_parameter 48 30 2 (pos 0) (pos 65535)) (pos 0x1234) 0 30 (0x12 ∷ 0x34 ∷ [])
    -- P12: "signed byte -128 is 80."
    ∷ set_parameter false (bench_parameter 48 0 0x81 (neg_ℤ (pos 128)) (pos 127)) (neg_ℤ (pos 128)) 0 0 (0x80 ∷ [])
    ∷ get_parameter 0x80 (bench_parameter 48 0 0x81 (neg_ℤ (pos 128)) (pos 127)) (neg_ℤ (pos 128))
    -- C-12: sealed, 7 in block B, committed by a write that goes on to 0x61: 3, one byte accepted,
    -- one byte changed; committed once more: none
    ∷ session 0 0
    (lines_text
    ((0x01 ∷ 0x3F ∷ 2 ∷ [])
    ∷ (0x01 ∷ 0x40 ∷ 7 ∷ [])
    ∷ (0x01 ∷ 0x60 ∷ 248 ∷ 0 ∷ [])
    ∷ (0x01 ∷ 0x60 ∷ 248 ∷ [])
    ∷ []))
    (lines_text ((0 ∷ 1 ∷ 0 ∷ []) ∷ (0 ∷ 1 ∷ 0 ∷ []) ∷ (3 ∷ 1 ∷ 1 ∷ []) ∷ (0 ∷ 1 ∷ 0 ∷ []) ∷ []))
    65 7
    -- C-14: unsealed, another last byte of the keys: 8 for a wrong checksum, then 16; with the byte
    -- that is there and another one behind the keys it stands
    ∷ session 0 0
    (lines_text
    ((0x01 ∷ 0x00 ∷ 0x14 ∷ 0x04 ∷ [])
    ∷ (0x01 ∷ 0x00 ∷ 0x72 ∷ 0x36 ∷ [])
    ∷ (0x01 ∷ 0x61 ∷ 0 ∷ [])
    ∷ (0x01 ∷ 0x3E ∷ 112 ∷ 0 ∷ [])
    ∷ (0x01 ∷ 0x47 ∷ 1 ∷ [])
    ∷ (0x01 ∷ 0x60 ∷ 0x3F ∷ [])
    ∷ (0x01 ∷ 0x60 ∷ 0x3E ∷ [])
    ∷ (0x01 ∷ 0x47 ∷ 0 ∷ 1 ∷ [])
    ∷ (0x01 ∷ 0x60 ∷ 0x3E ∷ [])
    ∷ []))
    (lines_text
    ((0 ∷ 2 ∷ 0 ∷ [])
    ∷ (0 ∷ 2 ∷ 0 ∷ [])
    ∷ (0 ∷ 1 ∷ 0 ∷ [])
    ∷ (0 ∷ 2 ∷ 0 ∷ [])
    ∷ (0 ∷ 1 ∷ 0 ∷ [])
    ∷ (8 ∷ 0 ∷ 0 ∷ [])
    ∷ (16 ∷ 0 ∷ 0 ∷ [])
    ∷ (0 ∷ 2 ∷ 0 ∷ [])
    ∷ (0 ∷ 1 ∷ 1 ∷ [])
    ∷ []))
    137 1
    -- C-14: in full access the first byte of the keys may be another
    ∷ session 0 1
    (lines_text
    ((0x01 ∷ 0x61 ∷ 0 ∷ []) ∷ (0x01 ∷ 0x3E ∷ 112 ∷ 0 ∷ []) ∷ (0x01 ∷ 0x40 ∷ 0x15 ∷ []) ∷ (0x01 ∷ 0x60 ∷ 0x3E ∷ []) ∷ []))
    (lines_text ((0 ∷ 1 ∷ 0 ∷ []) ∷ (0 ∷ 2 ∷ 0 ∷ []) ∷ (0 ∷ 1 ∷ 0 ∷ []) ∷ (0 ∷ 1 ∷ 1 ∷ []) ∷ []))
    129 0x15
    -- C-16: sealed, 7 in block B on 2,699: 17, and so again after 0x0020; 4,501 is refused with 1,
    -- 4,500 is not, and on 2,700 the window that is there is stored
    ∷ session 0 0
    (lines_text
    ((0x02 ∷ 0x0A ∷ 0x8B ∷ [])
    ∷ (0x01 ∷ 0x3F ∷ 2 ∷ 7 ∷ [])
    ∷ (0x01 ∷ 0x60 ∷ 248 ∷ [])
    ∷ (0x01 ∷ 0x00 ∷ 0x20 ∷ 0x00 ∷ [])
    ∷ (0x01 ∷ 0x3F ∷ 2 ∷ 7 ∷ [])
    ∷ (0x01 ∷ 0x60 ∷ 248 ∷ [])
    ∷ (0x02 ∷ 0x11 ∷ 0x95 ∷ [])
    ∷ (0x02 ∷ 0x11 ∷ 0x94 ∷ [])
    ∷ (0x02 ∷ 0x0A ∷ 0x8C ∷ [])
    ∷ (0x01 ∷ 0x60 ∷ 248 ∷ [])
    ∷ []))
    (lines_text
    ((0 ∷ [])
    ∷ (0 ∷ 2 ∷ 0 ∷ [])
    ∷ (17 ∷ 0 ∷ 0 ∷ [])
    ∷ (0 ∷ 2 ∷ 0 ∷ [])
    ∷ (0 ∷ 2 ∷ 0 ∷ [])
    ∷ (17 ∷ 0 ∷ 0 ∷ [])
    ∷ (1 ∷ [])
    ∷ (0 ∷ [])
    ∷ (0 ∷ [])
    ∷ (0 ∷ 1 ∷ 1 ∷ [])
    ∷ []))
    65 7
    -- C-17: "a four-byte setting at offset 30", of class 58: all of it, and what a cut of power
    -- finds between the commits
    ∷ set_parameter false (bench_parameter 58 30 4 (pos 0) (pos 0xFFFFFFFF)) (pos 0x12345678) 0 63 (0x12 ∷ 0x34 ∷ 0x56 ∷ 0x78 ∷ [])
    ∷ set_parameter true (bench_parameter 58 30 4 (pos 0) (pos 0xFFFFFFFF)) (pos 0x12345678) 0 63 (0x12 ∷ 0x34 ∷ [])
    -- C-17: four bytes up to the last one of class 48, and one byte further: 12
    ∷ set_parameter false (bench_parameter 48 29 0x84 (neg_ℤ (pos 2)) (pos 0)) (neg_ℤ (pos 2)) 0 29 (0xFF ∷ 0xFF ∷ 0xFF ∷ 0xFE ∷ [])
    ∷ set_parameter false (bench_parameter 48 30 0x84 (neg_ℤ (pos 2)) (pos 0)) (neg_ℤ (pos 2)) 12 0 []
    ∷ []

abbrev pub CasesHold : Type 0
CasesHold = every cases ≡ true

-- case k of the table, counted from 0; past its end one that does not hold
abbrev pub case_at : ℕ → Case
case_at k = get_or cases k (sum [] 0)
