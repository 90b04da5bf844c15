-- What is claimed of the list of runs between two images, document 02's sentences on C-11.
-- proofs/Laws.antt has a proof of each claim, under its name in small letters, with `_lem` behind
-- it where a definition has that name.
use Rattle.std.specs.Prelude.{ℕ, ◌≤◌, ◌≡◌, ◌↔◌, true, List, [], length}
use Rattle.flashrules.specs.Choice.{differing}
use Rattle.flashrules.specs.Layout.{fits}
use Rattle.flashrules.specs.Image.{Bytes, max_byte}
use Rattle.flashrules.specs.declared.layout.Layout.{Layout}
use Rattle.deltarules.specs.Run.{Run, runs}
use Rattle.deltarules.specs.Delta.{Each, Delta, patch_all, exchanged_all, run_bytes}
use Rattle.deltarules.specs.Text.{serialize_runs, max_runs_text}

-- two images of a layout
pub record Pair (l : Layout) (old new : List ℕ) : Type 0 where
  pub first : fits l (length old) ≡ true
  pub second : fits l (length new) ≡ true

-- ---- the list

-- the list has all that is asked of it (specs/Delta.antt), and no other list has: every differing
-- byte is in exactly one run and no equal byte in any, each run is inside one class and as long as
-- it can be, and the runs ascend
abbrev pub RunsDetermined : Type 0
RunsDetermined =
    (l : Layout) (old new : List ℕ) → Pair l old new
    → (rs : List Run) → Delta l old new rs ↔ (rs ≡ runs l old new)

-- "Laying the runs over the first image gives the second."
abbrev pub PatchedNew : Type 0
PatchedNew = (l : Layout) (old new : List ℕ) → Pair l old new → patch_all l old (runs l old new) ≡ new

-- and over the second, with old and new exchanged, the first
abbrev pub PatchedOld : Type 0
PatchedOld = (l : Layout) (old new : List ℕ) → Pair l old new → patch_all l new (exchanged_all (runs l old new)) ≡ old

-- equal images give the empty list, and only they
abbrev pub RunsNone : Type 0
RunsNone = (l : Layout) (old new : List ℕ) → Pair l old new → (runs l old new ≡ []) ↔ (old ≡ new)

-- the runs have as many bytes together as the images have differing ones
abbrev pub RunBytes : Type 0
RunBytes = (l : Layout) (old new : List ℕ) → Pair l old new → run_bytes (runs l old new) ≡ differing old new

-- ---- its text

-- what fits into a line: a class of one byte, an offset of two, and as many new bytes as old ones
pub record Writable (r : Run) : Type 0 where
  pub class : r.class ≤ max_byte
  pub offset : r.offset ≤ 65535
  pub old : Bytes r.old
  pub new : Bytes r.new
  pub long : length r.old ≡ length r.new

abbrev pub RunsWritable : Type 0
RunsWritable =
    (l : Layout) (old new : List ℕ) → Pair l old new → Bytes l.ids → Bytes old → Bytes new
    → Each Writable (runs l old new)

-- the text determines the runs: two lists with one text are one
abbrev pub TextDetermines : Type 0
TextDetermines =
    (rs rs' : List Run) → Each Writable rs → Each Writable rs' → serialize_runs rs ≡ serialize_runs rs' → rs ≡ rs'

-- a buffer of so many characters is never too short
abbrev pub RunsTextMost : Type 0
RunsTextMost = (l : Layout) (old new : List ℕ) → Pair l old new → length (serialize_runs (runs l old new)) ≤ max_runs_text
