-- What the definitions amount to, claim by claim. proofs/Laws.antt has a proof of each, under its
-- name in small letters, with `_lem` behind it where a definition has that name.
use Rattle.std.specs.Prelude.{ℕ, ◌+◌, ◌≤◌, ◌<◌, ◌≡◌, ◌⊎◌, ◌↔◌, Bool, true, false, List, [], ◌++◌, length, get_or, take}
use Rattle.std.proofs.lemmas.List.Edits.{sets}
use Rattle.checksum.specs.Checksum.{checksum}
use Rattle.flashrules.specs.Refusal.{first_error, NoneHolds, Numbered}
use Rattle.flashrules.specs.Choice.{differing}
use Rattle.flashrules.specs.Error.{number}
use Rattle.flashrules.specs.Answer.{Lookup, found, if_found, error_of, start_of, length_of}
use Rattle.flashrules.specs.Layout.{classes, size, valid, fits, same_layout, info_class, key_class, min_key_length}
use Rattle.flashrules.specs.Lookup.{block_size, find_class, find_block, block_exists}
use Rattle.flashrules.specs.Image.{block_bytes, store_block, as_loaded}
use Rattle.flashrules.specs.declared.error.Error.{Error}
use Rattle.flashrules.specs.declared.layout.Layout.{Layout}

-- ---- refusals

-- a list of tests gives 0 exactly if none of them holds
abbrev pub NoError : Type 0
NoError = (ts : List (Bool × ℕ)) → Numbered ts → (first_error ts ≡ 0) ↔ NoneHolds ts

-- no refusal has the number 0, and no two have one number
abbrev pub NumberSome : Type 0
NumberSome = (e : Error) → 0 < number e

abbrev pub NumbersApart : Type 0
NumbersApart = (e f : Error) → number e ≡ number f → e ≡ f

-- ---- how many places differ

-- none exactly if the lists are equal
abbrev pub DifferingNone : Type 0
DifferingNone = (xs ys : List ℕ) → (differing xs ys ≡ 0) ↔ (xs ≡ ys)

abbrev pub DifferingSymmetric : Type 0
DifferingSymmetric = (xs ys : List ℕ) → differing xs ys ≡ differing ys xs

-- no more than there are
abbrev pub DifferingMost : Type 0
DifferingMost = (xs ys : List ℕ) → length xs ≡ length ys → differing xs ys ≤ length xs

-- part by part
abbrev pub DifferingAppend : Type 0
DifferingAppend =
    (xs ys xs' ys' : List ℕ) → length xs ≡ length ys
    → differing (xs ++ xs') (ys ++ ys') ≡ differing xs ys + differing xs' ys'

-- ---- checksums

-- the checksum of a short block as loaded is that of its own bytes
abbrev pub ChecksumLoaded : Type 0
ChecksumLoaded = (bs : List ℕ) → checksum (as_loaded bs) ≡ checksum bs

-- ---- blocks of an image of n bytes

-- a block has 1 to 32 bytes, and they lie inside the image
pub record Inside (n s k : ℕ) : Type 0 where
  pub some : 1 ≤ k
  pub most : k ≤ block_size
  pub end : s + k ≤ n

abbrev pub BlockInside : Type 0
BlockInside = (l : Layout) (n i b s k : ℕ) → find_block l n i b ≡ found s k → Inside n s k

-- a block exists exactly if its lookup in an image of the layout finds it
abbrev pub ExistsFound : Type 0
ExistsFound =
    (l : Layout) (n i b : ℕ) → fits l n ≡ true
    → block_exists l i b ≡ if_found (find_block l n i b) (λ s k. true) (λ e. false)

-- two blocks that differ in class or in number do not overlap
abbrev pub BlocksApart : Type 0
BlocksApart =
    (l : Layout) (n i b s k i' b' s' k' : ℕ) → find_block l n i b ≡ found s k
    → find_block l n i' b' ≡ found s' k'
    → ((i ≡ i') × (b ≡ b') → ⊥) → (s + k ≤ s') ⊎ (s' + k' ≤ s)

-- a block is as long as its lookup says
abbrev pub BlockLength : Type 0
BlockLength =
    (l : Layout) (image : List ℕ) (i b : ℕ)
    → length (block_bytes l image i b) ≡ length_of (find_block l (length image) i b)

-- a refused request gives an empty part, and no other does: the number of the lookup tells the two
-- apart
abbrev pub BlockEmpty : Type 0
BlockEmpty =
    (l : Layout) (image : List ℕ) (i b : ℕ)
    → (block_bytes l image i b ≡ []) ↔ (error_of (find_block l (length image) i b) ≡ 0 → ⊥)

-- a block as loaded fills the window
abbrev pub LoadedLength : Type 0
LoadedLength = (l : Layout) (image : List ℕ) (i b : ℕ) → length (as_loaded (block_bytes l image i b)) ≡ block_size

-- ---- the image after a store of a window w into block b of class i

-- it is as long as before
abbrev pub StoreLength : Type 0
StoreLength =
    (l : Layout) (image : List ℕ) (i b : ℕ) (w : List ℕ) → length w ≡ block_size
    → length (store_block l image i b w) ≡ length image

-- the block is the window's first bytes, as many as the block has
abbrev pub StoreHere : Type 0
StoreHere =
    (l : Layout) (image : List ℕ) (i b : ℕ) (w : List ℕ) → length w ≡ block_size
    → block_bytes l (store_block l image i b w) i b ≡ take (length_of (find_block l (length image) i b)) w

-- byte j is one of those that a lookup found; none is where it was refused
abbrev pub Within : Lookup → ℕ → Type 0
Within a j = (start_of a ≤ j) × (j < start_of a + length_of a)

-- every byte outside the block is what it was
abbrev pub StoreOutside : Type 0
StoreOutside =
    (l : Layout) (image : List ℕ) (i b : ℕ) (w : List ℕ) → length w ≡ block_size
    → (j : ℕ) → (Within (find_block l (length image) i b) j → ⊥) → get_or (store_block l image i b w) j 0 ≡ get_or image j 0

-- so is every other block
abbrev pub StoreElsewhere : Type 0
StoreElsewhere =
    (l : Layout) (image : List ℕ) (i b : ℕ) (w : List ℕ) → length w ≡ block_size → (i' b' : ℕ)
    → ((i ≡ i') × (b ≡ b') → ⊥)
    → block_bytes l (store_block l image i b w) i' b' ≡ block_bytes l image i' b'

-- C-12: it differs from what it was in as many bytes as the block does from the window's first
-- ones; the window's bytes past a short block do not count
abbrev pub StoreDiffering : Type 0
StoreDiffering =
    (l : Layout) (image : List ℕ) (i b : ℕ) (w : List ℕ) → length w ≡ block_size
    → let bs = block_bytes l image i b in
    differing image (store_block l image i b w) ≡ differing bs (take (length bs) w)

-- so in no more bytes than a block has
abbrev pub StoreMost : Type 0
StoreMost =
    (l : Layout) (image : List ℕ) (i b : ℕ) (w : List ℕ) → length w ≡ block_size
    → differing image (store_block l image i b w) ≤ block_size

-- a block as loaded, with bytes put in its window from byte o on, and stored: the image has them
-- there, and is else what it was
abbrev pub StoreEdited : Type 0
StoreEdited =
    (l : Layout) (image : List ℕ) (i b s k : ℕ) → find_block l (length image) i b ≡ found s k
    → (o : ℕ) (bs : List ℕ) → o + length bs ≤ k
    → store_block l image i b (sets (as_loaded (block_bytes l image i b)) o bs) ≡ sets image (s + o) bs

-- ---- blocks that every valid layout has

-- the three manufacturer info blocks, of 32 bytes each
abbrev pub InfoBlocks : Type 0
InfoBlocks = (l : Layout) (b : ℕ) → valid l ≡ true → b < 3 → length_of (find_block l (size l) info_class b) ≡ block_size

-- the block that holds the keys
abbrev pub KeyBlock : Type 0
KeyBlock = (l : Layout) → valid l ≡ true → min_key_length ≤ length_of (find_block l (size l) key_class 0)

-- ---- layouts that mean the same

-- two layouts with one count and the same classes; what stands past the count means nothing
pub record SameClasses (l l' : Layout) : Type 0 where
  pub count : l.count ≡ l'.count
  pub classes : classes l ≡ classes l'

-- the test for it
abbrev pub SameTest : Type 0
SameTest = (l l' : Layout) → (same_layout l l' ≡ true) ↔ SameClasses l l'

-- no rule tells them apart
pub record SameLookups (l l' : Layout) : Type 0 where
  pub valid : valid l ≡ valid l'
  pub fits : (n : ℕ) → fits l n ≡ fits l' n
  pub class : (i : ℕ) → find_class l i ≡ find_class l' i
  pub block : (n i b : ℕ) → find_block l n i b ≡ find_block l' n i b
  pub exists : (i b : ℕ) → block_exists l i b ≡ block_exists l' i b

abbrev pub SameLayout : Type 0
SameLayout = (l l' : Layout) → SameClasses l l' → SameLookups l l'
