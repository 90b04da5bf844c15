-- What is claimed of the image file, beyond the definitions. proofs/Laws.antt has a proof of each
-- claim, under its name in small letters, with `_lem` behind it where a definition has that name.
--
-- `WrittenRead` and `AcceptedText` together say all that `parse_image` is, by `serialize_image` and
-- `fits` alone: specs/Candidate.antt need not be believed.
use Rattle.std.specs.Prelude.{ℕ, ◌≤◌, ◌≡◌, ◌↔◌, true, List, ◌++◌, length, take, replicate}
use Rattle.std.proofs.lemmas.List.Edits.{sets}
use Rattle.flashrules.specs.Outcome.{outcome}
use Rattle.flashrules.specs.Layout.{max_classes, classes, fits}
use Rattle.flashrules.specs.Lookup.{block_exists}
use Rattle.flashrules.specs.Image.{Bytes, block_bytes}
use Rattle.flashrules.specs.Laws.{SameClasses}
use Rattle.flashrules.specs.declared.layout.Layout.{Layout}
use Rattle.imagerules.specs.Text.{line, serialize_image, text_length, max_text}
use Rattle.imagerules.specs.File.{image_file, parse_image, check_error, read, write}

-- ---- layouts and images

-- what the types of the code say of a layout and an image, and that the image is the layout's
pub record Fitting (l : Layout) (image : List ℕ) : Type 0 where
  pub ids : length l.ids ≡ max_classes
  pub lengths : length l.lengths ≡ max_classes
  pub classes : Bytes l.ids
  pub bytes : Bytes image
  pub fit : fits l (length image) ≡ true

-- an array's first n entries, and zeros
abbrev pub in_use : ℕ → List ℕ → List ℕ
in_use n xs = sets (replicate max_classes 0) 0 (take n xs)

-- the layout with zero in the entries that mean nothing
abbrev pub cleared : Layout → Layout
cleared l = record { count = l.count; ids = in_use l.count l.ids; lengths = in_use l.count l.lengths }

-- ---- the round trip, as to texts

-- what is written is read back the same
abbrev pub WrittenRead : Type 0
WrittenRead =
    (l : Layout) (image : List ℕ) → Fitting l image
    → parse_image (serialize_image l image) ≡ image_file (cleared l) image

-- a text is the text of this layout, clear where it means nothing, and this image
pub record IsText (l : Layout) (image x : List ℕ) : Type 0 where
  pub fitting : Fitting l image
  pub clear : cleared l ≡ l
  pub text : serialize_image l image ≡ x

-- what is accepted is written out as the very same text; a text is accepted as a layout and an
-- image exactly if it is their text
abbrev pub AcceptedText : Type 0
AcceptedText = (x : List ℕ) (l : Layout) (image : List ℕ) → (parse_image x ≡ image_file l image) ↔ IsText l image x

-- so `check` answers 0 exactly for the texts of layouts and images that fit each other
pub record TextOfSome (x : List ℕ) : Type 0 where
  pub layout : Layout
  pub image : List ℕ
  pub fitting : Fitting layout image
  pub text : serialize_image layout image ≡ x

abbrev pub CheckAccepts : Type 0
CheckAccepts = (x : List ℕ) → (check_error (parse_image x) ≡ 0) ↔ TextOfSome x

-- and a text is that of one layout and image only
abbrev pub OneOnly : Type 0
OneOnly =
    (l l' : Layout) (image image' : List ℕ) → Fitting l image → Fitting l' image'
    → serialize_image l image ≡ serialize_image l' image'
    → (cleared l ≡ cleared l') × (image ≡ image')

-- ---- the round trip, as to the calls and their buffers

-- a file that was written is read into any second buffer that has room: the whole outcome of the
-- second call
abbrev pub WriteThenRead : Type 0
WriteThenRead =
    (l : Layout) (image first second : List ℕ) → Fitting l image → let w = write l image first in
    w.answer.error ≡ 0 → length image ≤ length second
    → read (take w.answer.length w.lent) second
    ≡ outcome (record { error = 0; layout = cleared l; length = length image }) (sets second 0 image)

-- and a text that was read is written as the very same text
abbrev pub ReadThenWrite : Type 0
ReadThenWrite =
    (x first second : List ℕ) → let r = read x first in
    r.answer.error ≡ 0 → length x ≤ length second
    → write r.answer.layout (take r.answer.length r.lent) second
    ≡ outcome (record { error = 0; length = length x }) (sets second 0 x)

-- ---- blocks

-- a text with a part of it
pub record PartOf (part x : List ℕ) : Type 0 where
  pub before : List ℕ
  pub after : List ℕ
  pub whole : x ≡ before ++ (part ++ after)

-- every block of the layout has its line, with the bytes that a lookup hands out
abbrev pub BlockLine : Type 0
BlockLine =
    (l : Layout) (image : List ℕ) (i b : ℕ) → fits l (length image) ≡ true → block_exists l i b ≡ true
    → PartOf (line i b (block_bytes l image i b)) (serialize_image l image)

-- ---- lengths

abbrev pub TextLength : Type 0
TextLength =
    (l : Layout) (image : List ℕ) → fits l (length image) ≡ true
    → length (serialize_image l image) ≡ text_length (classes l)

-- no text is accepted that is longer than the longest: a host may cut a file there
abbrev pub AcceptedLength : Type 0
AcceptedLength = (x : List ℕ) → check_error (parse_image x) ≡ 0 → length x ≤ max_text

-- ---- layouts that mean the same

-- are written alike
abbrev pub SameText : Type 0
SameText = (l l' : Layout) → SameClasses l l' → (image buffer : List ℕ) → write l image buffer ≡ write l' image buffer
