-- The image file: parsed, read and written. Document 01, "Image file", "Numbers of the refusals" 10
-- and 14, and the order there: "For writing a file: 10, 14. A file is read first to judge it, so a
-- 10 stores nothing; then 14."
use Rattle.std.specs.Prelude.{ℕ, Bool, cond, List, [], ◌∷◌, ltb, length}
use Rattle.std.proofs.lemmas.List.Edits.{sets}
use Rattle.flashrules.specs.Error.{malformed, short_buffer}
use Rattle.flashrules.specs.Outcome.{Outcome, outcome}
use Rattle.flashrules.specs.Choice.{and, same}
use Rattle.flashrules.specs.Layout.{fits, no_classes}
use Rattle.flashrules.specs.declared.layout.Layout.{Layout}
use Rattle.imagerules.specs.Text.{serialize_image}
use Rattle.imagerules.specs.Candidate.{Content, candidate}
use Rattle.imagerules.specs.Answer.{FileReadAnswer}
use Rattle.imagerules.specs.Answer.{FileWriteAnswer}

-- ---- parsing (document 01: a file is judged)

-- a candidate holds of a text: its layout and its bytes fit each other, and theirs is the text
unfoldable pub holds : Content → List ℕ → Bool
holds g x = and (fits g.layout (length g.bytes) ∷ same (serialize_image g.layout g.bytes) x ∷ [])

pub data ParsedImage : Type 0 where
  image_file : Layout → List ℕ → ParsedImage
  no_image_file : ParsedImage

-- 01: "Nothing else is accepted."
unfoldable pub parse_image : List ℕ → ParsedImage
parse_image x = cond (holds (candidate x) x) (image_file (candidate x).layout (candidate x).bytes) no_image_file

abbrev pub check_error : ParsedImage → ℕ
check_error (image_file l image) = 0
check_error no_image_file = malformed

-- ---- the calls

-- reading a text into a buffer. A refused read answers a layout of no classes, all zero
abbrev pub not_read : ℕ → FileReadAnswer
not_read e = record { error = e; layout = no_classes; length = 0 }

abbrev pub read_parsed : ParsedImage → List ℕ → Outcome FileReadAnswer (List ℕ)
read_parsed (image_file l image) buffer =
    cond (ltb (length buffer) (length image)) (outcome (not_read short_buffer) buffer)
    (outcome (record { error = 0; layout = l; length = length image }) (sets buffer 0 image))
read_parsed no_image_file buffer = outcome (not_read malformed) buffer

unfoldable pub read : List ℕ → List ℕ → Outcome FileReadAnswer (List ℕ)
read x buffer = read_parsed (parse_image x) buffer

-- writing a text into a buffer: 14 exactly where that is shorter than the whole text
abbrev pub not_written : ℕ → FileWriteAnswer
not_written e = record { error = e; length = 0 }

abbrev pub write_text : List ℕ → List ℕ → Outcome FileWriteAnswer (List ℕ)
write_text x buffer =
    cond (ltb (length buffer) (length x)) (outcome (not_written short_buffer) buffer)
    (outcome (record { error = 0; length = length x }) (sets buffer 0 x))

-- writing a layout and an image
unfoldable pub write : Layout → List ℕ → List ℕ → Outcome FileWriteAnswer (List ℕ)
write l image buffer =
    cond (fits l (length image)) (write_text (serialize_image l image) buffer) (outcome (not_written malformed) buffer)
