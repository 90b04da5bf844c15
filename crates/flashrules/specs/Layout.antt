-- Layouts. Document 01, "Layout and image", first point.
use Rattle.std.specs.Prelude.{ℕ, ◌+◌, Bool, true, false, cond, List, [], ◌∷◌, eqb, leb, take, replicate}
use Rattle.flashrules.specs.Answer.{Lookup, found, refused, length_of}
use Rattle.flashrules.specs.Choice.{and}
use Rattle.flashrules.specs.declared.layout.Layout.{Layout}
use Rattle.flashrules.specs.declared.error.Error.{Error}

-- ---- the numbers of the paper

abbrev pub max_classes : ℕ
max_classes = 32

abbrev pub max_class_length : ℕ
max_class_length = 512

abbrev pub max_image_length : ℕ
max_image_length = 4096

-- manufacturer info: the class of the manufacturer info blocks (document 01: manufacturer blocks A,
-- B, C)
abbrev pub info_class : ℕ
info_class = 58

abbrev pub info_length : ℕ
info_length = 96

-- the class that begins with the unseal key and the full access key
abbrev pub key_class : ℕ
key_class = 112

abbrev pub min_key_length : ℕ
min_key_length = 28

-- ---- the classes of a layout

pub record Class : Type 0 where
  pub id : ℕ
  pub len : ℕ

-- identifiers and lengths, entry by entry
abbrev pub paired : List ℕ → List ℕ → List Class
paired [] ns = []
paired (i ∷ is) [] = []
paired (i ∷ is) (n ∷ ns) = record { id = i; len = n } ∷ paired is ns

-- the first `count` entries; no other means anything
unfoldable pub classes : Layout → List Class
classes l = take l.count (paired l.ids l.lengths)

-- how many bytes classes have together
abbrev pub size_of : List Class → ℕ
size_of [] = 0
size_of (c ∷ cs) = c.len + size_of cs

-- how many bytes the image of a layout has
abbrev pub size : Layout → ℕ
size l = size_of (classes l)

-- 01: "The image is the classes' bytes in that order, end to end." The class with an identifier,
-- where the first one starts at `at`
abbrev pub locate : ℕ → List Class → ℕ → Lookup
locate at [] i = refused Error.UnknownClass
locate at (c ∷ cs) i = cond (eqb c.id i) (found at c.len) (locate (at + c.len) cs i)

-- a layout of no classes, all zero
abbrev pub no_classes : Layout
no_classes = record { count = 0; ids = replicate max_classes 0; lengths = replicate max_classes 0 }

-- ---- which layouts are valid

-- 01: "identifiers 0 to 255, strictly ascending, each 1 to 512 bytes long". The next identifier is
-- at least lo; 0 to 255 is the type of an entry
abbrev pub in_order : ℕ → Class → Bool
in_order lo c = and (leb lo c.id ∷ leb 1 c.len ∷ leb c.len max_class_length ∷ [])

abbrev pub ordered : ℕ → List Class → Bool
ordered lo [] = true
ordered lo (c ∷ cs) = cond (in_order lo c) (ordered (c.id + 1) cs) false

-- how long the class with an identifier is, 0 where there is none
abbrev pub length_in : Layout → ℕ → ℕ
length_in l i = length_of (locate 0 (classes l) i)

-- 01: "Class 58 is present with exactly 96 bytes. Class 112 is present with at least 28."
abbrev pub has_fixed_classes : Layout → Bool
has_fixed_classes l = and (eqb (length_in l info_class) info_length ∷ leb min_key_length (length_in l key_class) ∷ [])

-- 01: "A layout is 1 to 32 classes, identifiers .., 4,096 bytes together at most. Class 58 .. Class
-- 112 .."
unfoldable pub valid : Layout → Bool
valid l =
    and
    (leb 1 l.count
    ∷ leb l.count max_classes
    ∷ ordered 0 (classes l)
    ∷ leb (size l) max_image_length
    ∷ has_fixed_classes l
    ∷ [])

-- refusal 10: "layout breaks its rules, or image length differs from it"
unfoldable pub fits : Layout → ℕ → Bool
fits l n = and (valid l ∷ eqb n (size l) ∷ [])

-- ---- two layouts

abbrev pub same_classes : List Class → List Class → Bool
same_classes [] [] = true
same_classes [] (d ∷ ds) = false
same_classes (c ∷ cs) [] = false
same_classes (c ∷ cs) (d ∷ ds) = and (eqb c.id d.id ∷ eqb c.len d.len ∷ same_classes cs ds ∷ [])

-- 02, C-11: "layouts differ" where they have another count, identifier or length
unfoldable pub same_layout : Layout → Layout → Bool
same_layout l l' = and (eqb l.count l'.count ∷ same_classes (classes l) (classes l') ∷ [])
