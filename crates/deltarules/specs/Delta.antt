-- What document 02 asks of a list of runs between two images, sentence by sentence, without a word
-- on how the list is made. specs/Laws.antt claims that exactly one list has all of it.
use Rattle.std.specs.Prelude.{ℕ, ◌+◌, ◌≤◌, ◌<◌, ◌≡◌, ◌⊎◌, Bool, cond, List, [], ◌∷◌, map, eqb, leb, ltb, length, get_or, take, drop}
use Rattle.std.proofs.lemmas.List.Edits.{sets}
use Rattle.flashrules.specs.Choice.{and}
use Rattle.flashrules.specs.Answer.{start_of, length_of}
use Rattle.flashrules.specs.Lookup.{find_class}
use Rattle.flashrules.specs.Image.{part_of}
use Rattle.flashrules.specs.declared.layout.Layout.{Layout}
use Rattle.deltarules.specs.Run.{Run, run}

-- the bytes of a class; none where the layout does not have it
abbrev pub class_bytes : Layout → List ℕ → ℕ → List ℕ
class_bytes l image i = part_of image (find_class l i)

-- byte k of class i; 0 in every image where the class has none
abbrev pub byte_at : Layout → List ℕ → ℕ → ℕ → ℕ
byte_at l image i k = get_or (class_bytes l image i) k 0

-- ---- which bytes are in a run

abbrev pub in_run : ℕ → ℕ → Run → Bool
in_run i k r = and (eqb r.class i ∷ leb r.offset k ∷ ltb k (r.offset + length r.old) ∷ [])

-- in how many runs of a list byte k of class i is
abbrev pub runs_with : ℕ → ℕ → List Run → ℕ
runs_with i k [] = 0
runs_with i k (r ∷ rs) = cond (in_run i k r) 1 0 + runs_with i k rs

-- how many bytes the runs have together
abbrev pub run_bytes : List Run → ℕ
run_bytes [] = 0
run_bytes (r ∷ rs) = length r.old + run_bytes rs

-- ---- one run

-- something holds of each run of a list
abbrev pub Each : (Run → Type 0) → List Run → Type 0
Each P [] = Unit
Each P (r ∷ rs) = P r × Each P rs

-- a run has at least one byte, lies inside its class, has the bytes of the two images there, and is
-- as long as it can be: the bytes before and behind it are equal, where the class has them
pub record RunOf (l : Layout) (old new : List ℕ) (r : Run) : Type 0 where
  pub some : 1 ≤ length r.old
  pub inside : r.offset + length r.old ≤ length_of (find_class l r.class)
  pub old_bytes : r.old ≡ take (length r.old) (drop r.offset (class_bytes l old r.class))
  pub new_bytes : r.new ≡ take (length r.old) (drop r.offset (class_bytes l new r.class))
  pub before : (k : ℕ) → k + 1 ≡ r.offset → byte_at l old r.class k ≡ byte_at l new r.class k
  pub behind : let k = r.offset + length r.old in byte_at l old r.class k ≡ byte_at l new r.class k

-- ---- all runs

-- "ascending": by class, and in a class by offset
abbrev pub Below : Run → Run → Type 0
Below r r' = (r.class < r'.class) ⊎ ((r.class ≡ r'.class) × (r.offset < r'.offset))

abbrev pub Ascending : List Run → Type 0
Ascending [] = Unit
Ascending (r ∷ rs) = Each (Below r) rs × Ascending rs

-- "Every differing byte is in exactly one run and no equal byte is in any."
pub record Delta (l : Layout) (old new : List ℕ) (rs : List Run) : Type 0 where
  pub each : Each (RunOf l old new) rs
  pub ascending : Ascending rs
  pub exact : (i k : ℕ) → runs_with i k rs ≡ cond (eqb (byte_at l old i k) (byte_at l new i k)) 0 1

-- ---- "Laying the runs over" an image

-- the new bytes of a run, in place of what the image has there
abbrev pub patch : Layout → List ℕ → Run → List ℕ
patch l image r = sets image (start_of (find_class l r.class) + r.offset) r.new

abbrev pub patch_all : Layout → List ℕ → List Run → List ℕ
patch_all l image [] = image
patch_all l image (r ∷ rs) = patch_all l (patch l image r) rs

-- old and new exchanged
abbrev pub exchanged : Run → Run
exchanged r = run r.class r.offset r.new r.old

abbrev pub exchanged_all : List Run → List Run
exchanged_all rs = map exchanged rs
