-- The runs in which two images of one layout differ. Document 02, C-11.
use Rattle.std.specs.Prelude.{ℕ, ◌+◌, Bool, cond, List, [], ◌∷◌, ◌++◌, eqb, take, drop}
use Rattle.flashrules.specs.Layout.{Class, classes}
use Rattle.flashrules.specs.declared.layout.Layout.{Layout}

-- "runs, each with class, offset .., old bytes, new bytes"; the offset is that of its first byte in
-- the class
pub record Run : Type 0 where
  pub class : ℕ
  pub offset : ℕ
  pub old : List ℕ
  pub new : List ℕ

abbrev pub run : ℕ → ℕ → List ℕ → List ℕ → Run
run i o old new = record { class = i; offset = o; old = old; new = new }

-- whether a run begins right behind the byte at an offset
abbrev pub adjoins : ℕ → Run → Bool
adjoins o r = eqb r.offset (o + 1)

-- "Runs are as long as they can be": a differing byte, and the runs behind it. It goes in front of
-- the first of them where that begins right behind it, and else is a run of its own
abbrev pub prepend : ℕ → ℕ → ℕ → ℕ → List Run → List Run
prepend i o x y [] = run i o (x ∷ []) (y ∷ []) ∷ []
prepend i o x y (r ∷ rs) =
    cond (adjoins o r) (run i o (x ∷ r.old) (y ∷ r.new) ∷ rs) (run i o (x ∷ []) (y ∷ []) ∷ r ∷ rs)

-- the runs of class i: its bytes from offset o on, as they are in the one image and in the other
abbrev pub class_runs : ℕ → ℕ → List ℕ → List ℕ → List Run
class_runs i o [] ys = []
class_runs i o (x ∷ xs) [] = []
class_runs i o (x ∷ xs) (y ∷ ys) =
    cond (eqb x y) (class_runs i (o + 1) xs ys) (prepend i o x y (class_runs i (o + 1) xs ys))

-- ".. inside a class and never span two": class by class
abbrev pub image_runs : List Class → List ℕ → List ℕ → List Run
image_runs [] old new = []
image_runs (c ∷ cs) old new =
    class_runs c.id 0 (take c.len old) (take c.len new) ++ image_runs cs (drop c.len old) (drop c.len new)

-- the list: the runs between two images of a layout
unfoldable pub runs : Layout → List ℕ → List ℕ → List Run
runs l old new = image_runs (classes l) old new
