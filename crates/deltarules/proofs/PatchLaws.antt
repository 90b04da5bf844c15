-- Laws of an image with runs laid over it: class by class they make the one image the other.
use Prim.Native.Nat.{ℕ, suc, ◌+◌, ◌≤◌}
use mathlib.Core.Path.{◌≡◌, refl, sym, ap, ◌∙◌}
use mathlib.Core.Bool.{true}
use mathlib.Core.List.{List, [], ◌∷◌, ◌++◌, append_assoc}
use native.Mathlib.Omega.{arith}
use lib.Dec.{eqb}
use lib.ListN.{length, take, drop, length-append, length-take, length-drop, take-append-drop}
use lib.Seq.{sets, set_at, length-take-le, take_all, append_snoc}
use borrow.Author.Tests.{eq-eqb, ne_eqb, eqb-true, eqb-false}
use Rattle.flashrules.specs.Answer.{start_of}
use Rattle.flashrules.specs.Layout.{Class, classes, size_of, locate, ordered}
use Rattle.flashrules.specs.Lookup.{find_class}
use Rattle.flashrules.specs.declared.layout.Layout.{Layout}
use Rattle.flashrules.proofs.Picks.{on_test, on_cond}
use Rattle.flashrules.proofs.LayoutLaws.{valid_parts, fits_parts}
use Rattle.deltarules.specs.Run.{Run, adjoins, prepend, class_runs, image_runs, runs}
use Rattle.deltarules.specs.Delta.{Each, patch, patch_all, exchanged, exchanged_all}
use Rattle.deltarules.specs.Laws.{PatchedNew, PatchedOld, RunsNone}
use Rattle.deltarules.proofs.ClassLaws.{adjoins_true, From, class_from}
use Rattle.deltarules.proofs.ImageLaws.{first_above, rest_ordered, class_found}

patch_append : (l : Layout) (image : List ℕ) (rs ss : List Run) → patch_all l image (rs ++ ss) ≡ patch_all l (patch_all l image rs) ss
patch_append l image [] ss = refl
patch_append l image (r ∷ rs) ss = patch_append l (patch l image r) rs ss

-- ---- one class, which starts at `at`

module _ (l : Layout) (i at : ℕ) (start : start_of (find_class l i) ≡ at) where
  -- a differing byte is put in its place, and then the runs behind it
  prepend_patched : (o x y : ℕ) (image : List ℕ) (rs : List Run) → Each (From i (o + 1)) rs
      → patch_all l image (prepend i o x y rs) ≡ patch_all l (sets image (at + o) (y ∷ [])) rs
  prepend_patched o x y image [] f = rw start
  prepend_patched o x y image (r ∷ rs) f =
      on_cond (λ (z : List Run). patch_all l image z ≡ patch_all l (sets image (at + o) (y ∷ [])) (r ∷ rs)) (adjoins o r) _ _
      (λ t.
      let b : start_of (find_class l r.class) + r.offset ≡ suc (at + o) = rw (f.0.0, start) (omega (arith, adjoins_true o r t)) in
      ap (λ (s : ℕ). patch_all l (sets image (s + o) (y ∷ r.new)) rs) start
      ∙ ap (λ (s : ℕ). patch_all l (sets (sets image (at + o) (y ∷ [])) s r.new) rs) (sym b))
      (λ t. ap (λ (s : ℕ). patch_all l (sets image (s + o) (y ∷ [])) (r ∷ rs)) start)

  -- bytes before and behind stay
  class_patched : (o : ℕ) (xs ys front rest : List ℕ) → length xs ≡ length ys → length front ≡ at + o
      → patch_all l (front ++ (xs ++ rest)) (class_runs i o xs ys) ≡ front ++ (ys ++ rest)
  class_patched o [] [] front rest h k = refl
  class_patched o [] (y ∷ ys) front rest h k = absurd (omega arith)
  class_patched o (x ∷ xs) [] front rest h k = absurd (omega arith)
  class_patched o (x ∷ xs) (y ∷ ys) front rest h k =
      let rs = class_runs i (o + 1) xs ys in
      let long : (z : ℕ) → length (front ++ (z ∷ [])) ≡ at + (o + 1) = λ z. length-append front (z ∷ []) ∙ omega (arith, k) in
      let then : patch_all l (front ++ (y ∷ (xs ++ rest))) rs ≡ front ++ (y ∷ (ys ++ rest)) =
      rw (← append_snoc front y (xs ++ rest), ← append_snoc front y (ys ++ rest)) (class_patched (o + 1) xs ys (front ++ (y ∷ [])) rest (omega arith) (long y)) in
      on_test (eqb x y) (λ t. rw (t, eqb-true x y t) then)
      (λ t. rw (t, prepend_patched o x y (front ++ (x ∷ (xs ++ rest))) rs (class_from i (o + 1) xs ys), set_at front x (xs ++ rest) y (at + o) k) then)

-- ---- all classes

-- where they start in the image
abbrev Starts : Layout → ℕ → List Class → Type 0
Starts l at [] = Unit {0}
Starts l at (c ∷ cs) = (start_of (find_class l c.id) ≡ at) × Starts l (at + c.len) cs

-- where the lookup of the layout goes by these classes, from one identifier on
starts : (l : Layout) (lo at : ℕ) (cs : List Class) → ordered lo cs ≡ true → ((i : ℕ) → lo ≤ i → find_class l i ≡ locate at cs i) → Starts l at cs
starts l lo at [] e f = tt
starts l lo at (c ∷ cs) e f = (
  rw (f c.id (first_above lo c cs e), eq-eqb c.id c.id refl),
  starts l (c.id + 1) (at + c.len) cs (rest_ordered lo c cs e) (λ i h. f i (omega (arith, first_above lo c cs e)) ∙ rw (ne_eqb c.id i (λ q. omega arith))),
)

image_patched : (l : Layout) (at : ℕ) (cs : List Class) (old new front : List ℕ) → Starts l at cs → length old ≡ size_of cs → length new ≡ size_of cs
    → length front ≡ at → patch_all l (front ++ old) (image_runs cs old new) ≡ front ++ new
image_patched l at [] old new front s h g k = rw (← take_all 0 old (omega arith), ← take_all 0 new (omega arith))
image_patched l at (c ∷ cs) old new front s h g k =
    let n = c.len in
    let xs = take n old in
    let ys = take n new in
    let m : length xs ≡ n = length-take-le n old (omega arith) in
    let m' : length ys ≡ n = length-take-le n new (omega arith) in
    let rs = class_runs c.id 0 xs ys in
    let rs' = image_runs cs (drop n old) (drop n new) in
    let first : patch_all l (front ++ (xs ++ drop n old)) rs ≡ front ++ (ys ++ drop n old) = class_patched l c.id at s.0 0 xs ys front (drop n old) (omega arith) (omega arith) in
    let rest : patch_all l (front ++ ys ++ drop n old) rs' ≡ front ++ ys ++ drop n new =
    image_patched l (at + n) cs (drop n old) (drop n new) (front ++ ys) s.1 (length-drop n old ∙ omega arith) (length-drop n new ∙ omega arith) (length-append front ys ∙ omega arith) in
    ap (λ (z : List ℕ). patch_all l (front ++ z) (rs ++ rs')) (sym (take-append-drop n old)) ∙ patch_append l (front ++ (xs ++ drop n old)) rs rs'
    ∙ ap (λ (z : List ℕ). patch_all l z rs') (first ∙ sym (append_assoc front ys (drop n old))) ∙ rest ∙ append_assoc front ys (drop n new) ∙ ap (λ (z : List ℕ). front ++ z) (take-append-drop n new)

pub patched_new : PatchedNew
unfolding runs
patched_new l old new p =
    let f = fits_parts l (length old) p.first in
    let g = fits_parts l (length new) p.second in
    image_patched l 0 (classes l) old new [] (starts l 0 0 (classes l) (valid_parts l f.0).order (λ i h. class_found l (length old) i p.first)) f.1 g.1 refl

-- ---- old and new exchanged

prepend_exchanged : (i o x y : ℕ) (rs : List Run) → exchanged_all (prepend i o x y rs) ≡ prepend i o y x (exchanged_all rs)
prepend_exchanged i o x y [] = refl
prepend_exchanged i o x y (r ∷ rs) = on_test (adjoins o r) (λ t. rw t) (λ t. rw t)

class_exchanged : (i o : ℕ) (xs ys : List ℕ) → length xs ≡ length ys → exchanged_all (class_runs i o xs ys) ≡ class_runs i o ys xs
class_exchanged i o [] [] h = refl
class_exchanged i o [] (y ∷ ys) h = refl
class_exchanged i o (x ∷ xs) [] h = refl
class_exchanged i o (x ∷ xs) (y ∷ ys) h =
    let ih = class_exchanged i (o + 1) xs ys (omega arith) in
    on_test (eqb x y)
    (λ t. rw (t, eq-eqb y x (sym (eqb-true x y t))) ih)
    (λ t. rw (t, ne_eqb y x (λ e. eqb-false x y t (sym e)), prepend_exchanged i o x y (class_runs i (o + 1) xs ys), ih))

exchanged_append : (rs ss : List Run) → exchanged_all (rs ++ ss) ≡ exchanged_all rs ++ exchanged_all ss
exchanged_append [] ss = refl
exchanged_append (r ∷ rs) ss = ap (λ (z : List Run). exchanged r ∷ z) (exchanged_append rs ss)

image_exchanged : (cs : List Class) (old new : List ℕ) → length old ≡ length new → exchanged_all (image_runs cs old new) ≡ image_runs cs new old
image_exchanged [] old new h = refl
image_exchanged (c ∷ cs) old new h =
    let n = c.len in
    rw (
      exchanged_append (class_runs c.id 0 (take n old) (take n new)) (image_runs cs (drop n old) (drop n new)),
      class_exchanged c.id 0 (take n old) (take n new) (length-take n old ∙ rw h (sym (length-take n new))),
      image_exchanged cs (drop n old) (drop n new) (length-drop n old ∙ rw h (sym (length-drop n new))),
    )

pub patched_old : PatchedOld
unfolding runs
patched_old l old new p =
    let same : length old ≡ length new = (fits_parts l (length old) p.first).1 ∙ sym (fits_parts l (length new) p.second).1 in
    rw (image_exchanged (classes l) old new same) (patched_new l new old (record { first = p.second; second = p.first }))

-- ---- equal images

class_self : (i o : ℕ) (xs : List ℕ) → class_runs i o xs xs ≡ []
class_self i o [] = refl
class_self i o (x ∷ xs) = rw (eq-eqb x x refl) (class_self i (o + 1) xs)

image_self : (cs : List Class) (image : List ℕ) → image_runs cs image image ≡ []
image_self [] image = refl
image_self (c ∷ cs) image = rw (class_self c.id 0 (take c.len image)) (image_self cs (drop c.len image))

pub runs_none : RunsNone
unfolding runs
runs_none l old new p = (λ e. rw e at (patched_new l old new p), λ e. rw e (image_self (classes l) new))
