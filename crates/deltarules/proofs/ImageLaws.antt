-- Laws of the runs of all classes, class by class: a class is looked up where its bytes are
-- compared.
use Prim.Native.Nat.{ℕ, ◌+◌, ◌≤◌}
use mathlib.Core.Path.{◌≡◌, refl, sym, ap, ◌∙◌}
use mathlib.Core.Logic.{inl}
use mathlib.Core.Bool.{true, cond}
use mathlib.Core.List.{List, [], ◌∷◌}
use native.Mathlib.Nat.{add-zero, zero-add}
use native.Mathlib.Omega.{arith}
use lib.Dec.{eqb}
use lib.ListN.{length, get_or, take, drop}
use lib.Seq.{drop-drop}
use borrow.Author.Tests.{eq-eqb, ne_eqb, eqb-true, eqb-false, leb-true}
use Rattle.flashrules.specs.Answer.{Lookup, found, length_of}
use Rattle.flashrules.specs.Layout.{Class, classes, size_of, locate, in_order, ordered, fits}
use Rattle.flashrules.specs.Lookup.{find_class}
use Rattle.flashrules.specs.Image.{part_of}
use Rattle.flashrules.specs.declared.layout.Layout.{Layout}
use Rattle.flashrules.proofs.Picks.{on_test, and_first, and_rest}
use Rattle.flashrules.proofs.LayoutLaws.{valid_parts, fits_parts}
use Rattle.flashrules.proofs.PartLaws.{part_length}
use Rattle.deltarules.specs.Run.{Run, class_runs, image_runs, runs}
use Rattle.deltarules.specs.Delta.{runs_with, Each, Ascending, Delta}
use Rattle.deltarules.specs.Laws.{Pair}
use Rattle.deltarules.proofs.EachLaws.{each_map, each_both, each_append, ascending_append, not_class, with_none, with_append}
use Rattle.deltarules.proofs.ClassLaws.{class_from, class_ascending, class_exact, RunIn, class_each}

-- ---- the order of the classes

module _ (lo : ℕ) (c : Class) (cs : List Class) (e : ordered lo (c ∷ cs) ≡ true) where
  pub first_above : lo ≤ c.id
  first_above = leb-true lo c.id (and_first _ _ (and_first (in_order lo c) _ e))

  pub rest_ordered : ordered (c.id + 1) cs ≡ true
  rest_ordered = and_rest (in_order lo c) _ e

-- the runs of classes that begin at lo are of classes from there on
pub image_above : (lo : ℕ) (cs : List Class) (old new : List ℕ) → ordered lo cs ≡ true → Each (λ r. lo ≤ r.class) (image_runs cs old new)
image_above lo [] old new e = tt
image_above lo (c ∷ cs) old new e =
    let xs = take c.len old in
    let ys = take c.len new in
    let h = first_above lo c cs e in
    each_append (λ r. lo ≤ r.class) (class_runs c.id 0 xs ys) (image_runs cs (drop c.len old) (drop c.len new))
    (each_map (λ r f. omega (arith, f.0)) (class_runs c.id 0 xs ys) (class_from c.id 0 xs ys))
    (each_map (λ r f. omega arith) (image_runs cs (drop c.len old) (drop c.len new)) (image_above (c.id + 1) cs (drop c.len old) (drop c.len new) (rest_ordered lo c cs e)))

pub image_ascending : (lo : ℕ) (cs : List Class) (old new : List ℕ) → ordered lo cs ≡ true → Ascending (image_runs cs old new)
image_ascending lo [] old new e = tt
image_ascending lo (c ∷ cs) old new e =
    let rs = class_runs c.id 0 (take c.len old) (take c.len new) in
    let rs' = image_runs cs (drop c.len old) (drop c.len new) in
    let xs = take c.len old in
    let ys = take c.len new in
    let o = rest_ordered lo c cs e in
    let above = image_above (c.id + 1) cs (drop c.len old) (drop c.len new) o in
    ascending_append rs rs' (class_ascending c.id 0 xs ys) (image_ascending (c.id + 1) cs (drop c.len old) (drop c.len new) o)
    (each_map (λ r f. each_map (λ s g. inl (omega (arith, f.0))) rs' above) rs (class_from c.id 0 xs ys))

-- ---- where the bytes of a class are: the first of the classes starts at `at`

abbrev byte_of : List ℕ → Lookup → ℕ → ℕ
byte_of image a k = get_or (part_of image a) k 0

module _ (old new : List ℕ) (l : length old ≡ length new) where
  -- the bytes of the first class
  part_long : (at n : ℕ) → at + n ≤ length old → length (take n (drop at old)) ≡ length (take n (drop at new))
  part_long at n h = part_length old at n h ∙ sym (part_length new at n (omega arith))

  pub image_exact : (lo at : ℕ) (cs : List Class) → ordered lo cs ≡ true → at + size_of cs ≤ length old → (i k : ℕ)
      → runs_with i k (image_runs cs (drop at old) (drop at new)) ≡ cond (eqb (byte_of old (locate at cs i) k) (byte_of new (locate at cs i) k)) 0 1
  image_exact lo at [] e h i k = refl
  image_exact lo at (c ∷ cs) e h i k =
      let n = c.len in
      let rs = class_runs c.id 0 (take n (drop at old)) (take n (drop at new)) in
      let rs' = image_runs cs (drop n (drop at old)) (drop n (drop at new)) in
      let o = rest_ordered lo c cs e in
      let sum = with_append i k rs rs' in
      let above = image_above (c.id + 1) cs (drop n (drop at old)) (drop n (drop at new)) o in
      on_test (eqb c.id i)
      (λ t.
      let p = eqb-true c.id i t in
      let none : runs_with i k rs' ≡ 0 = with_none i k rs' (each_map (λ r f. not_class i k r (λ q. omega arith)) rs' above) in
      let here = class_exact c.id 0 (take n (drop at old)) (take n (drop at new)) (part_long at n (omega arith)) k in
      let z : 0 + k ≡ k = omega arith in
      rw t (sum ∙ rw none (add-zero (runs_with i k rs)) ∙ ap (λ (j : ℕ). runs_with j k rs) (sym p) ∙ rw z at here))
      (λ t.
      let p = eqb-false c.id i t in
      let none : runs_with i k rs ≡ 0 = with_none i k rs (each_map (λ r f. not_class i k r (λ q. p (sym f.0 ∙ q))) rs (class_from c.id 0 (take n (drop at old)) (take n (drop at new)))) in
      let there = image_exact (c.id + 1) (at + n) cs o (omega arith) i k in
      rw t (sum ∙ rw none (zero-add (runs_with i k rs')) ∙ rw (← drop-drop n at old, ← drop-drop n at new) at there))

  -- what is asked of a run, by where its class was found
  record RunAt (a : Lookup) (r : Run) : Type 0 where
    some : 1 ≤ length r.old
    inside : r.offset + length r.old ≤ length_of a
    old_bytes : r.old ≡ take (length r.old) (drop r.offset (part_of old a))
    new_bytes : r.new ≡ take (length r.old) (drop r.offset (part_of new a))
    before : (k : ℕ) → k + 1 ≡ r.offset → byte_of old a k ≡ byte_of new a k
    behind : let k = r.offset + length r.old in byte_of old a k ≡ byte_of new a k

  run_at : (at n : ℕ) (r : Run) → at + n ≤ length old → RunIn (take n (drop at old)) (take n (drop at new)) 0 r → RunAt (found at n) r
  run_at at n r h e = record {
    some = e.some;
    inside = omega (arith, e.inside, part_length old at n h);
    old_bytes = e.old_bytes;
    new_bytes = e.new_bytes;
    before = λ k p. e.before k (omega arith) p;
    behind = e.behind;
  }

  image_each : (lo at : ℕ) (cs : List Class) → ordered lo cs ≡ true → at + size_of cs ≤ length old
      → Each (λ r. RunAt (locate at cs r.class) r) (image_runs cs (drop at old) (drop at new))
  image_each lo at [] e h = tt
  image_each lo at (c ∷ cs) e h =
      let n = c.len in
      let xs = take n (drop at old) in
      let ys = take n (drop at new) in
      let rs = class_runs c.id 0 xs ys in
      let rs' = image_runs cs (drop n (drop at old)) (drop n (drop at new)) in
      let o = rest_ordered lo c cs e in
      let above = image_above (c.id + 1) cs (drop n (drop at old)) (drop n (drop at new)) o in
      let there = image_each (c.id + 1) (at + n) cs o (omega arith) in
      each_append (λ r. RunAt (locate at (c ∷ cs) r.class) r) rs rs'
      (each_both (λ r f g. rw (eq-eqb c.id r.class (sym f.0)) (run_at at n r (omega arith) g)) rs
      (class_from c.id 0 xs ys) (class_each c.id 0 xs ys xs ys refl refl (part_long at n (omega arith))))
      (each_both (λ r f g. rw (ne_eqb c.id r.class (λ q. omega arith)) g) rs' above (rw (← drop-drop n at old, ← drop-drop n at new) at there))

-- ---- the whole list

pub class_found : (l : Layout) (n i : ℕ) → fits l n ≡ true → find_class l i ≡ locate 0 (classes l) i
unfolding find_class
class_found l n i e = rw (fits_parts l n e).0

pub runs_delta : (l : Layout) (old new : List ℕ) → Pair l old new → Delta l old new (runs l old new)
unfolding runs
runs_delta l old new p =
    let f = fits_parts l (length old) p.first in
    let same : length old ≡ length new = f.1 ∙ sym (fits_parts l (length new) p.second).1 in
    let order = (valid_parts l f.0).order in
    let found : (i : ℕ) → find_class l i ≡ locate 0 (classes l) i = λ i. class_found l (length old) i p.first in
    record {
      each = each_map
          (λ r e. record {
            some = e.some;
            inside = rw (found r.class) e.inside;
            old_bytes = rw (found r.class) e.old_bytes;
            new_bytes = rw (found r.class) e.new_bytes;
            before = λ k q. rw (found r.class) (e.before k q);
            behind = rw (found r.class) e.behind;
          })
          (image_runs (classes l) old new) (image_each old new same 0 0 (classes l) order (omega (arith, f.1)));
      ascending = image_ascending 0 (classes l) old new order;
      exact = λ i k. rw (found i) (image_exact old new same 0 0 (classes l) order (omega (arith, f.1)) i k);
    }
