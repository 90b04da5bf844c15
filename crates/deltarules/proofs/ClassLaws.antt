-- Laws of the runs of one class, over its bytes from an offset o on: they rise from there, have
-- each differing byte once, and are as long as they can be.
use Prim.Native.Nat.{ℕ, zero, suc, ◌+◌, ◌-◌, ◌≤◌, ◌<◌}
use mathlib.Core.Path.{◌≡◌, refl, sym, ap, ◌∙◌}
use mathlib.Core.Logic.{inr}
use mathlib.Core.Bool.{true, false, cond}
use mathlib.Core.List.{List, [], ◌∷◌}
use native.Mathlib.Omega.{arith}
use native.Mathlib.Decide.{dec_lt}
use lib.Dec.{eqb}
use lib.ListN.{length, get_or, take, drop, length-drop}
use lib.Seq.{drop-drop, get_or-drop}
use borrow.Author.Tests.{eqb-true, eqb-false}
use Rattle.flashrules.proofs.Picks.{on_test, on_cond, and_first}
use Rattle.deltarules.specs.Run.{Run, run, adjoins, prepend, class_runs}
use Rattle.deltarules.specs.Delta.{runs_with, Each, Ascending}
use Rattle.deltarules.proofs.EachLaws.{each_map, each_both, in_run_lem, not_before, not_behind, with_none}

-- ---- whether a run begins right behind a byte

module _ (o : ℕ) (r : Run) where
  pub adjoins_true : adjoins o r ≡ true → r.offset ≡ o + 1
  adjoins_true t = search (eqb-true, and_first)

  pub adjoins_false : adjoins o r ≡ false → r.offset ≡ o + 1 → ⊥
  adjoins_false t = search eqb-false

-- ---- the order

-- runs of class i, each behind the first byte of the one before it, and the first at o or behind it
abbrev Rising : ℕ → ℕ → List Run → Type 0
Rising i o [] = Unit {0}
Rising i o (r ∷ rs) = (r.class ≡ i) × (o ≤ r.offset) × Rising i (r.offset + 1) rs

rising_lower : (i o o' : ℕ) (rs : List Run) → o ≤ o' → Rising i o' rs → Rising i o rs
rising_lower i o o' [] h e = tt
rising_lower i o o' (r ∷ rs) h e = (e.0, omega (arith, e.1), e.2)

prepend_rising : (i o x y : ℕ) (rs : List Run) → Rising i (o + 1) rs → Rising i o (prepend i o x y rs)
prepend_rising i o x y [] e = (refl, omega arith, tt)
prepend_rising i o x y (r ∷ rs) e =
    on_cond (Rising i o) (adjoins o r) _ _
    (λ p. (refl, omega arith, rising_lower i (o + 1) (r.offset + 1) rs (omega (arith, e.1)) e.2))
    (λ p. (refl, omega arith, e))

class_rising : (i o : ℕ) (xs ys : List ℕ) → Rising i o (class_runs i o xs ys)
class_rising i o [] ys = tt
class_rising i o (x ∷ xs) [] = tt
class_rising i o (x ∷ xs) (y ∷ ys) =
    let h = class_rising i (o + 1) xs ys in
    on_cond (Rising i o) (eqb x y) _ _ (λ p. rising_lower i o (o + 1) (class_runs i (o + 1) xs ys) (omega arith) h) (λ p. prepend_rising i o x y (class_runs i (o + 1) xs ys) h)

-- a run of class i from o on
abbrev pub From : ℕ → ℕ → Run → Type 0
From i o r = (r.class ≡ i) × (o ≤ r.offset)

rising_from : (i o : ℕ) (rs : List Run) → Rising i o rs → Each (From i o) rs
rising_from i o [] e = tt
rising_from i o (r ∷ rs) e =
    ((e.0, e.1), each_map (λ s f. (f.0, omega (arith, f.1, e.1))) rs (rising_from i (r.offset + 1) rs e.2))

pub class_from : (i o : ℕ) (xs ys : List ℕ) → Each (From i o) (class_runs i o xs ys)
class_from i o xs ys = rising_from i o (class_runs i o xs ys) (class_rising i o xs ys)

rising_ascending : (i o : ℕ) (rs : List Run) → Rising i o rs → Ascending rs
rising_ascending i o [] e = tt
rising_ascending i o (r ∷ rs) e =
    (each_map (λ s f. inr (e.0 ∙ sym f.0, omega (arith, f.1))) rs (rising_from i (r.offset + 1) rs e.2), rising_ascending i (r.offset + 1) rs e.2)

pub class_ascending : (i o : ℕ) (xs ys : List ℕ) → Ascending (class_runs i o xs ys)
class_ascending i o xs ys = rising_ascending i o (class_runs i o xs ys) (class_rising i o xs ys)

-- ---- which bytes are in them

-- none before o
with_before : (i o k : ℕ) (rs : List Run) → Rising i o rs → k < o → runs_with i k rs ≡ 0
with_before i o k rs e h = with_none i k rs (each_map (λ r f. not_before i k r (omega (arith, f.1))) rs (rising_from i o rs e))

-- the byte that is put in front is in one
prepend_here : (i o x y : ℕ) (rs : List Run) → Rising i (o + 1) rs → runs_with i o (prepend i o x y rs) ≡ 1
prepend_here i o x y [] e = rw (in_run_lem i o (run i o (x ∷ []) (y ∷ [])) refl (omega arith) (omega arith))
prepend_here i o x y (r ∷ rs) e =
    on_cond (λ (z : List Run). runs_with i o z ≡ 1) (adjoins o r) _ _
    (λ p. rw (in_run_lem i o (run i o (x ∷ r.old) (y ∷ r.new)) refl (omega arith) (omega arith), with_before i (r.offset + 1) o rs e.2 (omega (arith, e.1))))
    (λ p. rw (in_run_lem i o (run i o (x ∷ []) (y ∷ [])) refl (omega arith) (omega arith), with_before i (o + 1) o (r ∷ rs) e (omega arith)))

-- and the others are where they were
prepend_there : (i o x y k : ℕ) (rs : List Run) → Rising i (o + 1) rs → o < k → runs_with i k (prepend i o x y rs) ≡ runs_with i k rs
prepend_there i o x y k [] e h = rw (not_behind i k (run i o (x ∷ []) (y ∷ [])) (omega arith))
prepend_there i o x y k (r ∷ rs) e h =
    on_cond (λ (z : List Run). runs_with i k z ≡ runs_with i k (r ∷ rs)) (adjoins o r) _ _
    (λ p. let q = adjoins_true o r p in
    elim (dec_lt k (r.offset + length r.old)) [
      | yes g ↦ rw (in_run_lem i k (run i o (x ∷ r.old) (y ∷ r.new)) refl (omega arith) (omega arith), in_run_lem i k r e.0 (omega arith) g)
      | no g ↦ rw (not_behind i k (run i o (x ∷ r.old) (y ∷ r.new)) (omega arith), not_behind i k r (omega arith))
    ])
    (λ p. rw (not_behind i k (run i o (x ∷ []) (y ∷ [])) (omega arith)) (omega arith))

-- a byte is in exactly one run where it differs, and else in none
pub class_exact : (i o : ℕ) (xs ys : List ℕ) → length xs ≡ length ys → (j : ℕ)
    → runs_with i (o + j) (class_runs i o xs ys) ≡ cond (eqb (get_or xs j 0) (get_or ys j 0)) 0 1
class_exact i o [] [] l j = refl
class_exact i o [] (y ∷ ys) l j = absurd (omega arith)
class_exact i o (x ∷ xs) [] l j = absurd (omega arith)
class_exact i o (x ∷ xs) (y ∷ ys) l zero =
    let rs = class_runs i (o + 1) xs ys in
    let h = class_rising i (o + 1) xs ys in
    let z : o + 0 ≡ o = omega arith in
    on_test (eqb x y) (λ p. rw (p, z) (with_before i (o + 1) o rs h (omega arith))) (λ p. rw (p, z) (prepend_here i o x y rs h))
class_exact i o (x ∷ xs) (y ∷ ys) l (suc j) =
    let rs = class_runs i (o + 1) xs ys in
    let h = class_rising i (o + 1) xs ys in
    let z : o + suc j ≡ o + 1 + j = omega arith in
    let ih = class_exact i (o + 1) xs ys (omega arith) j in
    on_test (eqb x y) (λ p. rw (p, z) ih) (λ p. rw (p, z, prepend_there i o x y (o + 1 + j) rs h (omega arith)) ih)

-- ---- each run

-- one of a class whose bytes are X in the one image and Y in the other, as far as the bytes from o
-- on say
pub record RunIn (X Y : List ℕ) (o : ℕ) (r : Run) : Type 0 where
  pub some : 1 ≤ length r.old
  pub inside : r.offset + length r.old ≤ length X
  pub old_bytes : r.old ≡ take (length r.old) (drop r.offset X)
  pub new_bytes : r.new ≡ take (length r.old) (drop r.offset Y)
  pub before : (k : ℕ) → o ≤ k → k + 1 ≡ r.offset → get_or X k 0 ≡ get_or Y k 0
  pub behind : let k = r.offset + length r.old in get_or X k 0 ≡ get_or Y k 0

-- what the bytes from o on are, where the first of them is x
next_byte : (X xs : List ℕ) (o x : ℕ) → drop o X ≡ x ∷ xs → get_or X o 0 ≡ x
next_byte X xs o x p = let z : o ≡ o + 0 = omega arith in ap (λ (k : ℕ). get_or X k 0) z ∙ sym (get_or-drop o X 0 0) ∙ rw p

next_rest : (X xs : List ℕ) (o x : ℕ) → drop o X ≡ x ∷ xs → drop (o + 1) X ≡ xs
next_rest X xs o x p = sym (drop-drop 1 o X) ∙ rw p

module _ (X Y : List ℕ) (o : ℕ) where
  -- a byte more in front, which is equal, or which no run begins behind
  lower_equal : (r : Run) → get_or X o 0 ≡ get_or Y o 0 → RunIn X Y (o + 1) r → RunIn X Y o r
  lower_equal r q e = record {
    some = e.some;
    inside = e.inside;
    old_bytes = e.old_bytes;
    new_bytes = e.new_bytes;
    before = λ k h p. elim (dec_lt o k) [ yes g ↦ e.before k (omega arith) p | no g ↦ let z : k ≡ o = omega arith in rw z q ];
    behind = e.behind;
  }

  lower_apart : (r : Run) → o + 1 < r.offset → RunIn X Y (o + 1) r → RunIn X Y o r
  lower_apart r h e = record {
    some = e.some;
    inside = e.inside;
    old_bytes = e.old_bytes;
    new_bytes = e.new_bytes;
    before = λ k g p. e.before k (omega arith) p;
    behind = e.behind;
  }

-- a differing byte in front of the runs behind it: X and Y from o on begin with it
module _ (i o x y : ℕ) (X Y xs ys : List ℕ) (p : drop o X ≡ x ∷ xs) (q : drop o Y ≡ y ∷ ys) (l : length X ≡ length Y) where
  long : length X ≡ o + suc (length xs)
  long = let h : length X - o ≡ suc (length xs) = sym (length-drop o X) ∙ rw p in omega arith

  rest_long : length xs ≡ length ys
  rest_long = let h : length Y - o ≡ suc (length ys) = sym (length-drop o Y) ∙ rw q in omega (arith, long)

  -- a run of its own
  alone : get_or X (o + 1) 0 ≡ get_or Y (o + 1) 0 → RunIn X Y o (run i o (x ∷ []) (y ∷ []))
  alone e = record {
    some = omega arith;
    inside = omega (arith, long);
    old_bytes = rw p;
    new_bytes = rw q;
    before = λ k h g. absurd (omega arith);
    behind = e;
  }

  -- at the front of the run that begins right behind it
  ahead : (r : Run) → r.offset ≡ o + 1 → RunIn X Y (o + 1) r → RunIn X Y o (run i o (x ∷ r.old) (y ∷ r.new))
  ahead r b e =
      let k : o + suc (length r.old) ≡ r.offset + length r.old = omega arith in
      record {
        some = omega arith;
        inside = omega (arith, e.inside);
        old_bytes = rw p (ap (λ (z : List ℕ). x ∷ z) (e.old_bytes ∙ rw (b, next_rest X xs o x p)));
        new_bytes = rw q (ap (λ (z : List ℕ). y ∷ z) (e.new_bytes ∙ rw (b, next_rest Y ys o y q)));
        before = λ k h g. absurd (omega arith);
        behind = rw k e.behind;
      }

  -- where no run has the next byte, it is equal
  rest_equal : runs_with i (o + 1) (class_runs i (o + 1) xs ys) ≡ 0 → get_or X (o + 1) 0 ≡ get_or Y (o + 1) 0
  rest_equal e =
      let z : o + 1 + 0 ≡ o + 1 = omega arith in
      let c : ◌≡◌ {A = ℕ} (cond (eqb (get_or xs 0 0) (get_or ys 0 0)) 0 1) 0 = sym (class_exact i (o + 1) xs ys rest_long 0) ∙ rw z e in
      let first : get_or xs 0 0 ≡ get_or ys 0 0 = on_test (eqb (get_or xs 0 0) (get_or ys 0 0)) (λ t. eqb-true _ _ t) (λ t. absurd (let f : ◌≡◌ {A = ℕ} 1 0 = rw t at c in omega arith)) in
      rw (← z, ← get_or-drop (o + 1) X 0 0, ← get_or-drop (o + 1) Y 0 0, next_rest X xs o x p, next_rest Y ys o y q) first

  prepend_each : (rs : List Run) → rs ≡ class_runs i (o + 1) xs ys → Rising i (o + 1) rs → Each (RunIn X Y (o + 1)) rs → Each (RunIn X Y o) (prepend i o x y rs)
  prepend_each [] c h e = (alone (rest_equal (rw (← c))), tt)
  prepend_each (r ∷ rs) c h e =
      on_cond (Each (RunIn X Y o)) (adjoins o r) _ _
      (λ t.
      let b = adjoins_true o r t in
      (ahead r b e.0, each_both (λ s f g. lower_apart X Y o s (omega (arith, f.1)) g) rs (rising_from i (r.offset + 1) rs h.2) e.1))
      (λ t.
      let b = adjoins_false o r t in
      let f = rising_from i (o + 2) (r ∷ rs) (h.0, omega (arith, h.1, b), h.2) in
      let none : runs_with i (o + 1) (r ∷ rs) ≡ 0 = with_before i (o + 2) (o + 1) (r ∷ rs) (h.0, omega (arith, h.1, b), h.2) (omega arith) in
      (alone (rest_equal (rw (← c) none)), each_both (λ s f g. lower_apart X Y o s (omega (arith, f.1)) g) (r ∷ rs) f e))

pub class_each : (i o : ℕ) (X Y xs ys : List ℕ) → drop o X ≡ xs → drop o Y ≡ ys → length X ≡ length Y → Each (RunIn X Y o) (class_runs i o xs ys)
class_each i o X Y [] ys p q l = tt
class_each i o X Y (x ∷ xs) [] p q l = tt
class_each i o X Y (x ∷ xs) (y ∷ ys) p q l =
    let rs = class_runs i (o + 1) xs ys in
    let e = class_each i (o + 1) X Y xs ys (next_rest X xs o x p) (next_rest Y ys o y q) l in
    on_cond (Each (RunIn X Y o)) (eqb x y) _ _
    (λ t. let same : get_or X o 0 ≡ get_or Y o 0 = next_byte X xs o x p ∙ eqb-true x y t ∙ sym (next_byte Y ys o y q) in each_map (λ r. lower_equal X Y o r same) rs e)
    (λ t. prepend_each i o x y X Y xs ys p q l rs refl (class_rising i (o + 1) xs ys) e)
