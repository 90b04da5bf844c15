-- Laws of layouts: what a valid layout has, and which layouts are the same.
use Prim.Native.Nat.{ℕ, zero, suc, ◌+◌, ◌≤◌, ◌<◌, min}
use mathlib.Core.Path.{◌≡◌, refl, sym}
use mathlib.Core.Bool.{true, false, true≢false}
use mathlib.Core.List.{List, [], ◌∷◌}
use native.Mathlib.Numerals.{add-one}
use native.Mathlib.Omega.{arith}
use lib.Dec.{eqb}
use lib.ListN.{length, drop, get_or, length-take, drop_of_length-le}
use lib.Seq.{drop-cons, get_or-take}
use borrow.Author.Tests.{eq-eqb, ne_eqb, eqb-true, leb-true}
use Rattle.flashrules.specs.Layout.{max_classes, max_image_length, info_class, info_length, key_class, min_key_length}
use Rattle.flashrules.specs.Layout.{Class, paired, classes, size, ordered, length_in, valid, fits, same_classes, same_layout}
use Rattle.flashrules.specs.Laws.{SameTest}
use Rattle.flashrules.specs.declared.layout.Layout.{Layout}
use Rattle.flashrules.proofs.Picks.{and_first, and_rest}

abbrev entry : ℕ → ℕ → Class
entry i n = record { id = i; len = n }

-- ---- the entries in use, by the index k of an entry

length_paired : (is ns : List ℕ) → length (paired is ns) ≡ min (length is) (length ns)
length_paired [] ns = omega arith
length_paired (i ∷ is) [] = omega arith
length_paired (i ∷ is) (n ∷ ns) = omega (arith, length_paired is ns)

get_d_paired : (is ns : List ℕ) (k : ℕ) → k < length is → k < length ns → get_or (paired is ns) k (entry 0 0) ≡ entry (get_or is k 0) (get_or ns k 0)
get_d_paired [] ns k h g = absurd (omega arith)
get_d_paired (i ∷ is) [] k h g = absurd (omega arith)
get_d_paired (i ∷ is) (n ∷ ns) zero h g = refl
get_d_paired (i ∷ is) (n ∷ ns) (suc k) h g = get_d_paired is ns k (omega arith) (omega arith)

-- the entries that a count takes in, one by one; a count may be larger than there are entries
pub record WholeArrays (l : Layout) : Type 0 where
  pub ids : length l.ids ≡ max_classes
  pub lengths : length l.lengths ≡ max_classes

module _ (l : Layout) (k : ℕ) (w : WholeArrays l) where
  length_classes : length (classes l) ≡ min l.count max_classes
  unfolding classes
  length_classes = simp (length-take, length_paired) (omega arith)

  pub entries_end : min l.count max_classes ≤ k → drop k (classes l) ≡ []
  entries_end h = drop_of_length-le (classes l) {i = k} (omega (arith, length_classes))

  pub entries_next : k < min l.count max_classes → drop k (classes l) ≡ entry (get_or l.ids k 0) (get_or l.lengths k 0) ∷ drop (k + 1) (classes l)
  unfolding classes
  entries_next h =
      let n : k < length (classes l) = omega (arith, length_classes) in
      rw (add-one, drop-cons (classes l) k (entry 0 0), get_or-take l.count (paired l.ids l.lengths) k (entry 0 0) (omega arith), get_d_paired l.ids l.lengths k (omega arith) (omega arith))

-- what the loops know of a layout: its arrays are whole, and no more entries are in use than there
-- are
pub record Whole (l : Layout) : Type 0 where
  pub ids : length l.ids ≡ max_classes
  pub lengths : length l.lengths ≡ max_classes
  pub used : l.count ≤ max_classes

module _ (l : Layout) (k : ℕ) (w : Whole l) where
  arrays : WholeArrays l
  arrays = record { ids = w.ids; lengths = w.lengths }

  pub classes_end : l.count ≤ k → drop k (classes l) ≡ []
  classes_end h = entries_end l k arrays (omega arith)

  pub classes_next : k < l.count → drop k (classes l) ≡ entry (get_or l.ids k 0) (get_or l.lengths k 0) ∷ drop (k + 1) (classes l)
  classes_next h = entries_next l k arrays (omega (arith, w.used))

-- ---- what a valid layout has

pub record Valid (l : Layout) : Type 0 where
  pub some : 1 ≤ l.count
  pub used : l.count ≤ max_classes
  pub order : ordered 0 (classes l) ≡ true
  pub small : size l ≤ max_image_length
  pub info : length_in l info_class ≡ info_length
  pub keys : min_key_length ≤ length_in l key_class

pub valid_parts : (l : Layout) → valid l ≡ true → Valid l
unfolding valid
valid_parts l e = search (and_first, and_rest, leb-true, eqb-true) depth 12

pub fits_parts : (l : Layout) (n : ℕ) → fits l n ≡ true → (valid l ≡ true) × (n ≡ size l)
unfolding fits
fits_parts l n e = search (and_first, and_rest, eqb-true)

-- ---- two layouts

same_eq : (cs ds : List Class) → same_classes cs ds ≡ true → cs ≡ ds
same_eq [] [] e = refl
same_eq [] (d ∷ ds) e = absurd (true≢false (sym e))
same_eq (c ∷ cs) [] e = absurd (true≢false (sym e))
same_eq (c ∷ cs) (d ∷ ds) e =
    let p : c.id ≡ d.id = search (and_first, eqb-true) in
    let q : c.len ≡ d.len = search (and_first, and_rest, eqb-true) in
    let g : same_classes cs ds ≡ true = search (and_first, and_rest) in
    λ j. entry (p j) (q j) ∷ same_eq cs ds g j

same_refl : (cs : List Class) → same_classes cs cs ≡ true
same_refl [] = refl
same_refl (c ∷ cs) = rw (eq-eqb c.id c.id refl, eq-eqb c.len c.len refl, same_refl cs)

pub same_test : SameTest
unfolding same_layout
same_test l l' = (
  λ e.
      let f = and_rest (eqb l.count l'.count) _ e in
      record { count = eqb-true l.count l'.count (and_first _ _ e); classes = same_eq (classes l) (classes l') (and_first _ _ f) },
  λ s. rw (eq-eqb l.count l'.count s.count, s.classes, same_refl (classes l')),
)

pub same_counts : (l l' : Layout) → (l.count ≡ l'.count → ⊥) → false ≡ same_layout l l'
unfolding same_layout
same_counts l l' h = rw (ne_eqb l.count l'.count h)
