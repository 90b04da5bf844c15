-- Laws of two layouts: the same classes are the same identifiers and the same lengths.
use Rattle.std.proofs.Common.{◌≡◌, ℕ, zero, suc, List, [], ◌∷◌, length, refl, sym, ◌∙◌, arith, take, length-take}
use mathlib.Core.Bool.{false, cond}
use lib.Dec.{eqb}
use lib.Pointwise.{pointwise}
use Rattle.std.specs.Prelude.{min}
use Rattle.std.proofs.lemmas.Grind.{common_steps}
use Rattle.std.proofs.lemmas.List.{take_min}
use borrow.Author.Tests.{eq-eqb}
use Rattle.flashrules.specs.Layout.{max_classes, paired, classes, same_classes, same_layout}
use Rattle.flashrules.specs.declared.layout.Layout.{Layout}
use Rattle.flashrules.proofs.LayoutLaws.{same_counts}
use Rattle.flashrules.proofs.Picks.{pick_last}

same_parts : (is ns is' ns' : List ℕ) → length is ≡ length ns → length is' ≡ length is → length ns' ≡ length ns
    → same_classes (paired is ns) (paired is' ns') ≡ cond (pointwise eqb is is') (pointwise eqb ns ns') false
same_parts [] [] [] [] p q r = refl
same_parts [] (n ∷ ns) is' ns' p q r = absurd (omega arith)
same_parts [] [] (i' ∷ is') ns' p q r = absurd (omega arith)
same_parts [] [] [] (n' ∷ ns') p q r = absurd (omega arith)
same_parts (i ∷ is) [] is' ns' p q r = absurd (omega arith)
same_parts (i ∷ is) (n ∷ ns) [] ns' p q r = absurd (omega arith)
same_parts (i ∷ is) (n ∷ ns) (i' ∷ is') [] p q r = absurd (omega arith)
same_parts (i ∷ is) (n ∷ ns) (i' ∷ is') (n' ∷ ns') p q r =
    let more = same_parts is ns is' ns' (omega arith) (omega arith) (omega arith) in
    grind (arith, common_steps, more)

-- the first entries
take_paired : (n : ℕ) (is ns : List ℕ) → take n (paired is ns) ≡ paired (take n is) (take n ns)
take_paired zero is ns = refl
take_paired (suc n) [] ns = refl
take_paired (suc n) (i ∷ is) [] = refl
take_paired (suc n) (i ∷ is) (m ∷ ms) = rw (take_paired n is ms)

take_most : (n : ℕ) (xs : List ℕ) → length xs ≡ max_classes → take n xs ≡ take (min n max_classes) xs
take_most n xs h = sym (rw h at (take_min n xs))

classes_first : (l : Layout) → length l.ids ≡ max_classes → length l.lengths ≡ max_classes
    → classes l ≡ paired (take (min l.count max_classes) l.ids) (take (min l.count max_classes) l.lengths)
unfolding classes
classes_first l hi hn = take_paired l.count l.ids l.lengths ∙ (λ j. paired (take_most l.count l.ids hi j) (take_most l.count l.lengths hn j))

module _ (l l' : Layout) (hi : length l.ids ≡ max_classes) (hn : length l.lengths ≡ max_classes) (hi' : length l'.ids ≡ max_classes) (hn' : length l'.lengths ≡ max_classes)
    (e : l.count ≡ l'.count) where
  first_same : same_classes (classes l) (classes l') ≡ cond (pointwise eqb (take (min l.count max_classes) l.ids) (take (min l.count max_classes) l'.ids))
      (pointwise eqb (take (min l.count max_classes) l.lengths) (take (min l.count max_classes) l'.lengths)) false
  first_same =
      let n = min l.count max_classes in
      let one : length (take n l.ids) ≡ length (take n l.lengths) = rw (length-take, length-take, hi, hn) in
      let two : length (take n l'.ids) ≡ length (take n l.ids) = rw (length-take, length-take, hi, hi') in
      let three : length (take n l'.lengths) ≡ length (take n l.lengths) = rw (length-take, length-take, hn, hn') in
      rw (classes_first l hi hn, classes_first l' hi' hn', ← e) (same_parts (take n l.ids) (take n l.lengths) (take n l'.ids) (take n l'.lengths) one two three)

  pub same_lists : same_layout l l' ≡ cond (pointwise eqb (take (min l.count max_classes) l.ids) (take (min l.count max_classes) l'.ids))
      (pointwise eqb (take (min l.count max_classes) l.lengths) (take (min l.count max_classes) l'.lengths)) false
  unfolding same_layout
  same_lists = rw (eq-eqb l.count l'.count e) (sym (pick_last _ (same_classes (classes l) (classes l')) refl)) ∙ first_same

pub ruleset sames = (same_counts, same_lists)
