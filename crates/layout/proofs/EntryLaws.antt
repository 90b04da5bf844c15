-- Laws of the entries that a loop has left: `s` and `t` are its iterator before and after a turn.
use Rattle.std.proofs.Common.{◌≡◌, ℕ, zero, suc, ◌<◌, ◌≤◌, List, [], ◌∷◌, length, refl, arith, take, length-take, Bor, Option, ◌⊎◌, inl, inr}
use mathlib.Core.Bool.{cond}
use Rattle.std.specs.Iterator.Adapters.{take_steps, zip_steps, take_count}
use Rattle.std.specs.Slice.Iter.{iter_steps}
use Rattle.std.specs.declared.iter.Take.{Take}
use Rattle.std.specs.declared.iter.Zip.{Zip}
use Rattle.std.specs.declared.slice.Iter.{Iter}
use Rattle.std.specs.declared.option.Option.TheVariants.{None, Some}
use Rattle.flashrules.specs.Layout.{max_classes, paired, classes}
use Rattle.flashrules.specs.declared.layout.Layout.{Layout}
use Rattle.layout.specs.Entries.{entries_left}

abbrev Entries : Type 0
Entries = Take (Zip (Iter ℕ) (Iter ℕ))

abbrev steps : Entries → Option (Bor ℕ × Bor ℕ) → Entries → Type 0
steps = take_steps (zip_steps iter_steps iter_steps)

pub left_next : (s t : Entries) (id len : Bor ℕ) → steps s (Some (id, len)) t
    → entries_left s ≡ record { id = id.now; len = len.now } ∷ entries_left t
left_next s t id len h =
    let n : take_count s ≡ suc (take_count t) = omega (arith, h.1) in
    let x = h.0.0 in
    let y = h.0.1 in
    rw (n, x, y)

none : (n : ℕ) (is ns : List ℕ) → (0 < n → (length is ≡ 0) ⊎ (length ns ≡ 0)) → take n (paired is ns) ≡ []
none zero is ns h = refl
none (suc n) [] ns h = refl
none (suc n) (i ∷ is) [] h = refl
none (suc n) (i ∷ is) (m ∷ ms) h = elim (h (omega arith)) [ inl e ↦ absurd (omega arith) | inr e ↦ absurd (omega arith) ]

pub left_none : (s t : Entries) → steps s None t → entries_left s ≡ []
left_none s t h = none (take_count s) _ _ (λ p. elim (h p) [ inl w ↦ inl w.1.0 | inr w ↦ inr w.1.0 ])

-- how many entries there are
paired_most : (is ns : List ℕ) → length (paired is ns) ≤ length is
paired_most [] ns = omega arith
paired_most (i ∷ is) [] = omega arith
paired_most (i ∷ is) (n ∷ ns) = omega (arith, paired_most is ns)

pub paired_few : (n : ℕ) (is ns : List ℕ) → length is ≡ max_classes → length (take n (paired is ns)) ≤ max_classes
paired_few n is ns h = rw length-take (omega (arith, paired_most is ns))

pub classes_are : (l : Layout) → classes l ≡ take l.count (paired l.ids l.lengths)
unfolding classes
classes_are l = refl

pub ruleset starts = (paired_few, classes_are)
