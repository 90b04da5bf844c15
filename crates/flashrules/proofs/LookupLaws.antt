-- Laws of the class search and of the block lookup: what is found lies inside the image, and two
-- blocks lie apart.
use Prim.Native.Nat.{ℕ, ◌+◌, ◌-◌, ◌*◌, ◌≤◌, ◌<◌, min}
use mathlib.Core.Path.{◌≡◌, refl, sym, ap, ◌∙◌}
use mathlib.Core.Bool.{Bool, true, false, cond}
use mathlib.Core.Logic.{◌⊎◌, inl, inr, ⊎_elim}
use mathlib.Core.List.{List, [], ◌∷◌}
use Rattle.std.specs.Prelude.{Ok, Err}
use native.Mathlib.Omega.{arith}
use lib.Dec.{eqb, ltb}
use borrow.Author.Tests.{eqb-true, eqb-false, ltb-true, ltb-false, eq-eqb, lt-ltb}
use Rattle.flashrules.specs.Answer.{Lookup, found, refused, start_of, length_of}
use Rattle.flashrules.specs.Layout.{max_image_length, info_class, key_class, Class, classes, size_of, size, locate, length_in, valid, fits}
use Rattle.flashrules.specs.Lookup.{block_size, find_class, block_in, block_of, find_block, block_exists}
use Rattle.flashrules.specs.Laws.{BlockInside, ExistsFound, BlocksApart, InfoBlocks, KeyBlock, SameLayout}
use Rattle.flashrules.specs.declared.lookup.Place.{Place}
use Rattle.flashrules.specs.declared.layout.Layout.{Layout}
use Rattle.flashrules.specs.declared.error.Error.{Error}
use Rattle.flashrules.proofs.Picks.{on_test, on_answer}
use Rattle.flashrules.proofs.LayoutLaws.{valid_parts, fits_parts}

-- ---- the class search

pub refused_found : (e : Error) (s k : ℕ) → refused e ≡ found s k → ⊥
refused_found e s k p = let z : ◌≡◌ {A = ℕ} 0 1 = cc in omega arith

-- the search in a list of classes is over, or goes on in the rest
module _ (at : ℕ) (c : Class) (cs : List Class) (i : ℕ) where
  locate_first : eqb c.id i ≡ true → locate at (c ∷ cs) i ≡ found at c.len
  locate_first h = rw h

  locate_rest : eqb c.id i ≡ false → locate at (c ∷ cs) i ≡ locate (at + c.len) cs i
  locate_rest h = rw h

pub same_found : (a : Lookup) (s k s' k' : ℕ) → a ≡ found s k → a ≡ found s' k' → (s ≡ s') × (k ≡ k')
same_found a s k s' k' p q = (ap start_of (sym p ∙ q), ap length_of (sym p ∙ q))

-- a class lies inside the bytes of the classes
pub locate_inside : (at : ℕ) (cs : List Class) (i s k : ℕ) → locate at cs i ≡ found s k → (at ≤ s) × (s + k ≤ at + size_of cs)
locate_inside at [] i s k p = absurd (refused_found Error.UnknownClass s k p)
locate_inside at (c ∷ cs) i s k p =
    on_test (eqb c.id i) (λ h. let g = same_found _ at c.len s k (locate_first at c cs i h) p in omega arith)
    (λ h. let g = locate_inside (at + c.len) cs i s k (sym (locate_rest at c cs i h) ∙ p) in omega arith)

-- for the function that takes the class that a call has found, or its refusal
module _ (l : Layout) (n i : ℕ) (t : Bool) (a : Lookup) (p : t ≡ fits l n) (q : t ≡ true) (r : a ≡ locate 0 (classes l) i) where
  pub fits_start : (w : Place) → a ≡ Ok w → w.start ≤ max_image_length
  fits_start w u =
      let v = (valid_parts l (fits_parts l n (sym p ∙ q)).0).small in
      let g = locate_inside 0 (classes l) i w.start w.len (sym r ∙ u) in
      omega arith

-- two classes lie apart
locate_apart : (at : ℕ) (cs : List Class) (i s k i' s' k' : ℕ) → locate at cs i ≡ found s k → locate at cs i' ≡ found s' k'
    → (i ≡ i' → ⊥) → (s + k ≤ s') ⊎ (s' + k' ≤ s)
locate_apart at [] i s k i' s' k' p p' d = absurd (refused_found Error.UnknownClass s k p)
locate_apart at (c ∷ cs) i s k i' s' k' p p' d =
    on_test (eqb c.id i)
    (λ h.
    on_test (eqb c.id i') (λ h'. absurd (d (sym (eqb-true c.id i h) ∙ eqb-true c.id i' h')))
    (λ h'.
    let g = same_found _ at c.len s k (locate_first at c cs i h) p in
    let g' = locate_inside (at + c.len) cs i' s' k' (sym (locate_rest at c cs i' h') ∙ p') in
    inl (omega arith)))
    (λ h.
    on_test (eqb c.id i')
    (λ h'.
    let g' = same_found _ at c.len s' k' (locate_first at c cs i' h') p' in
    let g = locate_inside (at + c.len) cs i s k (sym (locate_rest at c cs i h) ∙ p) in
    inr (omega arith))
    (λ h'. locate_apart (at + c.len) cs i s k i' s' k' (sym (locate_rest at c cs i h) ∙ p) (sym (locate_rest at c cs i' h') ∙ p') d))

-- ---- a block that was found

-- its class starts at `base` and has `len` bytes
pub record Placed (l : Layout) (n i b s k : ℕ) : Type 0 where
  pub base : ℕ
  pub len : ℕ
  pub fitting : fits l n ≡ true
  pub class : locate 0 (classes l) i ≡ found base len
  pub below : block_size * b < len
  pub start : s ≡ base + block_size * b
  pub size : k ≡ min block_size (len - block_size * b)

pub placed : (l : Layout) (n i b s k : ℕ) → find_block l n i b ≡ found s k → Placed l n i b s k
unfolding find_block
placed l n i b s k p =
    on_test (fits l n)
    (λ f.
    on_answer (locate 0 (classes l) i)
    (λ base len e.
    let q : block_in base len b ≡ found s k = rw (f, e) at p in
    on_test (ltb (block_size * b) len)
    (λ h.
    let g = same_found _ (base + block_size * b) (min block_size (len - block_size * b)) s k (rw h) q in
    record { base = base; len = len; fitting = f; class = e; below = ltb-true _ _ h; start = sym g.0; size = sym g.1 })
    (λ h. absurd (refused_found Error.UnknownBlock s k (rw h at q))))
    (λ x e. absurd (refused_found x s k (rw (f, e) at p))))
    (λ f. absurd (refused_found Error.Malformed s k (rw f at p)))

pub block_inside : BlockInside
block_inside l n i b s k p =
    let v = placed l n i b s k p in
    let g = locate_inside 0 (classes l) i v.base v.len v.class in
    let z = (fits_parts l n v.fitting).1 in
    record { some = omega (arith, v.below, v.size); most = omega (arith, v.size); end = omega (arith, v.below, v.start, v.size) }

pub exists_found : ExistsFound
unfolding block_exists find_class find_block
exists_found l n i b f =
    rw (f, (fits_parts l n f).0)
    (on_answer (locate 0 (classes l) i)
    (λ s k p. rw p (on_test (ltb (block_size * b) k) (λ h. rw h) (λ h. rw h)))
    (λ e p. rw p))

-- two blocks of one class, and two of different classes
module _ (l : Layout) (n i b s k i' b' s' k' : ℕ) (v : Placed l n i b s k) (v' : Placed l n i' b' s' k') where
  same_class : i ≡ i' → (b ≡ b' → ⊥) → (s + k ≤ s') ⊎ (s' + k' ≤ s)
  same_class e d =
      let base : v.base ≡ v'.base = (same_found _ v.base v.len v'.base v'.len v.class (rw e v'.class)).0 in
      on_test (ltb b b') (λ h. inl (omega (arith, ltb-true b b' h))) (λ h. inr (omega (arith, ltb-false b b' h)))

  other_class : (i ≡ i' → ⊥) → (s + k ≤ s') ⊎ (s' + k' ≤ s)
  other_class d =
      ⊎_elim (λ (h : v.base + v.len ≤ v'.base). inl (omega arith)) (λ (h : v'.base + v'.len ≤ v.base). inr (omega arith))
      (locate_apart 0 (classes l) i v.base v.len i' v'.base v'.len v.class v'.class d)

pub blocks_apart : BlocksApart
blocks_apart l n i b s k i' b' s' k' p p' d =
    let v = placed l n i b s k p in
    let v' = placed l n i' b' s' k' p' in
    on_test (eqb i i')
    (λ h. let e = eqb-true i i' h in same_class l n i b s k i' b' s' k' v v' e (λ q. d (e, q)))
    (λ h. other_class l n i b s k i' b' s' k' v v' (eqb-false i i' h))

-- ---- blocks that every valid layout has

module _ (l : Layout) (v : valid l ≡ true) where
  fits_size : fits l (size l) ≡ true
  unfolding fits
  fits_size = rw (v, eq-eqb (size l) (size l) refl)

  block_is : (i b s n : ℕ) → locate 0 (classes l) i ≡ found s n → block_size * b < n
      → length_of (find_block l (size l) i b) ≡ min block_size (n - block_size * b)
  unfolding find_block
  block_is i b s n p h = rw (fits_size, p, lt-ltb (block_size * b) n h)

  -- of a class that has bytes
  block_in_class : (i b : ℕ) → block_size * b < length_in l i → length_of (find_block l (size l) i b) ≡ min block_size (length_in l i - block_size * b)
  block_in_class i b h =
      on_answer (locate 0 (classes l) i) (λ s n p. rw p (block_is i b s n p (rw p at h)))
      (λ e p. absurd (let g : block_size * b < 0 = rw p at h in omega arith))

pub info_blocks_lem : InfoBlocks
info_blocks_lem l b v h = let e = (valid_parts l v).info in block_in_class l v info_class b (omega arith) ∙ omega arith

pub key_block_lem : KeyBlock
key_block_lem l v = let h = (valid_parts l v).keys in omega (arith, block_in_class l v key_class 0 (omega arith))

-- a class that is not there is refused with 4
pub locate_refused : (at : ℕ) (cs : List Class) (i : ℕ) (e : Error) → locate at cs i ≡ refused e → e ≡ Error.UnknownClass
locate_refused at [] i e p = cc
locate_refused at (c ∷ cs) i e p =
    on_test (eqb c.id i) (λ h. absurd (refused_found e at c.len (sym (sym (locate_first at c cs i h) ∙ p))))
    (λ h. locate_refused (at + c.len) cs i e (sym (locate_rest at c cs i h) ∙ p))

-- so is a block of one
pub block_of_missing : (l : Layout) (n i b : ℕ) (t : Bool) (a : Lookup) (e : Error) → t ≡ fits l n → t ≡ true → a ≡ locate 0 (classes l) i → a ≡ Err e
    → Err Error.UnknownClass ≡ find_block l n i b
unfolding find_block
block_of_missing l n i b t a e p q r u =
    let f : fits l n ≡ true = sym p ∙ q in
    let x : locate 0 (classes l) i ≡ Err e = sym r ∙ u in
    rw (f, x, locate_refused 0 (classes l) i e x)

pub find_block_is : (l : Layout) (n i b : ℕ) → find_block l n i b ≡ cond (fits l n) (block_of (locate 0 (classes l) i) b) (refused Error.Malformed)
unfolding find_block
find_block_is l n i b = refl

pub ruleset blocks = (fits_start, block_of_missing, find_block_is)

-- ---- layouts that mean the same

pub same_layout_lem : SameLayout
unfolding valid fits find_class find_block block_exists
same_layout_lem l l' s = record {
  valid = rw (s.classes, s.count);
  fits = λ n. rw (s.classes, s.count);
  class = λ i. rw (s.classes, s.count);
  block = λ n i b. rw (s.classes, s.count);
  exists = λ i b. rw (s.classes, s.count);
}

-- ---- for the functions that take the block that a call has found

module _ (l : Layout) (n i b : ℕ) (a : Lookup) (w : Place) (p : a ≡ find_block l n i b) (q : a ≡ Ok w) where
  pub found_end : w.start + w.len ≤ n
  found_end = (block_inside l n i b w.start w.len (sym p ∙ q)).end

  pub found_most : w.len ≤ block_size
  found_most = (block_inside l n i b w.start w.len (sym p ∙ q)).most
