-- Laws of a part of a list, of a list that is pasted into another, and of elements that are set one
-- by one.
use Prim.Native.Nat.{ℕ, zero, suc, ◌+◌, ◌-◌, ◌≤◌, ◌<◌}
use mathlib.Core.Path.{◌≡◌, refl, sym, ap, ◌∙◌}
use mathlib.Core.Logic.{◌⊎◌, ⊎_elim}
use mathlib.Core.List.{List, [], ◌∷◌, ◌++◌, append_assoc}
use native.Mathlib.Nat.{zero-add, suc-add, add-suc}
use native.Mathlib.Omega.{arith}
use lib.ListN.{length, take, drop, get_or, set, length-take, length-drop, length-append, length-set, take-append-drop, get_or-append}
use lib.Seq.{paste, sets, sets-eq, length-paste, length-take-le, take_at, drop_at, take-length, take-set-lt, set-append_left, drop-drop}
use lib.Seq.{take-nil, get_or-append-add, get_or-take, get_or-drop, ext_get_or, length_paste_head}

pub part_length : (f : List ℕ) (s k : ℕ) → s + k ≤ length f → length (take k (drop s f)) ≡ k
part_length f s k h = simp (length-take, length-drop) (omega arith)

-- a part of a list's front
pub drop_front : (n m : ℕ) (x : List ℕ) → drop n (take (n + m) x) ≡ take m (drop n x)
drop_front zero m x = rw zero-add
drop_front (suc n) m [] = rw (take-nil (suc n + m), take-nil m)
drop_front (suc n) m (a ∷ x) = let e : suc n + m ≡ suc (n + m) = omega arith in rw e (drop_front n m x)

-- a part of two lists that agree there
pub part_same : (f g : List ℕ) (s k : ℕ) → s + k ≤ length f → s + k ≤ length g → ((j : ℕ) → j < k → get_or f (s + j) 0 ≡ get_or g (s + j) 0)
    → take k (drop s f) ≡ take k (drop s g)
part_same f g s k hf hg e =
    let long = part_length f s k hf in
    ext_get_or 0 _ _ (long ∙ sym (part_length g s k hg))
    (λ j h. rw (get_or-take k (drop s f) j 0 (omega (arith, long)), get_or-take k (drop s g) j 0 (omega (arith, long)), get_or-drop s f j 0, get_or-drop s g j 0) (e j (omega (arith, long))))

module _ (f w : List ℕ) (at n : ℕ) (end : at + n ≤ length f) (most : n ≤ length w) where
  pub part_paste : take n (drop at (paste f at w n)) ≡ take n w
  part_paste =
      rw (append_assoc, drop_at (take at f) (take n w ++ drop (at + n) f) at (length-take-le at f (omega arith)))
      (take_at (take n w) (drop (at + n) f) n (length-take-le n w most))

  pub paste_below : (j : ℕ) → j < at → get_or (paste f at w n) j 0 ≡ get_or f j 0
  paste_below j h =
      let q : length (take at f) ≡ at = length-take-le at f (omega arith) in
      rw (append_assoc, get_or-append (take at f) (take n w ++ drop (at + n) f) 0 j (omega arith)) (get_or-take at f j 0 h)

  pub paste_above : (j : ℕ) → at + n ≤ j → get_or (paste f at w n) j 0 ≡ get_or f j 0
  paste_above j h =
      let q : length (take at f ++ take n w) ≡ at + n = length_paste_head f at w n (omega arith) most in
      let e : j ≡ length (take at f ++ take n w) + (j - (at + n)) = omega arith in
      let e' : at + n + (j - (at + n)) ≡ j = omega arith in
      ap (λ (m : ℕ). get_or (paste f at w n) m 0) e ∙ get_or-append-add (take at f ++ take n w) (drop (at + n) f) (j - (at + n)) 0
      ∙ get_or-drop (at + n) f (j - (at + n)) 0 ∙ ap (λ (m : ℕ). get_or f m 0) e'

  -- a part that lies apart from what was pasted
  pub part_apart : (s k : ℕ) → s + k ≤ length f → (at + n ≤ s) ⊎ (s + k ≤ at) → take k (drop s (paste f at w n)) ≡ take k (drop s f)
  part_apart s k h apart =
      part_same (paste f at w n) f s k (omega (arith, length-paste f at w n end most)) h
      (λ j g. ⊎_elim (λ (d : at + n ≤ s). paste_above (s + j) (omega arith)) (λ (d : s + k ≤ at). paste_below (s + j) (omega arith)) apart)

-- ---- elements that are set one by one

-- all at once
pub sets_paste : (d bs : List ℕ) (i : ℕ) → i + length bs ≤ length d → sets d i bs ≡ paste d i bs (length bs)
sets_paste d bs i h = rw (take-length bs) (sets-eq bs d i h)

-- in the second of two lists
set_behind : (xs ys : List ℕ) (j v : ℕ) → set (xs ++ ys) (length xs + j) v ≡ xs ++ set ys j v
set_behind [] ys j v = rw (zero-add j)
set_behind (x ∷ xs) ys j v = rw (suc-add (length xs) j) (ap (λ (r : List ℕ). x ∷ r) (set_behind xs ys j v))

module _ (d : List ℕ) (s k : ℕ) (end : s + k ≤ length d) where
  -- in what is pasted
  paste_set : (w : List ℕ) (j v : ℕ) → k ≤ length w → j < k → paste d s (set w j v) k ≡ set (paste d s w k) (s + j) v
  paste_set w j v most h =
      let a = take s d in
      let b = take k w in
      let n : length a ≡ s = length-take-le s d (omega arith) in
      let m : length b ≡ k = length-take-le k w most in
      let front : length (a ++ b) ≡ s + k = length_paste_head d s w k (omega arith) most in
      let inner : set (a ++ b) (s + j) v ≡ a ++ set b j v = ap (λ (i : ℕ). set (a ++ b) (i + j) v) (sym n) ∙ set_behind a b j v in
      rw (take-set-lt k w j v h, set-append_left (a ++ b) (drop (s + k) d) (s + j) v (omega arith), inner)

  pub paste_sets : (w bs : List ℕ) (o : ℕ) → k ≤ length w → o + length bs ≤ k → paste d s (sets w o bs) k ≡ sets (paste d s w k) (s + o) bs
  paste_sets w [] o most h = refl
  paste_sets w (b ∷ bs) o most h =
      let next : s + suc o ≡ suc (s + o) = add-suc s o in
      let ih = paste_sets (set w o b) bs (suc o) (rw length-set most) (omega arith) in
      ih ∙ rw (paste_set w o b most (omega arith), next)

  -- a part that is pasted where it stands, whatever comes after it
  pub paste_self : (zs : List ℕ) → paste d s (take k (drop s d) ++ zs) k ≡ d
  paste_self zs =
      let n = part_length d s k end in
      rw (take_at (take k (drop s d)) zs k n, append_assoc, ← drop-drop k s d, take-append-drop k (drop s d)) (take-append-drop s d)

  -- a part of it, read from it as it stands in a window
  pub part_loaded : (o n : ℕ) (zs : List ℕ) → o + n ≤ k → take n (drop o (take k (drop s d) ++ zs)) ≡ take n (drop (s + o) d)
  part_loaded o n zs h =
      ext_get_or 0 _ _ (part_length (take k (drop s d) ++ zs) o n (omega (arith, part_length d s k end, length-append (take k (drop s d)) zs)) ∙ sym (part_length d (s + o) n (omega arith)))
      (λ j g. at_j j (omega (arith, part_length (take k (drop s d) ++ zs) o n (omega (arith, part_length d s k end, length-append (take k (drop s d)) zs)))))
    where
      at_j : (j : ℕ) → j < n → get_or (take n (drop o (take k (drop s d) ++ zs))) j 0 ≡ get_or (take n (drop (s + o) d)) j 0
      at_j j g =
          let m = part_length d s k end in
          rw (get_or-take n (drop o (take k (drop s d) ++ zs)) j 0 g, get_or-drop o (take k (drop s d) ++ zs) j 0, get_or-append (take k (drop s d)) zs 0 (o + j) (omega arith), get_or-take k (drop s d) (o + j) 0 (omega arith), get_or-drop s d (o + j) 0, get_or-take n (drop (s + o) d) j 0 g, get_or-drop (s + o) d j 0)
          (ap (λ (i : ℕ). get_or d i 0) (omega arith))
