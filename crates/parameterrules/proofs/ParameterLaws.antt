-- The claims about parameters: what setting leaves, what is then read, and what the gauge does that
-- is sent the same.
use Prim.Native.Nat.{ℕ, ◌+◌, ◌-◌, ◌/◌, ◌^◌, ◌≤◌, ◌<◌}
use mathlib.Core.Path.{◌≡◌, refl, sym, ap, ◌∙◌}
use mathlib.Core.Logic.{inl, inr, ⊎_elim}
use mathlib.Core.Bool.{Bool, true, false, not, true≢false}
use mathlib.Core.List.{List, [], ◌∷◌, ◌++◌, append_assoc, append-nil}
use native.Mathlib.Omega.{arith}
use lib.Dec.{eqb}
use lib.ListN.{length, take, drop}
use lib.Seq.{paste, sets, sets-eq, length-sets, length-take-le, drop-length, drop_at, drop-drop, take-append-add}
use lib.IntN.{ℤ, pos, negsuc}
use lib.Signed.{le_z}
use borrow.Author.Tests.{eqb-true, ltb-true, lt-ltb, leb-true}
use Rattle.flashrules.specs.Error.{out_of_range}
use Rattle.flashrules.specs.Outcome.{outcome}
use Rattle.flashrules.specs.declared.layout.Layout.{Layout}
use Rattle.flashrules.proofs.PartLaws.{part_length, drop_front, paste_below, paste_above, part_apart, sets_paste, paste_self}
use Rattle.flashrules.proofs.BytesLaws.{bytes_take, bytes_drop}
use Rattle.flashrules.proofs.RefusalLaws.{error_behind}
use Rattle.flashrules.proofs.Picks.{on_test, and_first, and_rest}
use Rattle.parameterrules.specs.Integer.{to_bytes, from_bytes, fits_in}
use Rattle.parameterrules.specs.Kind.{width_of, is_signed, holds}
use Rattle.parameterrules.specs.Parameter.{valid, in_range, get_tests, get_error, set_error, start_in, row_bytes, value_in, parameter_value, get, set}
use Rattle.parameterrules.specs.Laws.{SetRefused, Replaced, SetReplaces, SetThenGet, GetThenSet, SetElsewhere}
use Rattle.parameterrules.specs.declared.parameter.Parameter.{Parameter}
use Rattle.parameterrules.proofs.IntegerLaws.{to_bytes_length, to_from_bytes, from_to_bytes}
use Rattle.parameterrules.proofs.PlaceLaws.{get_numbered, Readable, readable, settable, bytes_end}

-- ---- an accepted set

pub set_refused : SetRefused
unfolding set outcome
set_refused l image p v h =
    on_test (eqb (set_error l (length image) p v) 0) (λ e. absurd (h (rw e))) (λ e. rw e)

pub set_free : (l : Layout) (image : List ℕ) (p : Parameter) (v : ℤ) → (set l image p v).answer ≡ 0 → set_error l (length image) p v ≡ 0
unfolding set outcome
set_free l image p v h =
    on_test (eqb (set_error l (length image) p v) 0) (λ e. eqb-true _ _ e) (λ e. rw e at h)

pub set_leaves : (l : Layout) (image : List ℕ) (p : Parameter) (v : ℤ) → set_error l (length image) p v ≡ 0
    → set l image p v ≡ outcome 0 (sets image (start_in l p) (to_bytes (width_of p.kind) v))
unfolding set
set_leaves l image p v e = rw e

-- bytes that are set from the first of a row's on
module _ (l : Layout) (image : List ℕ) (p : Parameter) (r : Readable l (length image) p) (bs : List ℕ) (few : length bs ≤ width_of p.kind) where
  abbrev at : ℕ
  at = start_in l p

  abbrev n : ℕ
  n = length bs

  end : at + n ≤ length image
  end = omega (arith, bytes_end l (length image) p r)

  pasted : sets image at bs ≡ paste image at bs n
  pasted = sets_paste image bs at end

  -- the row then: they, and behind them what was there
  row_then : row_bytes l (sets image at bs) p ≡ bs ++ drop n (row_bytes l image p)
  row_then =
      let rest = width_of p.kind - n in
      let whole : width_of p.kind ≡ n + rest = omega arith in
      rw (whole, sets-eq bs image at end, append_assoc, drop_at (take at image) (bs ++ drop (at + n) image) at (length-take-le at image (omega (arith, end))), take-append-add bs (drop (at + n) image) rest, drop_front n rest (drop at image), drop-drop n at image)

  pub replaced : Replaced l image p (bs ++ drop n (row_bytes l image p)) (sets image at bs)
  replaced =
      record {
        size = length-sets image at bs;
        here = row_then;
        outside = λ j. ⊎_elim (λ (h : j < at). rw pasted (paste_below image bs at n end (omega arith) j h))
            (λ (h : at + width_of p.kind ≤ j). rw pasted (paste_above image bs at n end (omega arith) j (omega arith)));
      }

-- a whole value
module _ (l : Layout) (image : List ℕ) (p : Parameter) (r : Readable l (length image) p) (v : ℤ) where
  few_bytes : length (to_bytes (width_of p.kind) v) ≤ width_of p.kind
  few_bytes = omega (arith, to_bytes_length (width_of p.kind) v)

  none_behind : to_bytes (width_of p.kind) v ++ drop (length (to_bytes (width_of p.kind) v)) (row_bytes l image p) ≡ to_bytes (width_of p.kind) v
  none_behind =
      let w = width_of p.kind in
      let row = row_bytes l image p in
      let long : length row ≡ w = part_length image (start_in l p) w (bytes_end l (length image) p r) in
      let none : drop w row ≡ [] = ap (λ (k : ℕ). drop k row) (sym long) ∙ drop-length row in
      rw (to_bytes_length w v, none, append-nil)

  value_replaced : Replaced l image p (to_bytes (width_of p.kind) v) (sets image (start_in l p) (to_bytes (width_of p.kind) v))
  value_replaced = rw none_behind at (replaced l image p r (to_bytes (width_of p.kind) v) few_bytes)

pub set_replaces : SetReplaces
unfolding outcome
set_replaces l image p v h =
    let e = set_free l image p v h in
    rw (set_leaves l image p v e) (value_replaced l image p (readable l (length image) p (settable l (length image) p v e).0) v)

-- ---- what is then read

-- between two integers that fit, every one does
fits_pos : (s : Bool) (w n m : ℕ) → fits_in s w (pos m) ≡ true → n ≤ m → fits_in s w (pos n) ≡ true
unfolding fits_in
fits_pos true w n m f h = let k = ltb-true m (256 ^ w / 2) f in lt-ltb n (256 ^ w / 2) (omega arith)
fits_pos false w n m f h = let k = ltb-true m (256 ^ w) f in lt-ltb n (256 ^ w) (omega arith)

fits_neg : (s : Bool) (w n m : ℕ) → fits_in s w (negsuc m) ≡ true → n ≤ m → fits_in s w (negsuc n) ≡ true
unfolding fits_in
fits_neg true w n m f h = let k = ltb-true m (256 ^ w / 2) f in lt-ltb n (256 ^ w / 2) (omega arith)
fits_neg false w n m f h = f

fits_between : (s : Bool) (w : ℕ) (lo v hi : ℤ) → fits_in s w lo ≡ true → fits_in s w hi ≡ true → le_z lo v ≡ true → le_z v hi ≡ true → fits_in s w v ≡ true
fits_between s w lo (pos n) (pos m) f g h k = fits_pos s w n m g (leb-true n m k)
fits_between s w lo (pos n) (negsuc m) f g h k = absurd (true≢false (sym k))
fits_between s w (pos m) (negsuc n) hi f g h k = absurd (true≢false (sym h))
fits_between s w (negsuc m) (negsuc n) hi f g h k = fits_neg s w n m f (leb-true n m h)

-- a value in range fits its kind
in_range_fits : (p : Parameter) (v : ℤ) → valid p ≡ true → in_range p v ≡ true → fits_in (is_signed p.kind) (width_of p.kind) v ≡ true
unfolding valid in_range holds
in_range_fits p v s r =
    fits_between (is_signed p.kind) (width_of p.kind) p.min v p.max (search (and_first, and_rest)) (search (and_first, and_rest))
    (search (and_first, and_rest)) (search (and_first, and_rest))

pub get_reads : (l : Layout) (image : List ℕ) (p : Parameter) (v : ℤ) → get_error l (length image) p ≡ 0 → value_in l image p ≡ v
    → get l image p ≡ parameter_value 0 v (in_range p v)
unfolding get
get_reads l image p v e q = rw (e, q)

pub set_then_get : SetThenGet
unfolding outcome value_in
set_then_get l image p v h =
    let e = set_free l image p v h in
    let s = settable l (length image) p v e in
    let r = readable l (length image) p s.0 in
    let c = value_replaced l image p r v in
    let to = sets image (start_in l p) (to_bytes (width_of p.kind) v) in
    let same : get_error l (length to) p ≡ 0 = rw c.size s.0 in
    let value = ap (from_bytes (is_signed p.kind)) c.here ∙ to_from_bytes (is_signed p.kind) (width_of p.kind) v (in_range_fits p v r.sound s.1) in
    rw (set_leaves l image p v e) (get_reads l to p v same value ∙ ap (parameter_value 0 v) s.1)

-- ---- setting what was read

-- with the value in range, nothing more refuses a set
set_error_lem : (l : Layout) (size : ℕ) (p : Parameter) (v : ℤ) → get_error l size p ≡ 0 → in_range p v ≡ true → set_error l size p v ≡ 0
unfolding set_error get_error
set_error_lem l size p v e r =
    sym
    (error_behind (get_tests l size p) ((not (in_range p v), out_of_range) ∷ []) (get_numbered l size p) 0
    (sym e) refl 0 (rw r))

get_free : (l : Layout) (image : List ℕ) (p : Parameter) → (get l image p).error ≡ 0 → get_error l (length image) p ≡ 0
unfolding get
get_free l image p h = on_test (eqb (get_error l (length image) p) 0) (λ e. eqb-true _ _ e) (λ e. rw e at h)

-- bytes that are set where they stand
sets_self : (d : List ℕ) (i k : ℕ) → i + k ≤ length d → sets d i (take k (drop i d)) ≡ d
sets_self d i k h =
    let n = part_length d i k h in
    let one = sets_paste d (take k (drop i d)) i (omega (arith, n)) ∙ ap (paste d i (take k (drop i d))) n in
    one ∙ (rw (append-nil (take k (drop i d))) at (paste_self d i k h []))

pub get_then_set : GetThenSet
unfolding get value_in
get_then_set l image p b h t =
    let e = get_free l image p h in
    let r = readable l (length image) p e in
    let w = width_of p.kind in
    let row = take w (drop (start_in l p) image) in
    let v = from_bytes (is_signed p.kind) row in
    let end = bytes_end l (length image) p r in
    let n = part_length image (start_in l p) w end in
    let range : in_range p v ≡ true = rw e at t in
    let back : to_bytes w v ≡ row = ap (λ (k : ℕ). to_bytes k v) (sym n) ∙ from_to_bytes (is_signed p.kind) row (bytes_take w _ (bytes_drop (start_in l p) image b)) in
    rw e (set_leaves l image p v (set_error_lem l (length image) p v e range) ∙ ap (outcome 0) (ap (sets image (start_in l p)) back ∙ sets_self image (start_in l p) w end))

-- ---- parameters elsewhere

get_same : (l : Layout) (image to : List ℕ) (q : Parameter) → length to ≡ length image
    → (Readable l (length image) q → value_in l to q ≡ value_in l image q) → get l to q ≡ get l image q
unfolding get
get_same l image to q n same =
    on_test (eqb (get_error l (length image) q) 0) (λ e. rw (n, e, same (readable l (length image) q (eqb-true _ _ e)))) (λ e. rw (n, e))

pub set_elsewhere : SetElsewhere
unfolding outcome value_in
set_elsewhere l image p q v h apart =
    let e = set_free l image p v h in
    let r = readable l (length image) p (settable l (length image) p v e).0 in
    let bytes = to_bytes (width_of p.kind) v in
    let n = to_bytes_length (width_of p.kind) v in
    let few = few_bytes l image p r v in
    let to = sets image (start_in l p) bytes in
    rw (set_leaves l image p v e)
    (get_same l image to q (length-sets image (start_in l p) bytes)
    (λ s. ap (from_bytes (is_signed q.kind))
    (rw (pasted l image p r bytes few)
    (part_apart image bytes (start_in l p) (length bytes) (end l image p r bytes few) (omega arith) (start_in l q) (width_of q.kind) (bytes_end l (length image) q s)
    (⊎_elim (λ (d : start_in l q + width_of q.kind ≤ start_in l p). inr d) (λ (d : start_in l p + width_of p.kind ≤ start_in l q). inl (omega arith)) apart)))))
