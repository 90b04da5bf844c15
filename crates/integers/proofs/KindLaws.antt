-- The numbers of the kinds: each kind has one, and a byte that is none of them has no bytes.
use Rattle.std.proofs.Common.{ℕ, zero, suc, ◌%◌, ◌≤◌, ◌≡◌, refl, sym, ◌∙◌, Bool, true, false, not, List, [], ◌∷◌, take, cond, eqb, ltb, ℤ, pos, negsuc, Option, Some, None, Result, Ok, Err, Fits, w8, arith}
use Rattle.std.proofs.lemmas.Bool.{le-ltb}
use Rattle.std.proofs.lemmas.List.Edits.{sets}
use Rattle.std.specs.Int.Signed.{mag}
use borrow.Author.Tests.{eqb-true, eqb-false, ne_eqb}
use Rattle.flashrules.specs.Image.{max_byte}
use Rattle.flashrules.proofs.Picks.{on_test}
use Rattle.parameterrules.specs.Integer.{is_negative, integer, sign_of, magnitude_of, fits_in, to_bytes, from_bytes}
use Rattle.parameterrules.specs.Kind.{signed_bit, width_of, is_signed, holds}
use Rattle.flashrules.specs.declared.error.Error.{Error}
use Rattle.integers.specs.Kind.{number, kind_of, kind_result}
use Rattle.integers.specs.Laws.{KindNumbered, KindFound, KindMissing}
use Rattle.integers.specs.declared.kind.Kind.{Kind}

pub kind_numbered : KindNumbered
kind_numbered Kind.U8 = refl
kind_numbered Kind.U16 = refl
kind_numbered Kind.U32 = refl
kind_numbered Kind.I8 = refl
kind_numbered Kind.I16 = refl
kind_numbered Kind.I32 = refl

-- one number tried, and then the rest
module _ (n m : ℕ) (j k : Kind) (rest : Option Kind) (e : number j ≡ m) (f : rest ≡ Some k → number k ≡ n) where
  tried : cond (eqb n m) (Some j) rest ≡ Some k → number k ≡ n
  tried p =
      on_test (eqb n m)
      (λ t. let q : Some j ≡ Some k = rw t at p in let r : j ≡ k = cc in rw r at e ∙ sym (eqb-true n m t))
      (λ t. f (rw t at p))

pub kind_found : KindFound
kind_found n k =
    tried n 1 Kind.U8 k _ refl
    (tried n 2 Kind.U16 k _ refl
    (tried n 4 Kind.U32 k _ refl
    (tried n 0x81 Kind.I8 k _ refl
    (tried n 0x82 Kind.I16 k _ refl
    (tried n 0x84 Kind.I32 k None refl (λ p. absurd (let z : ◌≡◌ {A = ℕ} 0 1 = cc in omega arith)))))))

-- one number that it is not, and then the rest
missed : (n m : ℕ) (j : Kind) (rest : Option Kind) → cond (eqb n m) (Some j) rest ≡ None → (n ≡ m → ⊥) × (rest ≡ None)
missed n m j rest p =
    on_test (eqb n m) (λ t. absurd (let q : Some j ≡ None = rw t at p in let z : ◌≡◌ {A = ℕ} 0 1 = cc in omega arith))
    (λ t. (eqb-false n m t, rw t at p))

misses : (n m : ℕ) (j : Kind) (rest : Option Kind) → (n ≡ m → ⊥) → rest ≡ None → cond (eqb n m) (Some j) rest ≡ None
misses n m j rest h p = rw (ne_eqb n m h) p

no_width : (r : ℕ) → (r ≡ 1 → ⊥) → (r ≡ 2 → ⊥) → (r ≡ 4 → ⊥) → ◌≡◌ {A = ℕ} (cond (eqb r 1) 1 (cond (eqb r 2) 2 (cond (eqb r 4) 4 0))) 0
no_width r a b c = rw (ne_eqb r 1 a, ne_eqb r 2 b, ne_eqb r 4 c)

missing_width : (n : ℕ) → n ≤ max_byte → kind_of n ≡ None → width_of n ≡ 0
unfolding width_of
missing_width n h p =
    let a = missed n 1 Kind.U8 _ p in
    let b = missed n 2 Kind.U16 _ a.1 in
    let c = missed n 4 Kind.U32 _ b.1 in
    let d = missed n 0x81 Kind.I8 _ c.1 in
    let e = missed n 0x82 Kind.I16 _ d.1 in
    let f = missed n 0x84 Kind.I32 _ e.1 in
    no_width (n % signed_bit)
    (λ q. on_test (eqb n 1) (λ t. a.0 (eqb-true n 1 t)) (λ t. d.0 (omega (arith, q, h, eqb-false n 1 t))))
    (λ q. on_test (eqb n 2) (λ t. b.0 (eqb-true n 2 t)) (λ t. e.0 (omega (arith, q, h, eqb-false n 2 t))))
    (λ q. on_test (eqb n 4) (λ t. c.0 (eqb-true n 4 t)) (λ t. f.0 (omega (arith, q, h, eqb-false n 4 t))))

width_missing : (n : ℕ) → width_of n ≡ 0 → kind_of n ≡ None
unfolding width_of
width_missing n h =
    misses n 1 Kind.U8 _ (λ e. let q : width_of 1 ≡ 0 = rw e at h in omega (arith, q))
    (misses n 2 Kind.U16 _ (λ e. let q : width_of 2 ≡ 0 = rw e at h in omega (arith, q))
    (misses n 4 Kind.U32 _ (λ e. let q : width_of 4 ≡ 0 = rw e at h in omega (arith, q))
    (misses n 0x81 Kind.I8 _ (λ e. let q : width_of 0x81 ≡ 0 = rw e at h in omega (arith, q))
    (misses n 0x82 Kind.I16 _ (λ e. let q : width_of 0x82 ≡ 0 = rw e at h in omega (arith, q))
    (misses n 0x84 Kind.I32 None (λ e. let q : width_of 0x84 ≡ 0 = rw e at h in omega (arith, q)) refl)))))

pub kind_missing : KindMissing
kind_missing n h = (missing_width n h, width_missing n)

-- ---- a number that is tried

pub result_some : (o : Option Kind) (k : Kind) → kind_result o ≡ Ok k → o ≡ Some k
result_some (Some j) k e = let r : j ≡ k = cc in rw r
result_some None k e = absurd (let z : ◌≡◌ {A = ℕ} 0 1 = cc in omega arith)

pub result_none : (o : Option Kind) (e : Error) → kind_result o ≡ Err e → (o ≡ None) × (e ≡ Error.InvalidParameter)
result_none (Some j) e p = absurd (let z : ◌≡◌ {A = ℕ} 0 1 = cc in omega arith)
result_none None e p = (refl, cc)

-- no bytes at all, by the sign
zero_read : (b : Bool) → pos 0 ≡ integer (sign_of b 0) (magnitude_of (sign_of b 0) [])
zero_read true = refl
zero_read false = refl

zero_by_sign : (b : Bool) → not b ≡ cond b (ltb 0 0) (ltb 0 1)
zero_by_sign true = refl
zero_by_sign false = refl

other_by_sign : (b : Bool) (v : ℤ) → (v ≡ pos 0 → ⊥) → false ≡ cond b (ltb (mag v) 0) (cond (is_negative v) false (ltb (mag v) 1))
other_by_sign b (pos zero) x = absurd (x refl)
other_by_sign true (pos (suc n)) x = sym (le-ltb (suc n) 0 (omega arith))
other_by_sign false (pos (suc n)) x = sym (le-ltb (suc n) 1 (omega arith))
other_by_sign true (negsuc n) x = sym (le-ltb n 0 (omega arith))
other_by_sign false (negsuc n) x = refl

-- one that is no kind has no bytes
module _ (n : ℕ) (r : Result Kind Error) (p : r ≡ kind_result (kind_of n)) (e : Error) (q : r ≡ Err e) (h : Fits w8 n) where
  pub no_bytes : 0 ≡ width_of n
  no_bytes = let f = h.fits in sym (missing_width n (omega (arith, f)) (result_none (kind_of n) e (sym p ∙ q)).0)

  pub nothing_stored : (v : ℤ) → 0 ∷ 0 ∷ 0 ∷ 0 ∷ [] ≡ sets (0 ∷ 0 ∷ 0 ∷ 0 ∷ []) 0 (to_bytes (width_of n) v)
  unfolding to_bytes
  nothing_stored v = rw (← no_bytes) refl

  pub nothing_read : (bs : List ℕ) → pos 0 ≡ from_bytes (is_signed n) (take (width_of n) bs)
  unfolding from_bytes
  nothing_read bs = rw (← no_bytes) (zero_read (is_signed n))

  pub zero_held : (v : ℤ) (b : Bool) → v ≡ pos 0 → b ≡ is_signed n → not b ≡ holds n v
  unfolding holds fits_in
  zero_held v b x y = rw (← no_bytes, x, y) (zero_by_sign (is_signed n))

  pub other_not_held : (v : ℤ) → (v ≡ pos 0 → ⊥) → false ≡ holds n v
  unfolding holds fits_in
  other_not_held v x = rw (← no_bytes) (other_by_sign (is_signed n) v x)

pub ruleset none = (no_bytes, nothing_stored, nothing_read, zero_held, other_not_held)
