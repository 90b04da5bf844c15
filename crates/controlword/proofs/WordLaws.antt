-- Laws of control words: records put together with what calls gave, and the key in the image.
use Prim.Native.Nat.{ℕ, suc, ◌+◌, ◌-◌, ◌≤◌, ◌<◌, min}
use mathlib.Core.Path.{◌≡◌, refl, sym, ap}
use mathlib.Core.Bool.{false, cond}
use mathlib.Core.List.{List, [], ◌∷◌}
use native.Mathlib.Numerals.{add-one}
use native.Mathlib.Omega.{arith}
use lib.Dec.{eqb}
use lib.ListN.{length, get_or, take, drop, length-take, length-drop}
use lib.Seq.{drop-cons}
use borrow.Author.Tests.{ne_eqb}
use Rattle.flashrules.specs.Choice.{differing}
use Rattle.flashrules.specs.declared.layout.Layout.{Layout}
use Rattle.flashrules.proofs.Laws.{differing_none}
use Rattle.gaugerules.specs.State.{no_word, is_full_access, none_pending}
use Rattle.gaugerules.specs.Keys.{key_length, as_sent, keys, is_key}
use Rattle.gaugerules.specs.Word.{key_wanted, waits, opened, key_word}
use Rattle.gaugerules.specs.declared.state.Gauge.{Gauge}

-- ---- the key's four bytes

pub four : (bs : List ℕ) (at : ℕ) → at + key_length ≤ length bs
    → take key_length (drop at bs) ≡ get_or bs at 0 ∷ get_or bs (at + 1) 0 ∷ get_or bs (at + 2) 0 ∷ get_or bs (at + 3) 0 ∷ []
four bs at h =
    let h0 : at < length bs = omega arith in
    let h1 : at + 1 < length bs = omega arith in
    let h2 : at + 2 < length bs = omega arith in
    let h3 : at + 3 < length bs = omega arith in
    let e2 : at + 1 + 1 ≡ at + 2 = omega arith in
    let e3 : at + 2 + 1 ≡ at + 3 = omega arith in
    let d0 : drop at bs ≡ get_or bs at 0 ∷ drop (at + 1) bs = rw (add-one, drop-cons bs at 0) in
    let d1 : drop (at + 1) bs ≡ get_or bs (at + 1) 0 ∷ drop (at + 2) bs = rw (← e2, add-one (at + 1), drop-cons bs (at + 1) 0) in
    let d2 : drop (at + 2) bs ≡ get_or bs (at + 2) 0 ∷ drop (at + 3) bs = rw (← e3, add-one (at + 2), drop-cons bs (at + 2) 0) in
    let d3 : drop (at + 3) bs ≡ get_or bs (at + 3) 0 ∷ drop (suc (at + 3)) bs = rw (drop-cons bs (at + 3) 0) in
    rw (d0, d1, d2, d3)

module _ (bs : List ℕ) (at u w : ℕ) where
  -- fewer than four are no key
  pub key_short : length bs < at + key_length → false ≡ is_key bs at u w
  unfolding is_key
  key_short h =
      sym (ne_eqb _ 0 (λ e.
      let p = ap length ((differing_none (take key_length (drop at bs)) (as_sent u w)).0 e) in
      let n : length (take key_length (drop at bs)) ≡ min key_length (length bs - at) = simp (length-take, length-drop) in
      omega arith))

  -- the key is equal exactly at 0
  pub key_at_zero : (n : ℕ) → n ≡ differing (take key_length (drop at bs)) (as_sent u w) → eqb n 0 ≡ is_key bs at u w
  unfolding is_key
  key_at_zero n e = rw e

pub ruleset keys_are = (key_short, key_at_zero)

-- the key in the image
pub key_word_is : (l : Layout) (image : List ℕ) (g : Gauge) (w : ℕ) → key_word l image g w
    ≡ cond (is_full_access g) (waits g no_word)
    (cond (none_pending g) (waits g w) (cond (is_key (keys l image) (key_wanted g) g.pending w) (opened g) (waits g w)))
unfolding key_word
key_word_is l image g w = refl
