-- A key is equal exactly where no byte differs. And a call unseals a sealed gauge exactly by the
-- unseal key: the pending word is always the last word obeyed, or none where that is no key word.
use Prim.Native.Nat.{ℕ, ◌≤◌}
use mathlib.Core.Path.{◌≡◌, refl, sym, ◌∙◌}
use mathlib.Core.Bool.{Bool, true, false, cond, not, true≢false}
use mathlib.Core.List.{List, [], ◌∷◌, ◌++◌}
use native.Mathlib.Omega.{arith}
use lib.Dec.{eqb}
use lib.ListN.{length, get_or, take, drop}
use borrow.Author.Tests.{eqb-true, eq-eqb, ne_eqb}
use Rattle.flashrules.specs.Image.{max_byte}
use Rattle.flashrules.specs.declared.layout.Layout.{Layout}
use Rattle.flashrules.proofs.Laws.{differing_none}
use Rattle.flashrules.proofs.Picks.{pick_last, on_test, on_cond}
use Rattle.gaugerules.specs.State.{sealed, boot_sealed, no_word, is_sealed, with_low, power_on, restart}
use Rattle.gaugerules.specs.Valid.{max_word}
use Rattle.gaugerules.specs.Keys.{unseal_key, key_length, keys, as_sent, is_key}
use Rattle.gaugerules.specs.Word.{word, status_word, seal_word, reset_word, waits, opened, key_word, with_status, obey}
use Rattle.gaugerules.specs.Script.{Device, device, Call, to_write, to_read, to_supply, after_call, unseals, obeyed, may_be_key, enters_key}
use Rattle.gaugerules.specs.Laws.{KeyEqual}
use Rattle.gaugerules.specs.Noninterference.{CallBytes, ByKeyAlone, UnsealsByKey}
use Rattle.gaugerules.specs.declared.state.Gauge.{Gauge}
use Rattle.gaugerules.proofs.LockLaws.{Lock, lock, writes}
use Rattle.gaugerules.proofs.SupplyCases.{supply_lock}

pub key_equal : KeyEqual
unfolding is_key
key_equal bs at u w =
    let same = differing_none (take key_length (drop at bs)) (as_sent u w) in
    (λ t. same.0 (eqb-true _ 0 t), λ p. eq-eqb _ 0 (same.1 p))

-- ---- entering the key, by the word that is pending

-- the pending word of a sealed gauge that has obeyed these words, the last one first
abbrev waiting : List ℕ → ℕ
waiting [] = no_word
waiting (u ∷ past) = cond (may_be_key u) u no_word

-- a word is pending, and with w it is the key
abbrev completes : Layout → List ℕ → List ℕ → ℕ → Bool
completes l image past w = cond (eqb (waiting past) no_word) false (is_key (keys l image) unseal_key (waiting past) w)

module _ (l : Layout) (image : List ℕ) (w : ℕ) where
  enters_other : (past : List ℕ) → may_be_key w ≡ false → enters_key l image (w ∷ []) past ≡ false
  unfolding enters_key
  enters_other [] p = refl
  enters_other (u ∷ past) p = on_test (may_be_key u) (λ q. rw (q, p)) (λ q. rw q)

  -- the last word, if pending, is not no_word, since it is within max_word
  enters_key_lem : (past : List ℕ) → may_be_key w ≡ true → get_or past 0 0 ≤ max_word → enters_key l image (w ∷ []) past ≡ completes l image past w
  unfolding enters_key
  enters_key_lem [] p h = refl
  enters_key_lem (u ∷ past) p h = on_test (may_be_key u) (λ q. rw (q, p, ne_eqb u no_word (λ e. omega arith)) (sym (pick_last _ _ refl))) (λ q. rw q)

-- ---- the invariant

-- sealed, after the words `past`, the last one first
record Sealed (k : Lock) (past : List ℕ) : Type 0 where
  mode : k.mode ≡ sealed
  boot : k.boot ≡ boot_sealed
  low : k.low ≤ max_byte
  pending : k.pending ≡ waiting past
  last : get_or past 0 0 ≤ max_word

-- k is what a sealed lock becomes by the words `now` after the words `past`: unsealed exactly by
-- the key, and otherwise sealed after them all
record Becomes (l : Layout) (image past now : List ℕ) (k : Lock) : Type 0 where
  by_key : not (eqb k.mode sealed) ≡ enters_key l image now past
  or_sealed : not (eqb k.mode sealed) ≡ false → Sealed k (now ++ past)

-- ---- one word

module _ (l : Layout) (image : List ℕ) (g : Gauge) (past : List ℕ) (v : Sealed (lock g) past) (w : ℕ) (h : w ≤ max_word) where
  stays : (k : Lock) → enters_key l image (w ∷ []) past ≡ false → Sealed k (w ∷ past) → Becomes l image past (w ∷ []) k
  stays k e s = record { by_key = rw (s.mode, e); or_sealed = λ _. s }

  -- one of the three words that are never key words: none is pending after it
  obeys_other : may_be_key w ≡ false → (k : Lock) → k.mode ≡ sealed → k.boot ≡ boot_sealed → k.low ≤ max_byte → k.pending ≡ no_word
      → Becomes l image past (w ∷ []) k
  obeys_other p k m b o n = stays k (enters_other l image w past p) (record { mode = m; boot = b; low = o; pending = rw p n; last = h })

  abbrev Obeyed : Gauge → Type 0
  Obeyed c = Becomes l image past (w ∷ []) (lock c)

  key_word_is : key_word l image g w ≡ cond (completes l image past w) (opened g) (waits g w)
  unfolding key_word
  key_word_is = rw (v.mode, v.pending) (on_test (eqb (waiting past) no_word) (λ p. rw p) (λ p. rw p))

  obeys_key : may_be_key w ≡ true → Obeyed (key_word l image g w)
  obeys_key p = rw key_word_is (on_cond Obeyed (completes l image past w) _ _ (λ q. opens (enters ∙ q)) (λ q. goes_on_waiting (enters ∙ q)))
    where
      enters : enters_key l image (w ∷ []) past ≡ completes l image past w
      enters = enters_key_lem l image w past p v.last

      opens : enters_key l image (w ∷ []) past ≡ true → Obeyed (opened g)
      opens e = record { by_key = rw (v.mode, e); or_sealed = λ n. absurd (true≢false (rw v.mode at n)) }

      goes_on_waiting : enters_key l image (w ∷ []) past ≡ false → Obeyed (waits g w)
      goes_on_waiting e = stays _ e (record { mode = v.mode; boot = v.boot; low = v.low; pending = rw p; last = h })

  obeys : Obeyed (obey l image g w)
  unfolding obey
  obeys =
      on_cond Obeyed (eqb w status_word) _ _ (λ p. obeys_other (rw p) (lock (with_status g)) v.mode v.boot v.low refl) (λ p.
      on_cond Obeyed (eqb w seal_word) _ _ (λ q. obeys_other (rw (p, q)) (lock (restart g boot_sealed)) refl refl (omega arith) refl) (λ q.
      on_cond Obeyed (eqb w reset_word) _ _ (λ r. obeys_other (rw (p, q, r)) (lock (restart g g.boot)) (rw v.boot) (rw v.boot) (omega arith) refl)
      (λ r. obeys_key (rw (p, q, r)))))

-- ---- a call, and a script

module _ (l : Layout) (image past : List ℕ) where
  no_word_lem : (g : Gauge) → Sealed (lock g) past → Becomes l image past [] (lock g)
  unfolding enters_key
  no_word_lem g v = record { by_key = rw v.mode; or_sealed = λ _. v }

  one_word : (g : Gauge) (b : ℕ) → b ≤ max_byte → Sealed (lock g) past
      → Becomes l image past (word g.low b ∷ []) (lock (obey l image g (word g.low b)))
  one_word g b h v = obeys l image g past v (word g.low b) (omega (arith, v.low))

  with_low_lem : (g : Gauge) (b : ℕ) → b ≤ max_byte → Sealed (lock g) past → Sealed (lock (with_low g b)) past
  with_low_lem g b h v = record { mode = v.mode; boot = v.boot; low = h; pending = v.pending; last = v.last }

calls : (l : Layout) (d : Device) (past : List ℕ) → Sealed (lock d.gauge) past → (c : Call) → CallBytes c
    → Becomes l d.image past (obeyed l d c) (lock (after_call l d c).gauge)
unfolding after_call obeyed
calls l d past v (to_write r bytes) s =
    writes l d.image (λ b. b ≤ max_byte) (λ g. Sealed (lock g) past) (Becomes l d.image past) (with_low_lem l d.image past) (no_word_lem l d.image past)
    (one_word l d.image past) d.gauge v r bytes s
calls l d past v (to_read r n buffer) s = no_word_lem l d.image past d.gauge v
calls l d past v (to_supply millivolts) s =
    rw (supply_lock l (length d.image) d.gauge millivolts) (no_word_lem l d.image past d.gauge v)

unseals_is : (l : Layout) (d : Device) (c : Call) → is_sealed d.gauge ≡ true → unseals l d c ≡ not (is_sealed (after_call l d c).gauge)
unfolding unseals
unseals_is l d c p = rw p (sym (pick_last _ _ refl))

script : (l : Layout) (cs : List Call) (d : Device) (past : List ℕ) → Sealed (lock d.gauge) past → ByKeyAlone l d past cs
script l [] d past v = tt
script l (c ∷ cs) d past v = λ s.
    let k = calls l d past v c s in
    let u = unseals_is l d c (rw v.mode) in
    (u ∙ k.by_key, λ e. script l cs (after_call l d c) (obeyed l d c ++ past) (k.or_sealed (sym u ∙ e)))

pub unseals_by_key : UnsealsByKey
unseals_by_key l image cs =
    script l cs (device (power_on boot_sealed) image) [] (record { mode = refl; boot = refl; low = omega arith; pending = refl; last = omega arith })
