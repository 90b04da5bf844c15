-- A script that never sends the full access key leaves the keys: neither the words to come nor the
-- pending one with them make it, so no word opens the gauge to full access, and the keys stay what
-- they were, so that it is one key all along.
use Prim.Native.Nat.{ℕ}
use mathlib.Core.Path.{◌≡◌, refl, sym, subst, ◌∙◌}
use mathlib.Core.Logic.{◌⊎◌, inl, inr, ⊎_elim}
use mathlib.Core.Bool.{true, false, true≢false}
use mathlib.Core.List.{List, [], ◌∷◌, ◌++◌}
use lib.Dec.{eqb}
use lib.ListN.{length, take}
use borrow.Author.Tests.{eqb-false}
use Rattle.flashrules.specs.declared.layout.Layout.{Layout}
use Rattle.flashrules.proofs.PartLaws.{drop_front}
use Rattle.flashrules.proofs.Picks.{on_test}
use Rattle.gaugerules.specs.State.{full_access, boot_sealed, no_word, is_sealed, is_full_access, none_pending, with_low, power_on, restart}
use Rattle.gaugerules.specs.Keys.{full_access_key, key_length, keys, key_bytes, is_key}
use Rattle.gaugerules.specs.Word.{word, key_wanted, waits, opened, with_status, obey}
use Rattle.gaugerules.specs.Write.{write}
use Rattle.gaugerules.specs.Script.{Device, device, Call, to_write, to_read, to_supply, after_call, made, obeyed, words}
use Rattle.gaugerules.specs.KeyProtection.{never_full_access, sends_full_access_key, KeysKeptWithoutKey}
use Rattle.gaugerules.specs.declared.state.Gauge.{Gauge}
use Rattle.gaugerules.proofs.ByteCases.{on_word}
use Rattle.gaugerules.proofs.LockLaws.{Lock, lock, writes}
use Rattle.gaugerules.proofs.SupplyCases.{supply_lock}
use Rattle.gaugerules.proofs.KeyProtectionLaws.{call_keeps, keys_kept}

-- ---- the words to come

sends_rest : (bs : List ℕ) (w : ℕ) (ws : List ℕ) → sends_full_access_key bs (w ∷ ws) ≡ false → sends_full_access_key bs ws ≡ false
sends_rest bs w [] e = refl
sends_rest bs w (v ∷ vs) e = on_test (is_key bs full_access_key w v) (λ p. absurd (true≢false (rw p at e))) (λ p. rw p at e)

-- the lock of a gauge powered on sealed that is not in full access: neither the words to come, ws,
-- nor the pending word with them make the key
record Guarded (bs ws : List ℕ) (k : Lock) : Type 0 where
  mode : eqb k.mode full_access ≡ false
  boot : k.boot ≡ boot_sealed
  pending : (k.pending ≡ no_word) ⊎ (sends_full_access_key bs (k.pending ∷ ws) ≡ false)
  rest : sends_full_access_key bs ws ≡ false

-- the full access key of an image whose keys are those of the first one
same_key : (l : Layout) (image start : List ℕ) (u w : ℕ) → key_bytes l image ≡ key_bytes l start
    → is_key (keys l image) full_access_key u w ≡ is_key (keys l start) full_access_key u w
unfolding is_key
same_key l image start u w e =
    rw (← drop_front full_access_key key_length (keys l image), e, drop_front full_access_key key_length (keys l start))

-- ---- one word

-- nothing is asked of the bytes sent
abbrev AnyByte : ℕ → Type 0
AnyByte b = Unit

module _ (l : Layout) (start image ws : List ℕ) (e : key_bytes l image ≡ key_bytes l start) where
  abbrev bs : List ℕ
  bs = keys l start

  -- not in full access, with this word pending
  record Waits (pending : ℕ) (g : Gauge) : Type 0 where
    mode : is_full_access g ≡ false
    boot : g.boot ≡ boot_sealed
    is : g.pending ≡ pending

  -- what is to be shown of the words `now`: ws come behind them
  abbrev ToGuarded : ℕ → List ℕ → Lock → Type 0
  ToGuarded pending now k =
      (pending ≡ no_word) ⊎ (sends_full_access_key bs (pending ∷ now ++ ws) ≡ false) → sends_full_access_key bs (now ++ ws) ≡ false → Guarded bs ws k

  module _ (pending : ℕ) where
    no_word_lem : (g : Gauge) → Waits pending g → ToGuarded pending [] (lock g)
    no_word_lem g v h r = record { mode = v.mode; boot = v.boot; pending = subst (λ (p : ℕ). (p ≡ no_word) ⊎ (sends_full_access_key bs (p ∷ ws) ≡ false)) (sym v.is) h; rest = r }

    module _ (g : Gauge) (w : ℕ) (v : Waits pending g) where
      abbrev Obeyed : Gauge → Type 0
      Obeyed c = ToGuarded pending (w ∷ []) (lock c)

      -- no word is pending after it
      clears : (c : Gauge) → is_full_access c ≡ false → c.boot ≡ boot_sealed → c.pending ≡ no_word → Obeyed c
      clears c m b n h r = record { mode = m; boot = b; pending = inl n; rest = sends_rest bs w ws r }

      waits_on : Obeyed (waits g w)
      waits_on h r = record { mode = v.mode; boot = v.boot; pending = inr r; rest = sends_rest bs w ws r }

      -- the key opens a sealed gauge, and an unsealed one never hears it
      opens : none_pending g ≡ false → is_key (keys l image) (key_wanted g) g.pending w ≡ true → Obeyed (opened g)
      opens n k h r =
          on_test (is_sealed g) (λ s. clears (opened g) (rw s) v.boot refl h r)
          (λ s.
          let key : is_key bs full_access_key pending w ≡ true = sym (same_key l image start pending w e) ∙ rw (s, v.is) at k in
          absurd
          (⊎_elim (λ (z : pending ≡ no_word). eqb-false g.pending no_word n (v.is ∙ z))
          (λ (z : sends_full_access_key bs (pending ∷ w ∷ ws) ≡ false). true≢false (rw key at z)) h))

      obeys : Obeyed (obey l image g w)
      obeys =
          on_word Obeyed l image g w (clears (with_status g) v.mode v.boot refl) (clears (restart g boot_sealed) refl refl refl)
          (clears (restart g g.boot) (rw v.boot) (rw v.boot) refl) (λ a. absurd (true≢false (sym a ∙ v.mode))) (λ _. waits_on) opens

    any_low : (g : Gauge) (b : ℕ) → AnyByte b → Waits pending g → Waits pending (with_low g b)
    any_low g b t v = record { mode = v.mode; boot = v.boot; is = v.is }

    guarded_write : (g : Gauge) → Waits pending g → (r : ℕ) (bytes : List ℕ) → let x = (write l image g r bytes).answer in
        ToGuarded pending (made g.low r (take x.accepted bytes)) (lock x.gauge)
    guarded_write g v r bytes =
        writes l image AnyByte (Waits pending) (ToGuarded pending) any_low no_word_lem (λ c b t k. obeys c (word c.low b) k) g v r bytes (λ _. tt)

-- ---- a call, and a script

guarded_call : (l : Layout) (start : List ℕ) (d : Device) (ws : List ℕ) (c : Call) → key_bytes l d.image ≡ key_bytes l start
    → Guarded (keys l start) (obeyed l d c ++ ws) (lock d.gauge) → Guarded (keys l start) ws (lock (after_call l d c).gauge)
unfolding after_call obeyed
guarded_call l start d ws (to_write r bytes) e g =
    guarded_write l start d.image ws e d.gauge.pending d.gauge (record { mode = g.mode; boot = g.boot; is = refl }) r bytes g.pending g.rest
guarded_call l start d ws (to_read r n buffer) e g = g
guarded_call l start d ws (to_supply millivolts) e g = rw (supply_lock l (length d.image) d.gauge millivolts) g

guarded : (l : Layout) (start : List ℕ) (cs : List Call) (d : Device) → key_bytes l d.image ≡ key_bytes l start
    → Guarded (keys l start) (words l d cs) (lock d.gauge) → never_full_access l d cs ≡ true
guarded l start [] d e g = refl
guarded l start (c ∷ cs) d e g =
    let after = after_call l d c in
    let rest = guarded l start cs after (call_keeps l d c g.mode ∙ e) (guarded_call l start d (words l after cs) c e g) in
    rw (g.mode, rest)

pub keys_kept_without_key : KeysKeptWithoutKey
keys_kept_without_key l image cs n =
    let d = device (power_on boot_sealed) image in
    keys_kept l d cs (guarded l image cs d refl (record { mode = refl; boot = refl; pending = inl refl; rest = n }))
