-- Only full access changes keys: by one commit, by one write, along a script. A sealed gauge stores
-- into blocks B and C alone, an unsealed one is refused with 16, and a write that makes a word
-- stores nothing.
use Prim.Native.Nat.{ℕ, ◌+◌, ◌≤◌, ◌<◌}
use mathlib.Core.Path.{◌≡◌, refl, sym, ap, ◌∙◌}
use mathlib.Core.Logic.{⊎_elim}
use mathlib.Core.Bool.{true, false, not, true≢false}
use mathlib.Core.List.{List, [], ◌∷◌}
use native.Mathlib.Omega.{arith}
use lib.Dec.{eqb, leb}
use lib.ListN.{length, take}
use lib.Seq.{take-take}
use borrow.Author.Tests.{eqb-true, eqb-false, leb-true, leb-false, eq-eqb, not-true}
use Rattle.flashrules.specs.Outcome.{Outcome, outcome}
use Rattle.flashrules.specs.Answer.{found, length_of}
use Rattle.flashrules.specs.Choice.{differing}
use Rattle.flashrules.specs.Layout.{info_class, key_class, fits}
use Rattle.flashrules.specs.Lookup.{find_block}
use Rattle.flashrules.specs.Image.{block_bytes}
use Rattle.flashrules.specs.Laws.{Within, SameClasses}
use Rattle.flashrules.specs.declared.layout.Layout.{Layout}
use Rattle.flashrules.proofs.Laws.{block_inside, blocks_apart, key_block_lem, store_here, store_elsewhere, differing_none}
use Rattle.flashrules.proofs.LayoutLaws.{fits_parts}
use Rattle.flashrules.proofs.PartLaws.{part_same}
use Rattle.flashrules.proofs.Picks.{and_first, and_rest, on_test, on_answer}
use Rattle.gaugerules.specs.State.{sealed, unsealed, full_access, block_b, block_c, is_sealed, is_unsealed, is_full_access, loaded_of, is_loaded}
use Rattle.gaugerules.specs.Valid.{valid}
use Rattle.gaugerules.specs.Register.{control_high, block_data_checksum, register_of}
use Rattle.gaugerules.specs.Keys.{key_block, keys_end, key_bytes}
use Rattle.gaugerules.specs.Transfer.{changes_keys, committed}
use Rattle.gaugerules.specs.Write.{write_at, write_byte, write_bytes, call_error, write}
use Rattle.gaugerules.specs.Script.{Device, device, Call, to_write, to_read, to_supply, after_call, after_calls, unseals}
use Rattle.gaugerules.specs.Noninterference.{Agree, Kept}
use Rattle.gaugerules.specs.KeyProtection.{KeyChange, never_full_access, KeysKept}
use Rattle.gaugerules.specs.declared.state.Gauge.{Gauge}
use Rattle.gaugerules.specs.State.{block_loaded}
use Rattle.gaugerules.specs.Answer.{ByteAnswer}
use Rattle.gaugerules.proofs.Picks.{on_loaded}
use Rattle.gaugerules.proofs.LoadedLaws.{loaded_is, leaves_keys}
use Rattle.gaugerules.proofs.ByteCases.{on_commit}
use Rattle.gaugerules.proofs.ByteLaws.{only_commit}
use Rattle.gaugerules.proofs.RunLaws.{called}
use Rattle.gaugerules.proofs.ValidLaws.{valid_parts}
use Rattle.gaugerules.proofs.WindowLaws.{Whole, byte_whole}
use Rattle.gaugerules.proofs.LockLaws.{Lock, lock, byte_keeps, run_keeps, control_leaves}
use Rattle.gaugerules.proofs.Noninterference.{sealed_noninterference}

-- ---- one commit

-- what the test of 16 says
record KeyChanged (l : Layout) (image : List ℕ) (g : Gauge) : Type 0 where
  mode : is_unsealed g ≡ true
  loaded : loaded_of g.loaded ≡ block_loaded key_class key_block
  other : not (eqb (differing (key_bytes l image) (take keys_end g.window)) 0) ≡ true

changed_parts : (l : Layout) (image : List ℕ) (g : Gauge) → changes_keys l image g ≡ true → KeyChanged l image g
unfolding changes_keys
changed_parts l image g c =
    let t : (is_unsealed g ≡ true) × (is_loaded g key_class key_block ≡ true)
    × (not (eqb (differing (key_bytes l image) (take keys_end g.window)) 0) ≡ true) = search (and_first, and_rest) in
    record { mode = t.0; loaded = loaded_is g key_class key_block t.1; other = t.2 }

-- keys that a store changes are those of the window
module _ (l : Layout) (image : List ℕ) (g : Gauge) (f : fits l (length image) ≡ true) (h : Whole g) where
  key_stored : loaded_of g.loaded ≡ block_loaded key_class key_block → key_bytes l (committed l image g) ≡ take keys_end g.window
  unfolding committed
  key_stored p =
      let v = fits_parts l (length image) f in
      let long : keys_end ≤ length_of (find_block l (length image) key_class key_block) = rw v.1 (omega (arith, key_block_lem l v.0)) in
      rw (p, store_here l image key_class key_block g.window h) (take-take keys_end _ g.window long)

  other_stored : (i b : ℕ) → loaded_of g.loaded ≡ block_loaded i b → ((i ≡ key_class) × (b ≡ key_block) → ⊥)
      → key_bytes l (committed l image g) ≡ key_bytes l image
  unfolding committed
  other_stored i b p d = rw (p, store_elsewhere l image i b g.window h key_class key_block d)

  -- 16 is not given: the keys stay
  keys_stay : is_unsealed g ≡ true → changes_keys l image g ≡ false → key_bytes l (committed l image g) ≡ key_bytes l image
  unfolding changes_keys committed
  keys_stay u n =
      on_loaded (loaded_of g.loaded) (λ p. rw p)
      (λ i b p.
      on_test (eqb i key_class)
      (λ e.
      on_test (eqb b key_block)
      (λ e'.
      let at : loaded_of g.loaded ≡ block_loaded key_class key_block = p ∙ rw (eqb-true i key_class e, eqb-true b key_block e') in
      on_test (eqb (differing (key_bytes l image) (take keys_end g.window)) 0)
      (λ z. key_stored at ∙ sym ((differing_none _ _).0 (eqb-true _ _ z)))
      (λ z. absurd (true≢false (rw (u, p, e, e', z) at n))))
      (λ e'. other_stored i b p (λ q. eqb-false b key_block e' q.1)))
      (λ e. other_stored i b p (λ q. eqb-false i key_class e q.0)))

  -- it is given: they would not
  keys_change : changes_keys l image g ≡ true → key_bytes l (committed l image g) ≡ key_bytes l image → ⊥
  keys_change c e =
      let p = changed_parts l image g c in
      true≢false (sym p.other ∙ rw ((differing_none _ _).1 (sym e ∙ key_stored p.loaded)))

pub key_change : KeyChange
key_change l image g f v =
    let h = (valid_parts l g v).range.window in (
      λ c. ((changed_parts l image g c).mode, keys_change l image g f h c),
      λ p. on_test (changes_keys l image g) (λ c. c) (λ n. absurd (p.1 (keys_stay l image g f h p.0 n))),
    )

-- ---- a run of an unsealed gauge

module _ (l : Layout) (image : List ℕ) (g : Gauge) (r b : ℕ) (f : fits l (length image) ≡ true) (h : Whole g) (u : is_unsealed g ≡ true) where
  abbrev KeepsKeys : Outcome ByteAnswer (List ℕ) → Type 0
  KeepsKeys s = key_bytes l s.lent ≡ key_bytes l image

  byte_unsealed : KeepsKeys (write_byte l image g r b)
  unfolding write_byte write_at register_of outcome
  byte_unsealed =
      on_test (eqb r block_data_checksum)
      (λ p.
      rw (eqb-true r block_data_checksum p)
      (on_commit KeepsKeys l image g b (λ e. keys_stay l image g f h u (leaves_keys l image g b e)) refl))
      (λ p. ap (key_bytes l) (only_commit l image g r b (eqb-false r block_data_checksum p)))

run_unsealed : (l : Layout) (bs image : List ℕ) (g : Gauge) (r n c : ℕ) → fits l (length image) ≡ true → Whole g → is_unsealed g ≡ true → control_high < r
    → key_bytes l (write_bytes l image g r n c bs).lent ≡ key_bytes l image
unfolding write_bytes write_byte outcome
run_unsealed l [] image g r n c f h u a = refl
run_unsealed l (b ∷ bs) image g r n c f h u a =
    let s = write_byte l image g r b in
    let k = byte_whole l image g b h (register_of r) in
    let mode : s.answer.gauge.mode ≡ g.mode = ap (λ (k : Lock). k.mode) (byte_keeps l image g b r a) in
    let e = byte_unsealed l image g r b f h u in
    on_test (eqb s.answer.error 0)
    (λ p.
    rw p
    (run_unsealed l bs s.lent s.answer.gauge (r + 1) (n + 1) (c + s.answer.changed) (rw k.1 f) k.0 (rw mode u) (omega arith) ∙ e))
    (λ p. rw p e)

-- ---- a write of a sealed gauge

-- the key block is neither B nor C
kept_keys : (l : Layout) (start image : List ℕ) → Kept l start image → key_bytes l image ≡ key_bytes l start
unfolding block_bytes
kept_keys l start image k =
    rw k.size
    (on_answer (find_block l (length start) key_class key_block)
    (λ s n p.
    let in_start = (block_inside l (length start) key_class key_block s n p).end in
    rw p
    (ap (take keys_end)
    (part_same image start s n (rw k.size in_start) in_start (λ j h. k.outside (s + j) (apart s n p j h block_b) (apart s n p j h block_c)))))
    (λ e p. rw p))
  where
    apart : (s n : ℕ) → find_block l (length start) key_class key_block ≡ found s n → (j : ℕ) → j < n → (b : ℕ)
        → Within (find_block l (length start) info_class b) (s + j) → ⊥
    apart s n p j h b =
        on_answer (find_block l (length start) info_class b)
        (λ s' n' q.
        rw q
        (λ w.
        ⊎_elim (λ (d : s + n ≤ s'). omega (arith, w.0)) (λ (d : s' + n' ≤ s). omega (arith, w.1))
        (blocks_apart l (length start) key_class key_block s n info_class b s' n' p q (λ z. omega (arith, z.0)))))
        (λ e q. rw q (λ w. omega (arith, w.1)))

module _ (l : Layout) (image : List ℕ) (g : Gauge) (r : ℕ) (bytes : List ℕ) where
  abbrev after : Device
  after = after_call l (device g image) (to_write r bytes)

  -- it stays sealed, as no word is made, so that demand 3 speaks of it
  write_sealed : fits l (length image) ≡ true → valid l g ≡ true → is_sealed g ≡ true → lock after.gauge ≡ lock g
      → key_bytes l after.image ≡ key_bytes l image
  unfolding unseals
  write_sealed f v s e =
      let same : SameClasses l l = record { count = refl; classes = refl } in
      let agree : Agree l image image = record { info = λ b h. refl } in
      let mode : after.gauge.mode ≡ g.mode = ap (λ (k : Lock). k.mode) e in
      let closed : unseals l (device g image) (to_write r bytes) ≡ false = rw (mode, s) in
      kept_keys l image after.image (sealed_noninterference l l image image g same f f v s agree (to_write r bytes ∷ []) closed closed).2

-- ---- a write

-- what an accepted call's validity leaves beside sealed and full access
is_unsealed_lem : (g : Gauge) → g.mode ≤ full_access → is_sealed g ≡ false → is_full_access g ≡ false → is_unsealed g ≡ true
is_unsealed_lem g m s a = eq-eqb g.mode unsealed (omega (arith, eqb-false g.mode sealed s, eqb-false g.mode full_access a))

write_keeps : (l : Layout) (image : List ℕ) (g : Gauge) (r : ℕ) (bytes : List ℕ) → is_full_access g ≡ false
    → key_bytes l (write l image g r bytes).lent ≡ key_bytes l image
unfolding write after_call outcome
write_keeps l image g r bytes a =
    on_test (eqb (call_error l (length image) g r (length bytes)) 0)
    (λ p.
    let c = called l (length image) g r (length bytes) (eqb-true _ _ p) in
    let range = (valid_parts l g c.sound).range in
    rw p
    (on_test (leb r control_high) (λ low. ap (key_bytes l) (control_leaves l image g r bytes (leb-true r control_high low)))
    (λ low.
    let above = leb-false r control_high low in
    on_test (is_sealed g)
    (λ s. rw p at (write_sealed l image g r bytes c.fitting c.sound s (rw p (run_keeps l bytes image g r 0 0 above))))
    (λ s. run_unsealed l bytes image g r 0 0 c.fitting range.window (is_unsealed_lem g range.mode s a) above))))
    (λ p. rw p)

-- ---- a call, and a script

pub call_keeps : (l : Layout) (d : Device) (c : Call) → is_full_access d.gauge ≡ false → key_bytes l (after_call l d c).image ≡ key_bytes l d.image
unfolding after_call
call_keeps l d (to_write r bytes) a = write_keeps l d.image d.gauge r bytes a
call_keeps l d (to_read r n buffer) a = refl
call_keeps l d (to_supply millivolts) a = refl

pub keys_kept : KeysKept
unfolding after_calls
keys_kept l d [] n = refl
keys_kept l d (c ∷ cs) n =
    let t : (not (is_full_access d.gauge) ≡ true) × (never_full_access l (after_call l d c) cs ≡ true) = search (and_first, and_rest) in
    keys_kept l (after_call l d c) cs t.1 ∙ call_keeps l d c (not-true _ t.0)
