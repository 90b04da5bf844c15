-- What changes the supply, and that nothing is stored on a low one: no byte touches the supply, so
-- no write does, and a byte at 0x60 that is accepted meets a supply that is not low.
use Prim.Native.Nat.{ℕ, ◌+◌}
use mathlib.Core.Path.{◌≡◌, refl, sym, ap, ◌∙◌}
use mathlib.Core.Bool.{true, true≢false}
use mathlib.Core.List.{List, [], ◌∷◌}
use lib.Dec.{eqb, leb}
use lib.ListN.{length}
use borrow.Author.Tests.{eqb-true, eqb-false, leb-true, leb-false, le-ltb, lt-ltb}
use Rattle.flashrules.specs.Outcome.{Outcome, outcome}
use Rattle.flashrules.specs.declared.layout.Layout.{Layout}
use Rattle.flashrules.proofs.Picks.{and_first, and_rest, on_test}
use Rattle.gaugerules.specs.State.{max_supply, has_low_supply}
use Rattle.gaugerules.specs.Register.{block_data_checksum, register_of}
use Rattle.gaugerules.specs.Word.{word, obey}
use Rattle.gaugerules.specs.Write.{write_at, write_byte, write_bytes, call_error, write}
use Rattle.gaugerules.specs.Supply.{supply_error, set_supply}
use Rattle.gaugerules.specs.Script.{Device, Call, to_write, to_read, to_supply, after_call, after_calls, unseals}
use Rattle.gaugerules.specs.Laws.{Good}
use Rattle.gaugerules.specs.SupplyLaws.{RestartKeepsSupply, WriteKeepsSupply, SupplySet, SupplyGood, supply_after, ScriptSupply}
use Rattle.gaugerules.specs.SupplyLaws.{SupplyNeverUnseals, always_low, LowSupplyKeepsImage}
use Rattle.gaugerules.specs.declared.state.Gauge.{Gauge}
use Rattle.gaugerules.specs.Answer.{ByteAnswer}
use Rattle.gaugerules.proofs.LoadedLaws.{well_supplied}
use Rattle.gaugerules.proofs.ByteCases.{on_commit, on_word}
use Rattle.gaugerules.proofs.KeptLaws.{Untouched, byte_keeps_part}
use Rattle.gaugerules.proofs.ByteLaws.{only_commit}
use Rattle.gaugerules.proofs.ValidLaws.{valid_parts, parts_valid, supply_valid, write_good}
use Rattle.gaugerules.proofs.LockLaws.{Lock}
use Rattle.gaugerules.proofs.SupplyCases.{on_supply, supply_lock}

pub restart_keeps_supply : RestartKeepsSupply
unfolding obey
restart_keeps_supply l image g = (refl, refl)

-- ---- no byte changes the supply

word_keeps : (l : Layout) (image : List ℕ) (g : Gauge) (w : ℕ) → (obey l image g w).supply ≡ g.supply
word_keeps l image g w = on_word (λ h. h.supply ≡ g.supply) l image g w refl refl refl (λ _. refl) (λ _. refl) (λ _ _. refl)

supply_untouched : Untouched (λ (g : Gauge). g.supply)
supply_untouched = record { class = λ g i. refl; control = λ g x. refl; load = λ g byte i b w. refl; window = λ g w. refl }

byte_keeps : (l : Layout) (image : List ℕ) (g : Gauge) (r byte : ℕ) → (write_byte l image g r byte).answer.gauge.supply ≡ g.supply
byte_keeps l image g r byte =
    byte_keeps_part (λ (h : Gauge). h.supply) supply_untouched l image g byte r (λ _. refl) (λ _. word_keeps l image g (word g.low byte))

-- ---- nothing is stored on a low supply

byte_stores_none : (l : Layout) (image : List ℕ) (g : Gauge) (r b : ℕ) → has_low_supply g ≡ true → (write_byte l image g r b).lent ≡ image
unfolding write_byte write_at register_of outcome
byte_stores_none l image g r b low =
    on_test (eqb r block_data_checksum)
    (λ p.
    rw (eqb-true r block_data_checksum p)
    (on_commit (λ (s : Outcome ByteAnswer (List ℕ)). s.lent ≡ image) l image g b (λ e. absurd (true≢false (sym low ∙ well_supplied l image g b e))) refl))
    (λ p. only_commit l image g r b (eqb-false r block_data_checksum p))

-- what is claimed of a run: it keeps the supply, and on a low one the image
record Runs (image : List ℕ) (g g' : Gauge) (to : List ℕ) : Type 0 where
  supply : g'.supply ≡ g.supply
  kept : has_low_supply g ≡ true → to ≡ image

runs : (l : Layout) (bs image : List ℕ) (g : Gauge) (r n c : ℕ) → let w = write_bytes l image g r n c bs in Runs image g w.answer.gauge w.lent
unfolding write_bytes write_byte outcome
runs l [] image g r n c = record { supply = refl; kept = λ _. refl }
runs l (b ∷ bs) image g r n c =
    let s = write_byte l image g r b in
    let k : s.answer.gauge.supply ≡ g.supply = byte_keeps l image g r b in
    let rest = runs l bs s.lent s.answer.gauge (r + 1) (n + 1) (c + s.answer.changed) in
    on_test (eqb s.answer.error 0)
    (λ p. rw p (record { supply = rest.supply ∙ k; kept = λ low. rest.kept (rw k low) ∙ byte_stores_none l image g r b low }))
    (λ p. rw p (record { supply = k; kept = byte_stores_none l image g r b }))

writes : (l : Layout) (image : List ℕ) (g : Gauge) (r : ℕ) (bytes : List ℕ) → let w = write l image g r bytes in Runs image g w.answer.gauge w.lent
unfolding write outcome
writes l image g r bytes =
    on_test (eqb (call_error l (length image) g r (length bytes)) 0)
    (λ p. rw p (runs l bytes image g r 0 0)) (λ p. rw p (record { supply = refl; kept = λ _. refl }))

pub write_keeps_supply : WriteKeepsSupply
write_keeps_supply l image g r bytes = (writes l image g r bytes).supply

call_stores_none : (l : Layout) (d : Device) (c : Call) → has_low_supply d.gauge ≡ true → (after_call l d c).image ≡ d.image
unfolding after_call
call_stores_none l d (to_write r bytes) low = (writes l d.image d.gauge r bytes).kept low
call_stores_none l d (to_read r n buffer) low = refl
call_stores_none l d (to_supply millivolts) low = refl

pub low_supply_keeps_image : LowSupplyKeepsImage
unfolding after_calls
low_supply_keeps_image l d [] n = refl
low_supply_keeps_image l d (c ∷ cs) n =
    let t : (has_low_supply d.gauge ≡ true) × (always_low l (after_call l d c) cs ≡ true) = search (and_first, and_rest) in
    low_supply_keeps_image l (after_call l d c) cs t.1 ∙ call_stores_none l d c t.0

-- ---- the call

pub supply_set : SupplySet
unfolding set_supply supply_error
supply_set l image g millivolts o =
    on_test (leb millivolts max_supply)
    (λ p. rw (o.fits, o.valid, p, le-ltb max_supply millivolts (leb-true millivolts max_supply p)))
    (λ p. rw (o.fits, o.valid, p, lt-ltb max_supply millivolts (leb-false millivolts max_supply p)))

pub supply_good : SupplyGood
supply_good l image g millivolts o =
    on_supply l (length image) g millivolts (λ s. Good l image s.gauge)
    (λ h. record { fits = o.fits; valid = parts_valid l _ (supply_valid l g (valid_parts l g o.valid) millivolts h); bytes = o.bytes })
    (λ e. o)

pub supply_never_unseals : SupplyNeverUnseals
unfolding unseals after_call
supply_never_unseals l d millivolts =
    let mode : (set_supply l (length d.image) d.gauge millivolts).gauge.mode ≡ d.gauge.mode =
    ap (λ (k : Lock). k.mode) (supply_lock l (length d.image) d.gauge millivolts) in
    on_test (eqb d.gauge.mode 0) (λ p. rw (mode, p)) (λ p. rw p)

-- ---- a script

pub script_supply : ScriptSupply
unfolding after_calls after_call
script_supply l d [] o b = refl
script_supply l d (to_write r bytes ∷ cs) o b =
    let w = write l d.image d.gauge r bytes in
    script_supply l (after_call l d (to_write r bytes)) cs (write_good l d.image d.gauge r bytes b.0 o) b.1
    ∙ ap (λ (s : ℕ). supply_after s cs) (write_keeps_supply l d.image d.gauge r bytes)
script_supply l d (to_read r n buffer ∷ cs) o b = script_supply l d cs o b.1
script_supply l d (to_supply millivolts ∷ cs) o b =
    let is = supply_set l d.image d.gauge millivolts o in
    script_supply l (after_call l d (to_supply millivolts)) cs (supply_good l d.image d.gauge millivolts o) b.1
    ∙ ap (λ (s : ℕ). supply_after s cs) (on_test (leb millivolts max_supply) (λ p. rw (is, p)) (λ p. rw (is, p)))
