-- Scripts: a device is a gauge with the image that it is lent, a script is a list of calls on it.
-- Document 01, "Two gauges, one script".
use Rattle.std.specs.Prelude.{ℕ, ◌+◌, Bool, true, false, cond, not, List, [], ◌∷◌, ◌++◌, eqb, length, take}
use Rattle.flashrules.specs.Outcome.{Outcome}
use Rattle.flashrules.specs.Choice.{and}
use Rattle.flashrules.specs.declared.layout.Layout.{Layout}
use Rattle.gaugerules.specs.State.{is_sealed}
use Rattle.gaugerules.specs.Register.{control_low, control_high}
use Rattle.gaugerules.specs.Keys.{unseal_key, keys, is_key}
use Rattle.gaugerules.specs.Word.{word, status_word, seal_word, reset_word}
use Rattle.gaugerules.specs.Write.{write}
use Rattle.gaugerules.specs.Read.{read}
use Rattle.gaugerules.specs.Supply.{set_supply}
use Rattle.gaugerules.specs.declared.state.Gauge.{Gauge}
use Rattle.gaugerules.specs.Answer.{ReadAnswer}

pub record Device : Type 0 where
  pub gauge : Gauge
  pub image : List ℕ

abbrev pub device : Gauge → List ℕ → Device
device g image = record { gauge = g; image = image }

-- 01: "The calls of demand 3 are the write and the read.", "The list holds every register, every
-- count, every byte to be written and every reply room": a write at a register of its bytes; a read
-- at a register of a count, into a buffer. C-16: "demand 3 holds with supply frames in the one
-- script": a supply in millivolts
pub data Call : Type 0 where
  to_write : ℕ → List ℕ → Call
  to_read : ℕ → ℕ → List ℕ → Call
  to_supply : ℕ → Call

-- 01: "Compared are the refusal number, the count taken and, for a read, the room afterwards, with
-- the bytes past the answer." C-12: "Demand 3 includes the new number". A supply has the number
-- alone
pub data Reply : Type 0 where
  of_write : ℕ → ℕ → ℕ → Reply
  of_read : Outcome ReadAnswer (List ℕ) → Reply
  of_supply : ℕ → Reply

unfoldable pub reply : Layout → Device → Call → Reply
reply l d (to_write r bytes) =
    let w = (write l d.image d.gauge r bytes).answer in of_write w.error w.accepted w.changed
reply l d (to_read r n buffer) = of_read (read l d.image d.gauge r n buffer)
reply l d (to_supply millivolts) = of_supply (set_supply l (length d.image) d.gauge millivolts).error

-- 01: "every call gets the record and image that the call before it left, refused or not"
unfoldable pub after_call : Layout → Device → Call → Device
after_call l d (to_write r bytes) = let w = write l d.image d.gauge r bytes in device w.answer.gauge w.lent
after_call l d (to_read r n buffer) = d
after_call l d (to_supply millivolts) = device (set_supply l (length d.image) d.gauge millivolts).gauge d.image

-- calls one after the other
unfoldable pub after_calls : Layout → Device → List Call → Device
after_calls l d [] = d
after_calls l d (c ∷ cs) = after_calls l (after_call l d c) cs

-- the images that they leave, one after the other
unfoldable pub images_after : Layout → Device → List Call → List (List ℕ)
images_after l d [] = []
images_after l d (c ∷ cs) = let after = after_call l d c in after.image ∷ images_after l after cs

-- the error number of a reply
abbrev pub reply_error : Reply → ℕ
reply_error (of_write e n changed) = e
reply_error (of_read r) = r.answer.error
reply_error (of_supply e) = e

-- none of them is refused
unfoldable pub all_accepted : Layout → Device → List Call → Bool
all_accepted l d [] = true
all_accepted l d (c ∷ cs) = and (eqb (reply_error (reply l d c)) 0 ∷ all_accepted l (after_call l d c) cs ∷ [])

-- 01: "A write opens a sealed gauge when that gauge is no longer sealed after it, even if a later
-- byte of it is refused."
unfoldable pub unseals : Layout → Device → Call → Bool
unseals l d c = and (is_sealed d.gauge ∷ not (is_sealed (after_call l d c).gauge) ∷ [])

-- ---- 01's other wording of it: "a byte taken at 0x01 makes a word, another word was obeyed before
-- it, .."

-- the word that bytes make which were taken at r, r + 1 and so on, or none, since they pass 0x01
-- once or not at all; `low` is the low control byte before them
unfoldable pub made : ℕ → ℕ → List ℕ → List ℕ
made low r [] = []
made low r (b ∷ bs) =
    cond (eqb r control_low) (made b (r + 1) bs)
    (cond (eqb r control_high) (word low b ∷ []) [])

-- the word that a call makes, or none
unfoldable pub obeyed : Layout → Device → Call → List ℕ
obeyed l d (to_write r bytes) =
    made d.gauge.low r (take (write l d.image d.gauge r bytes).answer.accepted bytes)
obeyed l d (to_read r n buffer) = []
obeyed l d (to_supply millivolts) = []

-- the words that a script makes, in its order
abbrev pub words : Layout → Device → List Call → List ℕ
words l d [] = []
words l d (c ∷ cs) = obeyed l d c ++ words l (after_call l d c) cs

-- "neither it nor the last one before it is 0x0000, 0x0020 or 0x0041"
abbrev pub may_be_key : ℕ → Bool
may_be_key w = and (not (eqb w status_word) ∷ not (eqb w seal_word) ∷ not (eqb w reset_word) ∷ [])

-- "and these two, as sent, are that gauge's own unseal key": the word that a call makes, `now`, and
-- the last one of `past`
unfoldable pub enters_key : Layout → List ℕ → List ℕ → List ℕ → Bool
enters_key l image [] past = false
enters_key l image (w ∷ now) [] = false
enters_key l image (w ∷ now) (u ∷ past) = and (may_be_key u ∷ may_be_key w ∷ is_key (keys l image) unseal_key u w ∷ [])
