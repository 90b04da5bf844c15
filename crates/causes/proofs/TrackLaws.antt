-- Laws of a write whose bytes are noted: the loop over the bytes, and the checks before it.
use Rattle.std.proofs.Common.{◌≡◌, ℕ, arith, ◌+◌, ◌<◌, ◌≤◌, eqb, List, [], ◌∷◌, length, get_or, drop, refl, add-one, drop_of_length-le, drop-cons, ne_eqb}
use Rattle.flashrules.specs.Outcome.{Outcome, outcome}
use Rattle.flashrules.specs.declared.layout.Layout.{Layout}
use Rattle.flashrules.proofs.Picks.{on_test}
use Rattle.gaugerules.specs.Write.{write_byte, write_bytes, call_error, write}
use Rattle.gaugerules.specs.declared.state.Gauge.{Gauge}
use Rattle.gaugerules.specs.declared.answer.ByteWritten.{ByteWritten}
use Rattle.gaugerules.specs.Answer.{WriteAnswer, byte_answer}
use Rattle.std.specs.Prelude.{Result, Ok, Err}
use Rattle.flashrules.specs.Error.{number, number_of}
use Rattle.flashrules.specs.declared.error.Error.{Error}
use Rattle.flashrules.proofs.ErrorLaws.{number_some, check_passed, check_number}
use Rattle.causerules.specs.History.{step, byte_steps, write_steps}
use Rattle.causerules.specs.Notes.{note, tracked, track}
use Rattle.causerules.specs.declared.notes.Notes.{Notes}
use Rattle.causerules.specs.declared.notes.TrackAnswer.{TrackAnswer}
use Rattle.causes.specs.Track.{track_bytes}

-- ---- how many bytes were accepted before, and what they changed, shows in the counts alone

abbrev Alike : Outcome WriteAnswer (List ℕ) → Outcome WriteAnswer (List ℕ) → Type 0
Alike w v = (w.answer.error ≡ v.answer.error) × (w.answer.gauge ≡ v.answer.gauge) × (w.lent ≡ v.lent)

run_alike : (l : Layout) (bs image : List ℕ) (g : Gauge) (r n c m d : ℕ) → Alike (write_bytes l image g r n c bs) (write_bytes l image g r m d bs)
unfolding write_bytes outcome
run_alike l [] image g r n c m d = (refl, refl, refl)
run_alike l (b ∷ bs) image g r n c m d =
    let s = write_byte l image g r b in
    on_test (eqb s.answer.error 0)
    (λ q. rw q (run_alike l bs s.lent s.answer.gauge (r + 1) (n + 1) (c + s.answer.changed) (m + 1) (d + s.answer.changed)))
    (λ q. rw q (refl, refl, refl))

-- ---- the loop over the bytes: what is left to write gives what the whole gives. `e` is its
-- invariant

module _ (l : Layout) (image : List ℕ) (g : Gauge) (n : Notes) (bs : List ℕ) (r i : ℕ) (z : Outcome TrackAnswer (List ℕ))
    (e : track_bytes l image g n (r + i) (drop i bs) ≡ z) where
  pub track_end : length bs ≤ i → outcome (tracked 0 g n) image ≡ z
  unfolding track_bytes write_bytes byte_steps outcome
  track_end h = rw drop_of_length-le at e

  module _ (s : Result ByteWritten Error) (to : List ℕ) (p : outcome (byte_answer g s) to ≡ write_byte l image g (r + i) (get_or bs i 0)) (h : i < length bs) where
    abbrev rest : List ℕ
    rest = drop (i + 1) bs

    here : track_bytes l image g n (r + i) (get_or bs i 0 ∷ rest) ≡ z
    here = let q : drop i bs ≡ get_or bs i 0 ∷ rest = rw (add-one, drop-cons bs i 0) in rw q at e

    pub track_more : (w : ByteWritten) → s ≡ Ok w → (m : Notes) → m ≡ note n (step n.line (r + i) g w.gauge) → track_bytes l to w.gauge m (r + (i + 1)) rest ≡ z
    unfolding track_bytes write_bytes byte_steps outcome
    track_more w q m t =
        let a = run_alike l rest to w.gauge (r + i + 1) (0 + 1) (0 + w.changed) 0 0 in
        let next : r + i + 1 ≡ r + (i + 1) = omega arith in
        rw (← next, t, ← a.0, ← a.1, ← a.2) (rw (← p, q) at here)

    pub track_stop : (x : Error) → s ≡ Err x → outcome (tracked (number x) g n) to ≡ z
    unfolding track_bytes write_bytes byte_steps outcome
    track_stop x q = rw (← p, q, ne_eqb (number x) 0 (λ y. omega (arith, number_some x))) at here

pub ruleset turns = (track_end, track_more, track_stop)

-- ---- the checks before the first byte

module _ (l : Layout) (image bs : List ℕ) (g : Gauge) (n : Notes) (r : ℕ) (a : Result Unit Error) (p : number_of a ≡ call_error l (length image) g r (length bs)) where
  pub tracks : (t : TrackAnswer) (to : List ℕ) → a ≡ Ok tt → outcome t to ≡ track_bytes l image g n r bs → outcome t to ≡ track l image g n r bs
  unfolding track track_bytes write write_steps
  tracks t to q x = rw (check_passed a _ p tt q) x

  pub tracks_not : (e : Error) → a ≡ Err e → outcome (tracked (number e) g n) image ≡ track l image g n r bs
  unfolding track write write_steps outcome
  tracks_not e q = rw (check_number a _ p e q, ne_eqb (number e) 0 (λ y. omega (arith, number_some e)))

pub ruleset checked = (tracks, tracks_not)
