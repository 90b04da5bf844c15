-- The named line is the true one: the history of a script leads from power-on to the gauge that the
-- refused byte met, write by write, and what is claimed of a write's history is so of all of it.
use Prim.Native.Nat.{ℕ, suc, ◌+◌, ◌≤◌}
use mathlib.Core.Path.{◌≡◌, refl, sym, ◌∙◌}
use mathlib.Core.Logic.{⊎_elim}
use mathlib.Core.Bool.{true, cond, true≢false}
use mathlib.Core.List.{List, [], ◌∷◌, ◌++◌, append_assoc, append-nil}
use native.Mathlib.Omega.{arith}
use lib.Dec.{eqb, leb}
use lib.ListN.{length}
use Rattle.flashrules.specs.Error.{protected_block, wrong_checksum}
use Rattle.flashrules.specs.Layout.{fits}
use Rattle.flashrules.specs.declared.layout.Layout.{Layout}
use Rattle.flashrules.proofs.Picks.{on_test}
use Rattle.gaugerules.specs.State.{boot_sealed, max_supply, power_on, loaded_of}
use Rattle.gaugerules.specs.Transfer.{is_protected}
use Rattle.gaugerules.specs.Script.{Device, after_call}
use Rattle.gaugerules.specs.declared.state.Gauge.{Gauge}
use Rattle.gaugerules.specs.Laws.{Good}
use Rattle.gaugerules.proofs.Laws.{power_on_valid, write_good, write_length, supply_set, supply_good}
use Rattle.causerules.specs.History.{Step, write_steps, supply_steps}
use Rattle.causerules.specs.Cause.{latest, gives, reason_of, line_for, four_bytes, matching, cause_text}
use Rattle.causerules.specs.Laws.{EachStep, Leads, OfLine, holds_for, gave_for, Since, FromOne, Tells}
use Rattle.causerules.specs.declared.reason.Reason.{Reason}
use Rattle.causerules.proofs.Laws.{write_history, supply_history, reason_holds, latest_since, reason_told, supply_told}
use Rattle.scriptrules.specs.Frame.{Frame, write_frame, read_frame, supply_frame, lines_of}
use Rattle.scriptrules.specs.Reply.{after_frame, after_frames}
use Rattle.scriptrules.specs.Replay.{powered_on}
use Rattle.scriptrules.specs.Laws.{Sendable, AllSendable}
use Rattle.scriptrules.specs.Why.{frame_steps, history, explanation, explanations}
use Rattle.scriptrules.specs.WhyLaws.{ExplainedEach, ExplainedCount, ExplainedSupply, answer_after, history_up_to, named_line, TrueLine, CauseTrue, CausedByLine}
use Rattle.scriptrules.proofs.LineLaws.{lines_append}
use Rattle.scriptrules.proofs.WholeLines.{lines_one}

-- ---- frames one behind the other

explained_behind : (l : Layout) (d : Device) (h : List Step) (line : ℕ) (fs gs : List Frame)
    → explanations l d h line (fs ++ gs)
    ≡ explanations l d h line fs ++ explanations l (after_frames l d fs) (h ++ history l d line fs) (line + length fs) gs
explained_behind l d h line [] gs = let e : line + 0 ≡ line = omega arith in rw (append-nil, e)
explained_behind l d h line (f ∷ fs) gs =
    let e : line + length (f ∷ fs) ≡ line + 1 + length fs = omega arith in
    rw (explained_behind l (after_frame l d f) (h ++ frame_steps l d line f) (line + 1) fs gs, append_assoc, append_assoc, e)

pub explained_each : ExplainedEach
explained_each l d fs f gs = explained_behind l d [] 1 fs (f ∷ gs)

-- ---- a line for each refused write

cause_lines : (e : ℕ) (g : Gauge) (line : ℕ) → length (lines_of (cause_text e g line)) ≡ cond (eqb e 0) 0 1
unfolding cause_text
cause_lines e g line = on_test (eqb e 0) (λ p. rw p) (λ p. rw p (lines_one (e ∷ four_bytes line ++ matching e g)))

pub explained_count : ExplainedCount
unfolding explanation
explained_count l d h line [] = refl
explained_count l d h line (write_frame r bytes ∷ fs) =
    let f = write_frame r bytes in
    lines_append (explanation l d h line f) _
    ∙ rw (cause_lines _ _ _, explained_count l (after_frame l d f) (h ++ frame_steps l d line f) (line + 1) fs)
explained_count l d h line (read_frame r n ∷ fs) = explained_count l (after_frame l d (read_frame r n)) (h ++ []) (line + 1) fs
explained_count l d h line (supply_frame millivolts ∷ fs) =
    let f = supply_frame millivolts in
    lines_append (explanation l d h line f) _
    ∙ rw (cause_lines _ _ _, explained_count l (after_frame l d f) (h ++ frame_steps l d line f) (line + 1) fs)

-- ---- a supply

module _ (l : Layout) where
  frame_good : (d : Device) (f : Frame) → Sendable f → Good l d.image d.gauge → let d' = after_frame l d f in Good l d'.image d'.gauge
  unfolding after_frame after_call
  frame_good d (write_frame r bytes) s o = write_good l d.image d.gauge r bytes (λ k. s.bytes (suc (suc k))) o
  frame_good d (read_frame r n) s o = o
  frame_good d (supply_frame millivolts) s o = supply_good l d.image d.gauge millivolts o

  frames_good : (d : Device) (fs : List Frame) → AllSendable fs → Good l d.image d.gauge → let d' = after_frames l d fs in Good l d'.image d'.gauge
  frames_good d [] s o = o
  frames_good d (f ∷ fs) s o = frames_good (after_frame l d f) fs s.1 (frame_good d f s.0 o)

pub explained_supply : ExplainedSupply
unfolding explanation cause_text
explained_supply l image fs h line millivolts f b s =
    let d = after_frames l (powered_on image) fs in
    let o = frames_good l (powered_on image) fs s (record { fits = f; valid = power_on_valid l boot_sealed; bytes = b }) in
    rw (supply_set l d.image d.gauge millivolts o) (on_test (leb millivolts max_supply) (λ p. rw p) (λ p. rw p))

-- ---- the history of frames

leads_on : (g k g' : Gauge) (h more : List Step) → Leads g h k → Leads k more g' → Leads g (h ++ more) g'
leads_on g k g' [] more p q = rw p q
leads_on g k g' (s ∷ h) more p q = (p.0, leads_on s.after k g' h more p.1 q)

each_on : (Q : Step → Type 0) (h more : List Step) → EachStep Q h → EachStep Q more → EachStep Q (h ++ more)
each_on Q [] more p q = q
each_on Q (s ∷ h) more p q = (p.0, each_on Q h more p.1 q)

module _ (l : Layout) where
  frame_leads : (d : Device) (line : ℕ) (f : Frame) → Leads d.gauge (frame_steps l d line f) (after_frame l d f).gauge
  unfolding after_frame after_call
  frame_leads d line (write_frame r bytes) = (write_history l d.image d.gauge line r bytes).0
  frame_leads d line (read_frame r n) = refl
  frame_leads d line (supply_frame millivolts) = (supply_history l (length d.image) d.gauge line millivolts).0

  history_leads : (d : Device) (line : ℕ) (fs : List Frame) → Leads d.gauge (history l d line fs) (after_frames l d fs).gauge
  history_leads d line [] = refl
  history_leads d line (f ∷ fs) =
      leads_on d.gauge _ _ (frame_steps l d line f) _ (frame_leads d line f) (history_leads (after_frame l d f) (line + 1) fs)

  -- what is so of every write's history and of every supply's, from line 1 on
  record Each (Q : Step → Type 0) : Type 0 where
    writes : (image : List ℕ) (g : Gauge) (line r : ℕ) (bytes : List ℕ) → 1 ≤ line → EachStep Q (write_steps l image g line r bytes)
    supplies : (size : ℕ) (g : Gauge) (line millivolts : ℕ) → 1 ≤ line → EachStep Q (supply_steps l size g line millivolts)

  module _ (Q : Step → Type 0) (q : Each Q) where
    frame_each : (d : Device) (line : ℕ) (f : Frame) → 1 ≤ line → EachStep Q (frame_steps l d line f)
    frame_each d line (write_frame r bytes) h = q.writes d.image d.gauge line r bytes h
    frame_each d line (read_frame r n) h = tt
    frame_each d line (supply_frame millivolts) h = q.supplies (length d.image) d.gauge line millivolts h

    history_each : (d : Device) (line : ℕ) (fs : List Frame) → 1 ≤ line → EachStep Q (history l d line fs)
    history_each d line [] h = tt
    history_each d line (f ∷ fs) h =
        each_on Q (frame_steps l d line f) _ (frame_each d line f h) (history_each (after_frame l d f) (line + 1) fs (omega arith))

  frame_length : (d : Device) (f : Frame) → length (after_frame l d f).image ≡ length d.image
  unfolding after_frame after_call
  frame_length d (write_frame r bytes) = write_length l d.image d.gauge r bytes
  frame_length d (read_frame r n) = refl
  frame_length d (supply_frame millivolts) = refl

  after_fits : (d : Device) (fs : List Frame) → fits l (length d.image) ≡ true → fits l (length (after_frames l d fs).image) ≡ true
  after_fits d [] h = h
  after_fits d (f ∷ fs) h = after_fits (after_frame l d f) fs (rw (frame_length d f) h)

-- ---- the named line

numbered : (line : ℕ) (h : List Step) → 1 ≤ line → EachStep (OfLine line) h → EachStep FromOne h
numbered line [] k e = tt
numbered line (s ∷ h) k e = (omega (arith, e.0), numbered line h k e.1)

module _ (l : Layout) (image : List ℕ) (fs : List Frame) (r : ℕ) (bytes : List ℕ) (f : fits l (length image) ≡ true) where
  abbrev d : Device
  d = after_frames l (powered_on image) fs

  abbrev met : Gauge
  met = (answer_after l image fs r bytes).gauge

  abbrev reason : Reason
  reason = reason_of (answer_after l image fs r bytes).error met

  abbrev h : List Step
  h = history_up_to l image fs r bytes

  leads : Leads (power_on boot_sealed) h met
  leads =
      leads_on (power_on boot_sealed) d.gauge met (history l (powered_on image) 1 fs) _ (history_leads l (powered_on image) 1 fs)
      (write_history l d.image d.gauge (1 + length fs) r bytes).0

  each : (Q : Step → Type 0) → Each l Q → EachStep Q h
  each Q q =
      each_on Q (history l (powered_on image) 1 fs) _ (history_each l Q q (powered_on image) 1 fs (omega arith))
      (q.writes d.image d.gauge (1 + length fs) r bytes (omega arith))

  abbrev TrueFor : Reason → Type 0
  TrueFor why = TrueLine (1 + length fs) why met h (line_for why (1 + length fs) h)

  since : (why : Reason) → holds_for why met met ≡ true → TrueFor why
  since why p =
      by why
      (latest_since (gives why) (gave_for why met) (holds_for why met) (power_on boot_sealed) h met leads
      (each FromOne
      (record {
        writes = λ image g line r bytes k. numbered line (write_steps l image g line r bytes) k (write_history l image g line r bytes).2;
        supplies = λ size g line m k. numbered line (supply_steps l size g line m) k (supply_history l size g line m).1;
      }))
      (each (Tells (gives why) (gave_for why met) (holds_for why met))
      (record { writes = λ image g line r bytes _. reason_told l image g line r bytes why met; supplies = λ size g line m _. supply_told l size g line m why met }))
      p)
    where
      by : (why : Reason) → Since (gave_for why met) (holds_for why met) (power_on boot_sealed) h (latest (gives why) h) → TrueFor why
      by Reason.Itself s = record { itself = λ _. refl; began = λ n. absurd (n refl) }
      by Reason.Sealed s = record { itself = λ e. cc; began = λ _. s }
      by Reason.NothingLoaded s = record { itself = λ e. cc; began = λ _. s }
      by Reason.Protected s = record { itself = λ e. cc; began = λ _. s }
      by Reason.Class s = record { itself = λ e. cc; began = λ _. s }
      by Reason.Window s = record { itself = λ e. cc; began = λ _. s }

  true_cause : TrueFor reason
  true_cause = since reason (reason_holds l d.image d.gauge r bytes (after_fits l (powered_on image) fs f))

  -- what did not hold at power-on began at some line
  from_line : (holds_for reason met (power_on boot_sealed) ≡ true → ⊥) → named_line l image fs r bytes ≡ 0 → ⊥
  from_line n z = n ((true_cause.began (λ e. omega (arith, true_cause.itself e, z))).always z).0

pub cause_true : CauseTrue
cause_true l image fs r bytes f _ = true_cause l image fs r bytes f

-- nothing is loaded at power-on
pub caused_by_line : CausedByLine
unfolding reason_of is_protected loaded_of
caused_by_line l image fs r bytes f e =
    from_line l image fs r bytes f
    (⊎_elim (λ (p : (answer_after l image fs r bytes).error ≡ protected_block). rw p (λ t. true≢false (sym t)))
    (λ (p : (answer_after l image fs r bytes).error ≡ wrong_checksum). rw p (λ t. true≢false (sym t))) e)
