-- What is claimed of the output of `why`: document 02, C-13, "The named reason must be proved the
-- true one, against the script's history." proofs/Laws.antt has a proof of each claim, under its
-- name in small letters.
use Rattle.std.specs.Prelude.{ℕ, ◌+◌, ◌≡◌, ◌⊎◌, true, cond, List, [], ◌∷◌, ◌++◌, eqb, leb, length}
use Rattle.flashrules.specs.Error.{invalid_argument, protected_block, wrong_checksum}
use Rattle.flashrules.specs.Layout.{fits}
use Rattle.flashrules.specs.declared.layout.Layout.{Layout}
use Rattle.flashrules.specs.Image.{Bytes}
use Rattle.hextext.specs.Hex.{hex_line}
use Rattle.gaugerules.specs.State.{boot_sealed, max_supply, power_on}
use Rattle.gaugerules.specs.Write.{write}
use Rattle.gaugerules.specs.Supply.{set_supply}
use Rattle.gaugerules.specs.Script.{Device}
use Rattle.gaugerules.specs.declared.state.Gauge.{Gauge}
use Rattle.gaugerules.specs.Answer.{WriteAnswer}
use Rattle.causerules.specs.History.{Step, write_steps}
use Rattle.causerules.specs.Cause.{reason_of, cause, four_bytes}
use Rattle.causerules.specs.Laws.{holds_for, gave_for, Since}
use Rattle.causerules.specs.declared.reason.Reason.{Reason}
use Rattle.scriptrules.specs.Frame.{Frame, write_frame, read_frame, supply_frame, lines_of}
use Rattle.scriptrules.specs.Reply.{after_frame, after_frames}
use Rattle.scriptrules.specs.Replay.{powered_on}
use Rattle.scriptrules.specs.Laws.{AllSendable}
use Rattle.scriptrules.specs.Why.{frame_steps, history, explanation, explanations}

-- each frame is explained at its place in the script, by the history of all frames before it
abbrev pub ExplainedEach : Type 0
ExplainedEach =
    (l : Layout) (d : Device) (fs : List Frame) (f : Frame) (gs : List Frame) → let d' = after_frames l d fs in
    let h = history l d 1 fs in
    let line = 1 + length fs in
    explanations l d [] 1 (fs ++ (f ∷ gs))
    ≡ explanations l d [] 1 fs
    ++ (explanation l d' h line f ++ explanations l (after_frame l d' f) (h ++ frame_steps l d' line f) (line + 1) gs)

-- 1 for a refusal
abbrev pub refusals : ℕ → ℕ
refusals e = cond (eqb e 0) 0 1

-- how many writes and supplies of these frames are refused
abbrev pub refused_frames : Layout → Device → List Frame → ℕ
refused_frames l d [] = 0
refused_frames l d (write_frame r bytes ∷ fs) =
    refusals (write l d.image d.gauge r bytes).answer.error
    + refused_frames l (after_frame l d (write_frame r bytes)) fs
refused_frames l d (read_frame r n ∷ fs) = refused_frames l (after_frame l d (read_frame r n)) fs
refused_frames l d (supply_frame millivolts ∷ fs) =
    refusals (set_supply l (length d.image) d.gauge millivolts).error
    + refused_frames l (after_frame l d (supply_frame millivolts)) fs

-- "one hexadecimal line a refused write"; C-16: "lists a refused supply frame too"
abbrev pub ExplainedCount : Type 0
ExplainedCount =
    (l : Layout) (d : Device) (h : List Step) (line : ℕ) (fs : List Frame)
    → length (lines_of (explanations l d h line fs)) ≡ refused_frames l d fs

-- C-16: powered on sealed, a supply frame behind any frames is explained exactly if it is above
-- 4,500, and then by 1 and its own line
abbrev pub ExplainedSupply : Type 0
ExplainedSupply =
    (l : Layout) (image : List ℕ) (fs : List Frame) (h : List Step) (line millivolts : ℕ)
    → fits l (length image) ≡ true → Bytes image → AllSendable fs → let d = after_frames l (powered_on image) fs in
    explanation l d h line (supply_frame millivolts)
    ≡ cond (leb millivolts max_supply) [] (hex_line (invalid_argument ∷ four_bytes line))

-- a write that comes after these frames, powered on sealed: its answer
abbrev pub answer_after : Layout → List ℕ → List Frame → ℕ → List ℕ → WriteAnswer
answer_after l image fs r bytes =
    let d = after_frames l (powered_on image) fs in (write l d.image d.gauge r bytes).answer

-- and the history up to the byte that it is refused for
abbrev pub history_up_to : Layout → List ℕ → List Frame → ℕ → List ℕ → List Step
history_up_to l image fs r bytes =
    let d = after_frames l (powered_on image) fs in
    history l (powered_on image) 1 fs ++ write_steps l d.image d.gauge (1 + length fs) r bytes

-- the line that is named for it
abbrev pub named_line : Layout → List ℕ → List Frame → ℕ → List ℕ → ℕ
named_line l image fs r bytes =
    let w = answer_after l image fs r bytes in
    cause (history_up_to l image fs r bytes) (1 + length fs) w.gauge w.error

-- where the reason is the line itself, that is named; else what the reason says has held since the
-- named line, or since power-on where that is 0
pub record TrueLine (line : ℕ) (reason : Reason) (met : Gauge) (h : List Step) (n : ℕ) : Type 0 where
  pub itself : reason ≡ Reason.Itself → n ≡ line
  pub began : (reason ≡ Reason.Itself → ⊥)
      → Since (gave_for reason met) (holds_for reason met) (power_on boot_sealed) h n

abbrev pub CauseTrue : Type 0
CauseTrue =
    (l : Layout) (image : List ℕ) (fs : List Frame) (r : ℕ) (bytes : List ℕ) → fits l (length image) ≡ true
    → let w = answer_after l image fs r bytes in
    (w.error ≡ 0 → ⊥)
    → TrueLine (1 + length fs) (reason_of w.error w.gauge) w.gauge (history_up_to l image fs r bytes)
    (named_line l image fs r bytes)

-- block A and a window that can be committed were loaded by some line
abbrev pub CausedByLine : Type 0
CausedByLine =
    (l : Layout) (image : List ℕ) (fs : List Frame) (r : ℕ) (bytes : List ℕ) → fits l (length image) ≡ true
    → let w = answer_after l image fs r bytes in
    (w.error ≡ protected_block) ⊎ (w.error ≡ wrong_checksum) → named_line l image fs r bytes ≡ 0 → ⊥
