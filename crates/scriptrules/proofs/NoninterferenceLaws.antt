-- Demand 3 of outputs: from that of calls, frame by frame.
use Prim.Native.Nat.{ℕ}
use mathlib.Core.Path.{◌≡◌, refl}
use mathlib.Core.Bool.{true, false, not}
use mathlib.Core.List.{List, [], ◌∷◌, map}
use borrow.Author.Tests.{not-true}
use Rattle.flashrules.specs.Laws.{SameClasses}
use Rattle.flashrules.specs.declared.layout.Layout.{Layout}
use Rattle.flashrules.proofs.Picks.{and_first, and_rest}
use Rattle.imagerules.specs.File.{image_file}
use Rattle.imagerules.proofs.Laws.{accepted_text}
use Rattle.gaugerules.specs.Script.{Device, unseals}
use Rattle.gaugerules.specs.Noninterference.{Agree, Kept, Indistinguishable}
use Rattle.gaugerules.proofs.Laws.{noninterference}
use Rattle.scriptrules.specs.Frame.{Frame}
use Rattle.scriptrules.specs.Parser.{ParsedScript, script, no_script, parse_script}
use Rattle.scriptrules.specs.Reply.{call_of, reply_text, after_frame, replies, after_frames}
use Rattle.scriptrules.specs.Replay.{powered_on, output_of, replay}
use Rattle.scriptrules.specs.Laws.{stay_sealed, FrameNoninterference, OutputNoninterference}

stays_on : (l : Layout) (d : Device) (f : Frame) (fs : List Frame) → stay_sealed l d (f ∷ fs) ≡ true
    → (unseals l d (call_of f) ≡ false) × (stay_sealed l (after_frame l d f) fs ≡ true)
stays_on l d f fs e =
    let u = not (unseals l d (call_of f)) in
    (not-true _ (and_first u _ e), and_first _ _ (and_rest u _ e))

-- what two devices have in common after frames, and what each has kept
record Common (l : Layout) (start₁ start₂ : List ℕ) (d₁ d₂ : Device) : Type 0 where
  agree : Agree l d₁.image d₂.image
  kept₁ : Kept l start₁ d₁.image
  kept₂ : Kept l start₂ d₂.image

-- devices that no call tells apart reply the same to frames
indistinguishable_frames : (l : Layout) (start₁ start₂ : List ℕ) (fs : List Frame) (d₁ d₂ : Device)
    → Indistinguishable l l start₁ start₂ d₁ d₂ (map call_of fs) → stay_sealed l d₁ fs ≡ true → stay_sealed l d₂ fs ≡ true
    → Common l start₁ start₂ d₁ d₂
    → (replies l d₁ fs ≡ replies l d₂ fs) × Common l start₁ start₂ (after_frames l d₁ fs) (after_frames l d₂ fs)
unfolding reply_text after_frame
indistinguishable_frames l start₁ start₂ [] d₁ d₂ a s₁ s₂ c = (refl, c)
indistinguishable_frames l start₁ start₂ (f ∷ fs) d₁ d₂ a s₁ s₂ c =
    let t₁ = stays_on l d₁ f fs s₁ in
    let t₂ = stays_on l d₂ f fs s₂ in
    let b = a t₁.0 t₂.0 in
    let after : Common l start₁ start₂ (after_frame l d₁ f) (after_frame l d₂ f) = record { agree = b.1; kept₁ = b.2; kept₂ = b.3 } in
    let w = indistinguishable_frames l start₁ start₂ fs (after_frame l d₁ f) (after_frame l d₂ f) b.4 t₁.1 t₂.1 after in
    (rw (b.0, w.0), w.1)

pub frame_noninterference : FrameNoninterference
frame_noninterference l image₁ image₂ fs f₁ f₂ a s₁ s₂ =
    let same : SameClasses l l = record { count = refl; classes = refl } in
    let w =
    indistinguishable_frames l image₁ image₂ fs (powered_on image₁) (powered_on image₂)
    (noninterference l l image₁ image₂ same f₁ f₂ a (map call_of fs)) s₁ s₂
    (record { agree = a; kept₁ = record { size = refl; outside = λ j nb nc. refl }; kept₂ = record { size = refl; outside = λ j nb nc. refl } }) in
    (w.0, w.1.agree, w.1.kept₁, w.1.kept₂)

pub output_noninterference : OutputNoninterference
unfolding replay
output_noninterference x₁ x₂ y l bytes₁ bytes₂ p₁ p₂ a s = (rw (p₁, p₂) (by (parse_script y) refl), λ fs q. (frames fs q).1)
  where
    frames : (fs : List Frame) → parse_script y ≡ script fs
        → (replies l (powered_on bytes₁) fs ≡ replies l (powered_on bytes₂) fs)
        × Agree l (after_frames l (powered_on bytes₁) fs).image (after_frames l (powered_on bytes₂) fs).image
    frames fs q =
        let f₁ = ((accepted_text x₁ l bytes₁).0 p₁).fitting.fit in
        let f₂ = ((accepted_text x₂ l bytes₂).0 p₂).fitting.fit in
        let w = frame_noninterference l bytes₁ bytes₂ fs f₁ f₂ a (s fs q).0 (s fs q).1 in
        (w.0, w.1)

    by : (j : ParsedScript) → parse_script y ≡ j → output_of (image_file l bytes₁) j ≡ output_of (image_file l bytes₂) j
    by (script fs) q = (frames fs q).0
    by no_script q = refl
