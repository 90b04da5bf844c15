-- What is claimed of scripts and of the replay, beyond the definitions. proofs/Laws.antt has a
-- proof of each claim, under its name in small letters, with `_lem` behind it where a definition
-- has that name.
use Rattle.std.specs.Prelude.{ℕ, ◌+◌, ◌≤◌, ◌<◌, ◌≡◌, ◌↔◌, ◌⊎◌, Bool, true, false, not, List, [], ◌∷◌, ◌++◌, map, length, take, drop}
use Rattle.std.proofs.lemmas.List.Edits.{sets}
use Rattle.flashrules.specs.Error.{malformed, short_buffer}
use Rattle.flashrules.specs.Choice.{and}
use Rattle.flashrules.specs.Layout.{fits}
use Rattle.flashrules.specs.Image.{Bytes}
use Rattle.flashrules.specs.declared.layout.Layout.{Layout}
use Rattle.hextext.specs.Hex.{line_feed}
use Rattle.imagerules.specs.File.{image_file, parse_image}
use Rattle.gaugerules.specs.Keys.{keys, key_bytes}
use Rattle.gaugerules.specs.Script.{Device, unseals, words}
use Rattle.gaugerules.specs.Noninterference.{Agree, Kept}
use Rattle.gaugerules.specs.KeyProtection.{sends_full_access_key}
use Rattle.scriptrules.specs.Frame.{Frame, frame_bytes, max_frame, line_of, serialize_script, lines_of, frame_of}
use Rattle.scriptrules.specs.Parser.{start, feed, end_error, is_frame, script, parse_script}
use Rattle.scriptrules.specs.Reply.{call_of, max_reply, after_frame, replies, after_frames}
use Rattle.scriptrules.specs.Replay.{powered_on, replay}
use Rattle.scriptrules.specs.Session.{report_number, report_of, output, too_long, count_on, Runner, runner, fresh_runner, frame_text, outputs, after_lines}
use Rattle.flashrules.specs.Outcome.{Outcome}
use Rattle.scriptrules.specs.Run.{Lent, run_line, run}
use Rattle.scriptrules.specs.Host.{Event, host, handle_all, arrived}
use Rattle.scriptrules.specs.Parser.{Parser}
use Rattle.scriptrules.specs.Answer.{RunAnswer}

-- ---- reports

-- a number and the report that it is taken as are answered alike
abbrev pub ReportTaken : Type 0
ReportTaken = (report : ℕ) (x y : List ℕ) → output (report_number (report_of report)) x y ≡ output report x y

-- ---- which texts are scripts

-- a frame that can be sent: its numbers are bytes, and there are not too many of them
pub record Sendable (f : Frame) : Type 0 where
  pub bytes : Bytes (frame_bytes f)
  pub few : length (frame_bytes f) ≤ max_frame

abbrev pub AllSendable : List Frame → Type 0
AllSendable [] = Unit
AllSendable (f ∷ fs) = Sendable f × AllSendable fs

-- a text is the text of these frames
pub record IsScript (fs : List Frame) (x : List ℕ) : Type 0 where
  pub sendable : AllSendable fs
  pub text : serialize_script fs ≡ x

-- a text is accepted as these frames exactly if it is their text
abbrev pub AcceptedScript : Type 0
AcceptedScript = (x : List ℕ) (fs : List Frame) → (parse_script x ≡ script fs) ↔ IsScript fs x

-- the same of one line
pub record IsLine (f : Frame) (line : List ℕ) : Type 0 where
  pub sendable : Sendable f
  pub text : line_of f ≡ line

abbrev pub AcceptedLine : Type 0
AcceptedLine = (line : List ℕ) (f : Frame) → ((is_frame line ≡ true) × (frame_of line ≡ f)) ↔ IsLine f line

-- chunks one after the other equal the whole
abbrev pub FeedChunks : Type 0
FeedChunks = (s : Parser) (x y : List ℕ) → feed s (x ++ y) ≡ feed (feed s x) y

-- ---- lines counted

-- chunk by chunk as in the whole
abbrev pub CountChunks : Type 0
CountChunks =
    (report k : ℕ) (x y : List ℕ)
    → count_on report (count_on report k (length (lines_of x))) (length (lines_of y))
    ≡ count_on report k (length (lines_of (x ++ y)))

-- and the count tells whether there are too many
abbrev pub CountTells : Type 0
CountTells = (report lines : ℕ) → too_long report (count_on report 0 lines) ≡ too_long report lines

-- ---- what a session puts out

abbrev pub OutputLength : Type 0
OutputLength = (l : Layout) (report : ℕ) (b : Runner) (f : Frame) → length (frame_text l report b f) ≤ max_reply

-- frame by frame it is the whole output: the replies of document 01, or C-13's causes, which are
-- defined by the history and not by notes
abbrev pub OutputWhole : Type 0
OutputWhole =
    (report : ℕ) (x y : List ℕ) (l : Layout) (bytes : List ℕ) (fs : List Frame) → parse_image x ≡ image_file l bytes
    → parse_script y ≡ script fs
    → too_long report (length fs) ≡ false → outputs l report (fresh_runner bytes) fs ≡ output report x y

-- nothing is printed only for an empty script; the image file may be refused, and then it is not
-- nothing
abbrev pub NothingPrinted : Type 0
NothingPrinted = (x y : List ℕ) → replay x y ≡ [] → y ≡ []

-- ---- frames run one by one give the output

-- a host that runs a frame at a time, into the same buffer, and prints what each puts out
abbrev pub one_by_one : Layout → ℕ → Runner → List ℕ → List Frame → List ℕ
one_by_one l report b buffer [] = []
one_by_one l report b buffer (f ∷ fs) =
    let a = run_line l report b.image b.session (line_of f) buffer 0 in
    take a.answer.length a.lent.buffer
    ++ one_by_one l report (runner a.answer.session a.lent.image) a.lent.buffer fs

abbrev pub OneByOne : Type 0
OneByOne =
    (report : ℕ) (x y buffer : List ℕ) (l : Layout) (bytes : List ℕ) (fs : List Frame)
    → parse_image x ≡ image_file l bytes → parse_script y ≡ script fs
    → too_long report (length fs) ≡ false
    → max_reply ≤ length buffer → one_by_one l report (fresh_runner bytes) buffer fs ≡ output report x y

-- ---- what `run` did: s is what it left, of a session with its image, a text and a buffer

pub record Ran (l : Layout) (report : ℕ) (b : Runner) (x buffer : List ℕ) (s : Outcome RunAnswer Lent) : Type 0 where
  -- it ran these frames, which the text begins with
  pub frames : List Frame
  pub text : IsScript frames (take s.answer.next x)
  pub within : s.answer.next ≤ length x
  -- what they put out is what it put into the buffer
  pub output : s.lent.buffer ≡ sets buffer 0 (outputs l report b frames)
  pub size : s.answer.length ≡ length (outputs l report b frames)
  pub inside : s.answer.length ≤ length buffer
  pub after : runner s.answer.session s.lent.image ≡ after_lines l report b frames
  -- and it stopped where no whole line is left, where one is that is no frame, or where there was
  -- no room for one reply more
  pub errors : (s.answer.error ≡ 0) ⊎ ((s.answer.error ≡ malformed) ⊎ (s.answer.error ≡ short_buffer))
  pub ended : s.answer.error ≡ 0 → lines_of (drop s.answer.next x) ≡ []
  pub wrong : s.answer.error ≡ malformed → (f : Frame) (y : List ℕ) → Sendable f
      → drop s.answer.next x ≡ line_of f ++ (line_feed ∷ y) → ⊥
  pub full : s.answer.error ≡ short_buffer → length buffer < s.answer.length + max_reply

abbrev pub RunFrames : Type 0
RunFrames =
    (l : Layout) (report : ℕ) (b : Runner) (x buffer : List ℕ)
    → Ran l report b x buffer (run l report b.image b.session x buffer)

-- however a script is cut and whatever buffers are lent: a host that has run all of it has printed
-- the output
abbrev pub HostPrints : Type 0
HostPrints =
    (report : ℕ) (x y : List ℕ) (l : Layout) (bytes : List ℕ) (ss : List Event) → parse_image x ≡ image_file l bytes
    → end_error (feed start y) ≡ 0
    → too_long report (length (lines_of y)) ≡ false
    → arrived ss ≡ y → let h = handle_all l report (host (fresh_runner bytes) [] []) ss in
    h.held ≡ [] → h.printed ≡ output report x y

-- ---- demand 3, of outputs

abbrev pub stay_sealed : Layout → Device → List Frame → Bool
stay_sealed l d [] = true
stay_sealed l d (f ∷ fs) = and (not (unseals l d (call_of f)) ∷ stay_sealed l (after_frame l d f) fs ∷ [])

-- two gauges powered on sealed whose images agree, and frames none of which unseals either: those
-- of a whole script, or of any script before the first that does. The replies are equal, the images
-- agree afterwards, and each is kept
abbrev pub FrameNoninterference : Type 0
FrameNoninterference =
    (l : Layout) (image₁ image₂ : List ℕ) (fs : List Frame) → fits l (length image₁) ≡ true
    → fits l (length image₂) ≡ true → Agree l image₁ image₂
    → stay_sealed l (powered_on image₁) fs ≡ true → stay_sealed l (powered_on image₂) fs ≡ true
    → (replies l (powered_on image₁) fs ≡ replies l (powered_on image₂) fs)
    × Agree l (after_frames l (powered_on image₁) fs).image (after_frames l (powered_on image₂) fs).image
    × Kept l image₁ (after_frames l (powered_on image₁) fs).image
    × Kept l image₂ (after_frames l (powered_on image₂) fs).image

-- the texts of two images of one layout that agree, and a script that unseals neither gauge: the
-- same output text, and images that agree afterwards
abbrev pub OutputNoninterference : Type 0
OutputNoninterference =
    (x₁ x₂ y : List ℕ) (l : Layout) (bytes₁ bytes₂ : List ℕ) → parse_image x₁ ≡ image_file l bytes₁
    → parse_image x₂ ≡ image_file l bytes₂
    → Agree l bytes₁ bytes₂
    → ((fs : List Frame) → parse_script y ≡ script fs
    → (stay_sealed l (powered_on bytes₁) fs ≡ true) × (stay_sealed l (powered_on bytes₂) fs ≡ true))
    → (replay x₁ y ≡ replay x₂ y)
    × ((fs : List Frame) → parse_script y ≡ script fs
    → Agree l (after_frames l (powered_on bytes₁) fs).image (after_frames l (powered_on bytes₂) fs).image)

-- ---- C-14, of frames

-- powered on sealed, as for the replay: a script that never sends the full access key of the image
-- leaves the keys
abbrev pub FramesKeepKeys : Type 0
FramesKeepKeys =
    (l : Layout) (image : List ℕ) (fs : List Frame) → let d = powered_on image in
    sends_full_access_key (keys l image) (words l d (map call_of fs)) ≡ false
    → key_bytes l (after_frames l d fs).image ≡ key_bytes l image
