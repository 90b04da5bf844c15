-- The whole output of `why`. Document 02, C-13: "a tool over image.hex and script.hex, run as the
-- replay runs them, that prints, one hexadecimal line a refused write, the refusal and then the
-- line that caused it." C-16: "C-13 lists a refused supply frame too".
use Rattle.std.specs.Prelude.{ℕ, ◌+◌, cond, List, [], ◌∷◌, ◌++◌, ltb, length}
use Rattle.flashrules.specs.declared.layout.Layout.{Layout}
use Rattle.imagerules.specs.File.{ParsedImage, image_file, no_image_file, parse_image}
use Rattle.gaugerules.specs.Write.{write}
use Rattle.gaugerules.specs.Supply.{set_supply}
use Rattle.gaugerules.specs.Script.{Device}
use Rattle.causerules.specs.History.{Step, write_steps, supply_steps}
use Rattle.causerules.specs.Cause.{cause, cause_text}
use Rattle.causerules.specs.Notes.{max_lines}
use Rattle.scriptrules.specs.Frame.{Frame, write_frame, read_frame, supply_frame}
use Rattle.scriptrules.specs.Parser.{ParsedScript, script, no_script, parse_script}
use Rattle.scriptrules.specs.Reply.{after_frame}
use Rattle.scriptrules.specs.Replay.{refusal, powered_on}

-- ---- the history of a script

-- the bytes that a frame writes, or the supply that it sets, as line `line`; a read has none
abbrev pub frame_steps : Layout → Device → ℕ → Frame → List Step
frame_steps l d line (write_frame r bytes) = write_steps l d.image d.gauge line r bytes
frame_steps l d line (read_frame r n) = []
frame_steps l d line (supply_frame millivolts) = supply_steps l (length d.image) d.gauge line millivolts

-- of frames, the first of which is line `line`
abbrev pub history : Layout → Device → ℕ → List Frame → List Step
history l d line [] = []
history l d line (f ∷ fs) = frame_steps l d line f ++ history l (after_frame l d f) (line + 1) fs

-- ---- what is printed

-- of a frame as line `line`, h being the history before it; the bytes of the refused write before
-- the refused one count too. C-16: of a supply, "the line itself"
unfoldable pub explanation : Layout → Device → List Step → ℕ → Frame → List ℕ
explanation l d h line (write_frame r bytes) =
    let w = (write l d.image d.gauge r bytes).answer in
    let h' = h ++ write_steps l d.image d.gauge line r bytes in
    cause_text w.error w.gauge (cause h' line w.gauge w.error)
explanation l d h line (read_frame r n) = []
explanation l d h line (supply_frame millivolts) =
    let s = set_supply l (length d.image) d.gauge millivolts in cause_text s.error s.gauge line

abbrev pub explanations : Layout → Device → List Step → ℕ → List Frame → List ℕ
explanations l d h line [] = []
explanations l d h line (f ∷ fs) =
    explanation l d h line f ++ explanations l (after_frame l d f) (h ++ frame_steps l d line f) (line + 1) fs

-- "Lines count from 1"; "for this tool a script of more lines than four bytes can count breaks its
-- rules"
abbrev pub why_of : ParsedImage → ParsedScript → List ℕ
why_of (image_file l bytes) (script fs) =
    cond (ltb max_lines (length fs)) refusal (explanations l (powered_on bytes) [] 1 fs)
why_of (image_file l bytes) no_script = refusal
why_of no_image_file s = refusal

-- an image file's text and a script's text
unfoldable pub why : List ℕ → List ℕ → List ℕ
why x y = why_of (parse_image x) (parse_script y)
