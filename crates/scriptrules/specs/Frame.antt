-- Frames and the text of a script. Document 01, "The replay program": "Script: one frame a line,
-- digits and line ends as in the image; 01, register, 0 to 255 bytes (write); 00, register, count
-- (read). It may be empty." Document 02, C-16: "A new script frame, 02 and two bytes, high byte
-- first".
use Rattle.std.specs.Prelude.{ℕ, ◌/◌, ◌%◌, cond, List, [], ◌∷◌, ◌++◌, eqb, get_or, drop}
use Rattle.hextext.specs.Hex.{hex, unhex, line_feed}
use Rattle.gaugerules.specs.Word.{word}

-- ---- frames

-- a write at a register of its bytes, a read at a register of a count, a supply in millivolts
pub data Frame : Type 0 where
  write_frame : ℕ → List ℕ → Frame
  read_frame : ℕ → ℕ → Frame
  supply_frame : ℕ → Frame

abbrev pub read_kind : ℕ
read_kind = 0

abbrev pub write_kind : ℕ
write_kind = 1

abbrev pub supply_kind : ℕ
supply_kind = 2

-- a frame's bytes: its kind, then the register and the bytes or the count, or the supply
abbrev pub frame_bytes : Frame → List ℕ
frame_bytes (write_frame r bytes) = write_kind ∷ r ∷ bytes
frame_bytes (read_frame r n) = read_kind ∷ r ∷ n ∷ []
frame_bytes (supply_frame millivolts) = supply_kind ∷ millivolts / 256 ∷ millivolts % 256 ∷ []

-- "0 to 255 bytes", behind the kind and the register
abbrev pub max_frame : ℕ
max_frame = 257

-- ---- texts

-- "one frame a line", without its line feed
abbrev pub line_of : Frame → List ℕ
line_of f = hex (frame_bytes f)

abbrev pub serialize_script : List Frame → List ℕ
serialize_script [] = []
serialize_script (f ∷ fs) = line_of f ++ (line_feed ∷ serialize_script fs)

-- ---- and back, asking nothing of the text: specs/Parser.antt says which texts are scripts

-- the whole lines of a text, each without its line feed; `line` stands before the text, in its
-- first line
abbrev pub lines_after : List ℕ → List ℕ → List (List ℕ)
lines_after line [] = []
lines_after line (c ∷ cs) = cond (eqb c line_feed) (line ∷ lines_after [] cs) (lines_after (line ++ (c ∷ [])) cs)

abbrev pub lines_of : List ℕ → List (List ℕ)
lines_of x = lines_after [] x

-- the frame that has these bytes; where none has them, some frame
abbrev pub frame_with : List ℕ → Frame
frame_with bs =
    cond (eqb (get_or bs 0 0) read_kind) (read_frame (get_or bs 1 0) (get_or bs 2 0))
    (cond (eqb (get_or bs 0 0) supply_kind) (supply_frame (word (get_or bs 2 0) (get_or bs 1 0)))
    (write_frame (get_or bs 1 0) (drop 2 bs)))

abbrev pub frame_of : List ℕ → Frame
frame_of line = frame_with (unhex line)

abbrev pub frames_of : List (List ℕ) → List Frame
frames_of [] = []
frames_of (x ∷ xs) = frame_of x ∷ frames_of xs
