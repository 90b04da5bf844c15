-- Replies. Document 01, "The replay program": "Reply: number and count taken, or 00 and the bytes
-- read, or the number alone for a refused read." C-12: "The replay's write line gains that byte",
-- how many bytes of the image the write changed. C-16: a supply frame "replies the number alone".
use Rattle.std.specs.Prelude.{ℕ, List, [], ◌∷◌, ◌++◌, take, replicate}
use Rattle.hextext.specs.Hex.{hex_line}
use Rattle.flashrules.specs.declared.layout.Layout.{Layout}
use Rattle.gaugerules.specs.Register.{registers}
use Rattle.gaugerules.specs.Script.{Device, Call, to_write, to_read, to_supply, Reply, of_write, of_read, of_supply}
use Rattle.gaugerules.specs.Script.{reply, after_call}
use Rattle.scriptrules.specs.Frame.{Frame, write_frame, read_frame, supply_frame}

-- a frame as a call on the gauge; a read is lent a buffer for all registers, so 14 never comes
abbrev pub call_of : Frame → Call
call_of (write_frame r bytes) = to_write r bytes
call_of (read_frame r n) = to_read r n (replicate registers 0)
call_of (supply_frame millivolts) = to_supply millivolts

-- a refused read accepts 0, so its number is alone
abbrev pub reply_bytes : Reply → List ℕ
reply_bytes (of_write e n changed) = e ∷ n ∷ changed ∷ []
reply_bytes (of_read s) = s.answer.error ∷ take s.answer.accepted s.lent
reply_bytes (of_supply e) = e ∷ []

-- "prints one line an answer"
unfoldable pub reply_text : Layout → Device → Frame → List ℕ
reply_text l d f = hex_line (reply_bytes (reply l d (call_of f)))

unfoldable pub after_frame : Layout → Device → Frame → Device
after_frame l d f = after_call l d (call_of f)

-- no reply is longer: 00, 128 bytes and a line feed
abbrev pub max_reply : ℕ
max_reply = 259

-- ---- frames one after the other

abbrev pub replies : Layout → Device → List Frame → List ℕ
replies l d [] = []
replies l d (f ∷ fs) = reply_text l d f ++ replies l (after_frame l d f) fs

abbrev pub after_frames : Layout → Device → List Frame → Device
after_frames l d [] = d
after_frames l d (f ∷ fs) = after_frames l (after_frame l d f) fs
