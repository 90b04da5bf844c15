-- C-14 of frames: from that of calls.
use mathlib.Core.Path.{◌≡◌, refl, ap, ◌∙◌}
use mathlib.Core.List.{List, [], ◌∷◌, map}
use Rattle.flashrules.specs.declared.layout.Layout.{Layout}
use Rattle.gaugerules.specs.Keys.{key_bytes}
use Rattle.gaugerules.specs.Script.{Device, after_calls}
use Rattle.gaugerules.proofs.Laws.{keys_kept_without_key}
use Rattle.scriptrules.specs.Frame.{Frame}
use Rattle.scriptrules.specs.Reply.{call_of, after_frame, after_frames}
use Rattle.scriptrules.specs.Replay.{powered_on}
use Rattle.scriptrules.specs.Laws.{FramesKeepKeys}

-- frames are calls
frames_are_calls : (l : Layout) (d : Device) (fs : List Frame) → after_frames l d fs ≡ after_calls l d (map call_of fs)
unfolding after_frame after_calls
frames_are_calls l d [] = refl
frames_are_calls l d (f ∷ fs) = frames_are_calls l (after_frame l d f) fs

pub frames_keep_keys : FramesKeepKeys
frames_keep_keys l image fs n =
    ap (λ (d : Device). key_bytes l d.image) (frames_are_calls l (powered_on image) fs) ∙ keys_kept_without_key l image (map call_of fs) n
