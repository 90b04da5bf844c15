-- What the calls that run frames are given, as the rules take it.
use Rattle.scriptrules.specs.Frame.{write_frame, read_frame, supply_frame}
use Rattle.scriptrules.specs.declared.frame.Frame.{Frame}

abbrev pub frame_given : Frame → Rattle.scriptrules.specs.Frame.Frame
frame_given (Frame.Write r bytes) = write_frame r bytes.now
frame_given (Frame.Read r n) = read_frame r n
frame_given (Frame.Supply millivolts) = supply_frame millivolts
