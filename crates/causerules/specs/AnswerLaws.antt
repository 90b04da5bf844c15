-- What the answers in numbers tell: two different answers of a call have different numbers. So an
-- equation about the numbers determines all of an answer, and where an answer gets a field that its
-- numbers don't tell, the claim cannot be proved. proofs/Laws.antt has a proof of each claim, under
-- its name in small letters.
use Rattle.std.specs.Prelude.{◌≡◌}
use Rattle.causerules.specs.Answer.{track_answer}
use Rattle.causerules.specs.declared.notes.Tracked.{Tracked}

abbrev pub TrackAnswersApart : Type 0
TrackAnswersApart = (t u : Tracked) → track_answer t ≡ track_answer u → t ≡ u
