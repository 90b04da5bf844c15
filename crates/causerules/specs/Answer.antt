-- What a call that notes its bytes answers, in the numbers of document 01: 0 where nothing is
-- refused.
use Rattle.flashrules.specs.Error.{number_or_none}
use Rattle.causerules.specs.declared.notes.TrackAnswer.{TrackAnswer}
use Rattle.causerules.specs.declared.notes.Tracked.{Tracked}

-- what the calls hand back, in these numbers
abbrev pub track_answer : Tracked → TrackAnswer
track_answer t = record { error = number_or_none t.error; gauge = t.gauge; notes = t.notes }
