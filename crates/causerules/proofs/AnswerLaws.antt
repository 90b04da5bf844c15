-- Two different answers of a call have different numbers.
use Rattle.std.specs.Prelude.{◌≡◌}
use mathlib.Core.Path.{ap}
use Rattle.flashrules.proofs.ErrorLaws.{none_apart}
use Rattle.causerules.specs.declared.notes.TrackAnswer.{TrackAnswer}
use Rattle.causerules.specs.AnswerLaws.{TrackAnswersApart}

pub track_answers_apart : TrackAnswersApart
track_answers_apart t u p =
    let e : t.error ≡ u.error = none_apart t.error u.error (ap (λ (a : TrackAnswer). a.error) p) in
    let g : t.gauge ≡ u.gauge = ap (λ (a : TrackAnswer). a.gauge) p in
    let n : t.notes ≡ u.notes = ap (λ (a : TrackAnswer). a.notes) p in
    λ i. record { error = e i; gauge = g i; notes = n i }
