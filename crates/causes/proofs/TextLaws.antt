-- The line of a refused write, by its refusal.
use Rattle.std.proofs.Common.{◌≡◌, List, [], ◌∷◌, ◌++◌, ne_eqb, ℕ}
use Rattle.checksum.specs.Checksum.{checksum}
use Rattle.flashrules.specs.Error.{wrong_checksum}
use Rattle.hextext.specs.Hex.{hex_line}
use Rattle.causerules.specs.Cause.{reason_of, four_bytes, cause_text}
use Rattle.causerules.specs.Notes.{recall, tracked_text}
use Rattle.causerules.specs.declared.notes.TrackAnswer.{TrackAnswer}

pub accepted_text : (t : TrackAnswer) → t.error ≡ 0 → tracked_text t ≡ []
unfolding tracked_text cause_text
accepted_text t h = rw h

module _ (t : TrackAnswer) (p : t.error ≡ 0 → ⊥) where
  -- the bytes of its line
  abbrev pub named : List ℕ
  named = t.error ∷ four_bytes (recall t.notes (reason_of t.error t.gauge))

  pub matching_text : t.error ≡ wrong_checksum → tracked_text t ≡ hex_line (named ++ (checksum t.gauge.window ∷ []))
  unfolding tracked_text cause_text
  matching_text q = rw q

  pub other_text : (t.error ≡ wrong_checksum → ⊥) → tracked_text t ≡ hex_line named
  unfolding tracked_text cause_text
  other_text q = rw (ne_eqb t.error 0 p, ne_eqb t.error 8 q)

pub ruleset texts = (accepted_text, matching_text, other_text)
