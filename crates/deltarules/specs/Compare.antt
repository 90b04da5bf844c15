-- The call: two images are compared, and the text of the list goes to a buffer. Document 02, C-11:
-- "Refusals: 10 for either image, then 18 where layouts differ, then 14 for the list."
use Rattle.std.specs.Prelude.{ℕ, Bool, not, cond, List, [], ◌∷◌, eqb, length}
use Rattle.flashrules.specs.Error.{malformed, layout_mismatch}
use Rattle.flashrules.specs.Refusal.{first_error}
use Rattle.flashrules.specs.Outcome.{Outcome, outcome}
use Rattle.flashrules.specs.Layout.{fits, same_layout}
use Rattle.flashrules.specs.declared.layout.Layout.{Layout}
use Rattle.imagerules.specs.File.{not_written, write_text}
use Rattle.imagerules.specs.Answer.{FileWriteAnswer}
use Rattle.deltarules.specs.Run.{runs}
use Rattle.deltarules.specs.Text.{serialize_runs}

-- why two images, of n and n' bytes, cannot be compared
abbrev pub pair_tests : Layout → ℕ → Layout → ℕ → List (Bool × ℕ)
pair_tests l n l' n' =
    (not (fits l n), malformed) ∷ (not (fits l' n'), malformed) ∷ (not (same_layout l l'), layout_mismatch) ∷ []

unfoldable pub pair_error : Layout → ℕ → Layout → ℕ → ℕ
pair_error l n l' n' = first_error (pair_tests l n l' n')

unfoldable pub compare : Layout → List ℕ → Layout → List ℕ → List ℕ → Outcome FileWriteAnswer (List ℕ)
compare l old l' new buffer =
    let e = pair_error l (length old) l' (length new) in
    cond (eqb e 0) (write_text (serialize_runs (runs l old new)) buffer) (outcome (not_written e) buffer)
