-- What was found of the script: chunks fed one after the other, and what that is worth where
-- nothing was refused.
use Rattle.std.proofs.Common.{ℕ, ◌≡◌, eqb, true, false, [], refl, ◌++◌, sym, ◌∙◌, arith, length-append}
use Rattle.std.specs.Prelude.{Result, Ok}
use Rattle.flashrules.specs.Error.{number_of}
use Rattle.flashrules.specs.declared.error.Error.{Error}
use Rattle.flashrules.proofs.ErrorLaws.{check_passed}
use Rattle.scriptrules.specs.Parser.{Parser, start, end_error}
use Rattle.scriptrules.specs.Session.{report_causes, too_long}
use Rattle.flashrules.proofs.Picks.{on_test}
use Rattle.scriptrules.proofs.Laws.{feed_chunks, count_chunks}
use Rattle.scripthost.specs.Checked.{Fed, ScriptChecked}

pub fed_on : (report : ℕ) (s s' s'' : Parser) (n n' n'' k k' k'' : ℕ) → Fed report s n k s' n' k' → Fed report s' n' k' s'' n'' k'' → Fed report s n k s'' n'' k''
fed_on report s s' s'' n n' n'' k k' k'' a b = record {
  text = a.text ++ b.text;
  state = b.state ∙ rw a.state (sym (feed_chunks s a.text b.text));
  count = rw length-append (omega (arith, a.count, b.count));
  lines = b.lines ∙ rw a.lines (count_chunks report k a.text b.text);
}

-- nothing was fed
pub fed_start : (report : ℕ) → Fed report start 0 0 start 0 0
fed_start report = record { text = []; state = refl; count = refl; lines = on_test (eqb report report_causes) (λ p. rw p) (λ p. rw p) }

pub checked : (report : ℕ) (r : Result Unit Error) (s : Parser) (n k : ℕ) → Fed report start 0 0 s n k → number_of r ≡ end_error s → r ≡ Ok tt → too_long report k ≡ false
    → ScriptChecked report true s n k
checked report r s n k f p q h = record { fed = λ e. f; ended = λ e. check_passed r _ p tt q; few = λ e. h }

-- what proves `parse_all` and `parse`
pub ruleset feeds = (fed_start, fed_on)

pub ruleset checks = (checked)
