-- The line of a refused checksum has the right one behind it.
use Rattle.std.proofs.Common.{rules, ◌∙◌}
use Rattle.causes.proofs.TextLaws.{matching_text}
use Rattle.causes.proofs.text.put_cause.Goals as goal

pub returns-then-error-number : goal.returns-then-error-number
returns-then-error-number g c =
    let n = c.into-error.result in
    let t = matching_text n c.if-error-eq0.false (c.if-error-number.true ∙ c.number.ensures) in
    (n, c.into-error.ensures, rw t (search rules), rw t (search rules))
