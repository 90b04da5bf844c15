-- What is not tested is in range by its type.
use Rattle.std.proofs.Common.{rules}
use Rattle.std.proofs.lemmas.Grind.{common_steps}
use native.Mathlib.Omega.{arith}
use Rattle.gaugestate.proofs.StateLaws.{in_range_is}
use Rattle.gaugestate.proofs.valid.in_range.Goals as goal

pub returns-then-gauge-le-NO_BLOCK : goal.returns-then-gauge-le-NO_BLOCK
returns-then-gauge-le-NO_BLOCK c =
    let e = in_range_is c.args.gauge (search rules) (search rules) (search rules) (search rules) (search rules) (λ k. search rules) in
    grind (arith, common_steps, e)

pub returns-else-gauge-le-NO_BLOCK : goal.returns-else-gauge-le-NO_BLOCK
returns-else-gauge-le-NO_BLOCK c =
    let e = in_range_is c.args.gauge (search rules) (search rules) (search rules) (search rules) (search rules) (λ k. search rules) in
    grind (arith, common_steps, e)
