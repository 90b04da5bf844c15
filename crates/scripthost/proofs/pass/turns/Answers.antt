-- Events of a host lead from turn to turn.
use Rattle.std.proofs.Common.{rules}
use Rattle.scripthost.proofs.EventLaws.{turn_on, pass_end}
use Rattle.scripthost.proofs.pass.turns.Goals as goal

pub loop-preserved : goal.loop-preserved
loop-preserved g c = record { events = turn_on _ _ _ _ _ _ _ _ c.loop.invariant.events c.turn.ensures.turned; from = search rules; to = search rules }

pub returns-then-not-turn : goal.returns-then-not-turn
returns-then-not-turn g c =
    pass_end _ _ _ _ _ _ _ _ (turn_on _ _ _ _ _ _ _ _ c.loop.invariant.events c.turn.ensures.turned) (search rules) (search rules)
