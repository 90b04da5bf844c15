-- What the calls give that read and write bytes of one block, over any device. The premises are
-- what the callees ensure, word for word.
use Prim.Native.Nat.{ℕ, ◌+◌, ◌%◌}
use mathlib.Core.Path.{◌≡◌, ap}
use mathlib.Core.List.{List}
use lib.ListN.{length}
use Rattle.flashrules.specs.Outcome.{Outcome, outcome}
use Rattle.flashrules.specs.Lookup.{block_size}
use Rattle.std.specs.Prelude.{Result}
use Rattle.flashrules.specs.declared.error.Error.{Error}
use Rattle.flashrules.specs.declared.layout.Layout.{Layout}
use Rattle.gaugerules.specs.Answer.{WriteAnswer, ReadAnswer, write_answer, read_answer}
use Rattle.gaugerules.specs.Register.{block_data}
use Rattle.gaugerules.specs.Write.{write}
use Rattle.gaugerules.specs.Read.{read}
use Rattle.gaugerules.specs.Script.{device, to_write, after_call}
use Rattle.gaugerules.specs.declared.state.Gauge.{Gauge}
use Rattle.gaugerules.specs.declared.answer.Written.{Written}

-- a write is a call of a script
pub puts : (l : Layout) (image : List ℕ) (g : Gauge) (r : ℕ) (bs : List ℕ) (w : Written) (to : List ℕ) → outcome (write_answer w) to ≡ write l image g r bs
    → device w.gauge to ≡ after_call l (device g image) (to_write r bs)
unfolding after_call outcome
puts l image g r bs w to e = ap (λ (o : Outcome WriteAnswer (List ℕ)). device o.answer.gauge o.lent) e

pub receives : (l : Layout) (image : List ℕ) (g : Gauge) (at r : ℕ) (a : Result ℕ Error) (buffer to : List ℕ) → r ≡ block_data + at % block_size
    → outcome (read_answer a) to ≡ read l image g r (length buffer) buffer → to ≡ (read l image g (block_data + at % block_size) (length buffer) buffer).lent
unfolding outcome
receives l image g at r a buffer to p e = ap (λ (o : Outcome ReadAnswer (List ℕ)). o.lent) (rw p at e)
