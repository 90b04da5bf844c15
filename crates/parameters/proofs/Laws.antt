-- What `get` and `set` put together from their callees' answers.
use Prim.Native.Nat.{ℕ}
use mathlib.Core.Path.{◌≡◌, refl, sym, ap, ◌∙◌}
use mathlib.Core.List.{List}
use native.Mathlib.Omega.{arith}
use lib.ListN.{length, get_or}
use lib.IntN.{ℤ}
use mir.Syntax.{w8}
use mir.Val.{Fits}
use borrow.Author.Tests.{ne_eqb}
use Rattle.flashrules.specs.Error.{number}
use Rattle.flashrules.specs.declared.error.Error.{Error}
use Rattle.flashrules.proofs.ErrorLaws.{number_some}
use Rattle.flashrules.specs.Outcome.{Outcome, outcome}
use Rattle.flashrules.specs.declared.layout.Layout.{Layout}
use Rattle.gaugerules.specs.State.{boot_open, power_on}
use Rattle.gaugerules.specs.Script.{Device, device}
use Rattle.gaugerules.specs.declared.state.Gauge.{Gauge}
use Rattle.parameterrules.specs.Parameter.{set_error, if_settable, set}
use Rattle.parameterrules.specs.Commits.{set_lower}
use Rattle.parameterrules.specs.declared.parameter.Parameter.{Parameter}
use Rattle.parameterrules.proofs.Laws.{set_by_gauge}
use Rattle.parameterrules.proofs.PlaceLaws.{readable, settable}
use Rattle.parameterrules.proofs.ParameterLaws.{set_leaves}
use Rattle.parameters.specs.Access.{first_commit, set_on_gauge}
use Rattle.parameters.proofs.RowLaws.{byte_of, powered}
use Rattle.parameters.proofs.SendLaws.{first_leaves}

-- a value u that was passed is v, and a row's parameter r is p
module _ (l : Layout) (image : List ℕ) (p : Parameter) (v u : ℤ) (x : u ≡ v) where
  module _ (e : Error) (q : number e ≡ set_error l (length image) p u) where
    refused : (to : List ℕ) → outcome (number e) image ≡ if_settable l image p v to
    refused to = rw (← x, ← q, ne_eqb (number e) 0 (λ z. omega (arith, number_some e)))

    pub sets_not : outcome (number e) image ≡ set l image p v
    unfolding set
    sets_not = refused _

    pub sets_lower_not : outcome (number e) image ≡ set_lower l image p v
    unfolding set_lower
    sets_lower_not = refused _

  module _ (q : 0 ≡ set_error l (length image) p u) (h : (k : ℕ) → Fits w8 (get_or image k 0)) (hc : Fits w8 p.class) (r : Parameter) (y : r ≡ p) (g : Gauge) (to : List ℕ) where
    free : set_error l (length image) p v ≡ 0
    free = ap (set_error l (length image) p) (sym x) ∙ sym q

    accepted : (to' : List ℕ) → to ≡ to' → outcome 0 to ≡ if_settable l image p v to'
    accepted to' t = rw (free, t)

    pub sets_value : device g to ≡ set_on_gauge l image r u → outcome 0 to ≡ set l image p v
    unfolding set outcome
    sets_value d =
        let s = set_leaves l image p v free in
        let start = powered l image (readable l (length image) p (settable l (length image) p v free).0).fitting h in
        let by = set_by_gauge l image (power_on boot_open) p v start refl refl (byte_of p.class hc) (ap (λ (o : Outcome ℕ (List ℕ)). o.answer) s) in
        accepted _ (ap (λ (z : Device). z.image) (rw (y, x) at d) ∙ by ∙ ap (λ (o : Outcome ℕ (List ℕ)). o.lent) s)

    pub sets_lower : device g to ≡ first_commit l image r u → outcome 0 to ≡ set_lower l image p v
    unfolding set_lower
    sets_lower d = accepted _ (first_leaves l image p (rw y at d) x free h hc)
