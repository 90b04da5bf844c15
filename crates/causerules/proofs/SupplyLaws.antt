-- A supply in a history: one step where it is set, which gives no reason, since it leaves all that
-- a reason looks at.
use Prim.Native.Nat.{ℕ}
use mathlib.Core.Path.{◌≡◌, refl, sym, ◌∙◌}
use mathlib.Core.Bool.{false, true≢false}
use mathlib.Core.List.{List, [], ◌∷◌}
use lib.Dec.{eqb}
use borrow.Author.Tests.{eq-eqb}
use Rattle.flashrules.specs.declared.layout.Layout.{Layout}
use Rattle.flashrules.proofs.Picks.{on_test}
use Rattle.flashrules.proofs.RefusalLaws.{first_in}
use Rattle.gaugerules.specs.State.{is_sealed, none_loaded, with_supply}
use Rattle.gaugerules.specs.Register.{register_of}
use Rattle.gaugerules.specs.Transfer.{is_protected}
use Rattle.gaugerules.specs.Supply.{supply_tests, supply_error, set_supply}
use Rattle.gaugerules.specs.declared.state.Gauge.{Gauge}
use Rattle.causerules.specs.History.{Step, step, no_register, supply_steps}
use Rattle.causerules.specs.Cause.{latest_or, gives, reason_of}
use Rattle.causerules.specs.Laws.{EachStep, Leads, OfLine, holds_for, gave_for, Tells, SupplyHistory, SupplyRemembered, SupplyTold}
use Rattle.causerules.specs.declared.reason.Reason.{Reason}
use Rattle.causerules.proofs.HistoryLaws.{line_more}
use Rattle.causerules.proofs.ReasonLaws.{told}

-- ---- the step

abbrev set : ℕ → Gauge → ℕ → Step
set line g millivolts = step line no_register g (with_supply g millivolts)

gives_none : (line : ℕ) (g : Gauge) (millivolts : ℕ) (why : Reason) → gives why (set line g millivolts) ≡ false
unfolding register_of is_protected
gives_none line g millivolts Reason.Itself = refl
gives_none line g millivolts Reason.Sealed = on_test (is_sealed g) (λ p. rw p) (λ p. rw p)
gives_none line g millivolts Reason.NothingLoaded = on_test (none_loaded g) (λ p. rw p) (λ p. rw p)
gives_none line g millivolts Reason.Protected = on_test (is_protected g) (λ p. rw p) (λ p. rw p)
gives_none line g millivolts Reason.Class = rw (eq-eqb g.class g.class refl)
gives_none line g millivolts Reason.Window = refl

-- it leaves window and loading
leaves_window : (line : ℕ) (g : Gauge) (millivolts : ℕ) (met : Gauge)
    → Tells (gives Reason.Window) (gave_for Reason.Window met) (holds_for Reason.Window met) (set line g millivolts)
unfolding register_of
leaves_window line g millivolts met = record { picked = λ b _. absurd (true≢false (sym b)); other = λ _ p. (p, refl) }

-- ---- the history of a call

on_steps : (l : Layout) (size : ℕ) (g : Gauge) (line millivolts : ℕ) (P : List Step → Gauge → Type 0) → P [] g
    → P (set line g millivolts ∷ []) (with_supply g millivolts) → P (supply_steps l size g line millivolts) (set_supply l size g millivolts).gauge
unfolding supply_steps set_supply
on_steps l size g line millivolts P none one = on_test (eqb (supply_error l size g millivolts) 0) (λ p. rw p one) (λ p. rw (p, p) none)

pub supply_history : SupplyHistory
supply_history l size g line millivolts =
    on_steps l size g line millivolts (λ h k. Leads g h k × EachStep (OfLine line) h) (refl, tt) ((refl, refl), (refl, tt))

pub supply_remembered : SupplyRemembered
supply_remembered l size g line millivolts n h e r =
    e r
    ∙ sym
    (line_more r n.line h (supply_steps l size g line millivolts)
    ∙ on_steps l size g line millivolts (λ more k. (x : ℕ) → latest_or x (gives r) more ≡ x) (λ x. refl) (λ x. rw (gives_none line g millivolts r)) _)

pub supply_told : SupplyTold
supply_told l size g line millivolts why met =
    on_steps l size g line millivolts (λ h k. EachStep (Tells (gives why) (gave_for why met) (holds_for why met)) h) tt
    (told met (set line g millivolts) (leaves_window line g millivolts met) why, tt)

-- ---- a refused one goes back to its own line

pub supply_itself : (l : Layout) (size : ℕ) (g k : Gauge) (millivolts : ℕ) → reason_of (set_supply l size g millivolts).error k ≡ Reason.Itself
unfolding set_supply supply_error reason_of
supply_itself l size g k millivolts =
    on_test (eqb (supply_error l size g millivolts) 0) (λ p. rw p)
    (λ p. rw p (first_in (λ e. reason_of e k ≡ Reason.Itself) (supply_tests l size g millivolts) refl (refl, (refl, (refl, tt)))))
