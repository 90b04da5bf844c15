-- The line of the latest byte is the true one: behind the latest byte that is one of these none is,
-- so P, which holds at the end and does not begin without one, has held since.
use Prim.Native.Nat.{ℕ, ◌≤◌}
use mathlib.Core.Path.{◌≡◌, refl, sym, ap, ◌∙◌}
use mathlib.Core.Logic.{◌⊎◌, inl, inr, ⊎_elim}
use mathlib.Core.Bool.{Bool, true, false, cond}
use mathlib.Core.List.{List, [], ◌∷◌, ◌++◌}
use native.Mathlib.Omega.{arith}
use Rattle.flashrules.proofs.Picks.{on_test}
use Rattle.gaugerules.specs.declared.state.Gauge.{Gauge}
use Rattle.causerules.specs.History.{Step}
use Rattle.causerules.specs.Cause.{latest_or, latest}
use Rattle.causerules.specs.Laws.{EachStep, Leads, HoldsAfter, Since, FromOne, Tells, LatestSince}

-- ---- a history in two

each_behind : (Q : Step → Type 0) (past h : List Step) → EachStep Q (past ++ h) → EachStep Q h
each_behind Q [] h e = e
each_behind Q (s ∷ past) h e = each_behind Q past h e.1

leads_behind : (g : Gauge) (past : List Step) (s : Step) (h : List Step) (g' : Gauge) → Leads g (past ++ (s ∷ h)) g' → Leads s.after h g'
leads_behind g [] s h g' e = e.1
leads_behind g (t ∷ past) s h g' e = leads_behind t.after past s h g' e.1

-- ---- the latest byte

abbrev Not : (Step → Bool) → Step → Type 0
Not is s = is s ≡ false

-- of line n, and none behind it
record Latest (is : Step → Bool) (h : List Step) (n : ℕ) : Type 0 where
  past : List Step
  byte : Step
  since : List Step
  whole : h ≡ past ++ (byte ∷ since)
  line : byte.line ≡ n
  gave : is byte ≡ true
  none : EachStep (Not is) since

find_latest : (is : Step → Bool) (h : List Step) (line : ℕ) → let n = latest_or line is h in Latest is h n ⊎ (EachStep (Not is) h × (n ≡ line))
find_latest is [] line = inr (tt, refl)
find_latest is (s ∷ h) line =
    let n = latest_or line is (s ∷ h) in
    ⊎_elim
    (λ (k : Latest is h n).
    inl
    (record {
      past = s ∷ k.past;
      byte = k.byte;
      since = k.since;
      whole = ap (λ (x : List Step). s ∷ x) k.whole;
      line = k.line;
      gave = k.gave;
      none = k.none;
    }))
    (λ (k : EachStep (Not is) h × (n ≡ cond (is s) s.line line)).
    on_test (is s) (λ p. inl (record { past = []; byte = s; since = h; whole = refl; line = sym (k.1 ∙ rw p); gave = p; none = k.0 }))
    (λ p. inr ((p, k.0), k.1 ∙ rw p)))
    (find_latest is h (cond (is s) s.line line))

-- ---- since then

module _ (is : Step → Bool) (gave : Step → Bool) (P : Gauge → Bool) where
  -- behind it, back from the end: P held, and none gave it
  held : (g : Gauge) (h : List Step) (g' : Gauge) → Leads g h g' → EachStep (Not is) h → EachStep (Tells is gave P) h → P g' ≡ true
      → ((P g ≡ true) × EachStep (HoldsAfter P) h) × EachStep (λ s. gave s ≡ false) h
  held g [] g' e none tells p = ((rw e p, tt), tt)
  held g (s ∷ h) g' e none tells p =
      let rest = held s.after h g' e.1 none.1 tells.1 p in
      let before = tells.0.other none.0 rest.0.0 in
      ((rw e.0 at before.0, rest.0), (before.1, rest.1))

  module _ (g : Gauge) (h : List Step) (g' : Gauge) (leads : Leads g h g') (lines : EachStep FromOne h) (tells : EachStep (Tells is gave P) h)
      (p : P g' ≡ true) where
    from_latest : Latest is h (latest is h) → Since gave P g h (latest is h)
    from_latest k =
        let on = k.byte ∷ k.since in
        let to = leads_behind g k.past k.byte k.since g' (rw k.whole at leads) in
        let tells_on = each_behind (Tells is gave P) k.past on (rw k.whole at tells) in
        let first : 1 ≤ k.byte.line = (each_behind FromOne k.past on (rw k.whole at lines)).0 in
        let rest = held k.byte.after k.since g' to k.none tells_on.1 p in
        record {
          always = λ z. absurd (omega (arith, first, k.line));
          named = λ _. record {
            past = k.past;
            byte = k.byte;
            since = k.since;
            whole = k.whole;
            line = k.line;
            gives = tells_on.0.picked k.gave rest.0.0;
            held = rest.0;
            last = rest.1;
          };
        }

    from_power_on : EachStep (Not is) h × (latest is h ≡ 0) → Since gave P g h (latest is h)
    from_power_on k = record { always = λ _. (held g h g' leads k.0 tells p).0; named = λ n. absurd (n k.1) }

pub latest_since : LatestSince
latest_since is gave P g h g' leads lines tells p =
    ⊎_elim (from_latest is gave P g h g' leads lines tells p) (from_power_on is gave P g h g' leads lines tells p) (find_latest is h 0)
