-- Turns of the second pass as events of a host.
use Rattle.std.proofs.Common.{◌≡◌, ℕ, ◌+◌, ◌-◌, ◌≤◌, List, [], ◌∷◌, ◌++◌, length, sym, refl, ◌∙◌, append-nil}
use Rattle.flashrules.specs.declared.layout.Layout.{Layout}
use Rattle.gaugerules.specs.State.{boot_sealed, power_on}
use Rattle.gaugerules.specs.declared.state.Gauge.{Gauge}
use Rattle.causerules.specs.Notes.{blank}
use Rattle.scriptrules.specs.Session.{session, Runner, runner, fresh_runner}
use Rattle.scriptrules.specs.declared.session.Session.{Session}
use Rattle.flashrules.specs.Outcome.{outcome}
use Rattle.scriptrules.specs.Run.{lend, run}
use Rattle.scriptrules.specs.Host.{Event, arrives, runs, Host, host, handle, handle_all}
use Rattle.scriptrules.specs.Answer.{RunAnswer}
use Rattle.scripthost.specs.Held.{held, Longer, Turned, ByEvents, Passed}
use Rattle.scripthost.proofs.HeldLaws.{held_length, held_drop}

-- ---- events one after the other

module _ (l : Layout) (report : ℕ) where
  handle_append : (h : Host) (ss ts : List Event) → handle_all l report h (ss ++ ts) ≡ handle_all l report (handle_all l report h ss) ts
  handle_append h [] ts = refl
  handle_append h (s ∷ ss) ts = handle_append (handle l report h s) ss ts

  -- what was printed before makes no difference to the device or to the text that is held
  handle_printed : (ss : List Event) (b : Runner) (x p q : List ℕ)
      → ((handle_all l report (host b x p) ss).runner ≡ (handle_all l report (host b x q) ss).runner) × ((handle_all l report (host b x p) ss).held ≡ (handle_all l report (host b x q) ss).held)
  handle_printed [] b x p q = (refl, refl)
  handle_printed (arrives y ∷ ss) b x p q = handle_printed ss b (x ++ y) p q
  handle_printed (runs out ∷ ss) b x p q = handle_printed ss _ _ _ _

  on : (b b' : Runner) (x x' : List ℕ) (ss : List Event) → (handle_all l report (host b x []) ss).runner ≡ b' → (handle_all l report (host b x []) ss).held ≡ x'
      → (ts : List Event) → ((handle_all l report (host b x []) (ss ++ ts)).runner ≡ (handle_all l report (host b' x' []) ts).runner) × ((handle_all l report (host b x []) (ss ++ ts)).held ≡ (handle_all l report (host b' x' []) ts).held)
  on b b' x x' ss p q ts =
      let h = handle_all l report (host b x []) ss in
      rw (handle_append (host b x []) ss ts, ← p, ← q)
      (handle_printed ts h.runner h.held h.printed [])

  events_on : (b b' b'' : Runner) (x x' x'' : List ℕ) → ByEvents l report b x b' x' → ByEvents l report b' x' b'' x'' → ByEvents l report b x b'' x''
  events_on b b' b'' x x' x'' first second =
      let c = on b b' x x' first.taken first.runner first.text second.taken in
      record { taken = first.taken ++ second.taken; runner = c.0 ∙ second.runner; text = c.1 ∙ second.text }

-- ---- one turn: what is held is run, s being what that left

module _ (l : Layout) (report : ℕ) (before : Session) (image image' b out out' : List ℕ) (from to : ℕ) (s : RunAnswer) (p : outcome s (lend image' out') ≡ run l report image before (held b from to) out) where
  pub turn_ran : from + s.next ≤ to → Turned l report out (runner before image) (held b from to) (runner s.session image') (held b (from + s.next) to)
  unfolding outcome
  turn_ran h = record { more = []; runner = rw (← p); text = rw (← p, append-nil) (held_drop b from to s.next h) }

  -- and then more is read
  pub turn_read : (b' : List ℕ) (from' to' : ℕ) (s' : Session) → s.next ≡ 0 → from' ≡ 0 → s' ≡ s.session → Longer (held b from to) (held b' 0 to')
      → Turned l report out (runner before image) (held b from to) (runner s' image') (held b' from' to')
  unfolding outcome
  turn_read b' from' to' s' e f k m = rw (f, k) (record { more = m.more; runner = rw (← p); text = rw (← p, e) (sym m.whole) })

pub turn_on : (l : Layout) (report : ℕ) (out x x' : List ℕ) (b₀ b b' : Runner) → ByEvents l report b₀ [] b x → Turned l report out b x b' x' → ByEvents l report b₀ [] b' x'
turn_on l report out x x' b₀ b b' a t =
    events_on l report b₀ b b' [] x x' a (record { taken = runs out ∷ arrives t.more ∷ []; runner = t.runner; text = t.text })

-- ---- all turns

module _ (l : Layout) (report : ℕ) (image b : List ℕ) (s : Session) where
  pub pass_start : (g : Gauge) → s ≡ session g blank → g ≡ power_on boot_sealed
      → ByEvents l report (fresh_runner image) [] (runner s image) (held b 0 0)
  pass_start g p q = record { taken = []; runner = rw (p, q); text = refl }

  pub pass_end : (image₀ : List ℕ) (from to : ℕ) → ByEvents l report (fresh_runner image₀) [] (runner s image) (held b from to) → from ≤ to → to ≤ length b
      → Passed l report (fresh_runner image₀) image (to - from)
  pass_end image₀ from to a h k = record { last = runner s image; text = held b from to; events = a; image = refl; size = held_length b from to h k }

-- what proves `turns`
pub ruleset all_turns = (pass_start, pass_end)
