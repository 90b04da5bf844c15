-- What the calls give that write a value's bytes. The premises are what the callees ensure, word
-- for word.
use Prim.Native.Nat.{ℕ, ◌+◌, ◌-◌, ◌/◌, ◌%◌, ◌<◌}
use mathlib.Core.Path.{◌≡◌, ap, ◌∙◌}
use mathlib.Core.Bool.{true, cond}
use mathlib.Core.List.{List, ◌++◌}
use native.Mathlib.Omega.{arith}
use lib.ListN.{length, get_or, take, drop, replicate}
use lib.Seq.{sets, sets-eq, take_at, take-append-le, drop-append-le}
use lib.IntN.{ℤ}
use mir.Syntax.{w8}
use mir.Val.{Fits}
use borrow.Author.Tests.{lt-ltb}
use Rattle.flashrules.specs.Outcome.{outcome}
use Rattle.flashrules.specs.Lookup.{block_size}
use Rattle.flashrules.specs.declared.layout.Layout.{Layout}
use Rattle.flashrules.proofs.Picks.{on_test}
use Rattle.gaugerules.specs.State.{boot_open, power_on}
use Rattle.gaugerules.specs.Script.{Device, device, after_call, after_calls}
use Rattle.gaugerules.specs.BlockAccess.{FlashSelects, BlockWrites}
use Rattle.gaugerules.specs.declared.state.Gauge.{Gauge}
use Rattle.parameterrules.specs.Integer.{to_bytes}
use Rattle.parameterrules.specs.Kind.{max_width, width_of}
use Rattle.parameterrules.specs.Parameter.{set_error}
use Rattle.parameterrules.specs.Commits.{lower_width, crosses_block, lower_bytes, upper_bytes, between_commits}
use Rattle.parameterrules.specs.declared.parameter.Parameter.{Parameter}
use Rattle.parameterrules.proofs.IntegerLaws.{to_bytes_length}
use Rattle.parameterrules.proofs.PlaceLaws.{Readable, readable, width_most, upper_length}
use Rattle.parameterrules.proofs.GaugeLaws.{Open, lower_gauge, lower_writes, upper_writes}
use Rattle.parameters.specs.Access.{opened, sent_at, first_commit, set_on_gauge}
use Rattle.parameters.proofs.RowLaws.{byte_of, open_gauge, powered_selects, powered_open, free_of_set}

-- those of a value's bytes for the upper block are sent, where there are any
abbrev second_commit : Layout → Device → Parameter → ℤ → Device
second_commit l d p v =
    cond (crosses_block p) (sent_at l d p.class (p.offset + lower_width p) (upper_bytes p v)) d

-- ---- a value's bytes, with zeros behind them

module _ (p : Parameter) (m : ℕ) (i : m ≡ p.kind) (u v : ℤ) (x : u ≡ v) (k : ℕ) (a : k ≡ lower_width p) (bytes : List ℕ)
    (t : bytes ≡ sets (replicate max_width 0) 0 (to_bytes (width_of m) u)) where
  abbrev value : List ℕ
  value = to_bytes (width_of p.kind) v

  in_front : bytes ≡ value ++ drop (0 + length value) (replicate max_width 0)
  in_front = t ∙ rw (i, x) (sets-eq value (replicate max_width 0) 0 (omega (arith, to_bytes_length (width_of p.kind) v, width_most p.kind)))

  front_lower : take k bytes ≡ lower_bytes p v
  front_lower =
      rw (in_front, a)
      (take-append-le (lower_width p) value _ (omega (arith, to_bytes_length (width_of p.kind) v)))

  front_upper : (n : ℕ) → n ≡ width_of m → take (n - k) (drop k bytes) ≡ upper_bytes p v
  front_upper n w =
      rw (in_front, a, w, i, drop-append-le (lower_width p) value (drop (0 + length value) (replicate max_width 0)) (omega (arith, to_bytes_length (width_of p.kind) v)))
      (take_at (upper_bytes p v) _ (width_of p.kind - lower_width p) (upper_length p v))

  -- they are sent
  pub sends_lower : (l : Layout) (image : List ℕ) (g : Gauge) (image₀ : List ℕ) (d : Device) → device g image₀ ≡ opened l image
      → d ≡ sent_at l (device g image₀) p.class p.offset (take k bytes) → d ≡ first_commit l image p v
  sends_lower l image g image₀ d o e = e ∙ rw (o, front_lower)

  pub sends_upper : (l : Layout) (d₀ d : Device) (n : ℕ) → n ≡ width_of m → k < n
      → d ≡ sent_at l d₀ p.class (p.offset + k) (take (n - k) (drop k bytes)) → d ≡ second_commit l d₀ p v
  sends_upper l d₀ d n w s e =
      let crosses : crosses_block p ≡ true = rw (← a, ← i, ← w) (lt-ltb k n s) in
      e ∙ rw (front_upper n w, a, crosses)

-- ---- what is sent

module _ (l : Layout) (image : List ℕ) (p : Parameter) (v : ℤ) (e : set_error l (length image) p v ≡ 0)
    (h : (k : ℕ) → Fits w8 (get_or image k 0)) (hc : Fits w8 p.class) where
  row : Readable l (length image) p
  row = readable l (length image) p (free_of_set l (length image) p v e)

  opens : FlashSelects l image (power_on boot_open)
  opens = powered_selects l image row.fitting h

  stands : Open l image open_gauge
  stands = powered_open l image row.fitting h

  lower : BlockWrites l image open_gauge p.class (p.offset / block_size) (p.offset % block_size) (lower_bytes p v) (between_commits l image p v)
  lower = lower_writes l image open_gauge p v stands row (byte_of p.class hc)

  -- the first commit
  first : first_commit l image p v ≡ device (lower_gauge l image open_gauge p v stands row (byte_of p.class hc)) (between_commits l image p v)
  unfolding after_call outcome
  first = rw (opens.accepted, lower.select, lower.edit, lower.commit)

  -- and the second one, if there is one, are all that is sent
  sends_both : second_commit l (first_commit l image p v) p v ≡ set_on_gauge l image p v
  unfolding after_calls after_call outcome
  sends_both =
      on_test (crosses_block p)
      (λ c.
      let upper = upper_writes l image open_gauge p v stands row (byte_of p.class hc) c in
      rw (c, opens.accepted, lower.select, lower.edit, lower.commit, upper.select, upper.edit, upper.commit))
      (λ c. rw (c, opens.accepted, lower.select, lower.edit, lower.commit))

-- a value u that was passed is v
module _ (l : Layout) (image : List ℕ) (p : Parameter) {v u : ℤ} {g : Gauge} {to : List ℕ} (q : device g to ≡ first_commit l image p u) (x : u ≡ v)
    (e : set_error l (length image) p v ≡ 0) (h : (k : ℕ) → Fits w8 (get_or image k 0)) (hc : Fits w8 p.class) where
  pub stores : {d : Device} → d ≡ second_commit l (device g to) p u → d ≡ set_on_gauge l image p v
  stores r = r ∙ rw (q, x) (sends_both l image p v e h hc)

  -- what the first leaves
  pub first_leaves : to ≡ between_commits l image p v
  first_leaves = ap (λ (d : Device). d.image) (q ∙ ap (first_commit l image p) x ∙ first l image p v e h hc)
