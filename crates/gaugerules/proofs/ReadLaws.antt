-- Laws of a read: what an accepted one has, and what each leaves of the buffer.
use Prim.Native.Nat.{ℕ, zero, suc, ◌+◌, ◌≤◌}
use mathlib.Core.Path.{◌≡◌, refl}
use native.Mathlib.Omega.{arith}
use lib.Dec.{eqb}
use lib.ListN.{length, drop}
use lib.Seq.{take_at, drop_at}
use borrow.Author.Tests.{eqb-false, ltb-false}
use Rattle.flashrules.specs.Outcome.{outcome}
use Rattle.flashrules.specs.declared.layout.Layout.{Layout}
use Rattle.flashrules.proofs.Laws.{no_error}
use Rattle.flashrules.proofs.Picks.{on_test}
use Rattle.gaugerules.specs.Write.{call_tests, call_error}
use Rattle.gaugerules.specs.Read.{read_bytes, read_tests, read_error, read}
use Rattle.gaugerules.specs.Laws.{ReadRefused, ReadAccepted}
use Rattle.gaugerules.specs.declared.state.Gauge.{Gauge}

-- a read that is not refused passes the checks of a call, and its answer has room
pub read_free : (l : Layout) (size : ℕ) (g : Gauge) (r n room : ℕ) → read_error l size g r n room ≡ 0 → (call_error l size g r n ≡ 0) × (n ≤ room)
unfolding read_error call_error
read_free l size g r n room e =
    let t = (no_error (read_tests l size g r n room) (omega arith, (omega arith, (omega arith, (omega arith, tt))))).0 e in
    let c = (no_error (call_tests l size g r n) (omega arith, (omega arith, (omega arith, tt)))).1 (t.0, (t.1.0, (t.1.1.0, tt))) in
    (c, ltb-false room n t.1.1.1.0)

length_read : (g : Gauge) (r n : ℕ) → length (read_bytes g r n) ≡ n
unfolding read_bytes
length_read g r zero = refl
length_read g r (suc n) = omega (arith, length_read g (r + 1) n)

pub read_refused : ReadRefused
unfolding read outcome
read_refused l image g r n buffer h =
    on_test (eqb (read_error l (length image) g r n (length buffer)) 0) (λ e. absurd (h (rw e))) (λ e. (rw e, rw e))

pub read_accepted : ReadAccepted
unfolding read outcome
read_accepted l image g r n buffer h =
    on_test (eqb (read_error l (length image) g r n (length buffer)) 0)
    (λ e.
    rw e
    (refl, take_at (read_bytes g r n) (drop n buffer) n (length_read g r n), drop_at (read_bytes g r n) (drop n buffer) n (length_read g r n)))
    (λ e. absurd (eqb-false _ _ e (rw e at h)))
