-- Laws of a read: one register, the loop that fills the buffer, and the checks before it.
use Prim.Native.Nat.{ℕ, suc, ◌+◌, ◌-◌, ◌/◌, ◌%◌, ◌≤◌, ◌<◌}
use mathlib.Core.Path.{◌≡◌}
use mathlib.Core.Bool.{cond}
use mathlib.Core.List.{List, [], ◌∷◌, ◌++◌, append_assoc}
use native.Mathlib.Numerals.{add-one}
use native.Mathlib.Omega.{arith}
use lib.Dec.{ltb}
use lib.ListN.{length, get_or, take, set}
use lib.Seq.{take-suc-set}
use Rattle.std.proofs.lemmas.List.{length-take-le}
use Rattle.checksum.specs.Checksum.{checksum}
use Rattle.std.specs.Prelude.{Result, Ok, Err}
use Rattle.flashrules.specs.declared.error.Error.{Error}
use Rattle.flashrules.specs.Error.{number, number_of, short_buffer}
use Rattle.flashrules.specs.declared.layout.Layout.{Layout}
use Rattle.flashrules.proofs.RefusalLaws.{check_first, check_behind}
use Rattle.flashrules.proofs.ErrorLaws.{check_passed, check_number, check_refused}
use Rattle.gaugerules.specs.Register.{register_of}
use Rattle.gaugerules.specs.Write.{call_tests, call_error}
use Rattle.gaugerules.specs.Read.{unless_sealed, read_at, read_byte, read_bytes, read_error}
use Rattle.gaugerules.specs.declared.state.Gauge.{Gauge}
use Rattle.gaugerules.specs.declared.register.Register.{Register}
use Rattle.gaugerules.proofs.ReadLaws.{read_free}
use Rattle.gauge.proofs.WriteLaws.{window_inside}

-- ---- one register, by what it was decoded as; x is what a call gave

module _ (g : Gauge) (r x : ℕ) (kind : Register) (p : kind ≡ register_of r) where
  pub reads_control_low : kind ≡ Register.ControlLow → x ≡ g.result % 256 → x ≡ read_byte g r
  unfolding read_byte read_at
  reads_control_low q e = rw (← p, q) e

  pub reads_control_high : kind ≡ Register.ControlHigh → x ≡ g.result / 256 → x ≡ read_byte g r
  unfolding read_byte read_at
  reads_control_high q e = rw (← p, q) e

  pub reads_class : kind ≡ Register.DataFlashClass → x ≡ unless_sealed g g.class → x ≡ read_byte g r
  unfolding read_byte read_at
  reads_class q e = rw (← p, q) e

  pub reads_block : kind ≡ Register.DataFlashBlock → g.block ≡ read_byte g r
  unfolding read_byte read_at
  reads_block q = rw (← p, q)

  pub reads_window : (k : ℕ) → kind ≡ Register.BlockData k → get_or g.window k 0 ≡ read_byte g r
  unfolding read_byte read_at
  reads_window k q = rw (← p, q)

  pub reads_checksum : kind ≡ Register.BlockDataChecksum → x ≡ checksum g.window → x ≡ read_byte g r
  unfolding read_byte read_at
  reads_checksum q e = rw (← p, q) e

  pub reads_control : kind ≡ Register.BlockDataControl → x ≡ unless_sealed g g.control → x ≡ read_byte g r
  unfolding read_byte read_at
  reads_control q e = rw (← p, q) e

  pub reads_other : kind ≡ Register.Other → 0 ≡ read_byte g r
  unfolding read_byte read_at
  reads_other q = rw (← p, q)

pub ruleset reads_register = (window_inside, reads_control_low, reads_control_high, reads_class, reads_block, reads_window, reads_checksum, reads_control, reads_other)

-- ---- the loop over the buffer: `e` is its invariant

pub fill_more : (g : Gauge) (r i n : ℕ) (buffer z : List ℕ) → take i buffer ++ read_bytes g (r + i) (n - i) ≡ z → length buffer ≡ n → i < n
    → (x : ℕ) → x ≡ read_byte g (r + i) → take (i + 1) (set buffer i x) ++ read_bytes g (r + (i + 1)) (n - (i + 1)) ≡ z
unfolding read_bytes
fill_more g r i n buffer z e l h x p =
    let k : i < length buffer = omega arith in
    let c : n - i ≡ suc (n - (i + 1)) = omega arith in
    let a : r + i + 1 ≡ r + (i + 1) = omega arith in
    let t : take (i + 1) (set buffer i x) ≡ take i buffer ++ (x ∷ []) = rw (add-one, take-suc-set) in
    rw (t, append_assoc, ← a) (rw (c, ← p) at e)

-- ---- the checks before the first byte

-- the room's test comes behind those of a call
module _ (l : Layout) (size : ℕ) (g : Gauge) (r n room : ℕ) (a : Result Unit Error) (p : number_of a ≡ call_error l size g r n) where
  pub call_first : (e : Error) → a ≡ Err e → number e ≡ read_error l size g r n room
  unfolding read_error call_error
  call_first = check_first (call_tests l size g r n) ((ltb room n, short_buffer) ∷ []) (omega arith, (omega arith, (omega arith, tt))) a p

  pub room_behind : a ≡ Ok tt → (k : ℕ) → k ≡ cond (ltb room n) short_buffer 0 → k ≡ read_error l size g r n room
  unfolding read_error call_error
  room_behind = check_behind (call_tests l size g r n) ((ltb room n, short_buffer) ∷ []) (omega arith, (omega arith, (omega arith, tt))) a p tt

pub ruleset room_tests = (call_first, room_behind)

pub reads_room : (l : Layout) (size : ℕ) (g : Gauge) (r n room : ℕ) → read_error l size g r n room ≡ 0 → n ≤ room
reads_room l size g r n room e = (read_free l size g r n room e).1

pub ruleset room = (reads_room, length-take-le, check_passed, check_number, check_refused)
