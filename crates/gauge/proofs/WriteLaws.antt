-- Laws of a write: one byte by its register, the loop over the bytes, and the checks before it.
use Prim.Native.Nat.{ℕ, ◌+◌, ◌≤◌, ◌<◌}
use mathlib.Core.Path.{◌≡◌, sym, ◌∙◌, subst}
use mathlib.Core.Bool.{cond}
use mathlib.Core.List.{List, ◌∷◌}
use native.Mathlib.Numerals.{add-one}
use native.Mathlib.Omega.{arith}
use lib.Dec.{eqb}
use lib.ListN.{length, get_or, drop, drop_of_length-le}
use lib.Seq.{drop-cons}
use borrow.Author.Tests.{ne_eqb}
use Rattle.flashrules.specs.Error.{read_only}
use Rattle.flashrules.specs.Outcome.{Outcome, outcome}
use Rattle.flashrules.specs.Lookup.{block_size}
use Rattle.flashrules.specs.declared.layout.Layout.{Layout}
use Rattle.gaugerules.specs.State.{with_low}
use Rattle.gaugerules.specs.Register.{registers, register_of}
use Rattle.gaugerules.specs.Word.{word, obey}
use Rattle.gaugerules.specs.Transfer.{refuse, set_class, select_block, edit, set_control}
use Rattle.gaugerules.specs.Write.{commit, write_at, write_byte, written, write_bytes, call_error}
use Rattle.gaugerules.specs.declared.state.Gauge.{Gauge}
use Rattle.gaugerules.specs.declared.register.Register.{Register}
use Rattle.gaugerules.specs.declared.answer.ByteWritten.{ByteWritten}
use Rattle.gaugerules.specs.Answer.{WriteAnswer, byte_answer}
use Rattle.std.specs.Prelude.{Result, Ok, Err}
use Rattle.flashrules.specs.declared.error.Error.{Error}
use Rattle.flashrules.specs.Error.{number}
use Rattle.flashrules.proofs.ErrorLaws.{number_some, check_passed, check_number, check_refused}
use Rattle.gaugerules.proofs.RegisterLaws.{on_register}
use Rattle.gaugerules.proofs.RunLaws.{called}
use Rattle.gaugerules.proofs.WindowLaws.{byte_whole}
use Rattle.gaugerules.proofs.ChangedLaws.{byte_most}

-- ---- registers

abbrev Inside : Register → Type 0
Inside Register.ControlLow = Unit
Inside Register.ControlHigh = Unit
Inside Register.DataFlashClass = Unit
Inside Register.DataFlashBlock = Unit
Inside (Register.BlockData k) = k < block_size
Inside Register.BlockDataChecksum = Unit
Inside Register.BlockDataControl = Unit
Inside Register.Other = Unit

inside : (r : ℕ) → Inside (register_of r)
inside r = on_register Inside r (λ _. tt) (λ _. tt) (λ _. tt) (λ _. tt) (λ k _ h. h) (λ _. tt) (λ _. tt) (λ _ _. tt)

-- the place in the window that a register was decoded as
pub window_inside : (kind : Register) (r k : ℕ) → kind ≡ register_of r → kind ≡ Register.BlockData k → k < block_size
window_inside kind r k p q = subst Inside (sym p ∙ q) (inside r)

-- ---- one byte, by what its register was decoded as

module _ (l : Layout) (image to : List ℕ) (g : Gauge) (r byte : ℕ) (s : Result ByteWritten Error) (kind : Register) (p : kind ≡ register_of r) where
  pub at_control_low : kind ≡ Register.ControlLow → s ≡ Ok (record { changed = 0; gauge = with_low g byte }) → outcome (byte_answer g s) image ≡ write_byte l image g r byte
  unfolding write_byte write_at
  at_control_low q e = rw (← p, q, e)

  pub at_control_high : kind ≡ Register.ControlHigh → s ≡ Ok (record { changed = 0; gauge = obey l image g (word g.low byte) }) → outcome (byte_answer g s) image ≡ write_byte l image g r byte
  unfolding write_byte write_at
  at_control_high q e = rw (← p, q, e)

  pub at_class : kind ≡ Register.DataFlashClass → byte_answer g s ≡ set_class g byte → outcome (byte_answer g s) image ≡ write_byte l image g r byte
  unfolding write_byte write_at
  at_class q e = rw (← p, q, e)

  pub at_block : kind ≡ Register.DataFlashBlock → byte_answer g s ≡ select_block l image g byte → outcome (byte_answer g s) image ≡ write_byte l image g r byte
  unfolding write_byte write_at
  at_block q e = rw (← p, q, e)

  pub at_window : (k : ℕ) → kind ≡ Register.BlockData k → byte_answer g s ≡ edit g k byte → outcome (byte_answer g s) image ≡ write_byte l image g r byte
  unfolding write_byte write_at
  at_window k q e = rw (← p, q, e)

  pub at_checksum : kind ≡ Register.BlockDataChecksum → outcome (byte_answer g s) to ≡ commit l image g byte → outcome (byte_answer g s) to ≡ write_byte l image g r byte
  unfolding write_byte write_at
  at_checksum q e = rw (← p, q, e)

  pub at_control : kind ≡ Register.BlockDataControl → byte_answer g s ≡ set_control g byte → outcome (byte_answer g s) image ≡ write_byte l image g r byte
  unfolding write_byte write_at
  at_control q e = rw (← p, q, e)

pub at_other : (l : Layout) (image : List ℕ) (g : Gauge) (r byte : ℕ) (kind : Register) → kind ≡ register_of r → kind ≡ Register.Other
    → outcome (refuse read_only g) image ≡ write_byte l image g r byte
unfolding write_byte write_at
at_other l image g r byte kind p q = rw (← p, q)

pub ruleset at_register = (window_inside, at_control_low, at_control_high, at_class, at_block, at_window, at_checksum, at_control, at_other)

-- ---- the loop over the bytes: what is left to write gives what the whole gives. `e` is its
-- invariant

module _ (l : Layout) (image : List ℕ) (g : Gauge) (bs : List ℕ) (r i c : ℕ) (z : Outcome WriteAnswer (List ℕ)) (e : write_bytes l image g (r + i) i c (drop i bs) ≡ z) where
  pub run_end : (n : ℕ) → n ≡ length bs → i ≡ n → outcome (written 0 n c g) image ≡ z
  unfolding write_bytes
  run_end n m h = rw h at (rw (drop_of_length-le bs {i = i} (omega arith)) at e)

  module _ (s : Result ByteWritten Error) (to : List ℕ) (p : outcome (byte_answer g s) to ≡ write_byte l image g (r + i) (get_or bs i 0)) (h : i < length bs) where
    run_turn : let b = byte_answer g s in
        cond (eqb b.error 0) (write_bytes l to b.gauge (r + i + 1) (i + 1) (c + b.changed) (drop (i + 1) bs)) (outcome (written b.error i (c + b.changed) b.gauge) to) ≡ z
    unfolding write_bytes outcome
    run_turn = let q : drop i bs ≡ get_or bs i 0 ∷ drop (i + 1) bs = rw (add-one, drop-cons bs i 0) in rw (q, ← p) at e

    pub run_more : (w : ByteWritten) → s ≡ Ok w → write_bytes l to w.gauge (r + (i + 1)) (i + 1) (c + w.changed) (drop (i + 1) bs) ≡ z
    run_more w q = let a : r + i + 1 ≡ r + (i + 1) = omega arith in rw a at (rw q at run_turn)

    pub run_stop : (x : Error) → s ≡ Err x → outcome (written (number x) i c g) to ≡ z
    run_stop x q = let a : c + 0 ≡ c = omega arith in rw a at (rw (ne_eqb (number x) 0 (λ y. omega (arith, number_some x))) at (rw q at run_turn))

-- a window keeps its length; and what i bytes change, each no more than a block has, and one more
module _ (l : Layout) (image to : List ℕ) (g : Gauge) (at b : ℕ) (s : Result ByteWritten Error) (p : outcome (byte_answer g s) to ≡ write_byte l image g at b)
    (h : length g.window ≡ block_size) (w : ByteWritten) (q : s ≡ Ok w) where
  pub window_stays : length w.gauge.window ≡ block_size
  unfolding outcome write_byte
  window_stays = rw q at (rw (← p) at (byte_whole l image g b h (register_of at)).0)

  pub changes_most : w.changed ≤ block_size
  unfolding outcome
  changes_most = rw q at (rw (← p) at (byte_most l image g at b h))

pub ruleset runs = (run_end, run_more, run_stop, window_stays, changes_most)

-- ---- the checks before the first byte

pub writes_span : (l : Layout) (size : ℕ) (g : Gauge) (r n : ℕ) → call_error l size g r n ≡ 0 → r + n ≤ registers
writes_span l size g r n e = (called l size g r n e).span

pub ruleset span = (writes_span, check_passed, check_number, check_refused)
