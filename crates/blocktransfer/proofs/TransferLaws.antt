-- Laws of block transfer: a block as loaded, and what loads and edits put together from calls.
use Prim.Native.Nat.{ℕ, zero, suc, ◌+◌, ◌-◌, ◌≤◌}
use mathlib.Core.Path.{◌≡◌, refl, sym, ◌∙◌}
use mathlib.Core.Bool.{Bool, true, false, cond}
use mathlib.Core.List.{List, ◌++◌}
use native.Mathlib.Nat.{sub-zero}
use native.Mathlib.Omega.{arith}
use lib.Dec.{leb}
use lib.ListN.{length, take, drop, set, replicate}
use lib.Seq.{set_out}
use borrow.Author.Tests.{leb-true}
use Rattle.flashrules.specs.Error.{number, unknown_block}
use Rattle.flashrules.specs.Layout.{info_class}
use Rattle.flashrules.specs.Lookup.{block_size, find_block}
use Rattle.flashrules.specs.Image.{block_bytes, as_loaded}
use Rattle.flashrules.specs.declared.layout.Layout.{Layout}
use Rattle.flashrules.specs.Answer.{Lookup}
use Rattle.flashrules.specs.declared.lookup.Place.{Place}
use Rattle.flashrules.specs.declared.error.Error.{Error}
use Rattle.std.specs.Prelude.{Result, Ok, Err}
use Rattle.flashrules.proofs.LookupLaws.{found_end, found_most}
use Rattle.flashrules.proofs.ImageLaws.{part_is}
use Rattle.flashrules.proofs.Picks.{and_first}
use Rattle.gaugerules.specs.State.{general_access, info_blocks, zero_window, with_window, load}
use Rattle.gaugerules.specs.Answer.{byte_answer}
use Rattle.gaugerules.specs.declared.answer.ByteWritten.{ByteWritten}
use Rattle.gaugerules.specs.Transfer.{refuse, load_block, select_block, selects_info}
use Rattle.gaugerules.specs.declared.state.Gauge.{Gauge}

drop_replicate : (n k : ℕ) → drop k (replicate n 0) ≡ replicate {A = ℕ} (n - k) 0
drop_replicate n zero = rw sub-zero
drop_replicate zero (suc k) = let e : 0 - suc k ≡ 0 = omega arith in rw e
drop_replicate (suc n) (suc k) = let e : suc n - suc k ≡ n - k = omega arith in rw e (drop_replicate n k)

-- a block's bytes in front of a zero window
pub window_all : (part : List ℕ) → length part ≤ block_size → as_loaded part ≡ part ++ drop (length part) zero_window
unfolding as_loaded
window_all part most = rw (drop_replicate block_size (length part))

-- ---- a load

module _ (l : Layout) (image : List ℕ) (i b : ℕ) (g : Gauge) (byte : ℕ) where
  pub block_loads : (a : Lookup) (t : Place) → a ≡ find_block l (length image) i b → a ≡ Ok t → (w : List ℕ) (r : Gauge)
      → w ≡ as_loaded (take (t.start + t.len - t.start) (drop t.start image)) → r ≡ load g byte i b w
      → (s : Result ByteWritten Error) → s ≡ Ok (record { changed = 0; gauge = r }) → byte_answer g s ≡ load_block l image g byte i b
  unfolding load_block block_bytes
  block_loads a t p f w r q x s e =
      let y : find_block l (length image) i b ≡ Ok t = sym p ∙ f in
      let z : w ≡ as_loaded (take t.len (drop t.start image)) = rw (part_is image t.start t.len) at q in
      rw (e, y, x, z)

  pub block_refused : (e : Error) → find_block l (length image) i b ≡ Err e → refuse (number e) g ≡ load_block l image g byte i b
  unfolding load_block
  block_refused e f = rw f

pub ruleset block_loading = (found_end, found_most, part_is, block_loads, block_refused)

pub info_above : (byte : ℕ) (t : Bool) → t ≡ selects_info byte → t ≡ true → 1 ≤ byte
info_above byte t p q = leb-true 1 byte (and_first (leb 1 byte) (cond (leb byte info_blocks) true false) (sym p ∙ q))

pub select_is : (l : Layout) (image : List ℕ) (g : Gauge) (byte : ℕ) → select_block l image g byte
    ≡ cond (general_access g) (load_block l image g byte g.class byte)
    (cond (selects_info byte) (load_block l image g byte info_class (byte - 1)) (refuse unknown_block g))
unfolding select_block
select_is l image g byte = refl

pub ruleset selecting = (info_above, select_is)

-- ---- an edit

pub no_place : (g : Gauge) (k byte : ℕ) → length g.window ≡ block_size → block_size ≤ k → g ≡ with_window g (set g.window k byte)
no_place g k byte w h = rw (set_out g.window k byte (omega arith))
