-- Laws of the view of what is loaded: what a load puts there, and the refusals of a window's byte
-- by it.
use Prim.Native.Nat.{ℕ, ◌-◌, ◌/◌, ◌%◌, ◌≤◌, ◌<◌}
use mathlib.Core.Path.{◌≡◌, sym, ◌∙◌}
use mathlib.Core.Bool.{true, false, not, true≢false}
use mathlib.Core.List.{List, [], ◌∷◌}
use native.Mathlib.Omega.{arith}
use lib.Dec.{eqb}
use borrow.Author.Tests.{eqb-true, leb-true, not-false, ne_eqb}
use Rattle.checksum.specs.Checksum.{checksum}
use Rattle.flashrules.specs.Choice.{and}
use Rattle.flashrules.specs.Refusal.{NoneHolds}
use Rattle.flashrules.specs.Image.{max_byte}
use Rattle.flashrules.specs.declared.layout.Layout.{Layout}
use Rattle.flashrules.proofs.Laws.{no_error}
use Rattle.flashrules.proofs.Picks.{and_first, and_rest}
use Rattle.gaugerules.specs.State.{no_block, info_blocks, has_low_supply, packed, loaded_of, none_loaded, is_loaded, load}
use Rattle.gaugerules.specs.Transfer.{selects_info, is_protected, edit_tests, edit_error, changes_keys, commit_tests, commit_error}
use Rattle.gaugerules.specs.declared.state.Gauge.{Gauge}
use Rattle.gaugerules.specs.State.{block_loaded}
use Rattle.gaugerules.proofs.Picks.{on_loaded}

-- class and block are bytes, so both come out of the packed number again
pub load_view : (g : Gauge) (byte i b : ℕ) (w : List ℕ) → i ≤ max_byte → b ≤ max_byte → loaded_of (load g byte i b w).loaded ≡ block_loaded i b
unfolding loaded_of
load_view g byte i b w hi hb =
    let class : packed i b / 256 % 256 ≡ i = omega arith in
    let block : packed i b % 256 ≡ b = omega arith in
    rw (ne_eqb (packed i b) no_block (omega arith), class, block)

-- the test for one block
pub loaded_is : (g : Gauge) (i b : ℕ) → is_loaded g i b ≡ true → loaded_of g.loaded ≡ block_loaded i b
loaded_is g i b t =
    on_loaded (loaded_of g.loaded) (λ p. absurd (true≢false (sym (rw p at t))))
    (λ j c p.
    let u : and (eqb j i ∷ eqb c b ∷ []) ≡ true = rw p at t in
    let q : (j ≡ i) × (c ≡ b) = search (and_first, and_rest, eqb-true) in
    p ∙ rw (q.0, q.1))

-- which block 1, 2, 3 choose
pub info_picked : (byte : ℕ) → selects_info byte ≡ true → byte - 1 < info_blocks
info_picked byte t = let p : (1 ≤ byte) × (byte ≤ info_blocks) = search (and_first, and_rest, leb-true) in omega arith

-- ---- what may be edited, and what may be committed

pub record Editable (g : Gauge) : Type 0 where
  pub class : ℕ
  pub block : ℕ
  pub loaded : loaded_of g.loaded ≡ block_loaded class block
  pub free : is_protected g ≡ false

is_loaded_lem : (g : Gauge) → none_loaded g ≡ false → is_protected g ≡ false → Editable g
is_loaded_lem g n p =
    on_loaded (loaded_of g.loaded) (λ q. absurd (let z : ◌≡◌ {A = ℕ} 0 1 = cc (rw q at n) in omega arith))
    (λ i b q. record { class = i; block = b; loaded = q; free = p })

pub editable : (g : Gauge) → edit_error g ≡ 0 → Editable g
unfolding edit_error
editable g e = let t = (no_error (edit_tests g) (omega arith, (omega arith, tt))).0 e in is_loaded_lem g t.0 t.1.0

module _ (l : Layout) (image : List ℕ) (g : Gauge) (byte : ℕ) (e : commit_error l image g byte ≡ 0) where
  pub none_holds : NoneHolds (commit_tests l image g byte)
  unfolding commit_error
  none_holds = (no_error (commit_tests l image g byte) (omega arith, (omega arith, (omega arith, (omega arith, (omega arith, tt)))))).0 e

  pub committable : Editable g
  committable = is_loaded_lem g none_holds.0 none_holds.1.0

  pub matches : byte ≡ checksum g.window
  matches = let t : not (eqb byte (checksum g.window)) ≡ false = search none_holds in eqb-true byte (checksum g.window) (not-false _ t)

  pub leaves_keys : changes_keys l image g ≡ false
  leaves_keys = search none_holds

  pub well_supplied : has_low_supply g ≡ false
  well_supplied = search none_holds
