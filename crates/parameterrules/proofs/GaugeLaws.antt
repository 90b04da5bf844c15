-- A parameter through the gauge: what a gauge in full access answers and leaves that is told to
-- load a block, to read or to write there.
use Prim.Native.Nat.{ℕ, ◌+◌, ◌-◌, ◌/◌, ◌%◌, ◌≤◌}
use mathlib.Core.Path.{◌≡◌, refl, ap, ◌∙◌}
use mathlib.Core.Logic.{inl}
use mathlib.Core.Bool.{true, false}
use mathlib.Core.List.{List, [], ◌∷◌, ◌++◌}
use native.Mathlib.Omega.{arith}
use lib.ListN.{length, take, drop, take-append-drop}
use lib.Seq.{sets, length-sets, take_all}
use lib.IntN.{ℤ}
use borrow.Author.Tests.{eqb-true, ltb-false}
use Rattle.hextext.proofs.StoreLaws.{sets_on}
use Rattle.flashrules.specs.Outcome.{outcome}
use Rattle.flashrules.specs.Answer.{start_of}
use Rattle.flashrules.specs.Lookup.{block_size, find_class}
use Rattle.flashrules.specs.Image.{max_byte, Bytes}
use Rattle.flashrules.specs.declared.layout.Layout.{Layout}
use Rattle.flashrules.proofs.BytesLaws.{bytes_take, bytes_drop}
use Rattle.flashrules.proofs.Picks.{on_test, on_cond}
use Rattle.gaugerules.specs.State.{full_access, is_full_access, has_low_supply, general_access}
use Rattle.gaugerules.specs.Register.{block_data}
use Rattle.gaugerules.specs.Read.{reading, read}
use Rattle.gaugerules.specs.Script.{Device, Call, reply, after_call, after_calls, images_after, all_accepted}
use Rattle.gaugerules.specs.Laws.{Good}
use Rattle.gaugerules.specs.BlockAccess.{flash_selected, block_selected, block_edited, FlashSelects, BlockSelects, BlockWrites}
use Rattle.gaugerules.specs.declared.state.Gauge.{Gauge}
use Rattle.gaugerules.proofs.Laws.{select_flash, select_block_lem, read_block, write_block}
use Rattle.parameterrules.specs.Integer.{to_bytes}
use Rattle.parameterrules.specs.Kind.{width_of}
use Rattle.parameterrules.specs.Parameter.{start_in, set}
use Rattle.parameterrules.specs.Commits.{lower_width, crosses_block, lower_bytes, upper_bytes, between_commits}
use Rattle.parameterrules.specs.Laws.{SetByGauge}
use Rattle.parameterrules.specs.PowerCut.{SetAccepted, PowerCut}
use Rattle.parameterrules.specs.declared.parameter.Parameter.{Parameter}
use Rattle.parameterrules.proofs.IntegerLaws.{to_bytes_length, to_bytes_bytes}
use Rattle.parameterrules.proofs.PlaceLaws.{Readable, readable, settable, InBlock, in_lower, in_upper, lower_length, upper_length}
use Rattle.parameterrules.proofs.ParameterLaws.{set_free, set_leaves}

-- ---- a gauge that stands open

-- every block of the image may be read and written
pub record Open (l : Layout) (image : List ℕ) (g : Gauge) : Type 0 where
  pub good : Good l image g
  pub access : general_access g ≡ true
  pub full : is_full_access g ≡ true
  pub supplied : has_low_supply g ≡ false

-- one in full access, on a supply that is not low, once it gets general access by 0 at 0x61
module _ (l : Layout) (image : List ℕ) (g : Gauge) (good : Good l image g) (full : is_full_access g ≡ true) (supplied : has_low_supply g ≡ false) where
  pub flash_selects : FlashSelects l image g
  flash_selects = select_flash l image g good (rw (eqb-true g.mode full_access full))

  pub stands_open : Open l image (flash_selected g)
  stands_open = record { good = flash_selects.good; access = flash_selects.access; full = full; supplied = supplied }

-- ---- n bytes of class i, from byte `at` on, inside one block

module _ (l : Layout) (image : List ℕ) (g : Gauge) (i at n : ℕ) (o : Open l image g) (b : InBlock l (length image) i at n) (hc : i ≤ max_byte) where
  -- the block is loaded
  pub block_selects : BlockSelects l image g i (at / block_size)
  block_selects = select_block_lem l image g i (at / block_size) b.start b.len o.good o.access hc b.byte b.found

  pub selected_open : Open l image (block_selected l image g i (at / block_size))
  selected_open = record { good = block_selects.good; access = block_selects.access; full = o.full; supplied = o.supplied }

  -- they are read
  pub block_reads : (buffer : List ℕ) → n ≤ length buffer
      → read l image (block_selected l image g i (at / block_size)) (block_data + at % block_size) n buffer
      ≡ outcome (reading 0 n) (take n (drop (start_of (find_class l i) + at) image) ++ drop n buffer)
  block_reads buffer room =
      rw (← b.place)
      (read_block l image g i (at / block_size) b.start b.len o.good o.access hc b.byte b.found (at % block_size) n buffer b.some b.end room)

  -- others are written
  module _ (bs : List ℕ) (bytes : Bytes bs) (m : length bs ≡ n) where
    abbrev to : List ℕ
    to = sets image (start_of (find_class l i) + at) bs

    pub block_writes : BlockWrites l image g i (at / block_size) (at % block_size) bs to
    block_writes =
        let some = b.some in
        let end = b.end in
        rw (← b.place)
        (write_block l image g i (at / block_size) b.start b.len o.good o.access o.supplied hc b.byte b.found (at % block_size) bs
        bytes (omega arith) (omega arith) (inl o.full))

    pub edited_open : Open l to (block_edited l image g i (at / block_size) (at % block_size) bs)
    edited_open = record { good = block_writes.good; access = block_writes.access; full = o.full; supplied = o.supplied }

-- ---- the bytes of a parameter

module _ (l : Layout) (image : List ℕ) (g : Gauge) (p : Parameter) (v : ℤ) (o : Open l image g) (r : Readable l (length image) p) (hc : p.class ≤ max_byte) where
  abbrev value : List ℕ
  value = to_bytes (width_of p.kind) v

  abbrev upper : ℕ
  upper = p.offset + lower_width p

  abbrev between : List ℕ
  between = between_commits l image p v

  -- the gauge after the first commit
  abbrev pub lower_gauge : Gauge
  lower_gauge = block_edited l image g p.class (p.offset / block_size) (p.offset % block_size) (lower_bytes p v)

  lower_bytes_lem : Bytes (lower_bytes p v)
  lower_bytes_lem = bytes_take (lower_width p) value (to_bytes_bytes (width_of p.kind) v)

  pub lower_writes : BlockWrites l image g p.class (p.offset / block_size) (p.offset % block_size) (lower_bytes p v) between
  lower_writes =
      block_writes l image g p.class p.offset (lower_width p) o (in_lower l (length image) p r) hc (lower_bytes p v) lower_bytes_lem (lower_length p v)

  -- where all bytes lie in the lower block, that is all
  between_all : crosses_block p ≡ false → between ≡ sets image (start_in l p) value
  between_all c =
      let n = to_bytes_length (width_of p.kind) v in
      ap (sets image (start_in l p)) (take_all (lower_width p) value (omega (arith, n, ltb-false (lower_width p) (width_of p.kind) c)))

  pub upper_writes : crosses_block p ≡ true
      → BlockWrites l between lower_gauge p.class (upper / block_size) (upper % block_size) (upper_bytes p v) (sets image (start_in l p) value)
  upper_writes c =
      let same : length between ≡ length image = length-sets image (start_in l p) (lower_bytes p v) in
      let stands : Open l between lower_gauge = edited_open l image g p.class p.offset (lower_width p) o (in_lower l (length image) p r) hc (lower_bytes p v) lower_bytes_lem (lower_length p v) in
      let place : InBlock l (length between) p.class upper (width_of p.kind - lower_width p) = rw same (in_upper l (length image) p r c) in
      let next : start_of (find_class l p.class) + upper ≡ start_in l p + length (lower_bytes p v) = omega (arith, lower_length p v) in
      let whole = rw (take-append-drop (lower_width p) value) at (sets_on image between (start_in l p) (start_of (find_class l p.class) + upper) (lower_bytes p v) (upper_bytes p v) refl next) in
      rw whole at
      (block_writes l between lower_gauge p.class upper (width_of p.kind - lower_width p) stands place hc (upper_bytes p v) (bytes_drop (lower_width p) value (to_bytes_bytes (width_of p.kind) v)) (upper_length p v))

-- ---- the claims

pub power_cut : PowerCut
unfolding images_after after_call outcome
power_cut l image g p v good full supplied hc e =
    let f = set_free l image p v e in
    let s = set_leaves l image p v f in
    let r = readable l (length image) p (settable l (length image) p v f).0 in
    let z = flash_selects l image g good full supplied in
    let o = stands_open l image g good full supplied in
    let a = lower_writes l image (flash_selected g) p v o r hc in
    on_test (crosses_block p)
    (λ c.
    let b = upper_writes l image (flash_selected g) p v o r hc c in
    rw (s, c, z.accepted, a.select, a.edit, a.commit, b.select, b.edit, b.commit))
    (λ c. rw (s, c, z.accepted, a.select, a.edit, a.commit, between_all l image (flash_selected g) p v o r hc c))

pub set_accepted : SetAccepted
unfolding all_accepted reply after_call outcome
set_accepted l image g p v good full supplied hc e =
    let r = readable l (length image) p (settable l (length image) p v (set_free l image p v e)).0 in
    let z = flash_selects l image g good full supplied in
    let o = stands_open l image g good full supplied in
    let a = lower_writes l image (flash_selected g) p v o r hc in
    on_test (crosses_block p)
    (λ c.
    let b = upper_writes l image (flash_selected g) p v o r hc c in
    rw (c, z.accepted, a.select, a.edit, a.commit, b.select, b.edit, b.commit))
    (λ c. rw (c, z.accepted, a.select, a.edit, a.commit))

-- the last of them, or the one before the first call
abbrev last_of : List ℕ → List (List ℕ) → List ℕ
last_of image [] = image
last_of image (x ∷ xs) = last_of x xs

images_last : (l : Layout) (d : Device) (cs : List Call) → (after_calls l d cs).image ≡ last_of d.image (images_after l d cs)
unfolding after_calls images_after
images_last l d [] = refl
images_last l d (c ∷ cs) = images_last l (after_call l d c) cs

pub set_by_gauge : SetByGauge
set_by_gauge l image g p v good full supplied hc e =
    images_last l _ _ ∙ ap (last_of image) (power_cut l image g p v good full supplied hc e)
    ∙ on_cond (λ (xs : List (List ℕ)). last_of image xs ≡ (set l image p v).lent) (crosses_block p) _ _ (λ _. refl) (λ _. refl)
