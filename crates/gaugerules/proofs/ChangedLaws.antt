-- How many bytes of the image a write changes. Its commit changes the image and no other byte does,
-- so what the commit answers is what the whole write changed.
use Prim.Native.Nat.{ℕ, ◌+◌, ◌≤◌}
use mathlib.Core.Path.{◌≡◌, refl, ap, ◌∙◌}
use mathlib.Core.List.{List, [], ◌∷◌}
use native.Mathlib.Omega.{arith}
use lib.Dec.{eqb}
use lib.ListN.{length}
use borrow.Author.Tests.{eqb-true, eqb-false}
use Rattle.flashrules.specs.Outcome.{Outcome, outcome}
use Rattle.flashrules.specs.Choice.{differing}
use Rattle.flashrules.specs.Lookup.{block_size}
use Rattle.flashrules.specs.declared.layout.Layout.{Layout}
use Rattle.flashrules.proofs.Laws.{store_most}
use Rattle.flashrules.proofs.DifferingLaws.{differing_self}
use Rattle.flashrules.proofs.Picks.{on_test}
use Rattle.gaugerules.specs.Register.{block_data_checksum, register_of}
use Rattle.gaugerules.specs.Transfer.{committed, commit_error}
use Rattle.gaugerules.specs.Write.{write_at, write_byte, write_bytes, call_error, write}
use Rattle.gaugerules.specs.Laws.{WriteChanged, ChangedNone, ChangedMost}
use Rattle.gaugerules.specs.declared.state.Gauge.{Gauge}
use Rattle.gaugerules.specs.Answer.{ByteAnswer}
use Rattle.gaugerules.specs.Answer.{WriteAnswer}
use Rattle.gaugerules.proofs.LoadedLaws.{committable}
use Rattle.gaugerules.proofs.ByteCases.{on_commit}
use Rattle.gaugerules.proofs.ByteLaws.{only_commit, byte_changed, unchanged}
use Rattle.gaugerules.proofs.RunLaws.{goes_on, stops, called}
use Rattle.gaugerules.proofs.ValidLaws.{valid_parts}
use Rattle.gaugerules.proofs.WindowLaws.{Whole, byte_whole}
use Rattle.gaugerules.proofs.WholeWrite.{run_above, write_unreached}

-- ---- one byte

-- no more bytes of the image than a block has
abbrev Few : List ℕ → List ℕ → Type 0
Few image to = differing image to ≤ block_size

few_none : (image : List ℕ) → Few image image
few_none image = omega (arith, differing_self image)

module _ (l : Layout) (image : List ℕ) (g : Gauge) (byte : ℕ) (h : Whole g) where
  commit_few : commit_error l image g byte ≡ 0 → Few image (committed l image g)
  unfolding committed
  commit_few e = let c = committable l image g byte e in rw c.loaded (store_most l image c.class c.block g.window h)

  byte_few : (r : ℕ) → Few image (write_byte l image g r byte).lent
  unfolding write_byte write_at register_of outcome
  byte_few r =
      on_test (eqb r block_data_checksum)
      (λ at.
      rw (eqb-true r block_data_checksum at)
      (on_commit (λ (s : Outcome ByteAnswer (List ℕ)). Few image s.lent) l image g byte commit_few (few_none image)))
      (λ at. rw (only_commit l image g r byte (eqb-false r block_data_checksum at)) (few_none image))

-- and so it answers
pub byte_most : (l : Layout) (image : List ℕ) (g : Gauge) (r byte : ℕ) → length g.window ≡ block_size
    → (write_byte l image g r byte).answer.changed ≤ block_size
byte_most l image g r byte h = omega (arith, byte_changed l image g r byte, byte_few l image g byte h r)

-- ---- the bytes of a write

-- what is claimed of a run before which c bytes were changed
record Counts (image : List ℕ) (c : ℕ) (w : Outcome WriteAnswer (List ℕ)) : Type 0 where
  changed : w.answer.changed ≡ c + differing image w.lent
  few : Few image w.lent

module _ (l : Layout) (bs image : List ℕ) (g : Gauge) (r n c b : ℕ) (h : Whole g) where
  abbrev s : Outcome ByteAnswer (List ℕ)
  s = write_byte l image g r b

  abbrev rest : Outcome WriteAnswer (List ℕ)
  rest = write_bytes l s.lent s.answer.gauge (r + 1) (n + 1) (c + s.answer.changed) bs

  -- the byte at 0x60: the bytes after it leave the image
  counts_here : r ≡ block_data_checksum → Counts s.lent (c + s.answer.changed) rest → Counts image c rest
  counts_here at k =
      let above = run_above l bs s.lent s.answer.gauge (r + 1) (n + 1) (c + s.answer.changed) (omega arith) in
      let none : differing s.lent rest.lent ≡ 0 = ap (differing s.lent) above ∙ differing_self s.lent in
      record {
        changed = rw above (omega (arith, k.changed, none, byte_changed l image g r b));
        few = rw above (byte_few l image g b h r);
      }

  -- any other one leaves it
  counts_on : (r ≡ block_data_checksum → ⊥) → Counts s.lent (c + s.answer.changed) rest → Counts image c rest
  counts_on other k =
      let kept = only_commit l image g r b other in
      let none = unchanged l image g r b kept in
      let same : differing s.lent rest.lent ≡ differing image rest.lent = ap (λ (f : List ℕ). differing f rest.lent) kept in
      record { changed = omega (arith, k.changed, none, same); few = omega (arith, k.few, same) }

run_counts : (l : Layout) (bs image : List ℕ) (g : Gauge) (r n c : ℕ) → Whole g → Counts image c (write_bytes l image g r n c bs)
unfolding write_bytes write_byte outcome
run_counts l [] image g r n c h = record { changed = omega (arith, differing_self image); few = few_none image }
run_counts l (b ∷ bs) image g r n c h =
    let s = write_byte l image g r b in
    on_test (eqb s.answer.error 0)
    (λ p.
    let k = run_counts l bs s.lent s.answer.gauge (r + 1) (n + 1) (c + s.answer.changed) (byte_whole l image g b h (register_of r)).0 in
    rw (goes_on l image g r n c b bs s.answer s.lent refl p)
    (on_test (eqb r block_data_checksum) (λ at. counts_here l bs image g r n c b h (eqb-true r block_data_checksum at) k)
    (λ at. counts_on l bs image g r n c b h (eqb-false r block_data_checksum at) k)))
    (λ p.
    rw (stops l image g r n c b bs s.answer s.lent refl p)
    (record { changed = omega (arith, byte_changed l image g r b); few = byte_few l image g b h r }))

-- ---- a write

write_counts : (l : Layout) (image : List ℕ) (g : Gauge) (r : ℕ) (bytes : List ℕ) → Counts image 0 (write l image g r bytes)
unfolding write outcome
write_counts l image g r bytes =
    on_test (eqb (call_error l (length image) g r (length bytes)) 0)
    (λ p.
    let v = valid_parts l g (called l (length image) g r (length bytes) (eqb-true _ _ p)).sound in
    rw p (run_counts l bytes image g r 0 0 v.range.window))
    (λ p. rw p (record { changed = omega (arith, differing_self image); few = few_none image }))

pub write_changed : WriteChanged
write_changed l image g r bytes = omega (arith, (write_counts l image g r bytes).changed)

pub changed_most : ChangedMost
changed_most l image g r bytes = let k = write_counts l image g r bytes in omega (arith, k.changed, k.few)

pub changed_none : ChangedNone
changed_none l image g r bytes n =
    write_changed l image g r bytes ∙ ap (differing image) (write_unreached l image g r bytes n) ∙ differing_self image
