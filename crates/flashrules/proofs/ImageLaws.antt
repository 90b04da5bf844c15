-- Laws of the blocks of an image: their bytes as loaded, and what a store leaves, in the block and
-- elsewhere.
use Prim.Native.Nat.{ℕ, ◌+◌, ◌-◌, ◌≤◌, ◌<◌}
use mathlib.Core.Path.{◌≡◌, sym, ap, ◌∙◌}
use mathlib.Core.List.{List, [], ◌++◌}
use native.Mathlib.Nat.{add-sub_cancel_left}
use native.Mathlib.Omega.{arith}
use lib.Dec.{ltb}
use lib.ListN.{length, take, drop, get_or, replicate, length-append, length-replicate}
use lib.Seq.{paste, sets, length-paste, length-take-le, take_at}
use borrow.Author.Tests.{ltb-true, ltb-false}
use Rattle.checksum.proofs.ChecksumLaws.{total_append, total_zeros}
use Rattle.flashrules.specs.Choice.{differing}
use Rattle.flashrules.specs.Error.{number}
use Rattle.flashrules.specs.Answer.{found, refused, length_of}
use Rattle.flashrules.specs.Lookup.{block_size, find_block}
use Rattle.flashrules.specs.Image.{block_bytes, as_loaded, store_block}
use Rattle.flashrules.specs.Laws.{ChecksumLoaded, BlockLength, BlockEmpty, LoadedLength, StoreLength, StoreHere, Within, StoreOutside, StoreElsewhere, StoreDiffering, StoreMost, StoreEdited}
use Rattle.flashrules.specs.declared.layout.Layout.{Layout}
use Rattle.flashrules.specs.declared.error.Error.{Error}
use Rattle.flashrules.proofs.Picks.{on_test, on_answer}
use Rattle.flashrules.proofs.DifferingLaws.{differing_self, differing_most, differing_paste}
use Rattle.flashrules.proofs.PartLaws.{part_length, part_paste, paste_below, paste_above, part_apart, paste_sets, paste_self}
use Rattle.flashrules.proofs.LookupLaws.{block_inside, blocks_apart}
use Rattle.flashrules.proofs.ErrorLaws.{number_some}

-- the part that `&image[s..s + k]` is
pub part_is : (f : List ℕ) (s k : ℕ) → take (s + k - s) (drop s f) ≡ take k (drop s f)
part_is f s k = ap (λ (n : ℕ). take n (drop s f)) (add-sub_cancel_left s k)

-- ---- the claims. Each goes by the answer of the lookup

pub block_length : BlockLength
unfolding block_bytes
block_length l image i b =
    on_answer (find_block l (length image) i b) (λ s k p. rw p (part_length image s k (block_inside l (length image) i b s k p).end)) (λ e p. rw p)

pub block_most : (l : Layout) (image : List ℕ) (i b : ℕ) → length (block_bytes l image i b) ≤ block_size
unfolding block_bytes
block_most l image i b =
    on_answer (find_block l (length image) i b)
    (λ s k p. let h = block_inside l (length image) i b s k p in rw p (omega (arith, h.most, part_length image s k h.end)))
    (λ e p. rw p (omega arith))

refused_empty : (l : Layout) (image : List ℕ) (i b : ℕ) (k : Error) → find_block l (length image) i b ≡ refused k → block_bytes l image i b ≡ []
unfolding block_bytes
refused_empty l image i b k q = rw q

pub block_empty : BlockEmpty
block_empty l image i b = (
  (λ p e.
      let n : length_of (find_block l (length image) i b) ≡ 0 = sym (block_length l image i b) ∙ rw p in
      on_answer (find_block l (length image) i b)
      (λ s k q. let z : k ≡ 0 = rw q at n in omega (arith, (block_inside l (length image) i b s k q).some))
      (λ k q. let z : number k ≡ 0 = rw q at e in omega (arith, number_some k))),
  (λ h. on_answer (find_block l (length image) i b) (λ s k q. absurd (h (rw q))) (refused_empty l image i b)),
)

pub loaded_length : LoadedLength
unfolding as_loaded
loaded_length l image i b =
    let n = block_length l image i b in
    on_answer (find_block l (length image) i b)
    (λ s k p.
    let m = (block_inside l (length image) i b s k p).most in
    let q : length (block_bytes l image i b) ≡ k = rw p at n in
    simp (length-append, length-replicate) (omega arith))
    (λ e p.
    let q : length (block_bytes l image i b) ≡ 0 = rw p at n in
    simp (length-append, length-replicate) (omega arith))

pub checksum_loaded : ChecksumLoaded
unfolding as_loaded
checksum_loaded bs = simp (total_append, total_zeros) (omega arith)

-- a store into block b of class i, of a lookup that found it, and of one that was refused
module _ (l : Layout) (image : List ℕ) (i b : ℕ) (w : List ℕ) (lw : length w ≡ block_size) where
  stored : (s k : ℕ) → find_block l (length image) i b ≡ found s k → store_block l image i b w ≡ paste image s w k
  unfolding store_block
  stored s k p = rw p

  not_stored : (e : Error) → find_block l (length image) i b ≡ refused e → store_block l image i b w ≡ image
  unfolding store_block
  not_stored e p = rw p

  module _ (s k : ℕ) (p : find_block l (length image) i b ≡ found s k) where
    end : s + k ≤ length image
    end = (block_inside l (length image) i b s k p).end

    most : k ≤ length w
    most = omega (arith, (block_inside l (length image) i b s k p).most)

  stored_length : length (store_block l image i b w) ≡ length image
  stored_length =
      on_answer (find_block l (length image) i b) (λ s k p. rw (stored s k p) (length-paste image s w k (end s k p) (most s k p)))
      (λ e p. rw (not_stored e p))

  stored_here : block_bytes l (store_block l image i b w) i b ≡ take (length_of (find_block l (length image) i b)) w
  unfolding block_bytes
  stored_here =
      on_answer (find_block l (length image) i b)
      (λ s k p. rw (stored_length, p, stored s k p) (part_paste image w s k (end s k p) (most s k p)))
      (λ e p. rw (stored_length, p))

  stored_outside : (j : ℕ) → (Within (find_block l (length image) i b) j → ⊥) → get_or (store_block l image i b w) j 0 ≡ get_or image j 0
  stored_outside j h =
      on_answer (find_block l (length image) i b)
      (λ s k p.
      let g : (s ≤ j) × (j < s + k) → ⊥ = rw p at h in
      rw (stored s k p)
      (on_test (ltb j s) (λ t. paste_below image w s k (end s k p) (most s k p) j (ltb-true j s t))
      (λ t.
      on_test (ltb j (s + k)) (λ u. absurd (g (ltb-false j s t, ltb-true j (s + k) u)))
      (λ u. paste_above image w s k (end s k p) (most s k p) j (ltb-false j (s + k) u)))))
      (λ e p. rw (not_stored e p))

  stored_elsewhere : (i' b' : ℕ) → ((i ≡ i') × (b ≡ b') → ⊥) → block_bytes l (store_block l image i b w) i' b' ≡ block_bytes l image i' b'
  unfolding block_bytes
  stored_elsewhere i' b' d =
      rw stored_length
      (on_answer (find_block l (length image) i b)
      (λ s k p.
      on_answer (find_block l (length image) i' b')
      (λ s' k' p'.
      rw (p', stored s k p)
      (part_apart image w s k (end s k p) (most s k p) s' k' (block_inside l (length image) i' b' s' k' p').end
      (blocks_apart l (length image) i b s k i' b' s' k' p p' d)))
      (λ e p'. rw p'))
      (λ e p. rw (not_stored e p)))

  -- the image is the block's own bytes pasted where they stand
  found_differing : (s k : ℕ) → find_block l (length image) i b ≡ found s k
      → differing image (paste image s w k) ≡ differing (take k (drop s image)) (take k w)
  found_differing s k p =
      let bs = take k (drop s image) in
      let n : length bs ≡ k = part_length image s k (end s k p) in
      let self : paste image s (bs ++ []) k ≡ image = paste_self image s k (end s k p) [] in
      let long : k ≤ length (bs ++ []) = omega (arith, length-append bs []) in
      ap (λ (f : List ℕ). differing f (paste image s w k)) (sym self) ∙ differing_paste image (bs ++ []) w s k long (most s k p)
      ∙ ap (λ (x : List ℕ). differing x (take k w)) (take_at bs [] k n)

  stored_differing : let bs = block_bytes l image i b in differing image (store_block l image i b w) ≡ differing bs (take (length bs) w)
  unfolding block_bytes
  stored_differing =
      on_answer (find_block l (length image) i b)
      (λ s k p. rw (stored s k p, p, part_length image s k (end s k p)) (found_differing s k p))
      (λ e p. rw (not_stored e p, p) (differing_self image))

  stored_most : differing image (store_block l image i b w) ≤ block_size
  stored_most =
      let bs = block_bytes l image i b in
      let few : length bs ≤ block_size = block_most l image i b in
      let n : length (take (length bs) w) ≡ length bs = length-take-le (length bs) w (omega arith) in
      omega (arith, stored_differing, differing_most bs (take (length bs) w) (sym n))

pub store_length : StoreLength
store_length = stored_length

pub store_here : StoreHere
store_here = stored_here

pub store_outside : StoreOutside
store_outside = stored_outside

pub store_elsewhere : StoreElsewhere
store_elsewhere = stored_elsewhere

pub store_differing : StoreDiffering
store_differing = stored_differing

pub store_most : StoreMost
store_most = stored_most

pub store_edited : StoreEdited
unfolding store_block block_bytes as_loaded
store_edited l image i b s k p o bs h =
    let full = loaded_length l image i b in
    let inside = block_inside l (length image) i b s k p in
    let zs : List ℕ = replicate (block_size - length (take k (drop s image))) 0 in
    let long : k ≤ length (take k (drop s image) ++ zs) = omega (arith, inside.most, rw p at full) in
    rw p
    (paste_sets image s k inside.end (take k (drop s image) ++ zs) bs o long (omega arith)
    ∙ ap (λ (d : List ℕ). sets d (s + o) bs) (paste_self image s k inside.end zs))
