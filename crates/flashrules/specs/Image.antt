-- A block as a part of the image: its bytes, its place, what stands in a window when it is loaded,
-- and the image after a store. Document 01, "Layout and image", last point, "Checksum", and
-- "Transactions", "A commit copies ..".
use Rattle.std.specs.Prelude.{ℕ, ◌+◌, ◌-◌, ◌≤◌, Bool, true, List, [], ◌∷◌, ◌++◌, leb, length, get_or, take, drop, replicate}
use Rattle.std.proofs.Math.Seq.{paste}
use Rattle.flashrules.specs.Choice.{and}
use Rattle.flashrules.specs.Answer.{Lookup, if_found}
use Rattle.flashrules.specs.Lookup.{block_size, find_block}
use Rattle.flashrules.specs.declared.layout.Layout.{Layout}

abbrev pub max_byte : ℕ
max_byte = 255

-- what the type of a slice of bytes says of its elements
abbrev pub Bytes : List ℕ → Type 0
Bytes bs = (k : ℕ) → get_or bs k 0 ≤ max_byte

-- the test for it
abbrev pub are_bytes : List ℕ → Bool
are_bytes [] = true
are_bytes (b ∷ bs) = and (leb b max_byte ∷ are_bytes bs ∷ [])

-- the bytes of a part
abbrev pub part_of : List ℕ → Lookup → List ℕ
part_of image a = if_found a (λ s k. take k (drop s image)) (λ e. [])

-- where a part points, of an image that points at p (a block of memory and an offset): at its first
-- byte, and the empty one where the image does
abbrev pub place_of : ℕ × ℕ → Lookup → ℕ × ℕ
place_of p a = if_found a (λ s k. (p.0, s + p.1)) (λ e. p)

-- 01: "Asked for a block, the twin hands back those very bytes of the lent image .. A refused block
-- request gives an empty part."
unfoldable pub block_bytes : Layout → List ℕ → ℕ → ℕ → List ℕ
block_bytes l image i b = part_of image (find_block l (length image) i b)

unfoldable pub block_place : ℕ × ℕ → Layout → List ℕ → ℕ → ℕ → ℕ × ℕ
block_place p l image i b = place_of p (find_block l (length image) i b)

-- 01: "bytes past a short block counted as zero when it is loaded"
unfoldable pub as_loaded : List ℕ → List ℕ
as_loaded bs = bs ++ replicate (block_size - length bs) 0

-- 01: "A commit copies the window's bytes into the loaded block, as many as that block has". A
-- refused store leaves the image as it was
unfoldable pub store_block : Layout → List ℕ → ℕ → ℕ → List ℕ → List ℕ
store_block l image i b w = if_found (find_block l (length image) i b) (λ s k. paste image s w k) (λ e. image)
