-- Finding a class and a block. Document 01, "Layout and image", second and last point; refusals 10,
-- 4, 5 in that order.
use Rattle.std.specs.Prelude.{ℕ, ◌+◌, ◌-◌, ◌*◌, min, Bool, false, cond, ltb, Ok, Err}
use Rattle.flashrules.specs.Answer.{Lookup, found, refused, if_found}
use Rattle.flashrules.specs.Layout.{classes, locate, valid, fits}
use Rattle.flashrules.specs.declared.error.Error.{Error}
use Rattle.flashrules.specs.declared.layout.Layout.{Layout}

abbrev pub block_size : ℕ
block_size = 32

-- 01: "Finding a class either gives its start and length or ends at once with refusal 4, 10 for the
-- layout coming first."
unfoldable pub find_class : Layout → ℕ → Lookup
find_class l i = cond (valid l) (locate 0 (classes l) i) (refused Error.Malformed)

-- 01: "Block b of a class holds bytes 32b to 32b+31, or to the end of the class if that comes
-- first. It exists when 32b is less than the length."
abbrev pub block_in : ℕ → ℕ → ℕ → Lookup
block_in s n b =
    let o = block_size * b in
    cond (ltb o n) (found (s + o) (min block_size (n - o))) (refused Error.UnknownBlock)

-- block b of the class that a search found
abbrev pub block_of : Lookup → ℕ → Lookup
block_of (Ok p) b = block_in p.start p.len b
block_of (Err e) b = refused e

-- 01: "A refused block request (10, 4, 5 in that order)". The image has n bytes
unfoldable pub find_block : Layout → ℕ → ℕ → ℕ → Lookup
find_block l n i b = cond (fits l n) (block_of (locate 0 (classes l) i) b) (refused Error.Malformed)

-- 01: "It exists when 32b is less than the length." No class of an invalid layout has a block
unfoldable pub block_exists : Layout → ℕ → ℕ → Bool
block_exists l i b = if_found (find_class l i) (λ s n. ltb (block_size * b) n) (λ e. false)
