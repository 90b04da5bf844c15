-- What proves the functions on a block: one that was found lies inside the image, and is no longer
-- than a window.
use Rattle.std.proofs.Common.{◌≡◌, ℕ, ◌≤◌, List, length, take, arith, refl, ap, length-take-le}
use Rattle.flashrules.specs.Lookup.{block_size, find_block}
use Rattle.flashrules.specs.Image.{block_bytes, block_place, part_of, place_of}
use Rattle.flashrules.specs.declared.layout.Layout.{Layout}
use Rattle.flashrules.specs.Answer.{Lookup}
use Rattle.flashrules.specs.declared.lookup.Place.{Place}
use Rattle.std.specs.Prelude.{Ok}
use Rattle.flashrules.proofs.LookupLaws.{found_end, found_most}
use Rattle.flashrules.proofs.ImageLaws.{part_is, block_most}

pub found_taken : (l : Layout) (n i b : ℕ) (w : List ℕ) (a : Lookup) (t : Place) → a ≡ find_block l n i b → a ≡ Ok t → length w ≡ block_size → length (take t.len w) ≡ t.len
found_taken l n i b w a t p q h = let m = found_most l n i b a t p q in length-take-le t.len w (omega arith)

pub block_taken : (l : Layout) (image : List ℕ) (i b : ℕ) (bs w : List ℕ) → bs ≡ block_bytes l image i b → length w ≡ block_size → length (take (length bs) w) ≡ length bs
block_taken l image i b bs w p h = length-take-le (length bs) w (omega (arith, ap length p, block_most l image i b))

pub found_window : (l : Layout) (n i b : ℕ) (w : List ℕ) (a : Lookup) (t : Place) → a ≡ find_block l n i b → a ≡ Ok t → length w ≡ block_size → t.len ≤ length w
found_window l n i b w a t p q h = let m = found_most l n i b a t p q in omega arith

pub block_window : (l : Layout) (image : List ℕ) (i b : ℕ) (bs w : List ℕ) → bs ≡ block_bytes l image i b → length w ≡ block_size → length bs ≤ length w
block_window l image i b bs w p h = omega (arith, ap length p, block_most l image i b)

pub bytes_are : (l : Layout) (image : List ℕ) (i b : ℕ) → block_bytes l image i b ≡ part_of image (find_block l (length image) i b)
unfolding block_bytes
bytes_are l image i b = refl

pub place_is : (p : ℕ × ℕ) (l : Layout) (image : List ℕ) (i b : ℕ) → block_place p l image i b ≡ place_of p (find_block l (length image) i b)
unfolding block_place
place_is p l image i b = refl

pub ruleset laws = (found_end, found_window, found_taken, part_is, bytes_are, place_is)
