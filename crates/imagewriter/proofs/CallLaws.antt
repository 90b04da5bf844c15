-- Laws of `write`: what it answers.
use Rattle.std.proofs.Common.{ℕ, ◌≡◌, ◌<◌, ◌≤◌, true, false, List, length, lt-ltb, le-ltb}
use Rattle.std.proofs.lemmas.List.Edits.{sets}
use Rattle.flashrules.specs.Error.{malformed, short_buffer}
use Rattle.flashrules.specs.Outcome.{outcome}
use Rattle.flashrules.specs.Layout.{classes, valid, fits}
use Rattle.flashrules.specs.declared.layout.Layout.{Layout}
use Rattle.flashrules.proofs.LayoutLaws.{fits_parts}
use Rattle.imagerules.specs.Text.{serialize_image, text_length}
use Rattle.imagerules.specs.File.{not_written, write}
use Rattle.imagerules.proofs.Laws.{text_length_lem}

module _ (l : Layout) (image : List ℕ) where
  pub fits_valid : fits l (length image) ≡ true → valid l ≡ true
  fits_valid e = (fits_parts l (length image) e).0

  pub write_bad : (r : List ℕ) → fits l (length image) ≡ false → outcome (not_written malformed) r ≡ write l image r
  unfolding write
  write_bad r e = rw e

  pub write_short : (r : List ℕ) → fits l (length image) ≡ true → length r < text_length (classes l)
      → outcome (not_written short_buffer) r ≡ write l image r
  unfolding write
  write_short r e h = rw (e, text_length_lem l image e, lt-ltb (length r) (text_length (classes l)) h)

  pub write_good : (r : List ℕ) → fits l (length image) ≡ true → text_length (classes l) ≤ length r
      → outcome (record { error = 0; length = text_length (classes l) }) (sets r 0 (serialize_image l image)) ≡ write l image r
  unfolding write
  write_good r e h = rw (e, text_length_lem l image e, le-ltb (length r) (text_length (classes l)) h)

-- what proves `write`
pub ruleset calls = (fits_valid, write_bad, write_short, write_good)
