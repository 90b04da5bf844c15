-- What a caller takes from a loaded image file: the image goes with its layout and is within the
-- buffer, or the file is refused as malformed.
use Prim.Native.Nat.{ℕ, ◌≤◌}
use mathlib.Core.Path.{◌≡◌, refl, sym}
use mathlib.Core.Bool.{true}
use mathlib.Core.List.{List, []}
use native.Mathlib.Omega.{arith}
use lib.ListN.{length, take}
use lib.Seq.{length-take-le}
use Rattle.std.specs.Prelude.{Ok, Err}
use Rattle.hextext.specs.Scan.{index_of}
use Rattle.flashrules.specs.Layout.{max_image_length, valid, fits}
use Rattle.flashrules.specs.Outcome.{outcome}
use Rattle.flashrules.specs.declared.error.Error.{Error}
use Rattle.flashrules.proofs.ErrorLaws.{number_some, numbers_apart}
use Rattle.imagerules.specs.Answer.{read_answer}
use Rattle.imagerules.specs.Candidate.{width, candidate}
use Rattle.imagerules.specs.File.{holds, parse_image, read}
use Rattle.imagerules.specs.declared.answer.FileRead.{FileRead}
use Rattle.imagerules.proofs.CallLaws.{read_fits, read_within, read_malformed}
use Rattle.hostio.specs.Loaded.{Loaded}

-- ---- a file that is not read

empty : (r : List ℕ) → outcome (read_answer (Err Error.Malformed)) r ≡ read [] r
unfolding read parse_image holds candidate width fits valid index_of
empty r = refl

pub unread : (r : List ℕ) → Loaded (Err Error.Malformed) r r
unread r = record { text = []; read = empty r }

-- ---- a loaded file

module _ (before after : List ℕ) where
  pub loaded_malformed : (e : Error) → Loaded (Err e) before after → max_image_length ≤ length before → e ≡ Error.Malformed
  loaded_malformed e f h =
      numbers_apart e Error.Malformed (read_malformed f.text before after (read_answer (Err e)) f.read h (λ z. omega (arith, number_some e)))

  module _ (r : FileRead) (f : Loaded (Ok r) before after) where
    pub loaded_fits : fits r.layout r.length ≡ true
    loaded_fits = read_fits f.text before after (read_answer (Ok r)) f.read refl

    pub loaded_within : r.length ≤ length before
    loaded_within = read_within f.text before after (read_answer (Ok r)) f.read

    -- the image at the front of a buffer that is as long as the one that was lent
    module _ (b : List ℕ) (k : length b ≡ length before) where
      pub front_length : r.length ≡ length (take r.length b)
      front_length = sym (length-take-le r.length b (omega (arith, loaded_within)))

      pub image_fits : fits r.layout (length (take r.length b)) ≡ true
      image_fits = rw (← front_length) loaded_fits
