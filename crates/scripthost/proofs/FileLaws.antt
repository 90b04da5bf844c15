-- The image that was loaded goes with its layout.
use Rattle.hostio.proofs.LoadedLaws.{loaded_within, front_length, image_fits}

-- what proves `try_files`
pub ruleset files = (loaded_within, front_length, image_fits)
