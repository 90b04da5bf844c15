-- The whole output of the replay. Document 01, "The replay program": "It reads image.hex and
-- script.hex and prints one line an answer, powered on sealed."
use Rattle.std.specs.Prelude.{List, [], ◌∷◌, ℕ}
use Rattle.hextext.specs.Hex.{hex_line}
use Rattle.flashrules.specs.Error.{malformed}
use Rattle.imagerules.specs.File.{ParsedImage, image_file, no_image_file, parse_image}
use Rattle.gaugerules.specs.State.{boot_sealed, power_on}
use Rattle.gaugerules.specs.Script.{Device, device}
use Rattle.scriptrules.specs.Parser.{ParsedScript, script, no_script, parse_script}
use Rattle.scriptrules.specs.Reply.{replies}

-- "A file that breaks its rules prints the single line 0A."
abbrev pub refusal : List ℕ
refusal = hex_line (malformed ∷ [])

-- "powered on sealed"
abbrev pub powered_on : List ℕ → Device
powered_on bytes = device (power_on boot_sealed) bytes

abbrev pub output_of : ParsedImage → ParsedScript → List ℕ
output_of (image_file l bytes) (script fs) = replies l (powered_on bytes) fs
output_of (image_file l bytes) no_script = refusal
output_of no_image_file s = refusal

-- an image file's text and a script's text
unfoldable pub replay : List ℕ → List ℕ → List ℕ
replay x y = output_of (parse_image x) (parse_script y)
