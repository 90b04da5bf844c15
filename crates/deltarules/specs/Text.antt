-- The text of a list of runs. Document 02, C-11: "class, offset (two bytes, high first), old bytes,
-- new bytes, ascending, one hexadecimal line a run". The digits and line ends are those of the
-- other files.
use Rattle.std.specs.Prelude.{ℕ, ◌/◌, ◌%◌, List, [], ◌∷◌, ◌++◌}
use Rattle.hextext.specs.Hex.{hex_line}
use Rattle.deltarules.specs.Run.{Run}

-- all old bytes, then all new bytes
unfoldable pub run_line : Run → List ℕ
run_line r = hex_line (r.class ∷ r.offset / 256 ∷ r.offset % 256 ∷ (r.old ++ r.new))

abbrev pub serialize_runs : List Run → List ℕ
serialize_runs [] = []
serialize_runs (r ∷ rs) = run_line r ++ serialize_runs rs

-- no list of runs between two images has a longer text: a run of one byte costs 11 characters, the
-- next begins two bytes on at the soonest, and each of 32 classes may begin with one
abbrev pub max_runs_text : ℕ
max_runs_text = 22704
