-- Which texts are scripts: parsed character by character, by a state that goes in and comes back,
-- so that a script of any length can be parsed in chunks. specs/Laws.antt says which texts these
-- are, in terms of specs/Frame.antt alone (`IsScript`).
use Rattle.std.specs.Prelude.{ℕ, ◌+◌, ◌*◌, ◌%◌, Bool, true, false, cond, List, [], ◌∷◌, eqb, leb, ltb, length, Result, Ok, Err}
use Rattle.hextext.specs.Hex.{value, line_feed}
use Rattle.flashrules.specs.Error.{malformed}
use Rattle.flashrules.specs.Choice.{and}
use Rattle.scriptrules.specs.Frame.{Frame, read_kind, write_kind, supply_kind, max_frame, lines_of, frames_of}
use Rattle.scriptrules.specs.declared.parser.Line.{Line}

-- `good`: no rule is broken yet. Of the line that is not ended yet: how many digits it has, and its
-- kind, the byte of the first two
pub record Parser : Type 0 where
  pub good : Bool
  pub count : ℕ
  pub kind : ℕ

abbrev pub state : Bool → ℕ → ℕ → Parser
state good count kind = record { good = good; count = count; kind = kind }

abbrev pub start : Parser
start = state true 0 0

abbrev pub broken : Parser
broken = state false 0 0

-- a parser as the code holds it: an Err where a rule is broken
abbrev pub parser : Result Line Line → Parser
parser (Ok s) = state true s.count s.kind
parser (Err s) = state false s.count s.kind

-- 01: "Two upper-case digits a byte": 0 to 9, A to F
unfoldable pub is_digit : ℕ → Bool
is_digit c = cond (ltb c 65) (and (leb 48 c ∷ leb c 57 ∷ [])) (leb c 70)

-- whether a frame of this kind may have so many digits; no more than 257 bytes are let through
-- before
unfoldable pub is_whole : ℕ → ℕ → Bool
is_whole kind count =
    cond (eqb kind read_kind) (eqb count 6)
    (cond (eqb kind supply_kind) (eqb count 6) (and (eqb kind write_kind ∷ leb 4 count ∷ eqb (count % 2) 0 ∷ [])))

-- the kind, with another of its two digits
abbrev pub kind_with : ℕ → ℕ → ℕ
kind_with kind c = (kind % 16) * 16 + value c

-- a digit more in the line
unfoldable pub with_digit : ℕ → ℕ → ℕ → Parser
with_digit count kind c =
    cond (ltb count (2 * max_frame)) (state true (count + 1) (cond (ltb count 2) (kind_with kind c) kind)) broken

unfoldable pub with_character : ℕ → ℕ → ℕ → Parser
with_character count kind c =
    cond (eqb c line_feed) (cond (is_whole kind count) start broken)
    (cond (is_digit c) (with_digit count kind c) broken)

-- a character more; what is broken stays broken
unfoldable pub feed_byte : Parser → ℕ → Parser
feed_byte s c = cond s.good (with_character s.count s.kind c) broken

abbrev pub feed : Parser → List ℕ → Parser
feed s [] = s
feed s (c ∷ cs) = feed (feed_byte s c) cs

-- 10: "file .. breaks its rules"; a line that is not ended breaks them too
unfoldable pub end_error : Parser → ℕ
end_error s = cond (and (s.good ∷ eqb s.count 0 ∷ [])) 0 malformed

-- ---- a whole script

pub data ParsedScript : Type 0 where
  script : List Frame → ParsedScript
  no_script : ParsedScript

-- 01: "Nothing else is accepted."
unfoldable pub parse_script : List ℕ → ParsedScript
parse_script x = cond (eqb (end_error (feed start x)) 0) (script (frames_of (lines_of x))) no_script

-- ---- one line, without its line feed

-- a line feed in it would begin the count anew, so every character counts
unfoldable pub is_frame : List ℕ → Bool
is_frame line =
    let s = feed start line in
    and (s.good ∷ eqb s.count (length line) ∷ is_whole s.kind s.count ∷ [])
