-- What is known of the script before it is run; of the image it is `Loaded` of crate `hostio`. No
-- contract can say which characters a file has; but what runs a script asks for a parser's state
-- that ended well after so many characters: a state that forgot some of them is none of so many.
use Rattle.std.specs.Prelude.{◌≡◌, ℕ, ◌+◌, ◌%◌, ◌^◌, Bool, true, false, List, length}
use Rattle.scriptrules.specs.Frame.{lines_of}
use Rattle.scriptrules.specs.Parser.{Parser, start, feed, end_error}
use Rattle.scriptrules.specs.Session.{too_long, count_on}

-- some text leads from one state of the parser to another, from one number of characters, modulo
-- 2^64, to another, and from one number of lines to another
pub record Fed (report : ℕ) (s : Parser) (n k : ℕ) (s' : Parser) (n' k' : ℕ) : Type 0 where
  pub text : List ℕ
  pub state : s' ≡ feed s text
  pub count : n' ≡ (n + length text) % 2 ^ 64
  pub lines : k' ≡ count_on report k (length (lines_of text))

-- a script that was found good, with the parser's state at its end
pub record ScriptChecked (report : ℕ) (good : Bool) (s : Parser) (n k : ℕ) : Type 0 where
  pub fed : good ≡ true → Fed report start 0 0 s n k
  pub ended : good ≡ true → end_error s ≡ 0
  pub few : good ≡ true → too_long report k ≡ false
