-- The error numbers, in the order of document 01's table, "Numbers of the refusals", and behind it
-- those of document 02; 0 is none.
use Rattle.std.specs.Prelude.{ℕ, Option, None, Some, Result, Ok, Err}
use Rattle.flashrules.specs.declared.error.Error.{Error}

-- 1: "n is 0 or r + n above 128"; document 02, C-16, "1 for a supply above 4,500"
abbrev pub invalid_argument : ℕ
invalid_argument = 1

-- 2: "register takes no writes"
abbrev pub read_only : ℕ
read_only = 2

-- 3: "0x3E or 0x61 while sealed"
abbrev pub sealed_register : ℕ
sealed_register = 3

-- 4: "class not in layout"
abbrev pub unknown_class : ℕ
unknown_class = 4

-- 5: "block does not exist; 0x3F without general access: byte not 1 to 3"
abbrev pub unknown_block : ℕ
unknown_block = 5

-- 6: "0x40 to 0x60 with none loaded"
abbrev pub nothing_loaded : ℕ
nothing_loaded = 6

-- 7: "0x40 to 0x60, block A, sealed"
abbrev pub protected_block : ℕ
protected_block = 7

-- 8: "checksum differs"
abbrev pub wrong_checksum : ℕ
wrong_checksum = 8

-- 9: "0x61 byte not 0 or 1"
abbrev pub invalid_control : ℕ
invalid_control = 9

-- 10: "file or layout breaks its rules, or image length differs from it"; a script is a file
abbrev pub malformed : ℕ
malformed = 10

-- 11: "parameter row not sound"
abbrev pub invalid_parameter : ℕ
invalid_parameter = 11

-- 12: "parameter leaves its class"; 02, C-17: "now only for a row that leaves its class"
abbrev pub misplaced_parameter : ℕ
misplaced_parameter = 12

-- 13: "value to be set is outside its row's range"
abbrev pub out_of_range : ℕ
out_of_range = 13

-- 14: "lent room shorter than the answer"
abbrev pub short_buffer : ℕ
short_buffer = 14

-- 15: "record not sound"
abbrev pub invalid_gauge : ℕ
invalid_gauge = 15

-- 16: document 02, C-14, "Only full access may change keys."
abbrev pub protected_keys : ℕ
protected_keys = 16

-- 17: document 02, C-16, "17 for a commit on low supply"
abbrev pub low_supply : ℕ
low_supply = 17

-- 18: document 02, C-11, "layouts differ"
abbrev pub layout_mismatch : ℕ
layout_mismatch = 18

-- ---- the refusals as the values of one type

-- each has its number
abbrev pub number : Error → ℕ
number Error.InvalidArgument = invalid_argument
number Error.ReadOnly = read_only
number Error.SealedRegister = sealed_register
number Error.UnknownClass = unknown_class
number Error.UnknownBlock = unknown_block
number Error.NothingLoaded = nothing_loaded
number Error.ProtectedBlock = protected_block
number Error.WrongChecksum = wrong_checksum
number Error.InvalidControl = invalid_control
number Error.Malformed = malformed
number Error.InvalidParameter = invalid_parameter
number Error.MisplacedParameter = misplaced_parameter
number Error.OutOfRange = out_of_range
number Error.ShortBuffer = short_buffer
number Error.InvalidGauge = invalid_gauge
number Error.ProtectedKeys = protected_keys
number Error.LowSupply = low_supply
number Error.LayoutMismatch = layout_mismatch

-- 0 where nothing was refused (01: "0 if none")
abbrev pub number_or_none : Option Error → ℕ
number_or_none None = 0
number_or_none (Some e) = number e

module _ {A : Type 0} where
  -- the number of an answer
  abbrev pub number_of : Result A Error → ℕ
  number_of (Ok x) = 0
  number_of (Err e) = number e
