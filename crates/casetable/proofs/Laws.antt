-- Every case of the table passes, the session comes out as document 01 prints it, and the causes of
-- the example are those that C-13 names: computed.
use mathlib.Core.Path.{refl}
use Rattle.hextext.specs.Scan.{index_of}
use Rattle.hextext.specs.Hex.{digit, value}
use Rattle.flashrules.specs.Outcome.{outcome}
use Rattle.flashrules.specs.Layout.{classes, valid as valid_layout, fits}
use Rattle.flashrules.specs.Lookup.{find_class, find_block, block_exists}
use Rattle.flashrules.specs.Image.{block_bytes, as_loaded, store_block}
use Rattle.imagerules.specs.Text.{line, block_lines, serialize_image}
use Rattle.imagerules.specs.Candidate.{width, add_line, candidate}
use Rattle.imagerules.specs.File.{holds, parse_image}
use Rattle.gaugerules.specs.Valid.{in_range, valid}
use Rattle.gaugerules.specs.Register.{register_of}
use Rattle.gaugerules.specs.Keys.{is_key}
use Rattle.gaugerules.specs.Word.{key_word, obey}
use Rattle.gaugerules.specs.Transfer.{set_class, load_block, select_block, is_protected, edit_error, edit, changes_keys, commit_error, committed, set_control}
use Rattle.gaugerules.specs.State.{loaded_of}
use Rattle.gaugerules.specs.Write.{commit, write_at, write_byte, write_bytes, bad_span, call_error, write}
use Rattle.gaugerules.specs.Read.{read_at, read_byte, read_bytes, read_error, read}
use Rattle.gaugerules.specs.Supply.{supply_error, set_supply}
use Rattle.gaugerules.specs.Script.{reply, after_call}
use Rattle.parameterrules.specs.Integer.{to_bytes, from_bytes, fits_in}
use Rattle.parameterrules.specs.Kind.{width_of, is_signed, holds as holds_integer}
use Rattle.parameterrules.specs.Parameter.{valid as valid_parameter, in_range as in_parameter_range, get_error, set_error, value_in, get, set}
use Rattle.parameterrules.specs.Commits.{set_lower}
use Rattle.scriptrules.specs.Parser.{is_digit, is_whole, with_digit, with_character, feed_byte, end_error, parse_script}
use Rattle.scriptrules.specs.Reply.{reply_text, after_frame}
use Rattle.scriptrules.specs.Replay.{replay}
use Rattle.causerules.specs.History.{byte_steps, write_steps, supply_steps}
use Rattle.causerules.specs.Cause.{reason_of, cause_text}
use Rattle.scriptrules.specs.Why.{explanation, why}
use Rattle.casetable.specs.Cases.{passes, every, CasesHold}
use Rattle.casetable.specs.Session.{SessionHolds}
use Rattle.casetable.specs.Why.{CausesHold}

computed : CasesHold × SessionHolds × CausesHold
unfolding passes every classes valid_layout fits find_class find_block block_exists block_bytes store_block as_loaded in_range valid register_of is_key key_word obey set_class load_block select_block is_protected edit_error edit changes_keys commit_error committed set_control outcome loaded_of commit write_at write_byte write_bytes bad_span call_error write read_at read_byte read_bytes read_error read supply_error set_supply reply after_call index_of digit value line block_lines serialize_image width add_line candidate holds parse_image is_digit is_whole with_digit with_character feed_byte end_error parse_script reply_text after_frame replay to_bytes from_bytes fits_in width_of is_signed holds_integer valid_parameter in_parameter_range get_error set_error value_in get set set_lower byte_steps write_steps supply_steps reason_of cause_text explanation why
computed = (refl, refl, refl)

pub cases_hold : CasesHold
cases_hold = computed.0

pub session_holds : SessionHolds
session_holds = computed.1

pub causes_hold : CausesHold
causes_hold = computed.2
