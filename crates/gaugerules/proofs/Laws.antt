-- The claims of specs/, proved: what crates above cite. Each proof stands with the laws that it
-- rests on.
pub use Rattle.gaugerules.proofs.AnswerLaws.{byte_answers_apart, write_answers_apart, read_answers_apart, supply_answers_apart}
pub use Rattle.gaugerules.proofs.ByteLaws.{refused_byte, byte_changed, bytes_stand, only_commit}
pub use Rattle.gaugerules.proofs.ErrorLaws.{byte_error, byte_errors, info_loads}
pub use Rattle.gaugerules.proofs.ValidLaws.{power_on_valid, byte_good, write_good}
pub use Rattle.gaugerules.proofs.WindowLaws.{write_length}
pub use Rattle.gaugerules.proofs.CommitLaws.{commit_rule}
pub use Rattle.gaugerules.proofs.WholeWrite.{write_commits, write_by_bytes}
pub use Rattle.gaugerules.proofs.ChangedLaws.{write_changed, changed_none, changed_most}
pub use Rattle.gaugerules.proofs.ReadLaws.{read_refused, read_accepted}
pub use Rattle.gaugerules.proofs.SameLayouts.{same_valid, same_write, same_read, same_supply}
pub use Rattle.gaugerules.proofs.KeyLaws.{key_equal, unseals_by_key}
pub use Rattle.gaugerules.proofs.KeyProtectionLaws.{key_change, keys_kept}
pub use Rattle.gaugerules.proofs.WithoutKeyLaws.{keys_kept_without_key}
pub use Rattle.gaugerules.proofs.SupplyLaws.{restart_keeps_supply, write_keeps_supply, supply_set, supply_good, script_supply, supply_never_unseals}
pub use Rattle.gaugerules.proofs.SupplyLaws.{low_supply_keeps_image}
pub use Rattle.gaugerules.proofs.Noninterference.{sealed_noninterference, noninterference}
pub use Rattle.gaugerules.proofs.BlockAccessLaws.{select_flash, select_block_lem, read_block, write_block}
