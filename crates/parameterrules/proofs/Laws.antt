-- The claims of specs/, proved: what crates above cite. Each proof stands with the laws that it
-- rests on.
pub use Rattle.parameterrules.proofs.AnswerLaws.{value_answers_apart}
pub use Rattle.parameterrules.proofs.IntegerLaws.{to_bytes_length, to_bytes_bytes, to_from_bytes, from_to_bytes, from_bytes_fits, unsigned_bytes, twos_complement}
pub use Rattle.parameterrules.proofs.PlaceLaws.{upper_block}
pub use Rattle.parameterrules.proofs.ParameterLaws.{set_refused, set_replaces, set_then_get, get_then_set, set_elsewhere}
pub use Rattle.parameterrules.proofs.PowerCutLaws.{cut_replaces, get_after_cut, set_after_cut}
pub use Rattle.parameterrules.proofs.GaugeLaws.{set_accepted, power_cut, set_by_gauge}
