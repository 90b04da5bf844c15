-- The claims of specs/, proved: what crates above cite. Each proof stands with the laws that it
-- rests on.
pub use Rattle.causerules.proofs.AnswerLaws.{track_answers_apart}
pub use Rattle.causerules.proofs.HistoryLaws.{write_history, notes_remember}
pub use Rattle.causerules.proofs.ReasonLaws.{reason_holds, reason_told}
pub use Rattle.causerules.proofs.SinceLaws.{latest_since}
pub use Rattle.causerules.proofs.SupplyLaws.{supply_history, supply_remembered, supply_told}
pub use Rattle.causerules.proofs.ChecksumLaws.{checksum_matches}
