-- The claims of specs/, proved: what crates above cite. Each proof stands with the laws that it
-- rests on.
pub use Rattle.scriptrules.proofs.ApartLaws.{parsers_apart, line_answers_apart, run_answers_apart}
pub use Rattle.scriptrules.proofs.ParserLaws.{feed_chunks}
pub use Rattle.scriptrules.proofs.ScriptLaws.{accepted_line, accepted_script}
pub use Rattle.scriptrules.proofs.LineLaws.{count_chunks, count_tells}
pub use Rattle.scriptrules.proofs.ReplyLaws.{nothing_printed}
pub use Rattle.scriptrules.proofs.SessionLaws.{report_taken, output_length, output_whole}
pub use Rattle.scriptrules.proofs.AnswerLaws.{one_by_one_lem}
pub use Rattle.scriptrules.proofs.RunLaws.{run_frames}
pub use Rattle.scriptrules.proofs.HostLaws.{host_prints}
pub use Rattle.scriptrules.proofs.NoninterferenceLaws.{frame_noninterference, output_noninterference}
pub use Rattle.scriptrules.proofs.KeyLaws.{frames_keep_keys}
pub use Rattle.scriptrules.proofs.WhyLaws.{explained_each, explained_count, explained_supply, cause_true, caused_by_line}
