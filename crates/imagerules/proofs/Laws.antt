-- The claims of specs/, proved: what crates above cite. Each proof stands with the laws that it
-- rests on.
pub use Rattle.imagerules.proofs.AnswerLaws.{file_reads_apart, file_writes_apart}
pub use Rattle.imagerules.proofs.TextLaws.{text_length_lem}
pub use Rattle.imagerules.proofs.BlockLaws.{block_line}
pub use Rattle.imagerules.proofs.RoundTrip.{written_read, accepted_text, check_accepts, one_only, accepted_length}
pub use Rattle.imagerules.proofs.CallLaws.{write_then_read, read_then_write, same_text}
