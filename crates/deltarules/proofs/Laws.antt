-- The claims of specs/Laws.antt, proved: what crates above cite. Each proof stands with the laws
-- that it rests on.
pub use Rattle.deltarules.proofs.DeltaLaws.{runs_determined}
pub use Rattle.deltarules.proofs.PatchLaws.{patched_new, patched_old, runs_none}
pub use Rattle.deltarules.proofs.CountLaws.{run_bytes_lem}
pub use Rattle.deltarules.proofs.TextLaws.{text_determines, runs_text_most}
pub use Rattle.deltarules.proofs.WritableLaws.{runs_writable}
