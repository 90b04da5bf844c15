-- The claims of specs/Laws.antt, proved: what crates above cite. Each proof stands with the laws
-- that it rests on.
pub use Rattle.checksum.proofs.ChecksumLaws.{short_way, long_way_modulo, short_way_modulo}
