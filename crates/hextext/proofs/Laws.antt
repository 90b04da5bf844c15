-- The claims of specs/Laws.antt, proved: what crates above cite. Each proof stands with the laws
-- that it rests on.
pub use Rattle.hextext.proofs.HexLaws.{hex_back, hex_length, unhex_bytes, line_length, line_unique}
