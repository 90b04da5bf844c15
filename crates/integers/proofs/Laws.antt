-- The claims of specs/Laws.antt, proved: what crates above cite. Each proof stands with the laws
-- that it rests on.
pub use Rattle.integers.proofs.KindLaws.{kind_numbered, kind_found, kind_missing}
