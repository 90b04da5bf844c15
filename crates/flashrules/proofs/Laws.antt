-- The claims of specs/Laws.antt, proved: what crates above cite. Each proof stands with the laws
-- that it rests on.
pub use Rattle.flashrules.proofs.LayoutLaws.{same_test}
pub use Rattle.flashrules.proofs.LookupLaws.{block_inside, exists_found, blocks_apart, info_blocks_lem, key_block_lem, same_layout_lem}
pub use Rattle.flashrules.proofs.ImageLaws.{checksum_loaded, block_length, block_empty, loaded_length, store_length, store_here, store_outside, store_elsewhere, store_differing, store_most, store_edited}
pub use Rattle.flashrules.proofs.RefusalLaws.{no_error}
pub use Rattle.flashrules.proofs.DifferingLaws.{differing_none, differing_symmetric, differing_most, differing_append}
pub use Rattle.flashrules.proofs.ErrorLaws.{number_some, numbers_apart}
