-- The invariant: what is left to write gives what the whole gives.
use Rattle.std.proofs.Common.{◌≡◌, ◌≤◌, length}
use Rattle.std.specs.Slice.Iter.{chunks_rest, chunks_size}
use Rattle.std.specs.Iterator.Adapters.{enumerate_source, enumerate_count}
use Rattle.flashrules.specs.Layout.{max_class_length}
use Rattle.flashrules.specs.Lookup.{block_size}
use Rattle.imagewriter.proofs.WriteLaws.{BlockAt}
use Rattle.imagewriter.proofs.text.put_class.Given as goal

abbrev pub invariant-loop-block : goal.invariant-loop-block
invariant-loop-block l =
    goal.iterator-loop-block.can_next l.block-iterator
    × goal.iterator-loop-block.is_finite l.block-iterator
    × (chunks_size (enumerate_source l.block-iterator) ≡ block_size)
    × (length l.bytes ≤ max_class_length)
    × BlockAt l.class l.at l.bytes l.initial.buffer (enumerate_count l.block-iterator) (chunks_rest (enumerate_source l.block-iterator)) l.out l.buffer
