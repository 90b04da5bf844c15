-- What was found is loaded.
use Rattle.std.proofs.Common.{rules}
use Rattle.blocktransfer.proofs.TransferLaws.{block_loads}
use Rattle.blocktransfer.proofs.load_block.Goals as goal

pub returns : goal.returns
returns c =
    block_loads c.args.layout c.args.image.now c.args.class c.args.block c.args.gauge c.args.byte c.find_block.result c.in_ok-start.field-0 c.find_block.ensures
    (search rules) c.window_of-window.result c.load.result c.window_of-window.ensures c.load.ensures c.accept.result c.accept.ensures
