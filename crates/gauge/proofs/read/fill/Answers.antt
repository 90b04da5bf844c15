-- One byte more is filled.
use Rattle.std.proofs.Common.{◌≡◌, ◌+◌, length, arith}
use Rattle.gaugerules.specs.Read.{read_byte}
use Rattle.gauge.proofs.ReadLaws.{fill_more}
use Rattle.gauge.proofs.read.fill.Goals as goal

pub loop-i-preserved : goal.loop-i-preserved
loop-i-preserved c =
    let byte : c.read_byte.result ≡ read_byte c.args.gauge.now (c.args.register + c.loop-i.i) = cc in
    fill_more c.args.gauge.now c.args.register c.loop-i.i (length c.args.buffer.now) c.loop-i.buffer _ c.loop-i.invariant (omega arith) (omega arith) c.read_byte.result byte
