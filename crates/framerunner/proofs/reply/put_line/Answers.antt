-- Behind the end of the buffer nothing is put.
use Rattle.hextext.proofs.StoreLaws.{sets_out}
use Rattle.framerunner.proofs.reply.put_line.Goals as goal

pub returns-else-at-buffer : goal.returns-else-at-buffer
returns-else-at-buffer c = search sets_out
