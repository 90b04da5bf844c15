-- The image is longer than the buffer.
use Rattle.imagereader.proofs.FileLaws.{read_short}
use Rattle.imagereader.proofs.read.Goals as goal

pub returns-then-buffer-n : goal.returns-then-buffer-n
returns-then-buffer-n c =
    let s = c.in_ok-found.ensures in
    read_short _ _ s.0 _ _ _ s.1 s.2 c.if-buffer-n.true
