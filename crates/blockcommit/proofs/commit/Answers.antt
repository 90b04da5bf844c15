-- An accepted commit, with a block loaded and without.
use Rattle.std.proofs.Common.{rules}
use Rattle.blockcommit.proofs.CommitLaws.{commits, commits_none}
use Rattle.blockcommit.proofs.commit.Goals as goal

pub returns-in_default : goal.returns-in_default
returns-in_default c =
    commits_none c.args.layout c.args.image.now c.args.gauge c.args.byte c.check_commit.result c.check_commit.ensures
    c.in_ok-check_commit.field-0 (search rules) c.loaded.result c.loaded.ensures (search rules)

pub returns : goal.returns
returns c =
    commits c.args.layout c.args.image.now c.args.gauge c.args.byte c.check_commit.result c.check_commit.ensures
    c.in_ok-check_commit.field-0 (search rules) c.loaded.result c.in-Some.field-0 c.store_changes-changed.result c.store_block.new.image
    c.loaded.ensures (search rules) c.store_changes-changed.ensures c.store_block.ensures.image_after
