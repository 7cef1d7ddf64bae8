use Rattle.log_runs.proofs.BeginLaws.{begins}
use Rattle.log_runs.proofs.archive.ArchivistFollower.begin.Goals as goal

pub returns : goal.returns
returns g c =
    begins c.args.self.now.h c.make.result c.args.log
    (rw (c.tag.ensures, c.operator.ensures, c.most_blocks.ensures) at c.make.ensures)
