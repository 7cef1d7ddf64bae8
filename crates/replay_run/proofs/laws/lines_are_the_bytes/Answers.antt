use Rattle.replay_run.proofs.CutLaws.{lines-are_the_bytes, lines-are_one_cut}
use Rattle.replay_run.proofs.laws.lines_are_the_bytes.Goals as goal

pub returns-clause-bytes : goal.returns-clause-bytes
returns-clause-bytes c = lines-are_the_bytes

pub returns-clause-one_cut : goal.returns-clause-one_cut
returns-clause-one_cut c = lines-are_one_cut
