use Rattle.streamed_lines.proofs.BeginningLaws.{beginnings_wait}
use Rattle.streamed_lines.proofs.laws.beginnings_wait.Goals as goal

pub returns : goal.returns
returns g c = λ rules. beginnings_wait rules
