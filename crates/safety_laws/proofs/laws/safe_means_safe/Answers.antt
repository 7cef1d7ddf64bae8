use Rattle.safety_laws.proofs.SafeWords.{safe_means_safe, leaving_means_safe, act_leaves_time, act_means_act}
use Rattle.safety_laws.proofs.laws.safe_means_safe.Goals as goal

pub returns-clause-safe : goal.returns-clause-safe
returns-clause-safe c = safe_means_safe

pub returns-clause-leaving : goal.returns-clause-leaving
returns-clause-leaving c = leaving_means_safe

pub returns-clause-act : goal.returns-clause-act
returns-clause-act c = act_leaves_time

pub returns-clause-acted : goal.returns-clause-acted
returns-clause-acted c = act_means_act
