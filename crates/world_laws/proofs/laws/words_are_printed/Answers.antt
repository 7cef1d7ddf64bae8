use Rattle.world_laws.proofs.Words.{attended_is_none_unattended, exhibits_are_shown}
use Rattle.world_laws.proofs.Promises.{harms_are_takings}
use Rattle.world_laws.proofs.laws.words_are_printed.Goals as goal

pub returns : goal.returns
returns c = record {
  attended = attended_is_none_unattended;
  exhibits = exhibits_are_shown;
  harms = harms_are_takings;
}
