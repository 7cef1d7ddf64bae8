use Rattle.world_rules.proofs.CutLaws.{cuts_keep_as_appends_do, cut_openings_leave_the_records}
use Rattle.world_rules.proofs.laws.cuts_keep_as_appends_do.Goals as goal

pub returns : goal.returns
returns c = record {
  command = cuts_keep_as_appends_do;
  opening = cut_openings_leave_the_records;
}
