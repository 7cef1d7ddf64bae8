use Rattle.log_runs.proofs.GrammarLaws.{archive_line_in-text, archive_line_text-in}
use Rattle.log_runs.proofs.laws.an_archive_line_has_one_spelling.Goals as goal

pub returns-clause-read_back : goal.returns-clause-read_back
returns-clause-read_back c = archive_line_in-text

pub returns-clause-one : goal.returns-clause-one
returns-clause-one c = archive_line_text-in
