use Rattle.std.proofs.Common.{◌≡◌, Some, subst, rules}
use Rattle.schedule_text.specs.Grammar.{IsLine}
use Rattle.root_log.specs.Grammar.{call_in, call_text}
use Rattle.root_log.proofs.GrammarLaws.{call_in-call_text}
use Rattle.root_log.proofs.text.print_call.Goals as goal

pub returns-clause-read_back : goal.returns-clause-read_back
returns-clause-read_back c =
    let back : call_in (call_text c.args.call.now) ≡ Some c.args.call.now =
    call_in-call_text c.args.call.now (subst IsLine c.in_ok-line.ensures.is c.in_ok-line.ensures.grammar) in
    search rules
