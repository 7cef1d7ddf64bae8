use Rattle.std.proofs.Common.{◌≡◌, [], Some, rules}
use Rattle.plasma_tx.specs.Chain.{with_log}
use Rattle.root_log.specs.Grammar.{IsLogChain, chain_in, chain_text}
use Rattle.root_log.proofs.GrammarLaws.{chain_in-chain_text}
use Rattle.root_log.proofs.text.print_chain.Goals as goal

pub returns-clause-read_back : goal.returns-clause-read_back
returns-clause-read_back c =
    let is : IsLogChain c.args.log.now =
    rw (← c.tag-tag.ensures, ← c.operator.ensures, ← c.most_blocks.ensures) (search rules) in
    let back : chain_in (chain_text c.args.log.now) ≡ Some (with_log c.args.log.now []) =
    chain_in-chain_text c.args.log.now is in
    search rules
