use Rattle.merkle_pages.proofs.Words.{sym, name_at, place_at}
use Rattle.merkle_pages.proofs.PageLaws.{puts_none}
use Rattle.merkle_pages.proofs.pages.keep_node.Goals as goal

pub returns-then-eq : goal.returns-then-eq
returns-then-eq c =
    puts_none c.args.pages.now (name_at c.args.level c.args.coin) (place_at c.args.level c.args.coin)
    c.args.digest.now c.args.default.now c.requires.clear (sym c.if-eq.ensures)
