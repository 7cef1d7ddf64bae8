use Rattle.std.proofs.Common.{subst, List, ℕ, refl}
use Rattle.coin_verdicts.specs.declared.fact.Fact.{Fact}
use Rattle.coin_verdicts.specs.Quiet.{is_quiet_at}
use Rattle.coin_verdicts.specs.Books.{AreMet}
use Rattle.coin_verdicts.proofs.KeptReadings.{keeps-next, met-books}
use Rattle.coin_verdicts.proofs.reading.Reading.tick.Goals as goal

pub returns : goal.returns
returns c count facts is keeps =
    keeps-next count c.args.line facts c.args.self.now _ is keeps
    (Fact.Ticks c.args.met.now) refl refl c.clear.ensures refl
    (λ coin. met-books count c.args.line coin facts c.args.self.now.wallets.items (is_quiet_at c.args.self.now.nodes)
    c.args.met.now c.args.self.now.books c.meet_all.new.self keeps.wallets_are (keeps.nodes_are coin)
    (keeps.books_are coin)
    (subst (λ (wallets : List ℕ). AreMet c.args.line wallets (is_quiet_at c.args.self.now.nodes) c.args.met.now
    c.args.self.now.books c.meet_all.new.self) c.as_slice-wallets.ensures.value
    (subst (λ (met : List ℕ). AreMet c.args.line c.as_slice-wallets.result.now (is_quiet_at c.args.self.now.nodes) met
    c.args.self.now.books c.meet_all.new.self) c.as_slice.ensures c.in_ok-meet_all.ensures)))
