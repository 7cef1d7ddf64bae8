use Rattle.std.proofs.Common.{refl}
use Rattle.trace_exhibits.proofs.KeptWallets.{keeps-declared, keeps-bound, keeps-line}
use Rattle.trace_exhibits.proofs.wallets.Known.add.Goals as goal

pub returns-in_ok-insert-in-Declares : goal.returns-in_ok-insert-in-Declares
returns-in_ok-insert-in-Declares c = λ events keeps.
    rw c.in-Declares.is (keeps-declared events c.args.self.now _ keeps c.in-Declares.wallet c.in-Declares.owner.now
    c.in_ok-insert-in-Declares.ensures.items refl)

pub returns-in_ok-bind-in-Binds : goal.returns-in_ok-bind-in-Binds
returns-in_ok-bind-in-Binds c = λ events keeps.
    rw c.in-Binds.is (keeps-bound events c.args.self.now _ keeps c.in-Binds.wallet c.in-Binds.body.now refl
    c.in_ok-bind-in-Binds.ensures)

pub returns-in_default : goal.returns-in_default
returns-in_default c = λ events keeps.
    keeps-line events c.args.self.now c.args.self.now keeps c.args.line.now c.in_default.not-Declares
    c.in_default.not-Binds
