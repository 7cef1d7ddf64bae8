use Rattle.std.proofs.Common.{◌∙◌, sym}
use Rattle.trace_exhibits.specs.Lines.{event_of}
use Rattle.trace_exhibits.specs.declared.forgeries.Forgeries.{Forgeries}
use Rattle.trace_exhibits.proofs.Lined.{forgery-passed, forgery-here}
use Rattle.trace_exhibits.proofs.Found.{none-of}
use Rattle.trace_exhibits.proofs.TestedLaws.{tested-behind}
use Rattle.trace_exhibits.proofs.Forged.{open-events, open-finds, forged-stays, tested-still}
use Rattle.trace_exhibits.proofs.forgeries.Forgeries.take.Goals as goal

pub returns-then-is_some : goal.returns-then-is_some
returns-then-is_some c events before number still finds =
    forged-stays c.args.tag.now events (event_of c.args.line.now) before c.args.met.now c.args.self.now
    (sym c.is_some.ensures ∙ c.if-is_some.true) finds

pub returns-then-branch : goal.returns-then-branch
returns-then-branch c events before number still finds =
    let tag = c.args.tag.now in
    let event = event_of c.args.line.now in
    let none = none-of c.args.self.now.found (sym c.is_some.ensures ∙ c.if-is_some.false) in
    let kept = open-events tag events before c.args.self.now none finds in
    let told = c.in_ok-show_forgery.ensures events event c.requires kept.wallets
    (tested-still tag events before c.args.met.now c.args.self.now.tested still kept.tested) in
    forgery-here tag events event c.args.number number kept.none (sym c.if-branch.true ∙ told.0)

pub returns : goal.returns
returns c events before number still finds =
    let tag = c.args.tag.now in
    let event = event_of c.args.line.now in
    let met = c.args.met.now in
    let none = none-of c.args.self.now.found (sym c.is_some.ensures ∙ c.if-is_some.false) in
    let kept = open-events tag events before c.args.self.now none finds in
    let told = c.in_ok-show_forgery.ensures events event c.requires kept.wallets
    (tested-still tag events before met c.args.self.now.tested still kept.tested) in
    let new : Forgeries = record {
      alloc = c.args.self.now.alloc;
      known = c.add.new.self;
      tested = c.show_forgery.new.tested;
      found = c.args.self.now.found;
    } in
    open-finds tag _ met new none (record {
      none = forgery-passed tag events event kept.none (sym c.if-branch.false ∙ told.0);
      wallets = c.in_ok-add.ensures events kept.wallets;
      tested = tested-behind tag events met c.show_forgery.new.tested c.args.line.now (told.1 c.if-branch.false);
    })
