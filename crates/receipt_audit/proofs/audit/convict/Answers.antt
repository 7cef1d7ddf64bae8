use Rattle.std.proofs.Common.{◌<◌, arith}
use Rattle.std.proofs.lemmas.List.Elements.{All-from_get_or}
use Rattle.receipt_audit.proofs.Audits.{broken-from}
use Rattle.receipt_audit.proofs.audit.convict.Goals as goal

pub returns-clause-broken : goal.returns-clause-broken
returns-clause-broken g c =
    broken-from (g.H.Hash32.digest_of c.args.h.now) c.args.log.now c.args.key.now c.args.receipt.now c.args.bundle.now
    c.audited.result c.audited.ensures.value (λ bytes. g.met.H.Hash32.length_is c.args.h.now bytes)
    (All-from_get_or (λ byte. byte < 256) c.args.receipt.now 0 (λ i lt. omega (arith, c.type_inv.receipt i)))
    (All-from_get_or (λ byte. byte < 256) c.args.bundle.now 0 (λ i lt. omega (arith, c.type_inv.bundle i)))
