use Rattle.std.proofs.Common.{sym, ◌∙◌, arith}
use Rattle.std.proofs.lemmas.List.{take_all}
use Rattle.receipt_audit.proofs.promise.Promise.write.Goals as goal

pub returns-clause-value : goal.returns-clause-value
returns-clause-value c = sym (take_all 100 c.put_promise.new.bytes (omega arith)) ∙ c.put_promise.ensures
