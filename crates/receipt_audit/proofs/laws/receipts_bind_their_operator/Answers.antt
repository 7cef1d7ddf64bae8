use Rattle.receipt_audit.proofs.Given.{issues_give_receipts, given_receipts_are_taken, kept_receipts_do_not_convict}
use Rattle.receipt_audit.proofs.laws.receipts_bind_their_operator.Goals as goal

pub returns : goal.returns
returns c = record {
  given = issues_give_receipts;
  taken = given_receipts_are_taken;
  kept = kept_receipts_do_not_convict;
}
