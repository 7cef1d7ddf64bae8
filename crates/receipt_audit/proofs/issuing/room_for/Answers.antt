use Rattle.std.proofs.Common.{arith}
use Rattle.receipt_audit.proofs.Rooms.{signature-short}
use Rattle.receipt_audit.proofs.issuing.room_for.Goals as goal

pub overflow_add-length : goal.overflow_add-length
overflow_add-length c = omega (arith, c.signature_len-length.ensures, signature-short c.args.key.now.types)
