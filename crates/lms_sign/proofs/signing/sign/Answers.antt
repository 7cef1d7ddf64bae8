use Rattle.std.proofs.Common.{◌≡◌, ◌+◌, ◌*◌, ◌∙◌, refl, arith, length}
use Rattle.sha2.proofs.Facts256.{length-sha256}
use Rattle.lms_sign.specs.Types.{chains}
use Rattle.lms_sign.specs.Tree.{signature_of}
use Rattle.lms_sign.proofs.Lists.{length-u32str, put_first, put_on}
use Rattle.lms_sign.proofs.Laws.{signatures_are_valid}
use Rattle.lms_sign.proofs.signing.sign.Goals as goal

pub returns-clause-value : goal.returns-clause-value
unfolding signature_of
returns-clause-value c =
    let key = c.args.key.now in
    let four : length c.u32str.result ≡ 4 = rw c.u32str.ensures (length-u32str c.args.q) in
    let also_four : length c.u32str-2.result ≡ 4 = rw c.u32str-2.ensures
    (length-u32str c.secret-secret.result.now.types.ots) in
    let last_four : length c.u32str-3.result ≡ 4 = rw c.u32str-3.ensures
    (length-u32str c.secret-secret.result.now.types.lms) in
    let thirty_two : length c.randomizer-randomizer.result ≡ 32 = rw c.randomizer-randomizer.ensures
    (length-sha256 _) in
    let place : c.from.result ≡ chains key.types = c.from.ensures
    ∙ (rw c.secret-secret.ensures.value at c.chains.ensures.value) in
    let first = put_first c.put.new.out _ 4 c.put.ensures four in
    let second = put_on _ c.put-2.new.out _ _ 4 8 first c.put-2.ensures (omega arith) in
    let third = put_on _ c.put-3.new.out _ _ 8 40 second c.put-3.ensures (omega arith) in
    let fourth = rw third at c.put_chains.ensures in
    let fifth = put_on _ c.put-4.new.out _ _ (40 + 32 * chains key.types) (40 + 32 * chains key.types + 4) fourth
    (rw place at c.put-4.ensures) (omega arith) in
    c.put_path.ensures ∙ rw (
      place,
      fifth,
      c.u32str.ensures,
      c.u32str-2.ensures,
      c.u32str-3.ensures,
      c.message_hash-hash.ensures,
      c.randomizer-randomizer.ensures,
      c.secret-secret.ensures.value,
    ) refl

pub returns-clause-valid : goal.returns-clause-valid
returns-clause-valid c =
    rw (returns-clause-value c) (signatures_are_valid c.args.key.now c.args.q c.args.message.now
    c.secret-secret.ensures.supported c.secret-secret.ensures.id_length c.requires.leaf)
