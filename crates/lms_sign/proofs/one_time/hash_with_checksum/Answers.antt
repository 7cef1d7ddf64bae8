use Rattle.std.proofs.Common.{◌≡◌, ◌*◌, ◌/◌, ◌∙◌, ◌%◌, ◌^◌, length, arith, refl}
use Rattle.lms_sign.proofs.Lists.{length-u16str, put_first, put_on, all_of_front}
use Rattle.lms_sign.specs.OneTime.{checksum, shortfall, hash_with_checksum}
use Rattle.lms_sign.proofs.Sizes.{full-is, shortfall-more, shortfall-small, shift-checksum}
use Rattle.lms_sign.proofs.one_time.hash_with_checksum.Goals as goal

pub loop-i-init : goal.loop-i-init
unfolding shortfall
loop-i-init c = refl

pub overflow_add-short : goal.overflow_add-short
overflow_add-short c =
    let full = full-is _ c.width-w.ensures.either in
    let small = shortfall-small c.args.hash.now _ _ c.width-w.ensures.either c.loop-i-test.true in
    omega (arith, full, small, c.loop-i.invariant)

pub loop-i-preserved : goal.loop-i-preserved
loop-i-preserved c =
    let full = full-is _ c.width-w.ensures.either in
    rw (shortfall-more, full.0, c.from.ensures, c.coefficient.ensures.value, c.loop-i.invariant) refl

pub returns : goal.returns
unfolding hash_with_checksum
returns c =
    let hash = c.args.hash.now in
    let sum = c.loop-i.short * 2 ^ c.shift.result % 65536 in
    let two : length c.u16str.result ≡ 2 = rw c.u16str.ensures (length-u16str sum) in
    let first = put_first c.put.new.out hash 32 c.put.ensures c.told-hash in
    let second = put_on c.put.new.out c.put-2.new.out c.u16str.result hash 32 34 first c.put-2.ensures (omega arith) in
    let end : c.loop-i.i ≡ 256 / c.width-w.result = omega arith in
    let short : c.loop-i.short ≡ shortfall hash c.width-w.result (256 / c.width-w.result) = rw (← end)
    c.loop-i.invariant in
    let value : sum ≡ checksum c.args.types.now hash = shift-checksum c.args.types.now hash _ _ _
    c.width-w.ensures.value c.shift.ensures.value short in
    all_of_front c.put-2.new.out _ 34 (c.put-2.auto.out ∙ c.put.auto.out) second ∙ rw (c.u16str.ensures, value) refl
