use Rattle.std.proofs.Common.{◌≡◌, ◌+◌, ◌*◌, ◌++◌, ◌∙◌, [], refl, sym, arith, length, slice_index_or, take}
use Rattle.lms_sign.specs.Types.{chains}
use Rattle.lms_sign.specs.OneTime.{concatenation, signed_string}
use Rattle.lms_sign.proofs.Lists.{concatenation-more, concatenation-none, length-chain_at, put_on}
use Rattle.lms_sign.proofs.signing.put_chains.Goals as goal

pub loop-i-init : goal.loop-i-init
loop-i-init c = sym (concatenation-none _ (take 40 c.args.out.now))

pub loop-i-preserved : goal.loop-i-preserved
unfolding signed_string
loop-i-preserved c =
    let i = c.loop-i.i in
    let string = slice_index_or c.signed_strings-strings.result c.from-i.result [] in
    let same = rw c.secret-secret.ensures.value at (c.signed_strings-strings.ensures i (omega arith)) in
    let value : string ≡ signed_string c.args.key.now c.args.q c.args.hash.now i = rw c.from-i.ensures same in
    let whole : length string ≡ 32 = rw value (length-chain_at c.args.key.now c.args.q i _) in
    let before : take (40 + 32 * c.from-i.result) c.loop-i.out ≡ take 40 c.args.out.now ++ concatenation
    (signed_string c.args.key.now c.args.q c.args.hash.now) i = rw c.from-i.ensures c.loop-i.invariant in
    put_on c.loop-i.out c.put.new.out string _ _ (40 + 32 * (i + 1)) before c.put.ensures
    (omega (arith, c.from-i.ensures)) ∙ rw (concatenation-more, value) refl

pub returns : goal.returns
returns c =
    let end : c.chains-i-end.result ≡ chains c.args.key.now.types = rw c.secret-secret.ensures.value at
    c.chains-i-end.ensures.value in
    let all : c.loop-i.i ≡ chains c.args.key.now.types = omega arith in
    rw all at c.loop-i.invariant
