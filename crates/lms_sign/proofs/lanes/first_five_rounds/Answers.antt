use Rattle.std.proofs.Common.{refl}
use Rattle.sha2.specs.Sha256.{initial_hash_256, rounds}
use Rattle.sha2.proofs.Schedule256.{IsWindow_first}
use Rattle.lms_sign.proofs.lanes.first_five_rounds.Goals as goal

pub returns : goal.returns
unfolding rounds
returns c = λ b words.
    let h = initial_hash_256 in
    let window = IsWindow_first b c.args.words.now words.0 words.1 in
    let s1 = c.first_step-v.ensures b h window refl in
    let s2 = c.first_step-v-2.ensures b h window s1 in
    let s3 = c.first_step-v-3.ensures b h window s2 in
    let s4 = c.first_step-v-4.ensures b h window s3 in
    c.first_step.ensures b h window s4
