use Rattle.std.proofs.Common.{ap}
use Rattle.sha2.specs.Sha256.{add_state, compress, initial_hash_256}
use Rattle.sha2.proofs.Schedule256.{IsWindow_first}
use Rattle.lms_sign.proofs.lanes.first_hash.Goals as goal

pub returns : goal.returns
unfolding compress
returns c = λ b words begun.
    let h = initial_hash_256 in
    let window = IsWindow_first b c.args.words words.0 words.1 in
    let s1 = c.first_step-v.ensures b h window begun in
    let s2 = c.first_step-v-2.ensures b h window s1 in
    let s3 = c.first_step-v-3.ensures b h window s2 in
    let s4 = c.first_four_steps-v.ensures b h window s3 in
    let s5 = c.first_four_steps-v-2.ensures b h window s4 in
    let t1 = c.sixteen_steps-v.ensures b h (window, s5) in
    let t2 = c.sixteen_steps-v-2.ensures b h t1 in
    let t3 = c.sixteen_steps-v-3.ensures b h t2 in
    ap (add_state initial_hash_256) t3.1
