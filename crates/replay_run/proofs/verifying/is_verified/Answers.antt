use Rattle.std.proofs.Common.{◌≡◌, ℕ, ◌==◌, ◌&&◌, true, false, List, length, refl, sym}
use Rattle.lms_sign.specs.Types.{is_supported}
use Rattle.lms_sign.specs.Valid.{is_valid, types_of}
use Rattle.replay_run.specs.Forms.{is_verified}
use Rattle.replay_run.proofs.verifying.is_verified.Goals as goal

-- no signature is valid under a key that doesn't read
unread : (key message signature : List ℕ) → is_supported (types_of key) ≡ false
    → is_verified key message signature ≡ false
unfolding is_verified is_valid
unread key message signature is =
    elim (length key == 56) as (λ b. (b && is_valid key message signature) ≡ false) [
      | true ↦ rw is refl
      | false ↦
          refl
    ]

pub returns-in-Err : goal.returns-in-Err
returns-in-Err c =
    sym (unread c.args.key.now c.args.message.now c.args.signature.now
    (rw c.copy_from_slice.ensures.after at c.in-Err.ensures))
