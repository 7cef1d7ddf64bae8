use Rattle.hss_keys.proofs.Words.{◌≡◌, false, refl, sym, is_supported, is_valid, types_of}
use Rattle.hss_keys.proofs.verify.is_valid.Goals as goal

pub returns-in-Err : goal.returns-in-Err
unfolding is_valid
returns-in-Err c =
    let key : is_supported (types_of c.args.key.now) ≡ false = rw (c.copy_from_slice.ensures.after) at c.in-Err.ensures
    in sym (rw key refl)
