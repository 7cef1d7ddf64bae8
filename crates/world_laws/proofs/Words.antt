-- The words of the headline and the printed lines: what is attended, and what is exhibited.
use Rattle.world_laws.proofs.Basics.{[], ◌∷◌, refl, arith, true≢false, common_steps}
use Rattle.world_laws.proofs.WorldWords.{is_attended, first_unattended, collides, AttendedIsNoneUnattended, ExhibitsAreShown}
use Rattle.world_laws.proofs.Exhibited.{no-clash, no-forgery, nothing-exhibited}

pub attended_is_none_unattended : AttendedIsNoneUnattended
unfolding is_attended first_unattended
attended_is_none_unattended [] w c e = refl
attended_is_none_unattended (event ∷ events) w c e =
    grind (arith, common_steps, attended_is_none_unattended events w c e)

pub exhibits_are_shown : ExhibitsAreShown
unfolding collides
exhibits_are_shown dig tag events w c h5 nothing =
    grind (arith, common_steps, true≢false, no-clash, nothing-exhibited, no-forgery)
