use Rattle.exit_game.proofs.Words.{refl, with_challenge}
use Rattle.exit_game.proofs.SlotLists.{distinct-changed, either-way}
use Rattle.exit_game.proofs.slots.Slots.challenge.Goals as goal

pub invariant_of-self : goal.invariant_of-self
invariant_of-self c =
    either-way _ _ _ c.challenge_slot.result c.challenge_slot.ensures.ok c.challenge_slot.ensures.err
    (distinct-changed c.args.block (with_challenge c.args.challenge) (λ x. refl) _ c.self.invariant) c.self.invariant
