-- A chain with cuts is a chain of the calls as which they are taken, and a chain whose calls all ended is one with
-- cuts.
use Rattle.std.proofs.Common.{◌≡◌, ℕ, List, [], ◌∷◌, ◌++◌, Option, refl, sym, ap, ◌∙◌, subst, arith}
use Rattle.std.specs.Prelude.{map}
use Rattle.std.proofs.lemmas.List.{map-append}
use Rattle.std.proofs.lemmas.Grind.{common_steps}
use Rattle.crash_disk.specs.Disk.{History, FaultPlan}
use Rattle.plasma_tx.specs.Shown.{Rules}
use Rattle.node_lives.specs.Disks.{Pair}
use Rattle.node_lives.specs.Calls.{Call}
use Rattle.node_lives.specs.Lives.{IsLife, LieBehind}
use Rattle.node_lives.specs.Cuts.{LifeStep, Ended, call_in, calls_in, LieBehindSteps, IsLifeWithCuts}
use Rattle.node_lives.proofs.Cuts.{cuts_are_faults}
use Rattle.chain_lives.specs.Steps.{Enters, Refuses, Does}
use Rattle.chain_lives.specs.Chains.{Steps, calls_by, IsNode, KeepsTo}
use Rattle.chain_lives.specs.CutChains.{CutSteps, taken, ended, steps_by, IsNodeWithCuts, ChainsWithCutsAreChains, ChainsAreChainsWithCuts, LivesWithCutsKeepTheirCoins}
use Rattle.chain_lives.proofs.Keeping.{lives_keep_their_coins}

module _ {D : Type 0} (told : D → Option History) (plan : D → Option FaultPlan) (faults : D → ℕ)
    (dig : List ℕ → List ℕ) (rules : Rules) where
  -- the calls by a node are those as which its steps are taken
  calls-taken : (n : ℕ) (steps : CutSteps told plan faults dig rules)
      → calls_by told plan faults dig rules n (taken told plan faults dig rules steps)
      ≡ calls_in told plan faults dig (steps_by told plan faults dig rules n steps)
  unfolding calls_by taken steps_by
  calls-taken n [] = refl
  calls-taken n (Enters call ∷ steps) = calls-taken n steps
  calls-taken n (Refuses call ∷ steps) = calls-taken n steps
  calls-taken n (Does m step ∷ steps) = grind (arith, common_steps, calls-taken n steps) steps 20000

  node-taken : (steps : List (LifeStep told plan faults dig)) → IsNodeWithCuts told plan faults dig rules steps
      → IsNode told plan faults dig rules (calls_in told plan faults dig steps)
  node-taken steps node =
      let are : calls_in told plan faults dig steps ≡ calls_in told plan faults dig node.later ++ node.first ∷ [] =
      ap (calls_in told plan faults dig) node.are
      ∙ map-append (call_in told plan faults dig) node.later (Ended node.first ∷ []) in
      record {
        role = node.role;
        later = calls_in told plan faults dig node.later;
        first = node.first;
        are = are;
        begins = node.begins;
        life = subst (IsLife told plan faults dig) (sym are)
            ((cuts_are_faults told plan faults dig).lives node.later [] (Ended node.first)
            (subst (IsLifeWithCuts told plan faults dig) node.are node.life));
      }

  pub chains_with_cuts_are_chains : ChainsWithCutsAreChains told plan faults dig rules
  chains_with_cuts_are_chains steps chain = record {
    digest = chain.digest;
    nodes = λ n some.
        let all = calls-taken n steps in
        subst (IsNode told plan faults dig rules) (sym all)
        (node-taken (steps_by told plan faults dig rules n steps)
        (chain.nodes n (λ none. some (all ∙ ap (calls_in told plan faults dig) none))));
    keeps = chain.keeps;
  }

  pub lives_with_cuts_keep_their_coins : LivesWithCutsKeepTheirCoins told plan faults dig rules
  lives_with_cuts_keep_their_coins steps later events event w c e chain =
      lives_keep_their_coins told plan faults dig rules (taken told plan faults dig rules steps) later events event w c
      e (chains_with_cuts_are_chains steps chain)

  -- ---- a chain whose calls all ended

  taken-ended : (steps : Steps told plan faults dig rules)
      → taken told plan faults dig rules (ended told plan faults dig rules steps) ≡ steps
  unfolding taken ended
  taken-ended [] = refl
  taken-ended (Enters call ∷ steps) = ap (λ more. Enters call ∷ more) (taken-ended steps)
  taken-ended (Refuses call ∷ steps) = ap (λ more. Refuses call ∷ more) (taken-ended steps)
  taken-ended (Does n call ∷ steps) = ap (λ more. Does n call ∷ more) (taken-ended steps)

  steps-ended : (n : ℕ) (steps : Steps told plan faults dig rules)
      → steps_by told plan faults dig rules n (ended told plan faults dig rules steps)
      ≡ map Ended (calls_by told plan faults dig rules n steps)
  unfolding calls_by steps_by ended
  steps-ended n [] = refl
  steps-ended n (Enters call ∷ steps) = steps-ended n steps
  steps-ended n (Refuses call ∷ steps) = steps-ended n steps
  steps-ended n (Does m call ∷ steps) = grind (arith, common_steps, steps-ended n steps) steps 20000

  lie-ended : (calls : List (Call told plan faults dig)) (pair : Pair D) → LieBehind told plan faults dig calls pair
      → LieBehindSteps told plan faults dig (map Ended calls) pair
  lie-ended [] pair lie = tt
  lie-ended (call ∷ calls) pair lie = lie

  life-ended : (calls : List (Call told plan faults dig)) → IsLife told plan faults dig calls
      → IsLifeWithCuts told plan faults dig (map Ended calls)
  unfolding IsLife IsLifeWithCuts
  life-ended [] life = tt
  life-ended (call ∷ calls) (tells, lie, life) = (tells, lie-ended calls call.old lie, life-ended calls life)

  node-ended : (calls : List (Call told plan faults dig)) → IsNode told plan faults dig rules calls
      → IsNodeWithCuts told plan faults dig rules (map Ended calls)
  node-ended calls node = record {
    role = node.role;
    later = map Ended node.later;
    first = node.first;
    are = ap (map Ended) node.are ∙ map-append Ended node.later (node.first ∷ []);
    begins = node.begins;
    life = life-ended calls node.life;
  }

  pub chains_are_chains_with_cuts : ChainsAreChainsWithCuts told plan faults dig rules
  chains_are_chains_with_cuts steps chain = record {
    is = record {
      digest = chain.digest;
      nodes = λ n some.
          let all = steps-ended n steps in
          subst (IsNodeWithCuts told plan faults dig rules) (sym all)
          (node-ended (calls_by told plan faults dig rules n steps)
          (chain.nodes n (λ none. some (all ∙ ap (map Ended) none))));
      keeps = subst (KeepsTo told plan faults dig rules) (sym (taken-ended steps)) chain.keeps;
    };
    same = taken-ended steps;
  }
