-- A small chain with a wallet and a cut is one.
use Rattle.std.proofs.Common.{◌≡◌, ◌≢◌, ℕ, ◌==◌, Bool, true, false, if◌then◌else◌, List, [], ◌∷◌, refl, sym, ap, ◌∙◌, subst}
use Rattle.node_replies.specs.Roles.{Wallet}
use Rattle.node_lives.specs.Disks.{Stays}
use Rattle.node_lives.specs.Cuts.{Cut, LifeStep, Ended, CutOff, IsLifeWithCuts}
use Rattle.node_lives.specs.Samples.{told, foretold, met, identity}
use Rattle.node_lives.proofs.Moments.{none-since}
use Rattle.world_rules.specs.Events.{Event, Declares, Joins, Watches}
use Rattle.world_rules.specs.Exhibits.{collides, is_forged}
use Rattle.world_rules.specs.Safety.{holds}
use Rattle.world_rules.specs.Laws.{IsDigest}
use Rattle.world_laws.specs.Looked.{is_looked_after}
use Rattle.chain_lives.specs.Steps.{Enters, Does}
use Rattle.chain_lives.specs.Chains.{KeepsTo, events_in}
use Rattle.chain_lives.specs.CutChains.{CutSteps, taken, steps_by, IsNodeWithCuts, IsChainWithCuts, events_with_cuts}
use Rattle.chain_lives.specs.SmallCutChain.{SmallChainWithCut}
use Rattle.chain_lives.proofs.SmallChain.{me, funds, deposits, begins, runs, rules, steps, all-events, keeps, is-identity, is-held, is-looked, is-apart, is-unforged}

module _ (dig : List ℕ → List ℕ) where
  -- power is lost as the run ends
  abbrev cut : Cut told foretold met dig
  cut = record {
    call = runs dig;
    notes = (runs dig).new.notes.history;
    leaves = (runs dig).new.leaves.history;
    notes_fail = none-since (runs dig).new.notes;
    leaves_fail = none-since (runs dig).new.leaves;
  }

  abbrev cut_steps : CutSteps told foretold met dig (rules dig)
  cut_steps = Enters deposits ∷ Enters funds ∷ Does 1 (CutOff cut) ∷ Does 1 (Ended (begins dig)) ∷ []

  taken-is : taken told foretold met dig (rules dig) cut_steps ≡ steps dig
  unfolding taken
  taken-is = refl

  own-node : IsNodeWithCuts told foretold met dig (rules dig) (CutOff cut ∷ Ended (begins dig) ∷ [])
  unfolding IsLifeWithCuts
  own-node = record {
    role = Wallet;
    later = CutOff cut ∷ [];
    first = begins dig;
    are = refl;
    begins = record { identity = identity; is = is-identity dig; asked = refl; made = refl };
    life = ((refl, refl), (Stays refl, Stays refl), ((refl, refl), tt, tt));
  }

  nodes : (n : ℕ) → steps_by told foretold met dig (rules dig) n cut_steps ≢ []
      → IsNodeWithCuts told foretold met dig (rules dig) (steps_by told foretold met dig (rules dig) n cut_steps)
  unfolding steps_by
  nodes n some = by (1 == n) some
    where
      own : Bool → List (LifeStep told foretold met dig)
      own b =
          if b then CutOff cut ∷ (if b then Ended (begins dig) ∷ [] else [])
          else (if b then Ended (begins dig) ∷ [] else [])

      by : (b : Bool) → own b ≢ [] → IsNodeWithCuts told foretold met dig (rules dig) (own b)
      by true some = own-node
      by false some = absurd (some refl)

  is-chain : IsDigest dig → IsChainWithCuts told foretold met dig (rules dig) cut_steps
  is-chain digest = record {
    digest = digest;
    nodes = nodes;
    keeps = subst (KeepsTo told foretold met dig (rules dig)) (sym taken-is) (keeps dig);
  }

  all : events_with_cuts told foretold met dig (rules dig) cut_steps
      ≡ Joins deposits ∷ Joins funds ∷ Watches 1 [] ∷ Declares 1 me ∷ []
  all = ap (events_in told foretold met dig (rules dig)) taken-is ∙ all-events dig

  pub small_chain_with_cut : IsDigest dig → SmallChainWithCut dig
  small_chain_with_cut digest = record {
    me = me;
    rules = rules dig;
    begun = begins dig;
    cut = cut;
    steps = cut_steps;
    steps_are = refl;
    chain = is-chain digest;
    events = all;
    held = ap (λ (events : List Event). holds events 1 1 1) all ∙ is-held dig;
    looked = ap (λ (events : List Event). is_looked_after events 1 1 1) all ∙ is-looked dig;
    apart = ap (λ (events : List Event). collides dig events 1) all ∙ is-apart dig;
    unforged = ap (λ (events : List Event). is_forged (rules dig).tag events 1 1) all ∙ is-unforged dig;
  }
