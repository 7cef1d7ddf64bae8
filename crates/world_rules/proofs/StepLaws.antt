-- What each step does to the log.
use Rattle.world_rules.proofs.Basics.{◌⊎◌, ℕ, List, [], inl, inr, refl, subst, arith, common_steps}
use Rattle.world_rules.proofs.CoinWords.{RootCall, log_after}
use Rattle.world_rules.proofs.WorldWords.{log_of, World, LineEffect, called, NewWallet, NewWatcher, NewRogue, Act, Rests, Signs, Adds, Enters, Orders, Crashes, end_of, deed_at, done, callers_after, LeavesTheLog, AppendsOneCall, StepsKeepTheLog}
use Rattle.world_rules.proofs.OrderEnds.{order-ends}
use Rattle.world_rules.proofs.NodeEvents.{told-after}
use Rattle.world_rules.proofs.Lives.{line_effect, stepped}

module _ (dig : List ℕ → List ℕ) (world : World) where
  -- an effect leaves the log, or appends one accepted call
  abbrev KeepsLog : LineEffect → Type 0
  KeepsLog effect = LeavesTheLog world effect ⊎ AppendsOneCall dig world effect

  called-log : (callers : List ℕ) (call : RootCall)
      → KeepsLog (called dig (record world { raw_callers = callers }) call)
  unfolding log_after log_of
  called-log callers call = grind (arith, common_steps)

  -- so does each act, with its line's mail item
  pub act-log : (act : Act) → KeepsLog (line_effect dig world act)
  unfolding log_of done
  act-log (Rests reply) = inl (record { chain = refl; event = refl })
  act-log (Signs leaf body rogue) = inl (record { chain = refl; event = refl })
  act-log (Adds name (NewWallet who)) = inl (record { chain = refl; event = refl })
  act-log (Adds name (NewWatcher account)) = inl (record { chain = refl; event = refl })
  act-log (Adds name (NewRogue who)) = inl (record { chain = refl; event = refl })
  act-log (Enters origin call) = by (called-log (callers_after world.raw_callers origin) call)
    where
      effect : LineEffect
      effect = called dig (record world { raw_callers = callers_after world.raw_callers origin }) call

      by : KeepsLog effect → KeepsLog (line_effect dig world (Enters origin call))
      by (inl left) = inl (record { chain = left.chain; event = left.event })
      by (inr more) = grind (arith, common_steps)
  act-log (Orders place order cut) =
      let deed = deed_at dig world place order in
      let ends = order-ends dig world.chain.log place.number place.node order in
      inl (record {
        chain = refl;
        event = (told-after place.number [] dig world.chain.log place.node order deed
            (end_of cut place.node order deed) ends).log;
      })
  act-log (Crashes place) = inl (record { chain = refl; event = refl })

pub steps_keep_the_log : StepsKeepTheLog
steps_keep_the_log dig world line effect is =
    let made = stepped dig world line effect is in
    subst (KeepsLog dig world) made.effect_is (act-log dig world made.act)
