-- The invariant of a held coin, at each line of a run.
use Rattle.world_laws.proofs.Basics.{◌≡◌, ℕ, ◌&&◌, true, false, List, ◌∷◌, Some, inl, inr, sym, ap, ◌∙◌, subst, cases_Bool, and_right, true≢false, some_same}
use Rattle.world_laws.proofs.CoinWords.{Owner, exits, Rules, tests_by, rules_of, contains-has}
use Rattle.world_laws.proofs.WorldWords.{IsDigest, Event, log_of, wallet_owner, collides, is_forged, holds, harms, is_harmed, IsLegal, goes_unseen, is_looked_after, ExitsAreWatched, HoldersBeginWithNoExit, LinesKeepExitsWatched, WatchedExitsDoNoHarm, HeldCoinsAreWatched}
use Rattle.world_laws.proofs.HeldCoins.{Holding, holding}
use Rattle.world_laws.proofs.Guards.{holds-from}
use Rattle.world_laws.proofs.Before.{forged-parts, held_before}
use Rattle.world_laws.proofs.Safe.{kept-event, watched, harmless}
use Rattle.world_laws.proofs.Promises.{legal-to}

-- the holder is the wallet's owner
holder-is : (events : List Event) (w c e : ℕ) (me : Owner) (h : Holding events w c e)
    → wallet_owner events w ≡ Some me → h.me ≡ me
holder-is events w c e me h owner = some_same h.me me (sym h.me_is ∙ owner)

pub holders-begin : HoldersBeginWithNoExit
holders-begin dig lines run world later events event w c e is split not_held held x there c_is =
    let h = holding (event ∷ events) w c e held in
    elim (held_before (tests_by dig) (rules_of world.chain) event events w c e
    (legal-to dig lines run world later (event ∷ events) is split) h) [
      | inl before ↦ true≢false (sym (holds-from events w c e before.0) ∙ not_held)
      | inr none ↦ none x (contains-has (exits (log_of (event ∷ events))) x there) c_is
    ]

module _ (dig : List ℕ → List ℕ) (digest : IsDigest dig) (rules : Rules) (w c e : ℕ) where
  kept-by : (event : Event) (events : List Event) (me : Owner) → IsLegal (tests_by dig) rules (event ∷ events)
      → wallet_owner events w ≡ Some me → holds events w c e ≡ true → goes_unseen events w c e event ≡ false
      → collides dig (event ∷ events) c ≡ false → is_forged rules.tag (event ∷ events) w c ≡ false
      → ExitsAreWatched events me c e → ExitsAreWatched (event ∷ events) me c e
  unfolding collides
  kept-by event events me legal owner held unseen none unforged all =
      let h = holding events w c e held in
      let same = holder-is events w c e me h owner in
      subst (λ m. ExitsAreWatched (event ∷ events) m c e) same
      (kept-event dig digest rules w c e event events legal none unforged unseen h
      (subst (λ m. ExitsAreWatched events m c e) (sym same) all))

  harmless-by : (event : Event) (events : List Event) (me : Owner) → IsLegal (tests_by dig) rules (event ∷ events)
      → wallet_owner events w ≡ Some me → collides dig (event ∷ events) c ≡ false
      → is_forged rules.tag (event ∷ events) w c ≡ false → ExitsAreWatched events me c e
      → is_harmed (tests_by dig) rules events w c e event ≡ false
  unfolding collides
  harmless-by event events me legal owner none unforged all =
      elim (cases_Bool (holds events w c e)) [
        | inr isnt ↦ ap (λ b. b && harms (tests_by dig) rules (log_of events) (wallet_owner events w) c e event) isnt
        | inl held ↦
            let h = holding events w c e held in
            and_right _ _ (subst (λ o. harms (tests_by dig) rules (log_of events) o c e event ≡ false) (sym h.me_is)
            (harmless dig digest rules w c e event events legal none
            (forged-parts rules.tag event events w c unforged).0 h
            (subst (λ m. ExitsAreWatched events m c e) (sym (holder-is events w c e me h owner)) all)))
      ]

  watched-by : (events : List Event) (me : Owner) → IsLegal (tests_by dig) rules events
      → wallet_owner events w ≡ Some me → holds events w c e ≡ true → is_looked_after events w c e ≡ true
      → collides dig events c ≡ false → is_forged rules.tag events w c ≡ false → ExitsAreWatched events me c e
  unfolding collides
  watched-by events me legal owner held looked none unforged =
      let h = holding events w c e held in
      subst (λ m. ExitsAreWatched events m c e) (holder-is events w c e me h owner)
      (watched dig digest rules w c e events legal none unforged looked h)

pub lines-keep : LinesKeepExitsWatched
lines-keep dig lines run world later events event me w c e is split =
    kept-by dig is.digest (rules_of world.chain) w c e event events me
    (legal-to dig lines run world later (event ∷ events) is split)

pub watched-harmless : WatchedExitsDoNoHarm
watched-harmless dig lines run world later events event me w c e is split =
    harmless-by dig is.digest (rules_of world.chain) w c e event events me
    (legal-to dig lines run world later (event ∷ events) is split)

pub held-watched : HeldCoinsAreWatched
held-watched dig lines run world later events me w c e is split =
    watched-by dig is.digest (rules_of world.chain) w c e events me
    (legal-to dig lines run world later events is split)
