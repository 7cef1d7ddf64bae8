-- What an advance and a bind do by their definitions, in each case.
use Rattle.hss_keys.proofs.Words.{◌≡◌, ◌<◌, ◌≤◌, ◌-◌, ℕ, true, false, List, Some, Result, Ok, Err, refl, lt-ltb, le-ltb, Effect, only, leaf_count, HssSeed, Opens, Binds, LevelRefusal, bottom_key, entry_text, entries_of, opened_count, used_in, advance_effect, bind_effect, bound_of, has_leaf, HssBoundState}
use Rattle.hss_keys.specs.declared.refusal.LevelRefusal.TheVariants.{LevelOpen, LevelSpent, KeySpent}

module _ (seed : HssSeed) (records : List (List ℕ)) where
  pub advance-open : has_leaf seed (entries_of records) ≡ true
      → advance_effect seed records ≡ only {A = Result ℕ LevelRefusal} (Err (LevelOpen (used_in (entries_of records))))
  unfolding advance_effect
  advance-open has = rw has refl

  pub advance-spent : has_leaf seed (entries_of records) ≡ false
      → leaf_count seed.top ≤ opened_count (entries_of records)
      → advance_effect seed records
      ≡ only {A = Result ℕ LevelRefusal} (Err (KeySpent (opened_count (entries_of records))))
  unfolding advance_effect
  advance-spent has most = rw (has, le-ltb (opened_count (entries_of records)) (leaf_count seed.top) most) refl

  pub advance-goes : has_leaf seed (entries_of records) ≡ false
      → opened_count (entries_of records) < leaf_count seed.top
      → (let j = opened_count (entries_of records) in
      let effect : Effect (Result ℕ LevelRefusal) =
      record { answer = Ok j; note = Some (entry_text (Opens j (bottom_key seed j))) } in
      advance_effect seed records ≡ effect)
  unfolding advance_effect
  advance-goes has less = rw (has, lt-ltb (opened_count (entries_of records)) (leaf_count seed.top) less) refl

  pub bind-spent : (message : List ℕ) → has_leaf seed (entries_of records) ≡ false
      → bind_effect seed records message
      ≡ only {A = Result HssBoundState LevelRefusal} (Err (LevelSpent (opened_count (entries_of records))))
  unfolding bind_effect
  bind-spent message has = rw has refl

  pub bind-goes : (message : List ℕ) → has_leaf seed (entries_of records) ≡ true
      → (let j = opened_count (entries_of records) - 1 in
      let q = used_in (entries_of records) in
      let effect : Effect (Result HssBoundState LevelRefusal) =
      record { answer = Ok (bound_of seed j q message); note = Some (entry_text (Binds j q message)) } in
      bind_effect seed records message ≡ effect)
  unfolding bind_effect
  bind-goes message has = rw has refl
