-- A reclaim, a leave and a migration keep a wallet's records what the events say.
use Rattle.world_rules.proofs.Basics.{◌≡◌, ℕ, ◌^◌, ◌<◌, ◌==◌, ◌||◌, Bool, true, List, [], ◌∷◌, ◌++◌, Option, Some, None, Ok, refl, sym, ap, ◌∙◌, subst, lit<, arith, Result, IfSome, nat_cmp, insert_key, common_steps}
use Rattle.world_rules.proofs.CoinWords.{RootCall, blocks, Notes}
use Rattle.world_rules.proofs.NodeWords.{Reclaimed, WalletRefusal, Reclaims, LeavesWith, note_text, coin_tip, WalletRecords, WalletEffect, noted, coin_state, leave_effect, reclaim_effect, migrate_effect, is_wallet, AddsNote, with_more, after, AddsLeaving, AddsReclaimed, AddsMarker, state-leaves, state-reclaims, noted-grow, leave-note, leave-leaf, migrate-note, leaves_keep_the_role, leaves_add_their_notes, reclaims_keep_the_role, reclaims_add_their_notes, migrations_keep_the_role, migrations_add_the_marker, WalletOrder, on_leaving, on_reclaimed, on_migrated, Small, small-cons, small-append, small-number, small-short, ReclaimEnds, Refused, Takes, reclaim_ends}
use Rattle.world_rules.proofs.WorldWords.{TakesBack, bundle_read, event_of}
use Rattle.leaf_journal.proofs.Binding.{marker-messages}
use Rattle.world_rules.proofs.OrderEnds.{wallet_told}
use Rattle.world_rules.proofs.Said.{Said, told}
use Rattle.world_rules.proofs.KeptWallet.{KeptWallet, with_note, noting}
use Rattle.world_rules.proofs.WalletSends.{among-key, words}

module _ (dig : List ℕ → List ℕ) (s : Said) (log : List RootCall) (wallet : WalletRecords)
    (kept : KeptWallet dig s log wallet) (few : blocks log < 2 ^ 64) where
  abbrev notes : Notes
  notes = noted dig wallet

  -- ---- reclaim

  takes-back : (n : ℕ) (taken : Reclaimed) (bytes body : List ℕ)
      → body ≡ note_text (Reclaims taken.coin taken.tip taken.q) → is_wallet dig (with_note wallet body) ≡ true
      → AddsNote dig wallet.notes (Reclaims taken.coin taken.tip taken.q) body
      → KeptWallet dig (told (TakesBack n taken.q (bundle_read bytes)) s) log (with_note wallet body)
  unfolding note_text
  takes-back n taken bytes body text is adds =
      noting dig s log wallet kept body
      (record notes { reclaimed = insert_key nat_cmp notes.reclaimed taken.q })
      (told (TakesBack n taken.q (bundle_read bytes)) s)
      (record {
        is = is;
        who_same = adds.0;
        now_is = grind (arith, common_steps, noted-grow, state-reclaims);
        small =
            subst Small (sym text)
            (small-cons 5 (lit< tt)
            (small-append (small-append (small-number taken.coin) (small-number taken.tip)) (small-short taken.q)));
        owner = refl;
        bound = refl;
        taken = λ k.
            among-key taken.q notes.reclaimed k ∙ ap (λ (b : Bool). (taken.q == k) || b) (kept.taken k);
        known = kept.known;
        noted = kept.noted;
      })

  abbrev pub IsTakenBack : ℕ → List ℕ → WalletEffect (Result Reclaimed WalletRefusal) → Type 0
  IsTakenBack n bytes effect =
      KeptWallet dig (told (wallet_told n (WalletOrder.Reclaim bytes) on_reclaimed effect.answer) s) log
      (after effect wallet)

  pub reclaims-kept : (n : ℕ) (bytes : List ℕ) → Small bytes
      → IsTakenBack n bytes (reclaim_effect dig wallet log bytes)
  unfolding event_of
  reclaims-kept n bytes small = by (reclaim_ends dig wallet log bytes)
    where
      by : ReclaimEnds (reclaim_effect dig wallet log bytes)
          → IsTakenBack n bytes (reclaim_effect dig wallet log bytes)
      by (Refused why is) = subst (IsTakenBack n bytes) (sym is) kept
      by (Takes taken is) =
          let text = note_text (Reclaims taken.coin taken.tip taken.q) in
          let fits = words dig s log wallet kept few in
          let added : AddsReclaimed dig wallet log bytes text =
          subst (λ e. IfSome e.note (AddsReclaimed dig wallet log bytes)) is
          (reclaims_add_their_notes dig wallet log bytes kept.is small.are fits) in
          let answered : (reclaim_effect dig wallet log bytes).answer ≡ Ok taken = ap (λ e. e.answer) is in
          let same : added.0 ≡ taken = cc (added.1, answered) in
          subst (IsTakenBack n bytes) (sym is)
          (takes-back n taken bytes text refl
          (subst (λ e. is_wallet dig (after e wallet) ≡ true) is
          (reclaims_keep_the_role dig wallet log bytes kept.is small.are fits))
          (subst (λ (t : Reclaimed). AddsNote dig wallet.notes (Reclaims t.coin t.tip t.q) text) same added.3))

  -- ---- leave

  -- the records after a command that added a note at most, or a leaf's record
  after-note : (note leaf : Option (List ℕ)) → leaf ≡ None
      → ((body : List ℕ) → note ≡ Some body → KeptWallet dig s log (with_note wallet body))
      → KeptWallet dig s log (record { notes = with_more note wallet.notes; leaves = with_more leaf wallet.leaves })
  after-note some leaf none each = grind (arith, common_steps)

  after-leaf : (note leaf : Option (List ℕ)) → note ≡ None
      → ((body : List ℕ) → leaf ≡ Some body
      → KeptWallet dig s log (record wallet { leaves = wallet.leaves ++ body ∷ [] }))
      → KeptWallet dig s log (record { notes = with_more note wallet.notes; leaves = with_more leaf wallet.leaves })
  after-leaf note leaf none each = grind (arith, common_steps)

  leaves-note : (coin tip : ℕ) (body : List ℕ) → body ≡ note_text (LeavesWith coin tip)
      → is_wallet dig (with_note wallet body) ≡ true → AddsNote dig wallet.notes (LeavesWith coin tip) body
      → KeptWallet dig s log (with_note wallet body)
  unfolding note_text
  leaves-note coin tip body text is adds =
      noting dig s log wallet kept body (record notes { leaving = notes.leaving ++ coin_tip coin tip ∷ [] }) s
      (record {
        is = is;
        who_same = adds.0;
        now_is = grind (arith, common_steps, noted-grow, state-leaves);
        small = subst Small (sym text) (small-cons 3 (lit< tt) (small-append (small-number coin) (small-number tip)));
        owner = refl;
        bound = refl;
        taken = kept.taken;
        known = kept.known;
        noted = kept.noted;
      })

  leaves-silent : (n coin : ℕ) (result : Result RootCall WalletRefusal)
      → told (wallet_told n (WalletOrder.Leave coin) on_leaving result) s ≡ s
  unfolding event_of
  leaves-silent n coin result = grind (arith, common_steps)

  pub leaves-kept : (n coin : ℕ) → coin < 2 ^ 64
      → KeptWallet dig
      (told (wallet_told n (WalletOrder.Leave coin) on_leaving (leave_effect dig wallet log coin).answer) s) log
      (after (leave_effect dig wallet log coin) wallet)
  unfolding leave_effect
  leaves-kept n coin fits =
      let effect = leave_effect dig wallet log coin in
      let none : effect.leaf ≡ None = leave-leaf dig wallet log coin (coin_state dig wallet log coin) in
      subst (λ (t : Said). KeptWallet dig t log (after effect wallet)) (sym (leaves-silent n coin effect.answer))
      (after-note effect.note effect.leaf none
      (λ body added.
      let left = leave-note dig wallet log coin (coin_state dig wallet log coin) body added in
      let adds : AddsLeaving dig wallet log coin body =
      subst (λ (o : Option (List ℕ)). IfSome o (AddsLeaving dig wallet log coin)) added
      (leaves_add_their_notes dig wallet log coin kept.is (words dig s log wallet kept few) fits) in
      let same : adds.0 ≡ left.0 = cc (adds.1, left.1) in
      let role : is_wallet dig (with_note wallet body) ≡ true =
      subst (λ (o : Option (List ℕ)). is_wallet dig
      (record { notes = with_more o wallet.notes; leaves = wallet.leaves }) ≡ true) added
      (subst (λ (o : Option (List ℕ)). is_wallet dig
      (record { notes = with_more effect.note wallet.notes; leaves = with_more o wallet.leaves }) ≡ true) none
      (leaves_keep_the_role dig wallet log coin kept.is)) in
      grind (arith, common_steps, leaves-note)))

  -- ---- migrate

  migrates-silent : (n : ℕ) (result : Result (Unit {0}) WalletRefusal)
      → told (wallet_told n WalletOrder.Migrate on_migrated result) s ≡ s
  unfolding event_of
  migrates-silent n result = grind (arith, common_steps)

  migrates-leaf : (leaf : List ℕ) → AddsMarker wallet leaf
      → is_wallet dig (record wallet { leaves = wallet.leaves ++ leaf ∷ [] }) ≡ true
      → KeptWallet dig s log (record wallet { leaves = wallet.leaves ++ leaf ∷ [] })
  migrates-leaf leaf adds is = grind (arith, common_steps, marker-messages)

  pub migrates-kept : (n : ℕ)
      → KeptWallet dig (told (wallet_told n WalletOrder.Migrate on_migrated (migrate_effect wallet).answer) s) log
      (after (migrate_effect wallet) wallet)
  migrates-kept n =
      let effect = migrate_effect wallet in
      let none : effect.note ≡ None = migrate-note wallet in
      subst (λ (t : Said). KeptWallet dig t log (after effect wallet)) (sym (migrates-silent n effect.answer))
      (after-leaf effect.note effect.leaf none
      (λ leaf added.
      migrates-leaf leaf
      (subst (λ (o : Option (List ℕ)). IfSome o (AddsMarker wallet)) added (migrations_add_the_marker wallet))
      (subst (λ (o : Option (List ℕ)). is_wallet dig
      (record { notes = wallet.notes; leaves = with_more o wallet.leaves }) ≡ true) added
      (subst (λ (o : Option (List ℕ)). is_wallet dig
      (record { notes = with_more o wallet.notes; leaves = with_more effect.leaf wallet.leaves }) ≡ true) none
      (migrations_keep_the_role dig wallet kept.is)))))
