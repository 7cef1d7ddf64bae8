-- A send, a reclaim, a leave and a migration keep a wallet's records what the events say.
use Rattle.world_rules.proofs.Basics.{◌≡◌, ℕ, ◌^◌, ◌<◌, ◌==◌, ◌||◌, true, List, [], ◌∷◌, ◌++◌, map, Option, refl, sym, ap, ◌∙◌, subst, arith, Result, IfSome, reverse, list_any, nat_cmp, insert_key, eqb-true, reverse-append, map-append, All-from_recursion, common_steps}
use Rattle.world_rules.proofs.CoinWords.{signature_of, Owner, Body, RootCall, AreBytes, IsOwner, IsBody, body_text, signed_text, body_at_start, blocks, signed_in-text, signed_in-ok, all-weaker, LeafRecord}
use Rattle.world_rules.proofs.NodeWords.{binding_record, Sent, WalletRefusal, secret_of, leaves_in, WalletRecords, WalletEffect, who, used, coin_state, send_effect, is_wallet, after, FitWords, sent_body, BindsBody, AddsSent, wallet-parts, sends_keep_the_role, sends_add_their_leaves, held-tip, WalletOrder, on_sent, Small, small-body, SendEnds, Refused, Sends, send_ends}
use Rattle.world_rules.proofs.WorldWords.{Binds, event_of}
use Rattle.plasma_tx.specs.declared.signed_tx.SignedTx.{SignedTx}
use Rattle.wallet_core.specs.declared.coin_state.CoinState.TheVariants.{Held}
use Rattle.node_rules.proofs.WalletTips.{tag-long, tip-fits}
use Rattle.world_rules.proofs.OrderEnds.{wallet_told}
use Rattle.world_rules.proofs.Said.{Said, told}
use Rattle.world_rules.proofs.KeptWallet.{KeptWallet, records-push}

-- ---- what the bytes of a transfer begin with

-- a body with a signature behind it is read as it
pub body-signed : (body : Body) (signature : List ℕ) → IsBody body
    → body_at_start (body_text body ++ signature) ≡ body
unfolding signed_text
body-signed body signature fits =
    let tx : SignedTx = record { body = body; signature = signature } in
    let known = signed_in-ok body.tag (body_text body ++ signature) tx (signed_in-text tx fits) in
    sym (ap (λ (t : SignedTx). t.body) known.1)

-- ---- leaves that are taken back

module _ (q : ℕ) where
  -- whether a number is among keys, with one more
  pub among-key : (keys : List ℕ) (k : ℕ)
      → list_any (λ other. other == k) (insert_key nat_cmp keys q)
      ≡ ((q == k) || list_any (λ other. other == k) keys)
  among-key [] k = refl
  among-key (key ∷ keys) k = grind (arith, common_steps, among-key keys k, eqb-true)

-- ---- the commands

module _ (dig : List ℕ → List ℕ) (s : Said) (log : List RootCall) (wallet : WalletRecords)
    (kept : KeptWallet dig s log wallet) (few : blocks log < 2 ^ 64) where
  pub words : FitWords wallet log
  words = record {
    notes =
        All-from_recursion AreBytes wallet.notes
        (all-weaker Small AreBytes (λ bytes small. small.are) wallet.notes kept.notes);
    blocks = few;
  }

  -- ---- send

  module _ (coin : ℕ) (to : Owner) (last : Option ℕ) (coin_fits : coin < 2 ^ 64) (is_owner : IsOwner to)
      (key : Small to.key) (last_fits : IfSome last (λ n. n < 2 ^ 64)) where
    abbrev pub IsSent : ℕ → WalletEffect (Result Sent WalletRefusal) → Type 0
    IsSent n effect =
        KeptWallet dig (told (wallet_told n (WalletOrder.Send coin to last) on_sent effect.answer) s) log
        (after effect wallet)

    pub sent-is : (tip : ℕ) → coin_state dig wallet log coin ≡ Held tip → IsBody (sent_body wallet coin tip to last)
    sent-is tip held = record {
      tag = tag-long dig wallet.notes (wallet-parts dig wallet kept.is).role;
      coin = coin_fits;
      parent = tip-fits dig wallet log coin tip words (held-tip dig wallet log coin tip held);
      to = is_owner;
      last = last_fits;
    }

    sends-body : (n : ℕ) (body : Body) (signature leaf : List ℕ) → IsBody body → Small (body_text body)
        → BindsBody wallet.leaves body leaf
        → is_wallet dig (record wallet { leaves = wallet.leaves ++ leaf ∷ [] }) ≡ true
        → KeptWallet dig (told (Binds n (body_at_start (body_text body ++ signature))) s) log
        (record wallet { leaves = wallet.leaves ++ leaf ∷ [] })
    sends-body n body signature leaf fits small binds is = record {
      owner = kept.owner;
      is = is;
      is_owner = kept.is_owner;
      tag = kept.tag;
      notes = kept.notes;
      messages = grind (arith, common_steps, records-push);
      bodies =
          ap (map (λ (leaf : LeafRecord). leaf.body)) binds.bodies
          ∙ map-append (λ (leaf : LeafRecord). leaf.body) (leaves_in wallet.leaves) (record { body = body } ∷ [])
          ∙ ap (λ (bodies : List Body). bodies ++ body ∷ []) kept.bodies
          ∙ sym (reverse-append (body ∷ []) s.bound)
          ∙ ap (λ (b : Body). reverse (b ∷ s.bound)) (sym (body-signed body signature fits));
      taken = kept.taken;
      known = kept.known;
      noted = kept.noted;
    }

    pub sends-kept : (n : ℕ) → IsSent n (send_effect dig wallet log coin to last)
    unfolding event_of
    sends-kept n = by (send_ends dig wallet log coin to last)
      where
        by : SendEnds dig wallet log coin to last (send_effect dig wallet log coin to last)
            → IsSent n (send_effect dig wallet log coin to last)
        by (Refused why is) = subst (IsSent n) (sym is) kept
        by (Sends tip held is) =
            let body = sent_body wallet coin tip to last in
            let leaf = binding_record wallet.leaves (body_text body) in
            let added : AddsSent dig wallet log coin to last leaf =
            subst (λ e. IfSome e.leaf (AddsSent dig wallet log coin to last)) is
            (sends_add_their_leaves dig wallet log coin to last kept.is words coin_fits is_owner last_fits) in
            let same : added.0 ≡ tip = cc (added.1, held) in
            let binds : BindsBody wallet.leaves body leaf =
            subst (λ (t : ℕ). BindsBody wallet.leaves (sent_body wallet coin t to last) leaf) same added.2 in
            subst (IsSent n) (sym is)
            (sends-body n body (signature_of (secret_of (who wallet)) (used wallet) (body_text body)) leaf
            (sent-is tip held) (small-body body kept.tag key) binds
            (subst (λ e. is_wallet dig (after e wallet) ≡ true) is
            (sends_keep_the_role dig wallet log coin to last kept.is is_owner.key)))
