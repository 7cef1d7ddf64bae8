-- What a wallet's accepts, sends and reclaims are: each is legal after the events that say what its records are.
use Rattle.world_laws.proofs.Basics.{◌≡◌, ℕ, zero, suc, ◌^◌, ◌<◌, ◌≤◌, ◌==◌, ◌&&◌, not, Bool, true, false, List, [], ◌∷◌, ◌++◌, length, map, Option, Some, None, Ok, refl, sym, ap, ◌∙◌, subst, slice_get, arith, Result, IfSome, reverse, unwrap_or, list_any, option_map_or, result_ok, cases_eq, eqb-true, eq-eqb, ne_eqb, and_parts, not-true, not-false, ltb-false, false_from_ne_true, false≢true, true≢false, reverse-append, length-reverse, common_steps, some_same, none_some}
use Rattle.world_laws.proofs.CoinWords.{signature_of, Owner, Body, Links, RootCall, ExitView, last_owner_of, IsOwner, IsBody, body_text, body_at_start, blocks, exits_of, is_withdrawn, Rules, tests_by, Bundle, bundle_in, absence_of, IsAbsent, LeafRecord, Sending, Held, is_noted, is_owner, spends_tip, sends_by, held_is, sending_is, kept_coins_are_held}
use Rattle.world_laws.proofs.NodeWords.{first_cause, Accepted, Sent, WalletRefusal, links_handed, first_block, owner_of, notes_of, secret_of, leaves_in, sent_body, WalletRecords, WalletEffect, unless, who, noted, used, coin_state, standing_causes, accept_causes, accept_effect, sent_by, send_effect, last_of, reclaim_from, reclaim_effect, wallet-parts, held-tip, SendEnds, Refused, Sends, send_ends}
use Rattle.world_laws.proofs.WorldWords.{Event, log_of, wallet_owner, accepted, bound_by, leaf_at, signed_away_by, is_sent_from, bundle_read, holds_with, holds, AreKept, said, are_kept, KeptWallet, state-me, body-signed, words, push-same, push-other, left_by, is_left, LegalAccept, LegalBinding, LegalReclaim}
use Rattle.world_laws.proofs.HeldCoins.{owner-is}
use Rattle.coin_history.proofs.HistoryAbsent.{absences_are_found}
use Rattle.node_rules.specs.declared.answers.Reclaimed.{Reclaimed}
use Rattle.node_rules.proofs.WalletTips.{tag-long, tip-fits}
use Rattle.world_laws.proofs.Handed.{read-rising, handed-history}
use Rattle.world_laws.proofs.AcceptsShown.{node_with}

-- ---- causes that don't hold

first-none : {E : Type 0} (cause : Bool × E) (causes : List (Bool × E)) → first_cause (cause ∷ causes) ≡ None
    → (cause.0 ≡ false) × (first_cause causes ≡ None)
first-none {E} cause causes is = grind (arith, common_steps)

-- no exit of a coin stands
standing-none : (exits : List ExitView) (others : List (Bool × WalletRefusal))
    → first_cause (standing_causes (first_block exits) ++ others) ≡ None → exits ≡ []
standing-none [] others none = refl
standing-none (exit ∷ exits) others none = absurd (cc none)

standing-alone : (exits : List ExitView) → first_cause (standing_causes (first_block exits)) ≡ None → exits ≡ []
standing-alone [] none = refl
standing-alone (exit ∷ exits) none = absurd (cc none)

-- what an accept that isn't refused was not refused for
accept-cleared : (links : Links) (me : Owner) (log : List RootCall) → first_cause (accept_causes me log links) ≡ None
    → (is_owner (last_owner_of links) me ≡ true) × (is_withdrawn log links.coin ≡ false)
    × (exits_of log links.coin ≡ [])
accept-cleared links me log none = grind (arith, common_steps, first-none, not-false, standing-none)

-- what an answer that isn't refused was not refused for
unless-ok : {A : Type 0} (failed : Option WalletRefusal) (effect : WalletEffect (Result A WalletRefusal)) (answer : A)
    → (unless failed effect).answer ≡ Ok answer → (failed ≡ None) × (effect.answer ≡ Ok answer)
unless-ok None effect answer is = (refl, is)
unless-ok (Some why) effect answer is = absurd (cc is)

-- the bundle that bytes spell
reads-as : (bytes : List ℕ) (bundle : Bundle) → bundle_in bytes ≡ Ok bundle → bundle_read bytes ≡ bundle
reads-as bytes bundle is = ap (λ r. unwrap_or (result_ok r) (record { coin = 0; tip = 0; openings = [] })) is

-- ---- leaves

-- leaf q of bodies, the newest first
leaf-got : (bodies : List Body) (q : ℕ) → slice_get (reverse bodies) q ≡ leaf_at q bodies
unfolding leaf_at
leaf-got [] q = refl
leaf-got (body ∷ bodies) q =
    let front : slice_get (reverse (body ∷ bodies)) q ≡ slice_get (reverse bodies ++ body ∷ []) q =
    ap (λ (l : List Body). slice_get l q) (reverse-append (body ∷ []) bodies) in
    let long : length (reverse bodies) ≡ length bodies = length-reverse bodies in
    grind (arith, common_steps, leaf-got bodies q, cases_eq, push-same, eq-eqb, push-other, ne_eqb)

-- the body of a leaf is that of its record
body-got : (leaves : List LeafRecord) (q : ℕ) (leaf : LeafRecord) → slice_get leaves q ≡ Some leaf
    → slice_get (map (λ (one : LeafRecord). one.body) leaves) q ≡ Some leaf.body
body-got [] q leaf is = absurd (none_some leaf is)
body-got (one ∷ leaves) zero leaf is = ap (λ (l : LeafRecord). Some l.body) (some_same one leaf is)
body-got (one ∷ leaves) (suc q) leaf is = body-got leaves q leaf is

-- ---- what is held isn't sent

held-unsent : (log : List RootCall) (owner : Option Owner) (bodies : List Body) (bundles : List Bundle) (c e : ℕ)
    → holds_with log owner bodies bundles c e ≡ true → is_sent_from bodies c e ≡ false
held-unsent log owner bodies bundles c e is = grind (arith, common_steps, false≢true, and_parts, not-true)

-- ---- a wallet's node

-- What is known of a wallet by its records, behind events: these say what the records are, and what it left with is
-- noted.
module _ (dig : List ℕ → List ℕ) (rules : Rules) (events : List Event) (log : List RootCall)
    (log_is : log ≡ log_of events) (n : ℕ) (wallet : WalletRecords) (own : KeptWallet dig (said events n) log wallet)
    (tag_is : (who wallet).tag ≡ rules.tag)
    (left : (c e : ℕ) → is_left (left_by events n) c e ≡ true → is_noted c e (noted dig wallet).leaving ≡ true)
    (few : blocks log < 2 ^ 64) where
  abbrev me : Owner
  me = owner_of (who wallet)

  are : AreKept dig events log n (node_with wallet)
  are = are_kept dig events log n (node_with wallet) log_is own

  me-noted : (noted dig wallet).me ≡ me
  me-noted = state-me (owner_of (who wallet)) (notes_of dig wallet.notes)

  -- ---- accepts

  accepted-links : (bytes : List ℕ) (links : Links) → links_handed dig (who wallet).tag log bytes ≡ Ok links
      → first_cause (accept_causes (noted dig wallet).me log links) ≡ None
      → LegalAccept (tests_by dig) rules events n (bundle_read bytes)
  accepted-links bytes links handed none =
      let clear = accept-cleared links (noted dig wallet).me log none in
      let history = handed-history dig rules log bytes links
      (ap (λ tag. links_handed dig tag log bytes) (sym tag_is) ∙ handed) in
      grind (arith, common_steps, are, owner-is, me-noted)

  pub legal-accepted : (bytes : List ℕ) (taken : Accepted) → (accept_effect dig wallet log bytes).answer ≡ Ok taken
      → LegalAccept (tests_by dig) rules events n (bundle_read bytes)
  unfolding accept_effect
  legal-accepted bytes taken is = grind (arith, common_steps, accepted-links, unless-ok)

  -- ---- sends

  -- a wallet that holds a coin leaves with it from nowhere, and no leaf sends it away from there
  held-binding : (coin tip : ℕ) (to : Owner) (last : Option ℕ) → coin_state dig wallet log coin ≡ Held tip
      → LegalBinding events n (sent_body wallet coin tip to last)
  unfolding coin_state holds
  held-binding coin tip to last held = record {
    not_sent = held-unsent (log_of events) (wallet_owner events n) (signed_away_by events n) (accepted events n)
        coin tip
        (grind (arith, common_steps, are, kept_coins_are_held));
    not_left = grind (arith, common_steps, false_from_ne_true, true≢false, held_is);
  }

  pub legal-bound : (coin : ℕ) (to : Owner) (last : Option ℕ) (sent : Sent) → coin < 2 ^ 64 → IsOwner to
      → IfSome last (λ n. n < 2 ^ 64) → (send_effect dig wallet log coin to last).answer ≡ Ok sent
      → LegalBinding events n (body_at_start sent.bytes)
  legal-bound coin to last sent coin_fits owner last_fits is = by (send_ends dig wallet log coin to last)
    where
      by : SendEnds dig wallet log coin to last (send_effect dig wallet log coin to last)
          → LegalBinding events n (body_at_start sent.bytes)
      by (Refused why effect_is) = absurd (cc (sym is ∙ ap (λ e. e.answer) effect_is))
      by (Sends tip held effect_is) =
          let body = sent_body wallet coin tip to last in
          let made : sent_by (who wallet) (used wallet) (body_text body) ≡ sent =
          cc (sym (ap (λ e. e.answer) effect_is) ∙ is) in
          let fits : IsBody body = record {
            tag = tag-long dig wallet.notes (wallet-parts dig wallet own.is).role;
            coin = coin_fits;
            parent = tip-fits dig wallet log coin tip
                (words dig (said events n) log wallet own few)
                (held-tip dig wallet log coin tip held);
            to = owner;
            last = last_fits;
          } in
          let same : body_at_start sent.bytes ≡ body =
          ap (λ (s : Sent). body_at_start s.bytes) (sym made)
          ∙ body-signed body (signature_of (secret_of (who wallet)) (used wallet) (body_text body)) fits in
          subst (LegalBinding events n) (sym same) (held-binding coin tip to last held)

  -- ---- reclaims

  -- what is taken back
  record IsReclaimed (bundle : Bundle) (taken : Reclaimed) (tip q last : ℕ) : Type 0 where
    taken_is : taken ≡ record { coin = bundle.coin; tip = tip; q = q }
    last_is : last_of (leaves_in wallet.leaves) q ≡ Some last
    reached : last ≤ blocks log
    absent : absence_of (tests_by dig) log tip last bundle ≡ Ok tt
    none_stands : exits_of log bundle.coin ≡ []

  reclaimed : (bundle : Bundle) (tip q : ℕ) (taken : Reclaimed)
      → (reclaim_from dig wallet log bundle (Sending tip q)).answer ≡ Ok taken
      → (last : ℕ) × IsReclaimed bundle taken tip q last
  reclaimed bundle tip q taken is = grind (arith, common_steps, unless-ok, standing-alone, ltb-false)

  -- the leaf that sends a coin from a tip
  sending-leaf : (coin tip q : ℕ) → coin_state dig wallet log coin ≡ Sending tip q
      → sends_by (noted dig wallet).reclaimed (leaves_in wallet.leaves) coin tip q ≡ true
  unfolding coin_state
  sending-leaf coin tip q is = ((sending_is (noted dig wallet) (leaves_in wallet.leaves) log coin tip q).0 is).1.sends

  leaf-body : (q : ℕ) (leaf : LeafRecord) → slice_get (leaves_in wallet.leaves) q ≡ Some leaf
      → leaf_at q (bound_by events n) ≡ Some leaf.body
  leaf-body q leaf is =
      sym (leaf-got (bound_by events n) q) ∙ ap (λ (l : List Body). slice_get l q) (sym are.bodies)
      ∙ body-got (leaves_in wallet.leaves) q leaf is

  reclaim-legal : (bytes : List ℕ) (bundle : Bundle) (taken : Reclaimed) (tip q last : ℕ)
      → bundle_in bytes ≡ Ok bundle → coin_state dig wallet log bundle.coin ≡ Sending tip q
      → IsReclaimed bundle taken tip q last → LegalReclaim (tests_by dig) events n taken.q bundle
  reclaim-legal bytes bundle taken tip q last reads sending is =
      by (slice_get (leaves_in wallet.leaves) q) refl (sending-leaf bundle.coin tip q sending) is.last_is
    where
      gone : List ℕ
      gone = (noted dig wallet).reclaimed

      absent : IsAbsent (tests_by dig) log bundle.coin tip last bundle.openings
      absent = (absences_are_found (tests_by dig) log tip last bundle (read-rising bytes bundle reads) is.absent).1

      by : (found : Option LeafRecord) → slice_get (leaves_in wallet.leaves) q ≡ found
          → (option_map_or (spends_tip bundle.coin tip) found false && not (list_any (λ other. other == q) gone)) ≡ true
          → option_map_or (λ leaf. leaf.body.last) found None ≡ Some last
          → LegalReclaim (tests_by dig) events n taken.q bundle
      by None none sends has = absurd (cc has)
      by (Some leaf) some sends has = grind (arith, common_steps, gone, and_parts, eqb-true, are, leaf-body, absent)

  pub legal-reclaimed : (bytes : List ℕ) (taken : Reclaimed) → (reclaim_effect dig wallet log bytes).answer ≡ Ok taken
      → LegalReclaim (tests_by dig) events n taken.q (bundle_read bytes)
  unfolding reclaim_effect
  legal-reclaimed bytes taken is = grind (arith, common_steps, reclaimed, reclaim-legal, reads-as)
