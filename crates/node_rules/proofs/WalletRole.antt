-- The records of a wallet stay a wallet's, and what a command added is read as it.
use Rattle.node_rules.proofs.Words.{◌≡◌, ◌≢◌, ℕ, ◌^◌, ◌<◌, true, List, [], ◌∷◌, ◌++◌, length, Option, Some, None, Ok, Err, inl, inr, refl, sym, ap, ◌∙◌, subst, append-nil, arith, Result, find, unwrap_or, slice_get, option_map_or, and_parts, eqb-true, common_steps, binding_record, marker, messages_of, may_follow_of, MayBind, binding_follows, binding-messages, Owner, Body, Links, RootCall, CoinView, AreBytes, IsBody, body_text, body_at_start, number_text, number_at, coin_at, Bundle, HistoryRefusal, bundle_in, links_of, text-bundle_in, LeafRecord, Sending, Leaving, Held, sends_by, IsTip, Reclaimed, chain_of, kept_of, links_handed, IsReadBack, is_of, Accepts, LeavesWith, Reclaims, note_text, note_in, is_body, leaves_in, is_bound_note, WalletRecords, who, noted, coin_state, kept_at, links_at, accept_effect, send_effect, leave_effect, reclaim_effect, reclaim_by, migrate_effect, leaves_of, is_wallet, with_more, FitWords, AcceptsKeepTheRole, SendsKeepTheRole, LeavesKeepTheRole, ReclaimsKeepTheRole, MigrationsKeepTheRole, AddsAccepted, AcceptsAddTheirNotes, sent_body, BindsBody, AddsSent, SendsAddTheirLeaves, AddsLeaving, LeavesAddTheirNotes, AddsReclaimed, ReclaimsAddTheirNotes, AddsMarker, MigrationsAddTheMarker, LeavesAreAnswered}
use Rattle.wallet_core.proofs.StateLaws.{sending_is, leaving_is, held_is}
use Rattle.node_rules.proofs.KeptTexts.{handed-back}
use Rattle.node_rules.proofs.OneMore.{if_some-each}
use Rattle.node_rules.proofs.WalletTexts.{note_in-text, leaves-some}
use Rattle.node_rules.proofs.Bodies.{body-read, text-is_body}
use Rattle.node_rules.proofs.WalletGrow.{note-adds, leaves-grow, leaves-marked, wallet-parts, wallet-noted, wallet-bound, kind-follows, marker-kind}
use Rattle.node_rules.proofs.WalletTips.{tag-long, tip-fits, leaf-fits}
use Rattle.node_rules.proofs.WalletAdded.{accept-note, accept-leaf, send-leaf, send-note, send-may, leave-note, leave-leaf, reclaim-note, reclaim-leaf, may-reclaim, migrate-leaf, migrate-note}

-- ---- the records after a command

module _ (dig : List ℕ → List ℕ) (wallet : WalletRecords) (is : is_wallet dig wallet ≡ true) where
  -- that added a note at most, and one that may stand there
  after-note : (note leaf : Option (List ℕ)) → leaf ≡ None
      → ((body : List ℕ) → note ≡ Some body
      → is_wallet dig (record wallet { notes = wallet.notes ++ body ∷ [] }) ≡ true)
      → is_wallet dig (record { notes = with_more note wallet.notes; leaves = with_more leaf wallet.leaves }) ≡ true
  after-note some leaf none each = grind (arith, common_steps) steps 20000

  -- that added a leaf's record at most
  after-leaf : (note leaf : Option (List ℕ)) → note ≡ None
      → ((body : List ℕ) → leaf ≡ Some body
      → is_wallet dig (record wallet { leaves = wallet.leaves ++ body ∷ [] }) ≡ true)
      → is_wallet dig (record { notes = with_more note wallet.notes; leaves = with_more leaf wallet.leaves }) ≡ true
  after-leaf note leaf none each = grind (arith, common_steps) steps 20000

-- ---- accept

pub accept-reads : (dig : List ℕ → List ℕ) (wallet : WalletRecords) (log : List RootCall) (bytes body : List ℕ)
    → AreBytes bytes → (accept_effect dig wallet log bytes).note ≡ Some body
    → (links : Links) × (links_handed dig (who wallet).tag log bytes ≡ Ok links)
    × IsReadBack dig (who wallet).tag log links × ((kept_of links).openings ≢ [])
    × (note_in dig (who wallet).tag body ≡ Some (Accepts (kept_of links)))
unfolding accept_effect
accept-reads dig wallet log bytes body small is =
    let tag = (who wallet).tag in
    let found = accept-note log (noted dig wallet) (links_handed dig tag log bytes) body is in
    let back = handed-back dig tag log bytes found.0 small found.1 in (
      found.0,
      found.1,
      back,
      found.2,
      ap (note_in dig tag) (sym found.3) ∙ note_in-text dig tag (Accepts (kept_of found.0)) back.is_kept,
    )

accept-none : (dig : List ℕ → List ℕ) (wallet : WalletRecords) (log : List RootCall) (bytes : List ℕ)
    → (accept_effect dig wallet log bytes).leaf ≡ None
unfolding accept_effect
accept-none dig wallet log bytes =
    accept-leaf log (noted dig wallet) (links_handed dig (who wallet).tag log bytes)

pub accepts_keep_the_role : AcceptsKeepTheRole
accepts_keep_the_role dig wallet log bytes is small =
    let effect = accept_effect dig wallet log bytes in
    after-note dig wallet is effect.note effect.leaf (accept-none dig wallet log bytes)
    (λ body added.
    let reads = accept-reads dig wallet log bytes body small added in
    wallet-noted dig wallet body (Accepts (kept_of reads.0)) is reads.4 refl)

pub accepts_add_their_notes : AcceptsAddTheirNotes
accepts_add_their_notes dig wallet log bytes is small =
    if_some-each (accept_effect dig wallet log bytes).note (AddsAccepted dig wallet log bytes)
    (λ body added.
    let reads = accept-reads dig wallet log bytes body small added in (
      reads.0,
      reads.1,
      reads.2,
      reads.3,
      note-adds dig wallet.notes (wallet-parts dig wallet is).role body (Accepts (kept_of reads.0)) reads.4,
    ))

-- ---- send

module _ (dig : List ℕ → List ℕ) (wallet : WalletRecords) (log : List RootCall) (coin : ℕ) (to : Owner)
    (last : Option ℕ) where
  sent-none : (send_effect dig wallet log coin to last).note ≡ None
  unfolding send_effect
  sent-none = send-note wallet log coin to last (coin_state dig wallet log coin)

  -- a bound transfer may follow
  record IsSent (leaf : List ℕ) : Type 0 where
    tip : ℕ
    held : coin_state dig wallet log coin ≡ Held tip
    binds : MayBind wallet.leaves (body_text (sent_body wallet coin tip to last))
        × (leaf ≡ binding_record wallet.leaves (body_text (sent_body wallet coin tip to last)))
        × (may_follow_of is_body (leaves_of wallet.notes) wallet.leaves
        (binding_record wallet.leaves (body_text (sent_body wallet coin tip to last))) ≡ true)

  sent-is : is_wallet dig wallet ≡ true → length to.key ≡ 56 → (leaf : List ℕ)
      → (send_effect dig wallet log coin to last).leaf ≡ Some leaf → IsSent leaf
  unfolding send_effect
  sent-is is key_long leaf added =
      let known = send-leaf wallet log coin to last (coin_state dig wallet log coin) leaf added in
      let are = wallet-parts dig wallet is in
      let tag = tag-long dig wallet.notes are.role in
      let body = sent_body wallet coin known.0 to last in
      let may = send-may wallet log coin to known.0 last tag key_long known.2 in
      let form = binding_follows wallet.leaves (body_text body) (leaves_of wallet.notes) may.1 may.0 in
      record {
        tip = known.0;
        held = known.1;
        binds = (
          may.1,
          known.3,
          kind-follows is_body (leaves_of wallet.notes) wallet.leaves (body_text body) form
              (text-is_body (who wallet).tag coin known.0 to tag key_long last),
        );
      }

pub sends_keep_the_role : SendsKeepTheRole
sends_keep_the_role dig wallet log coin to last is key_long =
    let effect = send_effect dig wallet log coin to last in
    after-leaf dig wallet is effect.note effect.leaf (sent-none dig wallet log coin to last)
    (λ leaf added.
    let sent = sent-is dig wallet log coin to last is key_long leaf added in
    let message = body_text (sent_body wallet coin sent.tip to last) in
    subst (λ (l : List ℕ). is_wallet dig (record wallet { leaves = wallet.leaves ++ l ∷ [] }) ≡ true)
    (sym sent.binds.1)
    (wallet-bound dig wallet (binding_record wallet.leaves message)
    (record { body = body_at_start message } ∷ []) is sent.binds.2
    (leaves-grow wallet.leaves message sent.binds.0)))

-- the record of a transfer that reads as its body
binds-body : (leaves : List (List ℕ)) (body : Body) (leaf : List ℕ) → IsBody body
    → MayBind leaves (body_text body) → leaf ≡ binding_record leaves (body_text body) → BindsBody leaves body leaf
binds-body leaves body leaf fits may is = record {
  may = may;
  is = is;
  messages =
      ap (λ (l : List ℕ). messages_of (leaves ++ l ∷ [])) is ∙ binding-messages leaves (body_text body) may;
  bodies =
      ap (λ (l : List ℕ). leaves_in (leaves ++ l ∷ [])) is ∙ leaves-grow leaves (body_text body) may
      ∙ ap (λ (b : Body). leaves_in leaves ++ record { body = b } ∷ []) (body-read body fits);
}

pub held-tip : (dig : List ℕ → List ℕ) (wallet : WalletRecords) (log : List RootCall) (coin tip : ℕ)
    → coin_state dig wallet log coin ≡ Held tip → IsTip (noted dig wallet) log coin tip
unfolding coin_state
held-tip dig wallet log coin tip is = ((held_is (noted dig wallet) (leaves_in wallet.leaves) log coin tip).0 is).0

pub sends_add_their_leaves : SendsAddTheirLeaves
sends_add_their_leaves dig wallet log coin to last is words coin_fits owner last_fits =
    if_some-each (send_effect dig wallet log coin to last).leaf (AddsSent dig wallet log coin to last)
    (λ leaf added.
    let sent = sent-is dig wallet log coin to last is owner.key leaf added in
    let body = sent_body wallet coin sent.tip to last in
    let fits : IsBody body = record {
      tag = tag-long dig wallet.notes (wallet-parts dig wallet is).role;
      coin = coin_fits;
      parent = tip-fits dig wallet log coin sent.tip words (held-tip dig wallet log coin sent.tip sent.held);
      to = owner;
      last = last_fits;
    } in
    (sent.tip, sent.held, binds-body wallet.leaves body leaf fits sent.binds.0 sent.binds.1))

-- ---- leave

module _ (dig : List ℕ → List ℕ) (wallet : WalletRecords) (log : List RootCall) (coin : ℕ) where
  left-none : (leave_effect dig wallet log coin).leaf ≡ None
  unfolding leave_effect
  left-none = leave-leaf dig wallet log coin (coin_state dig wallet log coin)

  left-is : (body : List ℕ) → (leave_effect dig wallet log coin).note ≡ Some body
      → (tip : ℕ) × (coin_state dig wallet log coin ≡ Held tip) × (note_text (LeavesWith coin tip) ≡ body)
  unfolding leave_effect
  left-is body added = leave-note dig wallet log coin (coin_state dig wallet log coin) body added

pub leaves_keep_the_role : LeavesKeepTheRole
leaves_keep_the_role dig wallet log coin is =
    let effect = leave_effect dig wallet log coin in
    after-note dig wallet is effect.note effect.leaf (left-none dig wallet log coin)
    (λ body added.
    let left = left-is dig wallet log coin body added in
    let text = number_text coin ++ number_text left.0 in
    wallet-noted dig wallet body (LeavesWith (number_at text 0) (number_at text 8)) is
    (ap (note_in dig (who wallet).tag) (sym left.2) ∙ leaves-some dig (who wallet).tag coin left.0) refl)

pub leaves_add_their_notes : LeavesAddTheirNotes
leaves_add_their_notes dig wallet log coin is words coin_fits =
    if_some-each (leave_effect dig wallet log coin).note (AddsLeaving dig wallet log coin)
    (λ body added.
    let left = left-is dig wallet log coin body added in
    let tip_fits = tip-fits dig wallet log coin left.0 words (held-tip dig wallet log coin left.0 left.1) in (
      left.0,
      left.1,
      note-adds dig wallet.notes (wallet-parts dig wallet is).role body (LeavesWith coin left.0)
          (grind (arith, common_steps, note_in-text) steps 20000),
    ))

-- ---- reclaim

-- the coin and its tip, where the wallet is sending it, and the leaf
sending-tip : (dig : List ℕ → List ℕ) (wallet : WalletRecords) (log : List RootCall) (coin tip q : ℕ)
    → coin_state dig wallet log coin ≡ Sending tip q
    → IsTip (noted dig wallet) log coin tip
    × (sends_by (noted dig wallet).reclaimed (leaves_in wallet.leaves) coin tip q ≡ true)
unfolding coin_state
sending-tip dig wallet log coin tip q is =
    let both = (sending_is (noted dig wallet) (leaves_in wallet.leaves) log coin tip q).0 is in
    (both.0, both.1.sends)

module _ (dig : List ℕ → List ℕ) (wallet : WalletRecords) (log : List RootCall) (bytes : List ℕ) where
  reclaimed-none : (reclaim_effect dig wallet log bytes).leaf ≡ None
  unfolding reclaim_effect
  reclaimed-none = reclaim-leaf dig wallet log (bundle_in bytes)

  -- the note of a transfer that was taken back reads, and its leaf may be
  record IsReclaimed (body : List ℕ) : Type 0 where
    taken : Reclaimed
    answered : (reclaim_effect dig wallet log bytes).answer ≡ Ok taken
    sending : coin_state dig wallet log taken.coin ≡ Sending taken.tip taken.q
    reads : note_in dig (who wallet).tag body ≡ Some (Reclaims taken.coin taken.tip taken.q)
    binds : is_bound_note (leaves_in wallet.leaves) (Reclaims taken.coin taken.tip taken.q) ≡ true

  has-leaf : (q last : ℕ) (found : Option LeafRecord) → slice_get (leaves_in wallet.leaves) q ≡ found
      → option_map_or (λ leaf. leaf.body.last) found None ≡ Some last → is_wallet dig wallet ≡ true → q < 2 ^ 32
  has-leaf q last None none wrong is = absurd (cc wrong)
  has-leaf q last (Some leaf) some has is = leaf-fits dig wallet q leaf is some

  reclaimed-is : is_wallet dig wallet ≡ true → AreBytes bytes → FitWords wallet log → (body : List ℕ)
      → (reclaim_effect dig wallet log bytes).note ≡ Some body → IsReclaimed body
  unfolding reclaim_effect
  reclaimed-is is small words body added = at (bundle_in bytes) refl added
    where
      at : (read : Result Bundle HistoryRefusal) → bundle_in bytes ≡ read
          → (reclaim_by dig wallet log read).note ≡ Some body → IsReclaimed body
      at (Err why) reads wrong = absurd (cc wrong)
      at (Ok bundle) reads given =
          let known = reclaim-note dig wallet log bundle (coin_state dig wallet log bundle.coin) body given in
          let coin_fits = (text-bundle_in bytes bundle small reads).1.coin in
          let at_tip = sending-tip dig wallet log bundle.coin known.tip known.q known.sending in
          let tip_fits = tip-fits dig wallet log bundle.coin known.tip words at_tip.0 in
          let q_fits = has-leaf known.q known.last (slice_get (leaves_in wallet.leaves) known.q) refl known.has_last
          is in
          record {
            taken = record { coin = bundle.coin; tip = known.tip; q = known.q };
            answered = grind (arith, common_steps) steps 20000;
            sending = known.sending;
            reads = grind (arith, common_steps, note_in-text) steps 20000;
            binds = grind (arith, common_steps, may-reclaim) steps 20000;
          }

pub reclaims_keep_the_role : ReclaimsKeepTheRole
reclaims_keep_the_role dig wallet log bytes is small words =
    let effect = reclaim_effect dig wallet log bytes in
    after-note dig wallet is effect.note effect.leaf (reclaimed-none dig wallet log bytes)
    (λ body added.
    let known = reclaimed-is dig wallet log bytes is small words body added in
    wallet-noted dig wallet body (Reclaims known.taken.coin known.taken.tip known.taken.q) is known.reads known.binds)

pub reclaims_add_their_notes : ReclaimsAddTheirNotes
reclaims_add_their_notes dig wallet log bytes is small words =
    if_some-each (reclaim_effect dig wallet log bytes).note (AddsReclaimed dig wallet log bytes)
    (λ body added.
    let known = reclaimed-is dig wallet log bytes is small words body added in (
      known.taken,
      known.answered,
      known.sending,
      grind (arith, common_steps, note-adds, wallet-parts) steps 20000,
    ))

-- ---- migrate

pub migrations_keep_the_role : MigrationsKeepTheRole
migrations_keep_the_role dig wallet is =
    let effect = migrate_effect wallet in
    after-leaf dig wallet is effect.note effect.leaf (migrate-note wallet)
    (λ leaf added.
    let known = migrate-leaf wallet leaf added in
    subst (λ (l : List ℕ). is_wallet dig (record wallet { leaves = wallet.leaves ++ l ∷ [] }) ≡ true) (sym known.1)
    (wallet-bound dig wallet marker [] is (marker-kind is_body (leaves_of wallet.notes) wallet.leaves known.0)
    (leaves-marked wallet.leaves known.0 ∙ sym (append-nil (leaves_in wallet.leaves)))))

pub migrations_add_the_marker : MigrationsAddTheMarker
migrations_add_the_marker wallet =
    if_some-each (migrate_effect wallet).leaf (AddsMarker wallet)
    (λ leaf added.
    let known = migrate-leaf wallet leaf added in grind (arith, common_steps, leaves-marked) steps 20000)

-- ---- exits

-- what is kept at a tip is of that coin
kept-coin : (coin tip : ℕ) (kept : List Bundle)
    → (unwrap_or (find (is_of coin tip) kept) (record { coin = coin; tip = tip; openings = [] })).coin ≡ coin
kept-coin coin tip [] = refl
kept-coin coin tip (one ∷ kept) = grind (arith, common_steps, kept-coin coin tip kept, eqb-true, and_parts) steps 20000

-- a coin of the log has links
pub links-some : (dig : List ℕ → List ℕ) (wallet : WalletRecords) (log : List RootCall) (coin tip : ℕ)
    → coin_at log coin ≢ None → (links : Links) × (links_at dig wallet log coin tip ≡ Some links)
links-some dig wallet log coin tip exists = at (coin_at log coin) refl
  where
    at : (found : Option CoinView) → coin_at log coin ≡ found
        → (links : Links) × (links_at dig wallet log coin tip ≡ Some links)
    at None none = absurd (exists none)
    at (Some made) some = (
      links_of (chain_of (who wallet).tag) made (kept_at dig wallet coin tip),
      grind (arith, common_steps, kept-coin) steps 20000,
    )

pub leaving-tip : (dig : List ℕ → List ℕ) (wallet : WalletRecords) (log : List RootCall) (coin tip : ℕ)
    → coin_state dig wallet log coin ≡ Leaving tip → IsTip (noted dig wallet) log coin tip
unfolding coin_state
leaving-tip dig wallet log coin tip is =
    ((leaving_is (noted dig wallet) (leaves_in wallet.leaves) log coin tip).0 is).0

pub leaves_are_answered : LeavesAreAnswered
unfolding leave_effect
leaves_are_answered dig wallet log coin tip (inl held) =
    let found = links-some dig wallet log coin tip (held-tip dig wallet log coin tip held).exists in
    (found.0, found.1, rw (held, found.1) refl)
leaves_are_answered dig wallet log coin tip (inr leaving) =
    let found = links-some dig wallet log coin tip (leaving-tip dig wallet log coin tip leaving).exists in
    (found.0, found.1, rw (leaving, found.1) refl)
