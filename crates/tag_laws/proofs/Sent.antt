-- What a wallet sends, and sends again, and what its leaves then are.
use Rattle.std.proofs.Common.{◌≡◌, ℕ, zero, suc, ◌≤◌, ◌==◌, ◌||◌, Bool, true, false, if◌then◌else◌, List, [], ◌∷◌, ◌++◌, length, drop, map, Option, Some, None, is_ok, Ok, Err, refl, sym, ap, ◌∙◌, subst, arith}
use Rattle.std.specs.Prelude.{Result, find, reverse, unwrap_or, slice_get, IfSome}
use Rattle.std.specs.List.{All, AllByRecursion, range_with_len, slice_range}
use Rattle.std.specs.Option.{option_map_or}
use Rattle.std.specs.Int.{w64, from_be_bytes}
use Rattle.std.proofs.lemmas.Bool.{and_parts, eqb-true, false≢true}
use Rattle.std.proofs.lemmas.List.{length-append}
use Rattle.std.proofs.lemmas.List.Elements.{All-append, All-cons, All-nil, recursion_from_All}
use Rattle.std.proofs.lemmas.Grind.{common_steps}
use Rattle.node_journal.specs.Role.{are_of}
use Rattle.lms_sign.specs.Tree.{signature_of}
use Rattle.leaf_journal.specs.Records.{messages_of}
use Rattle.leaf_journal.proofs.KindRecords.{messages_pass}
use Rattle.plasma_tx.specs.declared.owner.Owner.{Owner}
use Rattle.plasma_tx.specs.declared.body.Body.{Body}
use Rattle.plasma_tx.specs.declared.signed_tx.SignedTx.{SignedTx}
use Rattle.plasma_tx.specs.declared.signed_tx.TxRefusal.{TxRefusal}
use Rattle.plasma_tx.specs.declared.call.RootCall.{RootCall}
use Rattle.plasma_tx.specs.Spelling.{IsBody, body_at_start, body_in, body_length, body_text, has_first_mark, has_second_mark, signed_in, signed_text}
use Rattle.plasma_tx.proofs.Parts.{range-front}
use Rattle.plasma_tx.proofs.Spellings.{Fits, body_in-ok, signed_in-fits, signed_in-text}
use Rattle.coin_history.specs.Bundles.{bundle_in}
use Rattle.wallet_core.specs.declared.notes.LeafRecord.{LeafRecord}
use Rattle.wallet_core.specs.declared.coin_state.CoinState.{CoinState}
use Rattle.wallet_core.specs.declared.coin_state.CoinState.TheVariants.{Held}
use Rattle.node_rules.specs.declared.answers.Sent.{Sent}
use Rattle.node_rules.specs.declared.refusal.WalletRefusal.{WalletRefusal}
use Rattle.node_rules.specs.Kept.{links_handed}
use Rattle.node_rules.specs.WalletRecords.{secret_of, who_is, wallet_kinds, is_body, leaves_in}
use Rattle.node_rules.specs.Wallet.{WalletRecords, who, noted, used, sent_by, send_from, coin_state, accept_effect, send_effect, leave_effect, reclaim_effect, migrate_effect, names_coin, last_leaf, again_by, again_answer}
use Rattle.node_rules.specs.WalletOpening.{leaves_of, is_wallet}
use Rattle.node_rules.specs.WalletCommandLaws.{with_more, sent_body, AddsSent, AddsMarker}
use Rattle.node_rules.proofs.WalletGrow.{who-same, wallet-parts}
use Rattle.node_rules.proofs.WalletTips.{tag-long, tip-fits}
use Rattle.node_rules.proofs.WalletRole.{held-tip, sends_add_their_leaves, migrations_add_the_marker}
use Rattle.node_rules.proofs.WalletAdded.{accept-leaf, leave-leaf, reclaim-leaf}
use Rattle.tag_laws.specs.Tags.{tag_named, IsOfChain}
use Rattle.tag_laws.specs.Wallets.{SentAreOfTheChain, OwnLeaves, NewWalletsAreOwn, WalletsStayOwn, GivesLeaf, AgainGivesItsLeaf, OwnAgainIsOfTheChain, OtherAgainIsRefused}
use Rattle.tag_laws.proofs.Tags.{read_transfers_have_the_tag, others_are_refused}

-- ---- send

answer-same : (one other : Sent) (r : Result Sent WalletRefusal) → r ≡ Ok one → r ≡ Ok other → one ≡ other
answer-same one other r is same = cc

-- a coin that is sent is held, and what is given is the body's text with the leaf's signature
sent-from : (wallet : WalletRecords) (log : List RootCall) (coin : ℕ) (to : Owner) (last : Option ℕ)
    (state : CoinState) (sent : Sent) → (send_from wallet log coin to last state).answer ≡ Ok sent
    → (tip : ℕ) × (state ≡ Held tip)
    × (sent_by (who wallet) (used wallet) (body_text (sent_body wallet coin tip to last)) ≡ sent)
sent-from wallet log coin to last state sent is = grind (arith, common_steps, answer-same)

pub sent_are_of_the_chain : SentAreOfTheChain
unfolding send_effect signed_text
sent_are_of_the_chain dig wallet log coin to last sent is words may answered =
    let found = sent-from wallet log coin to last (coin_state dig wallet log coin) sent answered in
    let body = sent_body wallet coin found.0 to last in
    let tx : SignedTx = record {
      body = body;
      signature = signature_of (secret_of (who wallet)) (used wallet) (body_text body);
    } in
    let fits : IsBody body = record {
      tag = tag-long dig wallet.notes (wallet-parts dig wallet is).role;
      coin = may.coin_fits;
      parent = tip-fits dig wallet log coin found.0 words (held-tip dig wallet log coin found.0 found.1);
      to = may.owner;
      last = may.last_fits;
    } in
    let own = read_transfers_have_the_tag (who wallet).tag (signed_text tx) tx (signed_in-text tx fits) in
    (found.0, found.1, (tx, refl, subst (λ (s : Sent). IsOfChain (who wallet).tag coin s.bytes tx) found.2 own))

-- ---- a wallet's leaves stay of its chain

-- the identity stays behind each record that is added
who-after : (dig : List ℕ → List ℕ) (notes : List (List ℕ)) (more : Option (List ℕ))
    → are_of (wallet_kinds dig) notes ≡ true → who_is (with_more more notes) ≡ who_is notes
who-after dig notes more role = grind (arith, common_steps, false≢true, who-same)

-- leaves of a tag
abbrev HaveTag : List ℕ → List LeafRecord → Type 0
HaveTag tag leaves = All (λ leaf. leaf.body.tag ≡ tag) leaves

module _ (dig : List ℕ → List ℕ) (wallet : WalletRecords) (is : is_wallet dig wallet ≡ true)
    (own : OwnLeaves wallet) where
  -- records of a wallet whose leaves bind the same, or what is of its tag beside
  stay-own : (note leaf : Option (List ℕ)) → HaveTag (who wallet).tag (leaves_in (with_more leaf wallet.leaves))
      → OwnLeaves (record { notes = with_more note wallet.notes; leaves = with_more leaf wallet.leaves })
  stay-own note leaf all =
      subst (λ (t : List ℕ). HaveTag t (leaves_in (with_more leaf wallet.leaves)))
      (sym (ap (λ w. w.tag) (who-after dig wallet.notes note (wallet-parts dig wallet is).role))) all

  no-leaf : (leaf : Option (List ℕ)) → leaf ≡ None
      → HaveTag (who wallet).tag (leaves_in (with_more leaf wallet.leaves))
  no-leaf leaf none =
      subst (λ (l : Option (List ℕ)). HaveTag (who wallet).tag (leaves_in (with_more l wallet.leaves))) (sym none) own

  sent-leaf : (log : List RootCall) (coin : ℕ) (to : Owner) (last : Option ℕ) (leaf : Option (List ℕ))
      → IfSome leaf (AddsSent dig wallet log coin to last)
      → HaveTag (who wallet).tag (leaves_in (with_more leaf wallet.leaves))
  sent-leaf log coin to last None adds = own
  sent-leaf log coin to last (Some leaf) adds =
      let tag : List ℕ = (who wallet).tag in
      let body = sent_body wallet coin adds.0 to last in
      subst (HaveTag tag) (sym adds.2.bodies)
      (All-append (λ (l : LeafRecord). l.body.tag ≡ tag) (leaves_in wallet.leaves) (record { body = body } ∷ []) own
      (All-cons (λ (l : LeafRecord). l.body.tag ≡ tag) (record { body = body }) [] refl
      (All-nil (λ (l : LeafRecord). l.body.tag ≡ tag))))

  marked-leaf : (leaf : Option (List ℕ)) → IfSome leaf (AddsMarker wallet)
      → HaveTag (who wallet).tag (leaves_in (with_more leaf wallet.leaves))
  marked-leaf None adds = own
  marked-leaf (Some leaf) adds = subst (HaveTag (who wallet).tag) (sym adds.2) own

accepted-none : (dig : List ℕ → List ℕ) (wallet : WalletRecords) (log : List RootCall) (bytes : List ℕ)
    → (accept_effect dig wallet log bytes).leaf ≡ None
unfolding accept_effect
accepted-none dig wallet log bytes =
    accept-leaf log (noted dig wallet) (links_handed dig (who wallet).tag log bytes)

left-none : (dig : List ℕ → List ℕ) (wallet : WalletRecords) (log : List RootCall) (coin : ℕ)
    → (leave_effect dig wallet log coin).leaf ≡ None
unfolding leave_effect
left-none dig wallet log coin = leave-leaf dig wallet log coin (coin_state dig wallet log coin)

reclaimed-none : (dig : List ℕ → List ℕ) (wallet : WalletRecords) (log : List RootCall) (bytes : List ℕ)
    → (reclaim_effect dig wallet log bytes).leaf ≡ None
unfolding reclaim_effect
reclaimed-none dig wallet log bytes = reclaim-leaf dig wallet log (bundle_in bytes)

pub new_wallets_are_own : NewWalletsAreOwn
new_wallets_are_own notes = All-nil (λ (l : LeafRecord). l.body.tag ≡ (who_is notes).tag)

pub wallets_stay_own : WalletsStayOwn
wallets_stay_own dig wallet log coin to last bytes is words may own =
    let accepts = accept_effect dig wallet log bytes in
    let sends = send_effect dig wallet log coin to last in
    let leaves = leave_effect dig wallet log coin in
    let reclaims = reclaim_effect dig wallet log bytes in
    let migrates = migrate_effect wallet in
    record {
      accept = stay-own dig wallet is own accepts.note accepts.leaf
          (no-leaf dig wallet is own accepts.leaf (accepted-none dig wallet log bytes));
      send = stay-own dig wallet is own sends.note sends.leaf
          (sent-leaf dig wallet is own log coin to last sends.leaf
          (sends_add_their_leaves dig wallet log coin to last is words may.coin_fits may.owner may.last_fits));
      leave = stay-own dig wallet is own leaves.note leaves.leaf
          (no-leaf dig wallet is own leaves.leaf (left-none dig wallet log coin));
      reclaim = stay-own dig wallet is own reclaims.note reclaims.leaf
          (no-leaf dig wallet is own reclaims.leaf (reclaimed-none dig wallet log bytes));
      migrate = stay-own dig wallet is own migrates.note migrates.leaf
          (marked-leaf dig wallet is own migrates.leaf (migrations_add_the_marker wallet));
    }

-- ---- again

-- what is found passes the test
found-passes : {X : Type 0} (test : X → Bool) (xs : List X) (x : X) → find test xs ≡ Some x → test x ≡ true
found-passes test [] x is = absurd (cc is)
found-passes {X} test (y ∷ ys) x is =
    (elim (test y) as (λ b. test y ≡ b → (if b then Some y else find test ys) ≡ Some x → test x ≡ true) [
      | true ↦ λ passes same. let e : y ≡ x = same-of y x same in subst (λ (z : X). test z ≡ true) e passes
      | false ↦ λ fails rest. found-passes test ys x rest
    ]) refl is
  where
    same-of : (a b : X) → Some a ≡ Some b → a ≡ b
    same-of a b e = cc

-- the message of a leaf that names the coin
named-message : (messages : List (List ℕ)) (coin q : ℕ)
    → option_map_or (λ (leaf : LeafRecord). leaf.body.coin == coin)
    (slice_get (map (λ message. record { body = body_at_start message }) messages) q) false ≡ true
    → (message : List ℕ) × (slice_get messages q ≡ Some message) × ((body_at_start message).coin ≡ coin)
named-message [] coin q is = absurd (cc is)
named-message (message ∷ messages) coin zero is =
    (message, refl, eqb-true (body_at_start message).coin coin is)
named-message (message ∷ messages) coin (suc q) is = named-message messages coin q is

-- what each message has the one of a leaf has
each-at : (P : List ℕ → Type 0) (messages : List (List ℕ)) (q : ℕ) (message : List ℕ) → AllByRecursion P messages
    → slice_get messages q ≡ Some message → P message
each-at P [] q message all is = absurd (cc is)
each-at P (m ∷ ms) zero message all is = let e : m ≡ message = cc is in subst P e all.0
each-at P (m ∷ ms) (suc q) message all is = each-at P ms q message all.1 is

-- a message with a signature behind it begins as it does
fits-more : (message more : List ℕ) → Fits (slice_range message 4 36) message
    → Fits (slice_range message 4 36) (message ++ more)
fits-more message more fits = record {
  long = subst (λ (n : ℕ). n ≤ length (message ++ more)) (sym length-same)
      (omega (arith, fits.long, length-append message more));
  marked = marks message (omega (arith, long)) ∙ fits.marked;
  tagged = range-front message more 4 36 (omega arith) (omega (arith, long));
}
  where
    long : 116 ≤ length message
    long = grind (arith, common_steps)

    second : (m : List ℕ) → 4 ≤ length m → has_second_mark (m ++ more) ≡ has_second_mark m
    second [] le = absurd (omega arith)
    second (a ∷ []) le = absurd (omega arith)
    second (a ∷ b ∷ []) le = absurd (omega arith)
    second (a ∷ b ∷ c ∷ []) le = absurd (omega arith)
    second (a ∷ b ∷ c ∷ d ∷ rest) le = refl

    length-same : body_length (message ++ more) ≡ body_length message
    length-same = ap (λ (b : Bool). if b then 124 else 116) (second message (omega (arith, long)))

    marks : (m : List ℕ) → 4 ≤ length m
        → (has_first_mark (m ++ more) || has_second_mark (m ++ more)) ≡ (has_first_mark m || has_second_mark m)
    marks [] le = absurd (omega arith)
    marks (a ∷ []) le = absurd (omega arith)
    marks (a ∷ b ∷ []) le = absurd (omega arith)
    marks (a ∷ b ∷ c ∷ []) le = absurd (omega arith)
    marks (a ∷ b ∷ c ∷ d ∷ rest) le = refl

-- a body with whatever behind it is read as a transfer of the body's tag and coin
body-more : (message more : List ℕ) (coin : ℕ) → is_body message ≡ true → (body_at_start message).coin ≡ coin
    → (tx : SignedTx) × IsOfChain (tag_named message) coin (message ++ more) tx
body-more message more coin is coin_is =
    let fits = fits-of (body_in (slice_range message 4 36) message) refl
    (and_parts (is_ok (body_in (slice_range message 4 36) message)) (length message == body_length message) is).0 in
    let tag = slice_range message 4 36 in
    let tx : SignedTx = record {
      body = body_at_start (message ++ more);
      signature = drop (body_length (message ++ more)) (message ++ more);
    } in
    let own = read_transfers_have_the_tag tag (message ++ more) tx
    (signed_in-fits tag (message ++ more) (fits-more message more fits)) in
    (tx, subst (λ (c : ℕ). IsOfChain tag c (message ++ more) tx) (coin-more fits ∙ coin_is) own)
  where
    fits-of : (r : Result Body TxRefusal) → body_in (slice_range message 4 36) message ≡ r → is_ok r ≡ true
        → Fits (slice_range message 4 36) message
    fits-of (Err why) read wrong = absurd (cc wrong)
    fits-of (Ok body) read right = (body_in-ok (slice_range message 4 36) message body read).0

    coin-more : Fits (slice_range message 4 36) message
        → (body_at_start (message ++ more)).coin ≡ (body_at_start message).coin
    coin-more fits = ap (λ (part : List ℕ). from_be_bytes w64 part)
        (range-front message more 36 44 (omega arith) (at (has_second_mark message) fits.long))
      where
        at : (second : Bool) → (if second then 124 else 116) ≤ length message → 44 ≤ length message
        at true le = omega arith
        at false le = omega arith

pub again_gives_its_leaf : AgainGivesItsLeaf
unfolding again_answer
again_gives_its_leaf dig wallet coin sent is answered =
    at (last_leaf (leaves_in wallet.leaves) coin) refl answered
  where
    at : (found : Option ℕ) → last_leaf (leaves_in wallet.leaves) coin ≡ found → again_by wallet found ≡ Ok sent
        → GivesLeaf wallet coin sent
    at None none wrong = absurd (cc wrong)
    at (Some q) some same =
        let names = found-passes (names_coin (leaves_in wallet.leaves) coin)
        (reverse (range_with_len 0 (length (leaves_in wallet.leaves)))) q some in
        let named = named-message (messages_of wallet.leaves) coin q names in
        let are = wallet-parts dig wallet is in
        let passes = each-at (λ (m : List ℕ). is_body m ≡ true) (messages_of wallet.leaves) q named.0
        (recursion_from_All (λ (m : List ℕ). is_body m ≡ true) (messages_of wallet.leaves)
        (messages_pass is_body (leaves_of wallet.notes) wallet.leaves wallet.leaves are.leaves)) named.1 in
        let signed = signature_of (secret_of (who wallet)) q named.0 in
        let own = body-more named.0 signed coin passes named.2 in
        let given : sent_by (who wallet) q named.0 ≡ sent =
        ap (λ (o : Option (List ℕ)). sent_by (who wallet) q (unwrap_or o [])) (sym named.1)
        ∙ answer-same (sent_by (who wallet) q (unwrap_or (slice_get (messages_of wallet.leaves) q) [])) sent
        (Ok (sent_by (who wallet) q (unwrap_or (slice_get (messages_of wallet.leaves) q) []))) refl same in
        subst (GivesLeaf wallet coin) given
        (record { message = named.0; bound = named.1; bytes_are = refl; tx = own.0; of_leaf = own.1 })

-- leaves of a tag bind messages of it
tags-at : (tag : List ℕ) (messages : List (List ℕ))
    → AllByRecursion (λ (l : LeafRecord). l.body.tag ≡ tag)
    (map (λ message. record { body = body_at_start message }) messages)
    → AllByRecursion (λ message. tag_named message ≡ tag) messages
tags-at tag [] all = tt
tags-at tag (message ∷ messages) all = (all.0, tags-at tag messages all.1)

pub own_again_is_of_the_chain : OwnAgainIsOfTheChain
own_again_is_of_the_chain dig wallet coin sent is own answered =
    let gives = again_gives_its_leaf dig wallet coin sent is answered in
    let tag : List ℕ = (who wallet).tag in
    let same = each-at (λ (m : List ℕ). tag_named m ≡ tag) (messages_of wallet.leaves) sent.q gives.message
    (tags-at tag (messages_of wallet.leaves)
    (recursion_from_All (λ (l : LeafRecord). l.body.tag ≡ tag) (leaves_in wallet.leaves) own)) gives.bound in
    (gives.tx, subst (λ (t : List ℕ). IsOfChain t coin sent.bytes gives.tx) same gives.of_leaf)

pub other_again_is_refused : OtherAgainIsRefused
other_again_is_refused dig wallet coin sent is answered other =
    let gives = again_gives_its_leaf dig wallet coin sent is answered in
    others_are_refused (who wallet).tag sent.bytes gives.tx other
    (subst (λ (t : List ℕ). signed_in t sent.bytes ≡ Ok gives.tx) (sym gives.of_leaf.named) gives.of_leaf.read)
