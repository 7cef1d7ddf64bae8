-- What a wallet's command gives out that is answered with a leaf is the body that the leaf binds, with the signature.
use Rattle.world_laws.proofs.Basics.{◌≡◌, ℕ, ◌^◌, ◌<◌, Bool, true, false, if◌then◌else◌, List, [], ◌∷◌, ◌++◌, Option, Some, None, refl, sym, ap, ◌∙◌, subst, arith, Result, IfSome, slice_get, unwrap_or, and_parts, eq-eqb, common_steps, some_same}
use Rattle.world_laws.proofs.CoinWords.{signature_of, Owner, Body, RootCall, IsBody, body_text, body_at_start}
use Rattle.world_laws.proofs.NodeWords.{messages_of, Sent, WalletRefusal, secret_of, leaves_in, WalletRecords, WalletEffect, who, used, last_leaf, send_effect, again_by, again_answer, leave_effect, migrate_effect, accept_effect, sent_body, Reply, wallet_cause, NodeOrder, WalletOrder, Response, answered, on_sent, on_leaving, on_migrated, again_does, wallet_does, on_accepted, SendEnds, Refused, Sends, send_ends}
use Rattle.world_laws.proofs.WorldWords.{option_map_some, Line, Command, WalletCommand, Event, Binds, Other, bound_by, leaf_at, Node, World, is_wallet_role, number_of, wallet_of, Deed, wallet_order, order_of, event_of, each-answer, LineEffect, without_offers, IsCommandIn, position-is, IsGoodOwner, IsFitOrder, KeptWallet, KeptWorld, few-blocks, said, Place, Cut, Act, Rests, Orders, End, Whole, Crashed, Kept, Lost, act_of, end_effect, done, end_of, deed_at, IsFitAct, IsFound, understood-in, body-signed, sent-is}
use Rattle.node_rules.specs.WalletRecords.{who_is}
use Rattle.world_laws.proofs.SignedMessages.{leaf-newest, used-is, message-body, last-message}

-- The bytes are the text of the body that leaf q of node n binds, with the event, and the signature of it by that leaf.
pub record IsMade (events : List Event) (n : ℕ) (node : Node) (event : Event) (made : List ℕ) (q : ℕ) : Type 0 where
  pub body : Body
  pub leaf : leaf_at q (bound_by (event ∷ events) n) ≡ Some body
  pub made_is : made ≡ body_text body ++ signature_of (secret_of (who_is node.notes)) q (body_text body)

-- in a cut the event binds the same
pub cut-bound : (n m : ℕ) (event : Event) (events : List Event)
    → bound_by (without_offers n event ∷ events) m ≡ bound_by (event ∷ events) m
unfolding bound_by
cut-bound n m event events = grind (arith, common_steps)

-- ---- a wallet's commands

module _ (dig : List ℕ → List ℕ) (events : List Event) (world : World) (kept : KeptWorld dig events world) (n : ℕ)
    (node : Node) (node_is : slice_get world.nodes n ≡ Some node) (role : is_wallet_role node.role ≡ true) where
  abbrev wallet : WalletRecords
  wallet = wallet_of node

  abbrev log : List RootCall
  log = world.chain.log

  wallet-kept : KeptWallet dig (said events n) log wallet
  wallet-kept = (kept.nodes n node node_is).wallet role

  -- what an order gives out
  abbrev MakesBy : WalletOrder → Response → Type 0
  MakesBy order response =
      (q : ℕ) → response.reply ≡ Reply.Sent q
      → IsMade events n node (event_of n (NodeOrder.Wallet order) response) response.made q

  -- what isn't answered with a leaf
  others : {A : Type 0} (order : WalletOrder) (give : A → Response)
      → ((answer : A) (q : ℕ) → (give answer).reply ≡ Reply.Sent q → ⊥) → (result : Result A WalletRefusal)
      → MakesBy order (answered wallet_cause give result)
  others order give never result =
      each-answer (MakesBy order) wallet_cause give result (λ answer made q is. absurd (never answer q is))
      (λ why q wrong. absurd (cc wrong))

  -- a transfer that is signed
  module _ (coin : ℕ) (to : Owner) (last : Option ℕ) (coin_fits : coin < 2 ^ 64) (good : IsGoodOwner to)
      (last_fits : IfSome last (λ n. n < 2 ^ 64)) where
    sent-made : (body : Body) (signature : List ℕ) → IsBody body → (q : ℕ) → used wallet ≡ q
        → leaf_at q (bound_by (Binds n (body_at_start (body_text body ++ signature)) ∷ events) n) ≡ Some body
    unfolding bound_by said
    sent-made body signature fits q number =
        ap (λ b. leaf_at q (if b then body_at_start (body_text body ++ signature) ∷ bound_by events n
        else bound_by events n)) (eq-eqb n n refl)
        ∙ ap (λ (first : Body). leaf_at q (first ∷ bound_by events n)) (body-signed body signature fits)
        ∙ leaf-newest (bound_by events n) q body
        (sym number ∙ used-is dig (said events n) log wallet wallet-kept)

    sends : MakesBy (WalletOrder.Send coin to last)
        (answered wallet_cause on_sent (send_effect dig wallet log coin to last).answer)
    unfolding event_of
    sends = by (send_ends dig wallet log coin to last)
      where
        Sends_by : WalletEffect (Result Sent WalletRefusal) → Type 0
        Sends_by effect = MakesBy (WalletOrder.Send coin to last) (answered wallet_cause on_sent effect.answer)

        by : SendEnds dig wallet log coin to last (send_effect dig wallet log coin to last)
            → Sends_by (send_effect dig wallet log coin to last)
        by (Refused why is) = subst Sends_by (sym is) (λ q wrong. absurd (cc wrong))
        by (Sends tip held is) =
            let body = sent_body wallet coin tip to last in
            let sign : ℕ → List ℕ = λ q. signature_of (secret_of (who wallet)) q (body_text body) in
            subst Sends_by (sym is)
            (λ q same.
            let number : used wallet ≡ q = cc same in
            record {
              body = body;
              leaf = sent-made body (sign (used wallet)) (sent-is dig (said events n) log wallet wallet-kept
                  (few-blocks dig events world kept) coin to last coin_fits good.is good.key last_fits tip held) q
                  number;
              made_is = ap (λ (k : ℕ). body_text body ++ sign k) number;
            })

  -- a transfer that is made again
  again : (coin : ℕ) → MakesBy (WalletOrder.Again coin) (again_does wallet coin).response
  unfolding again_answer bound_by said event_of
  again coin = by (last_leaf (leaves_in wallet.leaves) coin) refl
    where
      of : (k q : ℕ) → last_leaf (leaves_in wallet.leaves) coin ≡ Some k → k ≡ q
          → IsMade events n node (Other n)
          (unwrap_or (slice_get (messages_of wallet.leaves) k) []
          ++ signature_of (secret_of (who wallet)) k (unwrap_or (slice_get (messages_of wallet.leaves) k) [])) q
      of k q found same =
          let there = last-message dig (said events n) log wallet wallet-kept coin k found in
          let bound = message-body dig (said events n) log wallet wallet-kept k there.0 there.1 in
          grind (arith, common_steps)

      by : (o : Option ℕ) → last_leaf (leaves_in wallet.leaves) coin ≡ o
          → MakesBy (WalletOrder.Again coin) (answered wallet_cause on_sent (again_by wallet o))
      by None none q is = absurd (cc is)
      by (Some k) found q is = of k q found (cc is)

  pub wallet-makes : (order : WalletOrder) → IsFitOrder (NodeOrder.Wallet order)
      → MakesBy order (wallet_does dig log wallet order).response
  unfolding wallet_does
  wallet-makes (WalletOrder.Accept bytes) fit =
      others (WalletOrder.Accept bytes) on_accepted (λ taken q wrong. cc wrong)
      (accept_effect dig wallet log bytes).answer
  wallet-makes (WalletOrder.Send coin to last) fit = sends coin to last fit.0 fit.1 fit.2
  wallet-makes (WalletOrder.Again coin) fit = again coin
  wallet-makes (WalletOrder.Leave coin) fit =
      others (WalletOrder.Leave coin) on_leaving (λ call q wrong. cc wrong) (leave_effect dig wallet log coin).answer
  wallet-makes (WalletOrder.Reclaim bytes) fit = grind (arith, common_steps, others)
  wallet-makes WalletOrder.Migrate fit =
      others WalletOrder.Migrate on_migrated (λ done q wrong. cc wrong) (migrate_effect wallet).answer
  wallet-makes WalletOrder.Watch fit = λ q wrong. absurd (cc wrong)

-- ---- a line

-- the line is a command of the wallet with the name, which makes what the leaf binds
pub record IsNew (events : List Event) (world : World) (effect : LineEffect) (name : List ℕ) (q : ℕ) : Type 0 where
  pub n : ℕ
  pub node : Node
  pub number : number_of is_wallet_role world name ≡ Some n
  pub node_is : slice_get world.nodes n ≡ Some node
  pub made : IsMade events n node effect.event effect.made q

module _ (dig : List ℕ → List ℕ) (events : List Event) (world : World) (kept : KeptWorld dig events world) where
  -- the node has a role that passes
  pub named-role : (name : List ℕ) (n : ℕ) (node : Node) → number_of is_wallet_role world name ≡ Some n
      → slice_get world.nodes n ≡ Some node → is_wallet_role node.role ≡ true
  named-role name n node number at = grind (arith, common_steps, position-is, some_same, and_parts)

  -- the act of a line with a command of the wallet, cut or not, that answers with the leaf
  pub new-sent : (line : Line) (act : Act) (name : List ℕ) (own : WalletCommand) (q : ℕ) → IsFitAct act
      → act_of world line ≡ Some act → IsCommandIn line (Command.Wallet name own)
      → (done dig world act).reply ≡ Reply.Sent q → IsNew events world (done dig world act) name q
  unfolding order_of done
  new-sent line act name own q fit is is_command sent =
      let (cut, by) = understood-in world line (Command.Wallet name own) act is is_command in
      let found = option_map_some NodeOrder.Wallet (wallet_order world own) by.order by.order_is in
      grind (arith, common_steps, ordered)
    where
      ended : (place : Place) (deed : Deed) → IsFound world is_wallet_role name place
          → ((k : ℕ) → deed.gives.reply ≡ Reply.Sent k
          → IsMade events place.number place.node deed.gives.event deed.gives.made k) → (end : End)
          → (end_effect world place deed end).reply ≡ Reply.Sent q
          → IsNew events world (end_effect world place deed end) name q
      ended place deed at makes Whole sent = grind (arith, common_steps)
      ended place deed at makes Crashed sent =
          let made = makes q sent in grind (arith, common_steps, cut-bound)
      ended place deed at makes Kept sent = absurd (cc sent)
      ended place deed at makes Lost sent = absurd (cc sent)

      ordered : (cut : Option Cut) (place : Place) → IsFound world is_wallet_role name place → (order : WalletOrder)
          → (b : Bool)
          → IsFitAct (if b then Rests Reply.Down else Orders place (NodeOrder.Wallet order) cut)
          → (done dig world (if b then Rests Reply.Down else Orders place (NodeOrder.Wallet order) cut)).reply
          ≡ Reply.Sent q
          → IsNew events world
          (done dig world (if b then Rests Reply.Down else Orders place (NodeOrder.Wallet order) cut)) name q
      ordered cut place at order true fit sent = absurd (cc sent)
      ordered cut place at order false fit sent =
          let deed = deed_at dig world place (NodeOrder.Wallet order) in
          ended place deed at
          (wallet-makes dig events world kept place.number place.node at.there at.role order fit)
          (end_of cut place.node (NodeOrder.Wallet order) deed) sent
