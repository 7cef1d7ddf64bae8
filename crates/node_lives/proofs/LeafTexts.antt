-- What a wallet's order gives out by a leaf is the message that the leaf binds in the records that it leaves, with its
-- signature.
use Rattle.std.proofs.Common.{◌≡◌, ◌<◌, ◌^◌, ◌==◌, ℕ, zero, suc, Bool, true, false, if◌then◌else◌, List, [], ◌∷◌, ◌++◌, length, map, drop, Option, Some, None, refl, sym, ap, ◌∙◌, subst, arith}
use Rattle.std.specs.Prelude.{Result, IfSome, find, slice_get, option_map, reverse}
use Rattle.std.specs.Option.{option_map_or}
use Rattle.std.specs.List.{range_with_len}
use Rattle.std.proofs.lemmas.Option.{slice_get-map}
use Rattle.std.proofs.lemmas.Grind.{common_steps}
use Rattle.plasma_tx.specs.declared.owner.Owner.{Owner}
use Rattle.plasma_tx.specs.declared.call.RootCall.{RootCall}
use Rattle.plasma_tx.specs.Views.{blocks}
use Rattle.plasma_tx.specs.Spelling.{IsOwner, body_text, body_at_start}
use Rattle.wallet_core.specs.declared.notes.LeafRecord.{LeafRecord}
use Rattle.gate_journal.specs.Life.{Continue}
use Rattle.leaf_journal.specs.Records.{is_marked, messages_of, binding_record}
use Rattle.leaf_journal.proofs.Messages.{messages-append}
use Rattle.node_rules.specs.declared.answers.Sent.{Sent}
use Rattle.node_rules.specs.declared.refusal.WalletRefusal.{WalletRefusal}
use Rattle.node_rules.specs.WalletRecords.{leaves_in}
use Rattle.node_rules.specs.Wallet.{WalletRecords, WalletEffect, who, used, sent_by, send_body, names_coin, last_leaf, accept_effect, send_effect, again_answer, leave_effect, reclaim_effect, migrate_effect}
use Rattle.node_rules.specs.WalletCommandLaws.{FitWords, sent_body, AddsSent}
use Rattle.node_rules.proofs.WalletRole.{sends_add_their_leaves}
use Rattle.node_replies.specs.declared.reply.Reply.{Reply}
use Rattle.node_replies.specs.Causes.{wallet_cause}
use Rattle.node_replies.specs.Orders.{Response, Doing, answered, wallet_doing, on_accepted, on_sent, on_leaving, on_reclaimed, on_migrated, wallet_does}
use Rattle.node_replies.proofs.WalletEnds.{SendEnds, Refused, Sends, send_ends}
use Rattle.node_replies.specs.declared.order.WalletOrder.{WalletOrder}
use Rattle.node_lines.specs.declared.wallet_line.WalletLine.{WalletLine}
use Rattle.node_lines.specs.Grammar.{IsWalletLine}
use Rattle.line_forms.specs.Forms.{IsOptional}
use Rattle.line_forms.specs.Tokens.{number}
use Rattle.node_lives.specs.Standing.{GoOn}
use Rattle.node_lives.proofs.Own.{with_added}
use Rattle.node_lives.proofs.WalletOrders.{IsGood}

-- the bytes are those that a wallet gives out of the message that leaf q binds
pub record IsOfLeaf (wallet : WalletRecords) (q : ℕ) (made : List ℕ) : Type 0 where
  pub message : List ℕ
  pub bound : slice_get (messages_of wallet.leaves) q ≡ Some message
  pub is : made ≡ (sent_by (who wallet) q message).bytes

-- ---- lists

found-passes : {X : Type 0} (test : X → Bool) (xs : List X) (x : X) → find test xs ≡ Some x → test x ≡ true
found-passes test [] x found = absurd (cc found)
found-passes test (y ∷ ys) x found = grind (arith, common_steps, found-passes test ys x) steps 20000

pub got-behind : {X : Type 0} (xs ys : List X) (k : ℕ) (x : X) → slice_get xs k ≡ Some x → slice_get (xs ++ ys) k ≡ Some x
got-behind [] ys k x got = absurd (cc got)
got-behind (y ∷ xs) ys zero x got = got
got-behind (y ∷ xs) ys (suc k) x got = got-behind xs ys k x got

pub got-last : {X : Type 0} (xs : List X) (x : X) → slice_get (xs ++ x ∷ []) (length xs) ≡ Some x
got-last [] x = refl
got-last (y ∷ xs) x = got-last xs x

-- what is sent has 64 bits, and goes to an owner
abbrev pub IsSaneOrder : WalletOrder → Type 0
IsSaneOrder (WalletOrder.Send coin to last) =
    (coin < 2 ^ 64) × IsOwner to × IfSome last (λ n. n < 2 ^ 64)
IsSaneOrder order = Unit {0}

sane-last : (last : Option ℕ) → IsOptional number last → IfSome last (λ n. n < 2 ^ 64)
sane-last None is = tt
sane-last (Some n) is = is

pub sane-order : (order : WalletOrder) → IsWalletLine (WalletLine.Order order) → IsSaneOrder order
sane-order (WalletOrder.Send coin to last) is = (is.0, is.1.0.0, sane-last last is.1.1.0)
sane-order _ is = tt

-- ---- one order

-- a message as a leaf's record; whether one is of the coin
abbrev read : List ℕ → LeafRecord
read message = record { body = body_at_start message }

abbrev names : ℕ → Option LeafRecord → Bool
names coin leaf = option_map_or (λ (l : LeafRecord). l.body.coin == coin) leaf false

module _ (dig : List ℕ → List ℕ) (log : List RootCall) (wallet : WalletRecords) (good : IsGood dig wallet)
    (few : blocks log < 2 ^ 64) where
  words : FitWords wallet log
  words = record { notes = good.bytes; blocks = few }

  -- what an order gives out by a leaf
  abbrev GivesLeaf : Doing → Type 0
  GivesLeaf doing = (q : ℕ) → doing.response.reply ≡ Reply.Sent q
      → IsOfLeaf (with_added wallet doing.note doing.leaf) q doing.response.made

  -- an order that isn't answered with one
  other-gives : {A : Type 0} (give : A → Response) → ((done : A) (q : ℕ) → (give done).reply ≡ Reply.Sent q → ⊥)
      → (effect : WalletEffect (Result A WalletRefusal)) → GivesLeaf (wallet_doing give effect)
  other-gives give never effect q = grind (arith, common_steps, with_added) steps 20000

  send-gives : (coin : ℕ) (to : Owner) (last : Option ℕ) → coin < 2 ^ 64 → IsOwner to → IfSome last (λ n. n < 2 ^ 64)
      → GivesLeaf (wallet_doing on_sent (send_effect dig wallet log coin to last))
  send-gives coin to last coin_fits owner last_fits = by _ (send_ends dig wallet log coin to last) refl
    where
      by : (effect : WalletEffect (Result Sent WalletRefusal)) → SendEnds dig wallet log coin to last effect
          → send_effect dig wallet log coin to last ≡ effect → GivesLeaf (wallet_doing on_sent effect)
      by effect (Refused why is) same =
          subst (λ e. GivesLeaf (wallet_doing on_sent e)) (sym is) (λ q wrong. absurd (cc wrong))
      by effect (Sends tip held is) same =
          let body = sent_body wallet coin tip to last in
          let added : IfSome (send_body wallet body).leaf (AddsSent dig wallet log coin to last) =
          subst (λ e. IfSome e.leaf (AddsSent dig wallet log coin to last)) (same ∙ is)
          (sends_add_their_leaves dig wallet log coin to last good.is words coin_fits owner last_fits) in
          let one : added.0 ≡ tip = cc (added.1, held) in
          let messages : messages_of (wallet.leaves ++ binding_record wallet.leaves (body_text body) ∷ [])
          ≡ messages_of wallet.leaves ++ body_text body ∷ [] =
          subst
          (λ (t : ℕ). messages_of (wallet.leaves ++ binding_record wallet.leaves (body_text body) ∷ [])
          ≡ messages_of wallet.leaves ++ body_text (sent_body wallet coin t to last) ∷ []) one added.2.messages in
          subst (λ e. GivesLeaf (wallet_doing on_sent e)) (sym is)
          (λ q sent.
          let number : used wallet ≡ q = cc sent in
          record {
            message = body_text body;
            bound =
                ap (λ (l : List (List ℕ)). slice_get l q) messages
                ∙ ap (slice_get (messages_of wallet.leaves ++ body_text body ∷ [])) (sym number)
                ∙ got-last (messages_of wallet.leaves) (body_text body);
            is = ap (λ (k : ℕ). (sent_by (who wallet) k (body_text body)).bytes) number;
          })

  -- the last leaf that names a coin binds a message
  last-binds : (coin q : ℕ) → last_leaf (leaves_in wallet.leaves) coin ≡ Some q
      → (message : List ℕ) × (slice_get (messages_of wallet.leaves) q ≡ Some message)
  last-binds coin q found = by (slice_get (messages_of wallet.leaves) q) refl
    where
      passes : names coin (option_map read (slice_get (messages_of wallet.leaves) q)) ≡ true
      passes =
          ap (names coin) (sym (slice_get-map read (messages_of wallet.leaves) q))
          ∙ found-passes (names_coin (leaves_in wallet.leaves) coin)
          (reverse (range_with_len 0 (length (leaves_in wallet.leaves)))) q found

      by : (o : Option (List ℕ)) → slice_get (messages_of wallet.leaves) q ≡ o
          → (message : List ℕ) × (slice_get (messages_of wallet.leaves) q ≡ Some message)
      by (Some message) some = (message, some)
      by None none =
          absurd (let wrong : false ≡ true =
          ap (λ (o : Option (List ℕ)). names coin (option_map read o)) (sym none) ∙ passes in
          cc wrong)

  again-gives : (coin q : ℕ)
      → (answered wallet_cause on_sent (again_answer wallet coin)).reply ≡ Reply.Sent q
      → IsOfLeaf wallet q (answered wallet_cause on_sent (again_answer wallet coin)).made
  unfolding again_answer
  again-gives coin q = grind (arith, common_steps, last-binds) steps 150000

  -- what an order gives out by a leaf
  pub order-gives : (order : WalletOrder) → IsSaneOrder order → GivesLeaf (wallet_does dig log wallet order)
  unfolding wallet_does
  order-gives (WalletOrder.Accept bundle) sane =
      other-gives on_accepted (λ done q wrong. cc wrong) (accept_effect dig wallet log bundle)
  order-gives (WalletOrder.Send coin to last) sane = send-gives coin to last sane.0 sane.1 sane.2
  order-gives (WalletOrder.Again coin) sane = again-gives coin
  order-gives (WalletOrder.Leave coin) sane =
      other-gives on_leaving (λ done q wrong. cc wrong) (leave_effect dig wallet log coin)
  order-gives (WalletOrder.Reclaim bundle) sane =
      other-gives on_reclaimed (λ done q wrong. cc wrong) (reclaim_effect dig wallet log bundle)
  order-gives WalletOrder.Migrate sane =
      other-gives on_migrated (λ done q wrong. cc wrong) (migrate_effect wallet)
  order-gives WalletOrder.Watch sane = λ q wrong. absurd (cc wrong)

-- ---- later

pub messages-on : (earlier later : List (List ℕ)) → Continue earlier later
    → Continue (messages_of earlier) (messages_of later)
messages-on earlier later on = (
  (if is_marked earlier then map (drop 4) on.0 else messages_of on.0),
  ap messages_of on.1 ∙ messages-append earlier on.0,
)

-- it stays the same with more records of the same wallet
pub leaf-stays : (wallet later : WalletRecords) (q : ℕ) (made : List ℕ) → GoOn wallet later
    → who later ≡ who wallet → IsOfLeaf wallet q made → IsOfLeaf later q made
leaf-stays wallet later q made on same of =
    let more = messages-on wallet.leaves later.leaves on.leaves in
    record {
      message = of.message;
      bound =
          ap (λ (l : List (List ℕ)). slice_get l q) more.1
          ∙ got-behind (messages_of wallet.leaves) more.0 q of.message of.bound;
      is = of.is ∙ ap (λ w. (sent_by w q of.message).bytes) (sym same);
    }

-- and is one
pub leaf-one : (wallet : WalletRecords) (q : ℕ) (made also : List ℕ) → IsOfLeaf wallet q made → IsOfLeaf wallet q also
    → made ≡ also
leaf-one wallet q made also one other =
    let same : one.message ≡ other.message = (let a = one.bound in let b = other.bound in cc (a, b)) in
    one.is ∙ ap (λ (m : List ℕ). (sent_by (who wallet) q m).bytes) same ∙ sym other.is
