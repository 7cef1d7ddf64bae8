-- Calls that are entered and wallets that are declared are legal.
use Rattle.world_laws.proofs.Basics.{◌≡◌, ◌⊎◌, ℕ, Bool, true, false, if◌then◌else◌, List, length, Some, inl, inr, refl, sym, ap, ◌∙◌, subst, slice_get, arith, Contains, list_any, eqb-true, true≢false, false≢true, common_steps, some_same, none_some}
use Rattle.world_laws.proofs.CoinWords.{Owner, RootCall, Answer, tests_by, rules_of, answer_to, is_accepted, contains-has, has-contains}
use Rattle.world_laws.proofs.NodeWords.{WalletIdentity, owner_of}
use Rattle.world_laws.proofs.WorldWords.{Event, Joins, Bounces, log_of, wallet_owner, offers_of, Node, World, is_wallet_role, owner_of_node, is_declared_account, is_caller, may_be_wallet, event_of_call, Run, events_of, logs_are_of_events, Line, IsRun, starts_by, deposits_by, LegalDeclaration, IsLegalEvent, IsLegal, Origin, Plain, Deposits, Raw, Offered, IsFrom}
use Rattle.world_rules.proofs.OfferLaws.{offers_are_of_events}
use Rattle.world_laws.proofs.Holders.{holders, IsHeld, held-wallet, IsKnown, unknown-none}
use Rattle.world_laws.proofs.Identities.{wallet-node}
use Rattle.world_laws.proofs.Keeps.{Keeps, plain-moves, offered-has, raw-moves, holder-is, held-by, node-at, not-there, next-unknown, is-offer, account-new, not-held, runs-keep}
use Rattle.world_laws.proofs.Offers.{start-any}
use Rattle.world_laws.proofs.OwnExits.{offered_left}

-- what is known of the world behind a run's events
pub record IsBehind (events : List Event) (world : World) : Type 0 where
  pub keeps : Keeps events world
  pub log : world.chain.log ≡ log_of events
  pub offers : (n : ℕ) (node : Node) → slice_get world.nodes n ≡ Some node → node.offers ≡ offers_of events n

pub is-behind : (dig : List ℕ → List ℕ) (lines : List Line) (run : Run) (world : World) → IsRun dig lines run world
    → IsBehind (events_of run.entries) world
is-behind dig lines run world is = record {
  keeps = runs-keep dig lines run world is;
  log = logs_are_of_events dig lines run world is.run_is is.world_is;
  offers = λ n node node_is. offers_are_of_events dig lines run world n node is.run_is is.world_is node_is;
}

module _ (events : List Event) (world : World) (behind : IsBehind events world) where
  -- the node of a wallet that events declare
  pub record IsOwnNode (w : ℕ) (me : Owner) : Type 0 where
    pub node : Node
    pub node_is : slice_get world.nodes w ≡ Some node
    pub role : is_wallet_role node.role ≡ true
    pub me_is : owner_of_node node ≡ me
    pub account : node.account ≡ me.account

  pub own-node : (w : ℕ) (me : Owner) → wallet_owner events w ≡ Some me → IsOwnNode w me
  own-node w me me_is = grind (arith, common_steps, wallet-node, some_same, none_some, not-there, node-at)

  own-held : (w : ℕ) (me : Owner) → wallet_owner events w ≡ Some me → IsHeld (holders world.nodes) me.account
  own-held w me me_is =
      let own = own-node w me me_is in held-by world.nodes w own.node me.account own.node_is own.role own.account

  -- no two wallets have one account
  pub one-account : (w n : ℕ) (me : Owner) (node : Node) → wallet_owner events w ≡ Some me
      → slice_get world.nodes n ≡ Some node → is_wallet_role node.role ≡ true → node.account ≡ me.account → n ≡ w
  one-account w n me node me_is node_is role same =
      let own = own-node w me me_is in
      behind.keeps.accounts.distinct n w me.account (holder-is world.nodes n node me.account node_is role same)
      (holder-is world.nodes w own.node me.account own.node_is own.role own.account)

  -- ---- calls

  -- a start by a wallet's account is on its offer
  from-offered : (call : RootCall) (origin : Origin) → IsFrom world call origin → (w : ℕ) (me : Owner)
      → wallet_owner events w ≡ Some me → starts_by me.account call ≡ true → Contains (offers_of events w) call
  from-offered call Plain plain w me me_is start = absurd (plain-moves call me.account plain (inr start))
  from-offered call (Deposits place) from w me me_is start =
      absurd (false≢true (ap (starts_by me.account) (sym from.2.1) ∙ start))
  from-offered call (Raw account) from w me me_is start =
      let own : account ≡ me.account =
      eqb-true account me.account (raw-moves world account from.1.0 call me.account from.1.1 (inr start)) in
      absurd (true≢false (sym (held-wallet world account
      (subst (IsHeld (holders world.nodes)) (sym own) (own-held w me me_is))) ∙ from.0))
  from-offered call (Offered place) from w me me_is start =
      let by = (is-offer events world behind.keeps place call from.0 from.1).starts me.account start in
      grind (arith, common_steps, one-account, has-contains, offered-has)

  -- the event of a call that is entered is legal
  pub legal-entered : (dig : List ℕ → List ℕ) (call : RootCall) (origin : Origin) → IsFrom world call origin
      → IsLegal (tests_by dig) (rules_of world.chain) events
      → IsLegalEvent (tests_by dig) (rules_of world.chain) events
      (event_of_call call (answer_to (tests_by dig) (rules_of world.chain) world.chain.log call))
  legal-entered dig call origin from legal = by (is_accepted answer) refl
    where
      answer : Answer
      answer = answer_to (tests_by dig) (rules_of world.chain) world.chain.log call

      by_log : is_accepted answer
          ≡ is_accepted (answer_to (tests_by dig) (rules_of world.chain) (log_of events) call)
      by_log = ap (λ log. is_accepted (answer_to (tests_by dig) (rules_of world.chain) log call)) behind.log

      by : (b : Bool) → is_accepted answer ≡ b → IsLegalEvent (tests_by dig) (rules_of world.chain) events
          (if is_accepted answer then Joins call else Bounces call)
      by true is =
          subst (λ b. IsLegalEvent (tests_by dig) (rules_of world.chain) events
          (if b then Joins call else Bounces call)) (sym is)
          (record {
            accepted = sym by_log ∙ is;
            offered = grind (arith, has-contains, offered_left, contains-has, from-offered, start-any);
          })
      by false is = grind (arith, common_steps, by_log)

  -- ---- declarations

  -- the declaration of a wallet is legal
  pub legal-declared : (name : List ℕ) (who : WalletIdentity) → may_be_wallet world name who ≡ true
      → LegalDeclaration events (length world.nodes) (owner_of who)
  unfolding owner_of
  legal-declared name who may = record {
    new = (next-unknown events world behind.keeps).0;
    unused = (next-unknown events world behind.keeps).1;
    no_deposit = moved (deposits_by who.account) (λ call is. inl is);
    no_start = moved (starts_by who.account) (λ call is. inr is);
    own_account = λ v other other_is same. not-held events world behind.keeps who.account new.0
        (subst (IsHeld (holders world.nodes)) same (own-held v other other_is));
  }
    where
      new : (is_declared_account world who.account ≡ false) × (is_caller world who.account ≡ false)
      new = account-new events world behind.keeps name who may

      unknown : IsKnown (holders world.nodes) world.raw_callers who.account → ⊥
      unknown (inl held) = not-held events world behind.keeps who.account new.0 held
      unknown (inr is) = true≢false (sym is ∙ new.1)

      moved : (p : RootCall → Bool)
          → ((call : RootCall) → p call ≡ true
          → (deposits_by who.account call ≡ true) ⊎ (starts_by who.account call ≡ true))
          → list_any p (log_of events) ≡ false
      moved p moves =
          ap (list_any p) (sym behind.log)
          ∙ unknown-none (holders world.nodes) world.raw_callers world.chain.log p who.account moves
          behind.keeps.accounts unknown
