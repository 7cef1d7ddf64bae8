-- In every run, nodes' notes are beside the events: what wallets accept and watchers keep is shown by what they
-- accepted and guard, and what a wallet left with is noted.
use Rattle.world_laws.proofs.Basics.{◌≡◌, ℕ, Bool, true, false, List, [], ◌∷◌, length, slice_get, Some, None, refl, sym, ap, ◌∙◌, subst, arith, rules, false≢true, common_steps}
use Rattle.world_laws.proofs.CoinWords.{RootCall, Rules, Bundle, Has}
use Rattle.world_laws.proofs.NodeWords.{wallet_notes, accepted_of, watcher_notes, guards_of, guards_in, NodeOrder, with_record}
use Rattle.world_laws.proofs.WorldWords.{Line, Event, Other, Idle, Leaves, node_in, Node, World, is_wallet_role, is_watcher_role, wallet_of, Deed, with_records, after_crash, without_offers, Run, events_of, IsFitOrder, KeptWorld, world-feeds, begun, Said, said, told, said-other, Place, NewWallet, NewWatcher, NewRogue, Act, Adds, Orders, Crashes, End, Whole, Crashed, Kept, Lost, end_of, node_after, event_after, deed_at, done, MayOrder, IsActIn, IsFitAct, change_of, EachNode, IsKeptOwn, each_node_keeps, IfThere, node-there, others-there, OperatorIsFirst, order-told, commands-others, said-others, rules-stay, IsRun, left_by, is_left}
use Rattle.world_rules.proofs.NodeEvents.{other-of}
use Rattle.world_laws.proofs.Acts.{over_events}
use Rattle.world_laws.proofs.Keeps.{Keeps, own-tag, watcher-tag, next-unknown, runs-keep}
use Rattle.world_laws.proofs.GuardsShown.{AreShown, order-shown}
use Rattle.world_laws.proofs.AcceptsShown.{accepted_in, accepts-shown}
use Rattle.world_laws.proofs.LeftNotes.{order-left}
use Rattle.world_laws.proofs.LeftRuns.{NodeLeft, left-plain, left-other, left-apart, unused-left, node-more, bare-openings, cut-other}

-- what a watcher keeps is shown by what it guards, what a wallet's notes accept by what it accepted, and they have what
-- the wallet left with
pub record IsNoted (dig : List ℕ → List ℕ) (events : List Event) (tag : List ℕ) (n : ℕ) (node : Node) : Type 0 where
  pub guards : is_watcher_role node.role ≡ true → AreShown tag (said events n).guarded (guards_in dig node.notes)
  pub accepts : is_wallet_role node.role ≡ true → AreShown tag (said events n).accepted (accepted_in dig node.notes)
  pub left : is_wallet_role node.role ≡ true → NodeLeft dig events n node

-- so it is of each node
abbrev pub AreNoted : (List ℕ → List ℕ) → List Event → World → Type 0
AreNoted dig events world = EachNode (IfThere (IsNoted dig events world.chain.tag)) world.nodes

pub noted-at : (dig : List ℕ → List ℕ) (events : List Event) (world : World) → AreNoted dig events world → (n : ℕ)
    (node : Node) → slice_get world.nodes n ≡ Some node → IsNoted dig events world.chain.tag n node
noted-at dig events world = node-there (IsNoted dig events world.chain.tag) world.nodes

-- an event that says nothing of the node, over the same notes
noted-still : (dig : List ℕ → List ℕ) (events : List Event) (event : Event) (tag : List ℕ) (n : ℕ) (node : Node)
    (up : Bool) (calls : List RootCall) → said (event ∷ events) n ≡ said events n
    → left_by (event ∷ events) n ≡ left_by events n → IsNoted dig events tag n node
    → IsNoted dig (event ∷ events) tag n (record node { is_up = up; offers = calls })
noted-still dig events event tag n node up calls same starts held = grind (arith, common_steps, accepted_in)

-- a new node accepted nothing, and keeps nothing
none-accepted : (dig : List ℕ → List ℕ) (body : List ℕ) (kept : Bundle) → Has (accepted_in dig (body ∷ [])) kept → ⊥
unfolding wallet_notes accepted_of
none-accepted dig body kept h = h

none-kept : (dig : List ℕ → List ℕ) (body : List ℕ) (kept : Bundle) → Has (guards_in dig (body ∷ [])) kept → ⊥
unfolding watcher_notes guards_of
none-kept dig body kept h = h

-- ---- each act

module _ (dig : List ℕ → List ℕ) (events : List Event) (world : World) (kept : KeptWorld dig events world)
    (keeps : Keeps events world) (first : OperatorIsFirst world) where
  abbrev Before : ℕ → Node → Type 0
  Before = IsNoted dig events world.chain.tag

  abbrev Behind : Event → ℕ → Node → Type 0
  Behind event = IsNoted dig (event ∷ events) world.chain.tag

  crash-noted : (n : ℕ) (node : Node) → Before n node → Behind (Other n) n (after_crash node)
  crash-noted n node =
      noted-still dig events (Other n) world.chain.tag n node false [] (other-of n events).is
      (left-other (Other n) events n (λ call wrong. absurd (cc wrong)))

  new-noted : (event : Event) (node : Node) (identity : List ℕ) → node_in event ≡ None → node.notes ≡ identity ∷ []
      → Behind event (length world.nodes) node
  new-noted event node identity none notes = record {
    guards = grind (arith, common_steps, none-kept);
    accepts = grind (arith, common_steps, none-accepted, accepted_in);
    left = λ wallet. record {
      openings = bare-openings dig (wallet_of node) identity notes;
      left = λ c e is. absurd (false≢true
          (sym (ap (λ calls. is_left calls c e) (left-plain event events (length world.nodes) none
          ∙ unused-left events (length world.nodes) (next-unknown events world keeps).1)) ∙ is));
    };
  }

  module _ (place : Place) (order : NodeOrder) (may : MayOrder world place order) (fit : IsFitOrder order) where
    abbrev n : ℕ
    n = place.number

    abbrev node : Node
    node = place.node

    abbrev deed : Deed
    deed = deed_at dig world place order

    -- an order of which the record is kept
    recorded : (event : Event) (up : Bool) (calls : List RootCall)
        → said (event ∷ events) n ≡ told deed.gives.event (said events n)
        → ((m : ℕ) (call : RootCall) → event ≡ Leaves m call → deed.gives.event ≡ Leaves m call) → Before n node
        → Behind event n (record (with_records node deed) { is_up = up; offers = calls })
    recorded event up calls same leaves held = record {
      guards = λ watcher.
          subst (λ (s : Said). AreShown world.chain.tag s.guarded (guards_in dig (with_record node.notes deed.note)))
          (sym same)
          (order-shown dig world n node (said events n) watcher ((kept.nodes n node may.there).watcher watcher)
          (watcher-tag events world keeps n node may.there watcher) (held.guards watcher) order may.role fit);
      accepts = λ wallet.
          subst (λ (s : Said). AreShown world.chain.tag s.accepted
          (accepted_in dig (with_record node.notes deed.note))) (sym same)
          (accepts-shown dig world n node (said events n) (world-feeds dig events world kept) wallet
          ((kept.nodes n node may.there).wallet wallet) (own-tag events world keeps n node may.there wallet)
          (held.accepts wallet) order may.role fit);
      left = λ wallet.
          let still = order-left dig (said events n) world (world-feeds dig events world kept) n node wallet
          ((kept.nodes n node may.there).wallet wallet) (held.left wallet).openings order may.role fit in
          node-more dig events event n node (record (with_records node deed) { is_up = up; offers = calls })
          (record { still = still.still; left = λ m call is. still.left m call (leaves m call is) })
          (held.left wallet);
    }

    -- in a cut too
    cut-noted : said (without_offers n deed.gives.event ∷ events) n ≡ told deed.gives.event (said events n)
        → Before n node → Behind (without_offers n deed.gives.event) n (after_crash (with_records node deed))
    cut-noted same =
        recorded (without_offers n deed.gives.event) false [] same
        (λ m call is. absurd (cut-other n deed.gives.event m call is))

    ended : (end : End) → Before n node → Behind (event_after n deed end) n (node_after node deed end)
    ended Whole =
        recorded deed.gives.event true deed.gives.offers (order-told dig world events place order Whole).is
        (λ m call is. is)
    ended Crashed = cut-noted (order-told dig world events place order Crashed).is
    ended Kept = cut-noted (order-told dig world events place order Kept).is
    ended Lost = crash-noted n node

  own-noted : (act : Act) → IsActIn world act → IsFitAct act
      → IsKeptOwn (IfThere Before) (IfThere (Behind (done dig world act).event)) world.nodes (change_of dig world act)
  unfolding done
  own-noted (Adds name (NewWallet who)) known fit = λ none. new-noted _ _ _ refl refl
  own-noted (Adds name (NewWatcher account)) known fit = λ none. new-noted _ _ _ refl refl
  own-noted (Adds name (NewRogue who)) known fit = tt
  own-noted (Orders place order cut) known fit =
      ended place order known fit (end_of cut place.node order (deed_at dig world place order))
  own-noted (Crashes place) known fit = crash-noted place.number place.node
  own-noted act known fit = tt

  pub act-noted : (act : Act) → IsActIn world act → IsFitAct act → AreNoted dig events world
      → AreNoted dig ((done dig world act).event ∷ events) (done dig world act).world
  act-noted act known fit are =
      let event = (done dig world act).event in
      subst (λ (rules : Rules). EachNode (IfThere (IsNoted dig (event ∷ events) rules.tag))
      (done dig world act).world.nodes) (sym (rules-stay dig world act))
      (each_node_keeps (IfThere Before) (IfThere (Behind event)) dig world act known are (record {
        others =
            grind (arith, others-there, change_of, noted-still, said-other, said-others, left-apart, commands-others);
        own = own-noted act known fit;
      }))

-- ---- every run

first-noted : (dig : List ℕ → List ℕ) (tag operator most : ℕ)
    → AreNoted dig (Idle ∷ []) (begun tag operator most).world
first-noted dig tag operator most h4 = grind (arith, common_steps, false≢true)

pub runs-noted : (dig : List ℕ → List ℕ) (lines : List Line) (run : Run) (world : World)
    → IsRun dig lines run world → AreNoted dig (events_of run.entries) world
runs-noted dig =
    over_events dig (AreNoted dig) (λ tag operator most fits. first-noted dig tag operator most)
    (λ lines run world line act next.
    act-noted dig (events_of run.entries) world next.kept (runs-keep dig lines run world next.run_is) next.first act
    next.known next.fit)
