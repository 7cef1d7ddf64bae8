-- A cut of a node's command is that of its order, and what it shows.
use Rattle.world_scene.proofs.Words.{◌≡◌, refl, sym, ap, ◌∙◌, subst, ℕ, Bool, true, false, not, ◌&&◌, nat_lt, if◌then◌else◌, List, [], set, slice_get, Option, Some, arith, option_map, bytes_eq, bytes_eq-Decides, slice_get-map, Outcome, OutcomeToken, Line, Command, node_of, Reply, Role, Wallet, Node, World, is_wallet_role, with_node, number_of, plays, Deed, as_deed, deed_of, adds_record, Event, Other, says, without_offers, effect_in, cut_effect, cut, stopped, finished, down, is_opening, is_cut_short, outcome_of, with_records, after_crash, is_down, Given, Doing, NodeOrder, CutEnd, WalletOrder, fits, is_opening_order, node_does, NodeView, answers_down, is_stopped, Ends, IsStopped, IsFinished, Chain, tests_by, rules_of, LineEvent, IsEvent, HasRecords, event_stopped, Tells, TellsInRuns, HasWallets, EndTells, SceneState, Shown, node_in, world_of, shown_of, shows, OrderAt, shown_by, shown_at_end, with_nodes, AllHash, CutsAt}
use Rattle.gate_journal.specs.Laws.{is_added}
use Rattle.node_replies.specs.Given.{IsGiven}
use Rattle.world_nodes.specs.declared.order.CutEnd.TheVariants.{Down, Stopped, Done}
use Rattle.world_scene.proofs.Commands.{order_opens, order_fits_at, acts_at, world_with_view, set_back, all_at, tells_some}

same_bytes : (xs ys : List ℕ) → bytes_eq xs ys ≡ true → xs ≡ ys
same_bytes xs ys is = (bytes_eq-Decides xs ys).0 is

-- what is shown of a command that ended first, by its parts
abbrev done_as : Reply → List ℕ → World → Shown
done_as reply made world = record { done = true; reply = reply; made = made; world = world }

-- what is shown of one of two effects that say alike
one_of : (world : World) (n : ℕ) (kept : Bool) (one other : Event) (x y : Node)
    → shown_of (if kept then says Reply.Stopped one (with_node world n (after_crash x))
    else says Reply.Stopped other (with_node world n (after_crash y)))
    ≡ record {
      done = false;
      reply = Reply.Stopped;
      made = [];
      world = with_node world n (after_crash (if kept then x else y));
    }
one_of world n true one other x y = refl
one_of world n false one other x y = refl

-- the event of one of two effects
event_of_one : (kept : Bool) (one other : Event) (x y : World)
    → (if kept then says Reply.Stopped one x else says Reply.Stopped other y).event ≡ (if kept then one else other)
event_of_one true one other x y = refl
event_of_one false one other x y = refl

-- ---- a wallet's order is one of a wallet

wallets_order : (role : Role) (order : WalletOrder) → fits role (NodeOrder.Wallet order) ≡ true
    → is_wallet_role role ≡ true
wallets_order Wallet order is = refl
wallets_order role order is = absurd (grind (arith, is))

has_records : {H : Type 0} (dig : List ℕ → List ℕ) (scene : SceneState H) (n : ℕ) (view : NodeView H)
    (order : NodeOrder) → HasWallets dig (world_of scene) → slice_get scene.nodes n ≡ Some view
    → fits view.node.role order ≡ true → HasRecords dig view.node order
has_records dig scene n view (NodeOrder.Wallet order) wallets at fit =
    wallets n view.node (slice_get-map node_in scene.nodes n ∙ ap (option_map node_in) at)
    (wallets_order view.node.role order fit)
has_records dig scene n view it wallets at fit = tt

module _ {H : Type 0} (digest : H → List ℕ → List ℕ) (scene : SceneState H) (command : Command) (calls n : ℕ)
    (token : OutcomeToken) (order : NodeOrder) (end : CutEnd) (nodes : List (NodeView H))
    (found : number_of (plays command) (world_of scene) (node_of command) ≡ Some n)
    (ordered : OrderAt (world_of scene) scene.nodes n command (Some order))
    (hashes : AllHash scene.hash scene.nodes)
    (was : CutsAt digest scene.chain.log n calls (outcome_of token) order scene.nodes end nodes) where
  abbrev dig : List ℕ → List ℕ
  dig = digest scene.hash

  abbrev node : Node
  node = was.before.node

  abbrev doing : Doing
  doing = node_does dig scene.chain.log node order

  abbrev deed : Deed
  deed = as_deed n order doing

  abbrev line : Line
  line = Line.Cut (node_of command) calls token command

  opening : is_opening command ≡ is_opening_order order
  opening = order_opens (world_of scene) node.role command order (ordered was.before was.stood)

  does_at : effect_in dig (world_of scene) line
      ≡ cut_effect dig (world_of scene) calls token command n node
  unfolding effect_in
  does_at =
      acts_at scene (plays command) (node_of command) (cut_effect dig (world_of scene) calls token command) n was.before
      found was.stood

  deed_at : deed_of dig (world_of scene) n node command ≡ Some deed
  unfolding deed_of
  deed_at =
      ap (option_map (λ o. as_deed n o (node_does dig scene.chain.log node o))) (ordered was.before was.stood)

  down_at : is_down node command ≡ answers_down order node
  down_at = ap (λ opens. not node.is_up && not opens) opening

  short_at : is_cut_short calls node command deed ≡ is_stopped calls node order doing
  short_at =
      ap (λ opens. if opens then not node.is_up && nat_lt calls 3 else adds_record deed && nat_lt calls 4) opening

  abbrev after : World
  after = world_of (with_nodes scene nodes)

  after_is : with_node (world_of scene) n was.after.node ≡ after
  after_is =
      sym (world_with_view scene n was.after) ∙ ap (λ all. world_of (with_nodes scene all)) (sym was.is)

  -- a node that is down
  when_down : is_down node command ≡ true → was.after ≡ was.before
      → shows dig (world_of scene) line ≡ Some (shown_at_end Down after)
  when_down is stays =
      ap (option_map shown_of) (does_at ∙ ap (λ b. if b then Some (down (world_of scene))
      else option_map (cut (world_of scene) n node calls token command) (deed_of dig (world_of scene) n node command))
      is)
      ∙ ap (λ all. Some (shown_at_end Down (world_of (with_nodes scene all))))
      (sym (set_back scene.nodes n was.before was.stood)
      ∙ ap (set scene.nodes n) (sym stays) ∙ sym was.is)

  -- one that isn't
  when_up : is_down node command ≡ false → shows dig (world_of scene) line
      ≡ Some (shown_of (if is_cut_short calls node command deed
      then stopped (world_of scene) n node calls token command deed else finished (world_of scene) n node deed))
  when_up is =
      ap (option_map shown_of) (does_at ∙ ap (λ b. if b then Some (down (world_of scene))
      else option_map (cut (world_of scene) n node calls token command) (deed_of dig (world_of scene) n node command))
      is ∙ ap (option_map (cut (world_of scene) n node calls token command)) deed_at)

  when_stopped : (kept : Option (List ℕ))
      → IsStopped calls (outcome_of token) order doing was.before kept was.after
      → shows dig (world_of scene) line ≡ Some (shown_at_end (Stopped kept) after)
  when_stopped kept it =
      when_up (down_at ∙ it.is_up)
      ∙ ap (λ b. Some (shown_of (if b then stopped (world_of scene) n node calls token command deed
      else finished (world_of scene) n node deed))) (short_at ∙ it.stopped)
      ∙ ap Some (one_of (world_of scene) n (not (is_opening command) && is_added calls (outcome_of token))
      (without_offers n deed.gives.event) (Other n) (with_records node deed) node)
      ∙ ap (λ opens. Some (shown_at_end (Stopped kept) (with_node (world_of scene) n (after_crash
      (if not opens && is_added calls (outcome_of token) then with_records node deed else node))))) opening
      ∙ ap (λ one. Some (shown_at_end (Stopped kept) (with_node (world_of scene) n one))) (sym it.node)
      ∙ ap (λ world. Some (shown_at_end (Stopped kept) world)) after_is

  when_done : (given : Given) → IsGiven doing.response given
      → IsFinished calls (outcome_of token) order doing was.before was.after
      → shows dig (world_of scene) line ≡ Some (shown_at_end (Done given) after)
  when_done given gives it =
      when_up (down_at ∙ it.is_up)
      ∙ ap (λ b. Some (shown_of (if b then stopped (world_of scene) n node calls token command deed
      else finished (world_of scene) n node deed))) (short_at ∙ it.passed)
      ∙ ap (λ r. Some (done_as r deed.gives.made (with_node (world_of scene) n (after_crash (with_records node deed)))))
      (sym gives.reply)
      ∙ ap (λ m. Some (done_as given.reply m (with_node (world_of scene) n (after_crash (with_records node deed)))))
      (sym gives.made)
      ∙ ap (λ one. Some (shown_by true given (with_node (world_of scene) n one))) (sym it.node)
      ∙ ap (λ world. Some (shown_by true given world)) after_is

  pub cut_shows : shows dig (world_of scene) line ≡ Some (shown_at_end end after)
  cut_shows =
      by end (subst (λ d. Ends calls (outcome_of token) order (node_does d scene.chain.log node order) was.before end
      was.after) (ap digest (all_at scene.nodes n was.before scene.hash hashes was.stood)) was.cuts)
    where
      by : (e : CutEnd) → Ends calls (outcome_of token) order doing was.before e was.after
          → shows dig (world_of scene) line ≡ Some (shown_at_end e after)
      by Down it = when_down (down_at ∙ it.0) it.1
      by (Stopped kept) it = when_stopped kept it
      by (Done given) it = when_done given it.0 it.1

  -- ---- the event that it is

  effect_down : is_down node command ≡ true → effect_in dig (world_of scene) line ≡ Some (down (world_of scene))
  effect_down is =
      does_at ∙ ap (λ b. if b then Some (down (world_of scene))
      else option_map (cut (world_of scene) n node calls token command) (deed_of dig (world_of scene) n node command))
      is

  effect_up : (short : Bool) → is_down node command ≡ false → is_cut_short calls node command deed ≡ short
      → effect_in dig (world_of scene) line
      ≡ Some (if short then stopped (world_of scene) n node calls token command deed
      else finished (world_of scene) n node deed)
  effect_up short is cut_is =
      does_at ∙ ap (λ b. if b then Some (down (world_of scene))
      else option_map (cut (world_of scene) n node calls token command) (deed_of dig (world_of scene) n node command))
      is ∙ ap (option_map (cut (world_of scene) n node calls token command)) deed_at
      ∙ ap (λ b. Some (if b then stopped (world_of scene) n node calls token command deed
      else finished (world_of scene) n node deed)) cut_is

  stopped_event : (stopped (world_of scene) n node calls token command deed).event
      ≡ event_stopped dig scene.chain.log n node calls (outcome_of token) order
  stopped_event =
      event_of_one (not (is_opening command) && is_added calls (outcome_of token))
      (without_offers n deed.gives.event) (Other n)
      (with_node (world_of scene) n (after_crash (with_records node deed)))
      (with_node (world_of scene) n (after_crash node))
      ∙ ap (λ opens. if not opens && is_added calls (outcome_of token) then without_offers n deed.gives.event
      else Other n) opening

  pub cut_tells : (event : LineEvent) → EndTells n order end event → TellsInRuns dig (world_of scene) line event
  cut_tells event told wallets =
      by end (subst (λ d. Ends calls (outcome_of token) order (node_does d scene.chain.log node order) was.before end
      was.after) (ap digest (all_at scene.nodes n was.before scene.hash hashes was.stood)) was.cuts) told
    where
      by : (e : CutEnd) → Ends calls (outcome_of token) order doing was.before e was.after → EndTells n order e event
          → Tells dig (world_of scene) line event
      by Down it tells =
          tells_some dig (world_of scene) line event (down (world_of scene)) (effect_down (down_at ∙ it.0)) tells
      by (Stopped kept) it tells =
          tells_some dig (world_of scene) line event (stopped (world_of scene) n node calls token command deed)
          (effect_up true (down_at ∙ it.is_up) (short_at ∙ it.stopped))
          (subst (λ e. IsEvent (tests_by dig) (rules_of scene.chain) scene.chain.log e event) (sym stopped_event)
          (tells dig scene.chain.log node calls (outcome_of token)
          (has_records dig scene n was.before order wallets was.stood
          (order_fits_at scene command n found order ordered was.before was.stood)) it.stopped it.keeps (tests_by dig)
          (rules_of scene.chain) scene.chain.log))
      by (Done given) it tells =
          tells_some dig (world_of scene) line event (finished (world_of scene) n node deed)
          (effect_up false (down_at ∙ it.1.is_up) (short_at ∙ it.1.passed))
          (tells dig scene.chain.log node it.0 (tests_by dig) (rules_of scene.chain) scene.chain.log)

-- the same of its event
pub cut_tells_of_its_node : (dig : List ℕ → List ℕ) (world : World) (command : Command) (name : List ℕ) (calls : ℕ)
    (token : OutcomeToken) (event : LineEvent) → bytes_eq (node_of command) name ≡ true
    → TellsInRuns dig world (Line.Cut (node_of command) calls token command) event
    → TellsInRuns dig world (Line.Cut name calls token command) event
cut_tells_of_its_node dig world command name calls token event same is =
    subst (λ n. TellsInRuns dig world (Line.Cut n calls token command) event) (same_bytes (node_of command) name same)
    is

-- the node that a cut names is the one whose command it is
pub cut_of_its_node : (dig : List ℕ → List ℕ) (world : World) (command : Command) (name : List ℕ) (calls : ℕ)
    (token : OutcomeToken) (shown : Option Shown) → bytes_eq (node_of command) name ≡ true
    → shows dig world (Line.Cut (node_of command) calls token command) ≡ shown
    → shows dig world (Line.Cut name calls token command) ≡ shown
cut_of_its_node dig world command name calls token shown same is =
    ap (λ n. shows dig world (Line.Cut n calls token command)) (sym (same_bytes (node_of command) name same)) ∙ is

-- an order that was cut over a log that was lent, of a scene that is seen
pub cut_seen : {H : Type 0} (digest : H → List ℕ → List ℕ) (scene seen : SceneState H) (log : Chain) (n calls : ℕ)
    (outcome meant : Outcome) (order : NodeOrder) (end : CutEnd) (nodes : List (NodeView H)) → scene ≡ seen
    → log ≡ scene.chain → outcome ≡ meant → CutsAt digest log.log n calls outcome order scene.nodes end nodes
    → CutsAt digest seen.chain.log n calls meant order seen.nodes end nodes
cut_seen {H} digest scene seen log n calls outcome meant order end nodes same lent means was =
    subst (λ (s : SceneState H). CutsAt digest s.chain.log n calls meant order s.nodes end nodes) same
    (subst (λ (l : Chain). CutsAt digest l.log n calls meant order scene.nodes end nodes) lent
    (subst (λ (o : Outcome). CutsAt digest log.log n calls o order scene.nodes end nodes) means was))
