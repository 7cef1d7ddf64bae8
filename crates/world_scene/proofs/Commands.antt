-- A command of a node does what its order does, and what that shows.
use Rattle.world_scene.proofs.Words.{◌≡◌, refl, sym, ap, ◌∙◌, subst, ℕ, zero, suc, Bool, true, false, not, ◌&&◌, if◌then◌else◌, List, [], ◌∷◌, map, set, slice_get, Option, Some, None, arith, option_map, option_and_then, is_some, MatchBool, map-set, bytes_eq, and_parts, slice_get-map, get_or_from_slice_get, same_Some, slice_get_within, position-is, OutcomeToken, Outcome, Line, Command, node_of, Role, Wallet, Watcher, Operator, Node, World, is_wallet_role, is_watcher_role, is_operator_role, does_watch, new_owner_of, with_node, number_of, any_role, is_named, Owner, RootCall, plays, is_sendable, has_declared_names, may_command, Reply, as_deed, deed_of, LineEffect, effect_in, act_at, act_on, command_effect, commanded, down, is_opening, is_down, crashed, entered, offer_numbered, Given, WalletOrder, wallet_order, watcher_order, operator_order, node_does, Doing, NodeOrder, fits, is_opening_order, NodeView, answers_down, after_order, Runs, IsDown, IsDone, SceneState, Shown, world_of, node_in, shown_of, shows, OrderAt, order_of, watch_order, shown_by, with_nodes, AllHash, RunsAt, CrashesAt, FitsAt, OfferAt, Chain, tests_by, rules_of, LineEvent, TellsGiven, TellsEffect, Tells}
use Rattle.plasma_tx.proofs.Names.{some_same}
use Rattle.schedule_text.specs.declared.command.WalletCommand.{WalletCommand}

-- what is asked of an order that may not be there
abbrev fits_by : Role → Option NodeOrder → Bool
fits_by role None = false
fits_by role (Some order) = fits role order

abbrev opens_by : Option NodeOrder → Bool
opens_by None = false
opens_by (Some order) = is_opening_order order

-- a line is told by the event of its effect
pub tells_some : (dig : List ℕ → List ℕ) (world : World) (line : Line) (event : LineEvent) (effect : LineEffect)
    → effect_in dig world line ≡ Some effect → TellsEffect dig world event effect → Tells dig world line event
tells_some dig world line event effect does told found at =
    subst (TellsEffect dig world event) (some_same effect found (sym does ∙ at)) told

-- ---- a command and its order

-- the order is one of the node's
wallet_fits : (role : Role) (found : Option WalletOrder) (order : NodeOrder) → is_wallet_role role ≡ true
    → option_map NodeOrder.Wallet found ≡ Some order → fits role order ≡ true
wallet_fits Wallet None order may is = absurd (grind (arith, is))
wallet_fits Wallet (Some found) order may is = subst (λ o. fits_by Wallet o ≡ true) is refl
wallet_fits Watcher found order may is = absurd (grind (arith, may))
wallet_fits Operator found order may is = absurd (grind (arith, may))

watch_fits : (role : Role) (order : NodeOrder) → watch_order role ≡ Some order → fits role order ≡ true
watch_fits Operator order is = absurd (grind (arith, is))
watch_fits role order is = subst (λ o. fits_by role o ≡ true) is refl

watcher_fits : (role : Role) (found : NodeOrder) (order : NodeOrder) → fits Watcher found ≡ true
    → is_watcher_role role ≡ true → Some found ≡ Some order → fits role order ≡ true
watcher_fits Watcher found order fit may is = subst (λ o. fits_by Watcher o ≡ true) is fit
watcher_fits role found order fit may is = absurd (grind (arith, may))

operator_fits : (role : Role) (found : NodeOrder) (order : NodeOrder) → fits Operator found ≡ true
    → is_operator_role role ≡ true → Some found ≡ Some order → fits role order ≡ true
operator_fits Operator found order fit may is = subst (λ o. fits_by Operator o ≡ true) is fit
operator_fits role found order fit may is = absurd (grind (arith, may))

open_fits : (role : Role) (order : NodeOrder) → Some NodeOrder.Open ≡ Some order → fits role order ≡ true
open_fits Wallet order is = subst (λ o. fits_by Wallet o ≡ true) is refl
open_fits role order is = subst (λ o. fits_by role o ≡ true) is refl

pub order_fits : (world : World) (role : Role) (command : Command) (order : NodeOrder)
    → plays command role ≡ true → order_of world role command ≡ Some order → fits role order ≡ true
unfolding order_of
order_fits world role (Command.Wallet name command) order may is =
    wallet_fits role (wallet_order world command) order may is
order_fits world role (Command.Watcher name command) order may is =
    watcher_fits role (NodeOrder.Watcher (watcher_order world command)) order refl may is
order_fits world role (Command.Operator command) order may is =
    operator_fits role (NodeOrder.Operator (operator_order world command)) order refl may is
order_fits world role (Command.Watch name) order may is = watch_fits role order is
order_fits world role (Command.Open name) order may is = open_fits role order is

-- it opens the node where the command does
wallet_opens : (found : Option WalletOrder) (order : NodeOrder) → option_map NodeOrder.Wallet found ≡ Some order
    → is_opening_order order ≡ false
wallet_opens None order is = absurd (grind (arith, is))
wallet_opens (Some found) order is = subst (λ o. opens_by o ≡ false) is refl

watch_opens : (role : Role) (order : NodeOrder) → watch_order role ≡ Some order → is_opening_order order ≡ false
watch_opens Operator order is = absurd (grind (arith, is))
watch_opens role order is = subst (λ o. opens_by o ≡ false) is refl

pub order_opens : (world : World) (role : Role) (command : Command) (order : NodeOrder)
    → order_of world role command ≡ Some order → is_opening command ≡ is_opening_order order
unfolding order_of
order_opens world role (Command.Wallet name command) order is =
    sym (wallet_opens (wallet_order world command) order is)
order_opens world role (Command.Watch name) order is = sym (watch_opens role order is)
order_opens world role (Command.Open name) order is = sym (subst (λ o. opens_by o ≡ true) is refl)
order_opens world role it order is =
    sym (subst (λ o. opens_by o ≡ false) is refl)

-- ---- the world

-- what is done with the node that has the name
pub acts_at : {H : Type 0} (scene : SceneState H) (may : Role → Bool) (name : List ℕ)
    (act : ℕ → Node → Option LineEffect) (n : ℕ) (view : NodeView H)
    → number_of may (world_of scene) name ≡ Some n → slice_get scene.nodes n ≡ Some view
    → act_on may (world_of scene) name act ≡ act n view.node
acts_at scene may name act n view found at =
    ap (option_and_then (act_at (world_of scene) act)) found
    ∙ ap (option_and_then (act n)) (slice_get-map node_in scene.nodes n ∙ ap (option_map node_in) at)

-- the world with the node changed
pub world_with_view : {H : Type 0} (scene : SceneState H) (n : ℕ) (view : NodeView H)
    → world_of (with_nodes scene (set scene.nodes n view)) ≡ with_node (world_of scene) n view.node
world_with_view scene n view =
    ap (λ nodes. record (world_of scene) { nodes = nodes }) (map-set node_in scene.nodes n view)

-- a node of the world has its digest
pub all_at : {H : Type 0} (nodes : List (NodeView H)) (n : ℕ) (view : NodeView H) (hash : H) → AllHash hash nodes
    → slice_get nodes n ≡ Some view → view.hash ≡ hash
all_at {H} nodes n view hash all at =
    ap (λ (v : NodeView H). v.hash) (sym (get_or_from_slice_get nodes n view view at))
    ∙ all n view (slice_get_within nodes n view at)

-- what is shown, by its parts
abbrev pub shown_as : Reply → List ℕ → World → Shown
shown_as reply made world = record { done = false; reply = reply; made = made; world = world }

-- the list with what may be found put first
abbrev set_first : {X : Type 0} → Option X → List X → List X
set_first None xs = xs
set_first (Some x) xs = x ∷ xs

-- what stands there is put there
pub set_back : {X : Type 0} (xs : List X) (n : ℕ) (x : X) → slice_get xs n ≡ Some x → set xs n x ≡ xs
set_back [] n x at = refl
set_back (y ∷ xs) zero x at = subst (λ o. set_first o xs ≡ y ∷ xs) at refl
set_back (y ∷ xs) (suc n) x at = ap (λ l. y ∷ l) (set_back xs n x at)

-- ---- what a command shows

-- the node that is found has a role that passes
pub found_plays : {H : Type 0} (scene : SceneState H) (may : Role → Bool) (name : List ℕ) (n : ℕ) (view : NodeView H)
    → number_of may (world_of scene) name ≡ Some n → slice_get scene.nodes n ≡ Some view
    → may view.node.role ≡ true
found_plays scene may name n view found at =
    let it = position-is (is_named may name) (map node_in scene.nodes) n found in
    let same = same_Some _ _ (sym (slice_get-map node_in scene.nodes n ∙ ap (option_map node_in) at) ∙ it.1) in
    (and_parts (bytes_eq view.node.name name) (may view.node.role) (ap (is_named may name) same ∙ it.2)).1

module _ {H : Type 0} (digest : H → List ℕ → List ℕ) (scene : SceneState H) (command : Command) (n : ℕ)
    (order : NodeOrder) (given : Given) (nodes : List (NodeView H))
    (found : number_of (plays command) (world_of scene) (node_of command) ≡ Some n)
    (ordered : OrderAt (world_of scene) scene.nodes n command (Some order))
    (hashes : AllHash scene.hash scene.nodes)
    (ran : RunsAt digest scene.chain.log n order scene.nodes given nodes) where
  abbrev dig : List ℕ → List ℕ
  dig = digest scene.hash

  does_at : effect_in dig (world_of scene) (Line.Command command)
      ≡ command_effect dig (world_of scene) command n ran.before.node
  unfolding effect_in
  does_at =
      acts_at scene (plays command) (node_of command) (command_effect dig (world_of scene) command) n ran.before
      found ran.stood

  abbrev doing : Doing
  doing = node_does dig scene.chain.log ran.before.node order

  deed_at : deed_of dig (world_of scene) n ran.before.node command ≡ Some (as_deed n order doing)
  unfolding deed_of
  deed_at =
      ap (option_map (λ o. as_deed n o (node_does dig scene.chain.log ran.before.node o)))
      (ordered ran.before ran.stood)

  opens_at : is_down ran.before.node command ≡ answers_down order ran.before.node
  opens_at =
      ap (λ opens. not ran.before.node.is_up && not opens)
      (order_opens (world_of scene) ran.before.node.role command order (ordered ran.before ran.stood))

  -- what it does, where it answers so as one that is down, or doesn't
  chosen : (b : Bool) → is_down ran.before.node command ≡ b
      → shows dig (world_of scene) (Line.Command command)
      ≡ option_map shown_of (if b then Some (down (world_of scene))
      else option_map (commanded (world_of scene) n ran.before.node)
      (deed_of dig (world_of scene) n ran.before.node command))
  chosen b is =
      ap (option_map shown_of) (does_at ∙ ap (λ c. if c then Some (down (world_of scene))
      else option_map (commanded (world_of scene) n ran.before.node)
      (deed_of dig (world_of scene) n ran.before.node command)) is)

  after_all : world_of (with_nodes scene (set scene.nodes n ran.after)) ≡ world_of (with_nodes scene nodes)
  after_all = ap (λ all. world_of (with_nodes scene all)) (sym ran.is)

  when_down : is_down ran.before.node command ≡ true → IsDown ran.before given ran.after
      → shows dig (world_of scene) (Line.Command command)
      ≡ Some (shown_by false given (world_of (with_nodes scene nodes)))
  when_down is it =
      chosen true is
      ∙ ap (λ r. Some (shown_as r [] (world_of scene))) (sym it.gives.reply)
      ∙ ap (λ m. Some (shown_as given.reply m (world_of scene))) (sym it.gives.made)
      ∙ ap (λ all. Some (shown_by false given (world_of (with_nodes scene all))))
      (sym (set_back scene.nodes n ran.before ran.stood))
      ∙ ap (λ view. Some (shown_by false given (world_of (with_nodes scene (set scene.nodes n view)))))
      (sym it.stays)
      ∙ ap (λ world. Some (shown_by false given world)) after_all

  when_up : is_down ran.before.node command ≡ false
      → IsDone order doing ran.before given ran.after
      → shows dig (world_of scene) (Line.Command command)
      ≡ Some (shown_by false given (world_of (with_nodes scene nodes)))
  when_up is it =
      let world = with_node (world_of scene) n (after_order ran.before.node doing) in
      chosen false is
      ∙ ap (λ d. option_map shown_of (option_map (commanded (world_of scene) n ran.before.node) d)) deed_at
      ∙ ap (λ r. Some (shown_as r doing.response.made world)) (sym it.gives.reply)
      ∙ ap (λ m. Some (shown_as given.reply m world)) (sym it.gives.made)
      ∙ ap (λ node. Some (shown_by false given (with_node (world_of scene) n node))) (sym it.node)
      ∙ ap (λ w. Some (shown_by false given w)) (sym (world_with_view scene n ran.after) ∙ after_all)

  pub command_shows : shows dig (world_of scene) (Line.Command command)
      ≡ Some (shown_by false given (world_of (with_nodes scene nodes)))
  command_shows =
      by (answers_down order ran.before.node) refl
      (subst (λ d. Runs d scene.chain.log order ran.before given ran.after)
      (ap digest (all_at scene.nodes n ran.before scene.hash hashes ran.stood)) ran.runs)
    where
      by : (b : Bool) → answers_down order ran.before.node ≡ b
          → MatchBool b (IsDown ran.before given ran.after)
          (IsDone order doing ran.before given ran.after)
          → shows dig (world_of scene) (Line.Command command)
          ≡ Some (shown_by false given (world_of (with_nodes scene nodes)))
      by true eq it = when_down (opens_at ∙ eq) it
      by false eq it = when_up (opens_at ∙ eq) it

  -- the event that it is
  effect_is : (b : Bool) → is_down ran.before.node command ≡ b
      → effect_in dig (world_of scene) (Line.Command command)
      ≡ (if b then Some (down (world_of scene))
      else option_map (commanded (world_of scene) n ran.before.node)
      (deed_of dig (world_of scene) n ran.before.node command))
  effect_is b is =
      does_at ∙ ap (λ c. if c then Some (down (world_of scene))
      else option_map (commanded (world_of scene) n ran.before.node)
      (deed_of dig (world_of scene) n ran.before.node command)) is

  pub command_tells : (event : LineEvent) → TellsGiven n order given event
      → (given.reply ≡ Reply.Down → event ≡ LineEvent.Idle)
      → Tells dig (world_of scene) (Line.Command command) event
  command_tells event told downs =
      by (answers_down order ran.before.node) refl
      (subst (λ d. Runs d scene.chain.log order ran.before given ran.after)
      (ap digest (all_at scene.nodes n ran.before scene.hash hashes ran.stood)) ran.runs)
    where
      by : (b : Bool) → answers_down order ran.before.node ≡ b
          → MatchBool b (IsDown ran.before given ran.after)
          (IsDone order doing ran.before given ran.after)
          → Tells dig (world_of scene) (Line.Command command) event
      by true eq it =
          tells_some dig (world_of scene) (Line.Command command) event (down (world_of scene))
          (effect_is true (opens_at ∙ eq)) (downs it.gives.reply)
      by false eq it =
          tells_some dig (world_of scene) (Line.Command command) event
          (commanded (world_of scene) n ran.before.node (as_deed n order doing))
          (effect_is false (opens_at ∙ eq)
          ∙ ap (option_map (commanded (world_of scene) n ran.before.node)) deed_at)
          (told dig scene.chain.log ran.before.node it.gives (tests_by dig) (rules_of scene.chain) scene.chain.log)

-- an order that was run over a log that was lent, of a scene that is seen
pub ran_seen : {H : Type 0} (digest : H → List ℕ → List ℕ) (scene seen : SceneState H) (log : Chain) (n : ℕ)
    (order : NodeOrder) (given : Given) (nodes : List (NodeView H)) → scene ≡ seen → log ≡ scene.chain
    → RunsAt digest log.log n order scene.nodes given nodes
    → RunsAt digest seen.chain.log n order seen.nodes given nodes
ran_seen {H} digest scene seen log n order given nodes same lent ran =
    subst (λ (s : SceneState H). RunsAt digest s.chain.log n order s.nodes given nodes) same
    (subst (λ (l : Chain). RunsAt digest l.log n order scene.nodes given nodes) lent ran)

-- ---- which names it has

-- it names declared owners where it has an order, and doesn't where a node of its role has none
wallet_names : (world : World) (command : WalletCommand) (order : NodeOrder)
    → option_map NodeOrder.Wallet (wallet_order world command) ≡ Some order → is_sendable world command ≡ true
wallet_names world (WalletCommand.Send coin to last) order is = by (new_owner_of world to) is
  where
    by : (owner : Option Owner)
        → option_map NodeOrder.Wallet (option_map (λ o. WalletOrder.Send coin o last) owner) ≡ Some order
        → is_some owner ≡ true
    by None is = absurd (grind (arith, is))
    by (Some owner) is = refl
wallet_names world command order is = refl

wallet_names_none : (world : World) (command : WalletCommand)
    → option_map NodeOrder.Wallet (wallet_order world command) ≡ None → is_sendable world command ≡ false
wallet_names_none world (WalletCommand.Send coin to last) is = by (new_owner_of world to) is
  where
    by : (owner : Option Owner)
        → option_map NodeOrder.Wallet (option_map (λ o. WalletOrder.Send coin o last) owner) ≡ None
        → is_some owner ≡ false
    by None is = refl
    by (Some owner) is = absurd (grind (arith, is))
wallet_names_none world command is = absurd (grind (arith, is))

pub order_names : (world : World) (role : Role) (command : Command) (order : NodeOrder)
    → order_of world role command ≡ Some order → has_declared_names world command ≡ true
unfolding order_of
order_names world role (Command.Wallet name command) order is = wallet_names world command order is
order_names world role it order is = refl

watches_always : (role : Role) → does_watch role ≡ true → watch_order role ≡ None → true ≡ false
watches_always Operator may is = absurd (grind (arith, may))
watches_always role may is = absurd (grind (arith, is))

pub no_order_names : (world : World) (role : Role) (command : Command) → plays command role ≡ true
    → order_of world role command ≡ None → has_declared_names world command ≡ false
unfolding order_of
no_order_names world role (Command.Wallet name command) may is = wallet_names_none world command is
no_order_names world role (Command.Watch name) may is = watches_always role may is
no_order_names world role it may is = absurd (grind (arith, is))

-- ---- which commands keep the rules

mapped_some : {X Y : Type 0} (f : X → Y) (o : Option X) (y : Y) → option_map f o ≡ Some y
    → (x : X) × (o ≡ Some x)
mapped_some f None y is = absurd (grind (arith, is))
mapped_some f (Some x) y is = (x, refl)

-- a node that is found stands there
pub stands_there : {H : Type 0} (scene : SceneState H) (may : Role → Bool) (name : List ℕ) (n : ℕ)
    → number_of may (world_of scene) name ≡ Some n → (view : NodeView H) × (slice_get scene.nodes n ≡ Some view)
stands_there scene may name n found =
    let it = position-is (is_named may name) (map node_in scene.nodes) n found in
    mapped_some node_in (slice_get scene.nodes n) it.0 (sym (slice_get-map node_in scene.nodes n) ∙ it.1)

module _ {H : Type 0} (scene : SceneState H) (command : Command) where
  module _ (n : ℕ) (found : number_of (plays command) (world_of scene) (node_of command) ≡ Some n) where
    pub order_keeps : (order : NodeOrder) → OrderAt (world_of scene) scene.nodes n command (Some order)
        → may_command (world_of scene) command ≡ true
    order_keeps order is =
        let there = stands_there scene (plays command) (node_of command) n found in
        ap (λ place. is_some place && has_declared_names (world_of scene) command) found
        ∙ order_names (world_of scene) there.0.node.role command order (is there.0 there.1)

    pub no_order_breaks : OrderAt (world_of scene) scene.nodes n command None
        → may_command (world_of scene) command ≡ false
    no_order_breaks is =
        let there = stands_there scene (plays command) (node_of command) n found in
        ap (λ place. is_some place && has_declared_names (world_of scene) command) found
        ∙ no_order_names (world_of scene) there.0.node.role command
        (found_plays scene (plays command) (node_of command) n there.0 found there.1) (is there.0 there.1)

    -- the order is one of the node's
    pub order_fits_at : (order : NodeOrder) → OrderAt (world_of scene) scene.nodes n command (Some order)
        → FitsAt scene.nodes n order
    order_fits_at order is view at =
        order_fits (world_of scene) view.node.role command order
        (found_plays scene (plays command) (node_of command) n view found at) (is view at)

-- ---- crashes

-- what a crash shows, whatever the digest
pub crash_shows : {H : Type 0} (dig : List ℕ → List ℕ) (scene : SceneState H) (name : List ℕ) (token : OutcomeToken)
    (n : ℕ) (outcome : Outcome) (nodes : List (NodeView H))
    → number_of any_role (world_of scene) name ≡ Some n → CrashesAt n outcome scene.nodes nodes
    → shows dig (world_of scene) (Line.Crash name token)
    ≡ Some (record { done = false; reply = Reply.Crashed; made = []; world = world_of (with_nodes scene nodes) })
unfolding effect_in
crash_shows dig scene name token n outcome nodes found it =
    ap (option_map shown_of)
    (acts_at scene any_role name (λ m node. Some (crashed (world_of scene) m node)) n it.before found it.stood)
    ∙ ap (λ node. Some (shown_as Reply.Crashed [] (with_node (world_of scene) n node))) (sym it.crashes.node)
    ∙ ap (λ world. Some (shown_as Reply.Crashed [] world)) (sym (world_with_view scene n it.after))
    ∙ ap (λ all. Some (shown_as Reply.Crashed [] (world_of (with_nodes scene all)))) (sym it.is)

-- and the event that it is
pub crash_tells : {H : Type 0} (dig : List ℕ → List ℕ) (scene : SceneState H) (name : List ℕ) (token : OutcomeToken)
    (n : ℕ) → number_of any_role (world_of scene) name ≡ Some n
    → Tells dig (world_of scene) (Line.Crash name token) (LineEvent.Other n)
unfolding effect_in
crash_tells dig scene name token n found =
    let there = stands_there scene any_role name n found in
    tells_some dig (world_of scene) (Line.Crash name token) (LineEvent.Other n)
    (crashed (world_of scene) n there.0.node)
    (acts_at scene any_role name (λ m node. Some (crashed (world_of scene) m node)) n there.0 found there.1) refl

-- ---- offers

-- what entering an offer does
pub enter_does : {H : Type 0} (dig : List ℕ → List ℕ) (scene : SceneState H) (name : List ℕ) (number n : ℕ)
    (offer : Option RootCall)
    → number_of any_role (world_of scene) name ≡ Some n → OfferAt scene.nodes n number offer
    → effect_in dig (world_of scene) (Line.Enter name number) ≡ Some (entered dig (world_of scene) offer)
unfolding effect_in
enter_does dig scene name number n offer found is =
    let there = stands_there scene any_role name n found in
    acts_at scene any_role name (λ m node. Some (entered dig (world_of scene) (offer_numbered number node))) n
    there.0 found there.1
    ∙ ap (λ call. Some (entered dig (world_of scene) call)) (is there.0 there.1)
