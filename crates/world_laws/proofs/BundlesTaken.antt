-- A bundle that an operator made that keeps to the rules is taken by the wallet that it is for.
use Rattle.world_laws.proofs.Basics.{◌≡◌, ℕ, zero, suc, ◌^◌, ◌<◌, ◌≤◌, ◌&&◌, not, true, false, if◌then◌else◌, List, [], ◌∷◌, ◌++◌, length, Some, None, Ok, refl, sym, ap, ◌∙◌, subst, slice_get, nat_lt, arith, list_any, or_parts, true≢false, list_any-append, common_steps, some_same}
use Rattle.world_laws.proofs.CoinWords.{Entry, leaf_of, tip_of, Owner, CoinView, RootCall, signed_in, blocks, coin_at, coin_at-le, bundle_text}
use Rattle.world_laws.proofs.NodeWords.{kept_of, links_handed, most_note, Accepts, note_text, who_is_wallet, accept_effect, wallet_cause, NodeOrder, Reply, WalletOrder, answered, on_accepted, wallet_does}
use Rattle.world_laws.proofs.OperatorWords.{notes_of, Found, place_at, forest_in, bundle_of, bundle_answer}
use Rattle.world_laws.proofs.WorldWords.{Line, Command, WalletCommand, OperatorCommand, Event, log_of, Joins, Node, World, is_wallet_role, number_of, owner_of_node, wallet_of, bytes_of, is_joined, order_of, LineEffect, TraceEntry, Run, step, events_of, run-kept, KeptWorld, Place, Rests, Orders, order_act, act_of, done, understood, IsRun, CommitsOnce, IsHonestSoFar, WasBundled, IsTakenBundle, HonestBundlesAreTaken, is_barred, line_effect, stepped, OperatorIsFirst}
use Rattle.line_forms.specs.declared.tokens.HexOrItem.{HexOrItem}
use Rattle.world_laws.proofs.Acts.{first-alone}
use Rattle.world_laws.proofs.Keeps.{own-tag, runs-keep}
use Rattle.world_laws.proofs.SignedDeeds.{named-role}
use Rattle.world_laws.proofs.BundleTaken.{taken-bundle}
use Rattle.world_laws.proofs.BundleMade.{bundle-again, IsMadeBundle, line-made}
use Rattle.world_laws.proofs.BundleHistories.{coins-few, tree-at-same, place-same, distinct-before, IsGoodAt, good-at, IsOwnHistory, own-history}
use Rattle.world_laws.proofs.NoteLengths.{note-short}
use Rattle.world_laws.proofs.OperatorKeeping.{IsKeeping, HasKeeping}
use Rattle.world_laws.proofs.OperatorRuns.{AreAllowed, lines-same, runs-keeping}
use Rattle.world_laws.proofs.OperatorGrowth.{HasMore, HasTrees, grown-trees, IsSplit, split}

-- ---- events since a line

log-none : (event : Event) (events : List Event) → is_joined event ≡ false → log_of (event ∷ events) ≡ log_of events
unfolding log_of
log-none (Joins call) events none = absurd (true≢false none)
log-none event events none = refl

log-since : (later rest : List TraceEntry) → list_any is_joined (events_of later) ≡ false
    → log_of (events_of (later ++ rest)) ≡ log_of (events_of rest)
unfolding events_of
log-since [] rest none = refl
log-since (entry ∷ later) rest none =
    let parts = or_parts (is_joined entry.event) (list_any is_joined (events_of later)) none in
    log-none entry.event (events_of (later ++ rest)) parts.0 ∙ log-since later rest parts.1

once-before : (later rest : List TraceEntry) → CommitsOnce (events_of (later ++ rest)) → CommitsOnce (events_of rest)
unfolding events_of CommitsOnce
once-before [] rest once = once
once-before (entry ∷ later) rest once = once-before later rest once.1

allowed-before : (later rest : List TraceEntry) → AreAllowed (later ++ rest) → AreAllowed rest
allowed-before later rest allowed =
    (or_parts (list_any (λ entry. is_barred entry.line) later) (list_any (λ entry. is_barred entry.line) rest)
    (sym (list_any-append (λ entry. is_barred entry.line) later rest) ∙ allowed)).1

once-rest : (entry : TraceEntry) (rest : List TraceEntry) → CommitsOnce (events_of (entry ∷ rest))
    → CommitsOnce (events_of rest)
unfolding events_of CommitsOnce
once-rest entry rest once = once.1

log-rest : (entry : TraceEntry) (rest : List TraceEntry) → is_joined entry.event ≡ false
    → log_of (events_of (entry ∷ rest)) ≡ log_of (events_of rest)
unfolding events_of
log-rest entry rest none = log-none entry.event (events_of rest) none

-- the operator's answer, by the node that is the operator
operator-answer : (dig : List ℕ → List ℕ) (events : List Event) (world : World) (coin asked tip : ℕ)
    (effect : LineEffect) (first : OperatorIsFirst world) (has : HasKeeping dig events world.chain world.nodes)
    (made : IsMadeBundle dig world coin asked tip effect)
    → bundle_of dig world.chain.tag world.chain.log (forest_in has.op.notes).sealed coin asked
    (coin_at world.chain.log coin) ≡ Ok made.bundle
unfolding bundle_answer
operator-answer dig events world coin asked tip effect first has made =
    subst (λ (tag : List ℕ). bundle_of dig tag world.chain.log (forest_in has.op.notes).sealed coin asked
    (coin_at world.chain.log coin) ≡ Ok made.bundle) has.is.tag
    (subst (λ (node : Node). bundle_answer dig node.notes world.chain.log coin asked ≡ Ok made.bundle)
    (by made.n made.node_is) made.answer_is)
  where
    by : (n : ℕ) → slice_get world.nodes n ≡ Some made.node → made.node ≡ has.op
    by zero is = some_same made.node has.op (sym is ∙ has.op_is)
    by (suc n) is = absurd (cc (first (suc n) made.node is made.role))

-- ---- the bundle is a history that ends with the wallet

pub own-bundle : (dig : List ℕ → List ℕ) (lines : List Line) (run : Run) (world : World) (op : Node) (coin tip : ℕ)
    (bytes : List ℕ) (made : CoinView) (me : Owner) → IsRun dig lines run world → IsHonestSoFar dig lines run world op
    → WasBundled run coin tip bytes → coin_at world.chain.log coin ≡ Some made
    → place_at dig world.chain.tag world.chain.log (forest_in op.notes).sealed coin made tip
    ≡ record { block = tip; owner = me }
    → IsOwnHistory dig world.chain.tag world.chain.log bytes coin tip me × (blocks world.chain.log ≤ 3000)
own-bundle dig lines run world op coin tip bytes made me run_is honest was coin_is place_is = (
  subst (λ (tag : List ℕ). IsOwnHistory dig tag world.chain.log bytes coin tip me) (sym tag_same)
      (subst (λ (log : List RootCall). IsOwnHistory dig old.chain.tag log bytes coin tip me) (sym log_same)
      (own-history dig old.chain.tag old.chain.log sealed line.bundle bytes coin tip made me good again.0 again.1
      line.tip_is bytes_are (ap (λ (p : Found). p.owner) place_then))),
  few,
)
  where
    command : Command
    command = Command.Operator (OperatorCommand.Bundle coin was.asked)

    s : IsSplit dig world was.entry was.earlier
    s = split dig was.entry was.earlier command was.command lines run world run_is was.later was.entries_are

    old : World
    old = s.old

    line : IsMadeBundle dig s.old coin was.asked tip (line_effect dig s.old s.act)
    line = line-made dig s.old coin was.asked tip was.entry.line s.act was.command s.act_is
        (ap (λ (e : TraceEntry). e.reply) (sym s.entry_is) ∙ was.reply)

    kept : KeptWorld dig (events_of run.entries) world
    kept = run-kept dig run_is.digest lines run world run_is.lines_are run_is.run_is run_is.world_is

    kept_then : KeptWorld dig (events_of s.before.entries) s.old
    kept_then = run-kept dig run_is.digest s.lines s.before s.old s.run_is.lines_are s.run_is.run_is
        s.run_is.world_is

    quiet : is_joined was.entry.event ≡ false
    quiet = ap (λ (e : TraceEntry). is_joined e.event) s.entry_is ∙ ap is_joined line.event_is

    log_same : world.chain.log ≡ s.old.chain.log
    log_same = grind (arith, common_steps, kept, log-since, log-rest, quiet, s, kept_then)

    tag_same : world.chain.tag ≡ s.old.chain.tag
    tag_same = s.later.tag

    allowed : AreAllowed run.entries
    allowed = lines-same dig lines run run_is.run_is ∙ honest.allowed

    has : HasKeeping dig (events_of s.before.entries) s.old.chain s.old.nodes
    has =
        runs-keeping dig s.lines s.before s.old s.run_is
        (grind (arith, common_steps, s, allowed-before, allowed))
        (grind (arith, common_steps, s, once-rest, once-before))

    keeping : IsKeeping dig (events_of s.before.entries) s.old.chain has.op
    keeping = has.is

    more : HasMore has.op.notes op.notes
    more =
        let new = s.later.op has.op has.op_is in
        subst (λ (n : Node). HasMore has.op.notes n.notes) (some_same new.0 op (sym new.1 ∙ honest.op_is)) new.2

    sealed : List (List Entry)
    sealed = (forest_in has.op.notes).sealed

    trees : HasTrees (forest_in has.op.notes).sealed (forest_in op.notes).sealed
    trees = grown-trees has.op.notes op.notes keeping.kinds more

    coin_then : coin_at s.old.chain.log coin ≡ Some made
    coin_then = ap (λ (log : List RootCall). coin_at log coin) (sym log_same) ∙ coin_is

    place_then : place_at dig s.old.chain.tag s.old.chain.log (forest_in has.op.notes).sealed coin made tip
        ≡ record { block = tip; owner = me }
    place_then =
        sym (place-same dig s.old.chain.log (forest_in has.op.notes).sealed (forest_in op.notes).sealed
        keeping.counted trees s.old.chain.tag coin made tip)
        ∙ (λ i. place_at dig (sym tag_same i) (sym log_same i) (forest_in op.notes).sealed coin made tip)
        ∙ place_is

    small : blocks s.old.chain.log ≤ 3000
    small = let below = kept_then.frame.few in let few = keeping.few in omega (arith, below, few)

    few : blocks world.chain.log ≤ 3000
    few = subst (λ (log : List RootCall). blocks log ≤ 3000) (sym log_same) small

    narrow : coin < 2 ^ 64
    narrow = grind (arith, common_steps, coin_at-le, s, coin_then, coins-few, small)

    good : IsGoodAt dig s.old.chain.tag s.old.chain.log (forest_in has.op.notes).sealed coin tip made
    good =
        good-at dig s.old.chain.tag keeping.acts s.old.chain.log (notes_of has.op.notes) coin tip made
        keeping.log_is keeping.notes_is run_is.digest narrow (omega (arith, small))
        (keeping.honest (λ n c tree tx tree_is signed.
        honest.in_time n c tree tx
        (grind (arith, common_steps, log_same, tree-at-same, s, has, keeping, trees))
        (ap (λ (tag : List ℕ). signed_in tag (leaf_of tree c)) tag_same ∙ signed)))
        (distinct-before dig (forest_in has.op.notes).sealed (forest_in op.notes).sealed trees honest.distinct)
        coin_then (ap (λ (p : Found). p.block) place_then)

    again : (bundle_of dig s.old.chain.tag s.old.chain.log (forest_in has.op.notes).sealed coin tip
        (coin_at s.old.chain.log coin) ≡ Ok line.bundle) × (line.bundle.coin ≡ coin)
    again =
        bundle-again dig s.old.chain.tag s.old.chain.log (forest_in has.op.notes).sealed coin was.asked tip made
        line.bundle coin_then
        (operator-answer dig (events_of s.before.entries) s.old coin was.asked tip (line_effect dig s.old s.act)
        (first-alone dig s.lines s.before s.old s.run_is) has line) line.tip_is

    bytes_are : bytes ≡ bundle_text line.bundle
    bytes_are = sym was.made ∙ ap (λ (e : TraceEntry). e.made) s.entry_is ∙ line.made_is

-- ---- the accept

-- what the wallet answers that is up
accept-reply : (dig : List ℕ → List ℕ) (world : World) (name : List ℕ) (n : ℕ) (node : Node) (token : HexOrItem)
    (effect : LineEffect) → number_of is_wallet_role world name ≡ Some n → slice_get world.nodes n ≡ Some node
    → node.is_up ≡ true
    → step dig (Some world) (Line.Command (Command.Wallet name (WalletCommand.Accept token))) ≡ Some effect
    → effect.reply ≡ (answered wallet_cause on_accepted
    (accept_effect dig (wallet_of node) world.chain.log (bytes_of world token)).answer).reply
unfolding act_of order_of done wallet_does
accept-reply dig world name n node token effect number node_is is_up is =
    let command = Command.Wallet name (WalletCommand.Accept token) in
    let made = stepped dig world (Line.Command command) effect is in
    grind (arith, common_steps, understood, some_same, order, replied)
  where
    order : NodeOrder
    order = NodeOrder.Wallet (WalletOrder.Accept (bytes_of world token))

    replied : (place : Place) → place.node.is_up ≡ true
        → (done dig world (order_act None place order)).reply
        ≡ (answered wallet_cause on_accepted
        (accept_effect dig (wallet_of place.node) world.chain.log (bytes_of world token)).answer).reply
    replied place up =
        ap (λ b. (done dig world (if not b && true then Rests Reply.Down else Orders place order None)).reply) up

-- a history that ends with the wallet is taken, where its note isn't too long
pub taken-by : (dig : List ℕ → List ℕ) (lines : List Line) (run : Run) (world : World) (node : Node) (n coin tip : ℕ)
    (name bytes : List ℕ) (token : HexOrItem) (effect : LineEffect) → IsRun dig lines run world
    → (own : IsOwnHistory dig world.chain.tag world.chain.log bytes coin tip (owner_of_node node))
    → nat_lt most_note (length (note_text (Accepts (kept_of own.links)))) ≡ false
    → number_of is_wallet_role world name ≡ Some n → slice_get world.nodes n ≡ Some node → node.is_up ≡ true
    → bytes_of world token ≡ bytes
    → step dig (Some world) (Line.Command (Command.Wallet name (WalletCommand.Accept token))) ≡ Some effect
    → IsTakenBundle world.chain.log coin tip effect.reply
taken-by dig lines run world node n coin tip name bytes token effect run_is own short number node_is is_up bytes_are
    is =
    let kept = run-kept dig run_is.digest lines run world run_is.lines_are run_is.run_is run_is.world_is in
    let role = named-role dig (events_of run.entries) world kept name n node number node_is in
    let tag_is = own-tag (events_of run.entries) world (runs-keep dig lines run world run_is) n node node_is role in
    let handed : links_handed dig (who_is_wallet node.notes).tag world.chain.log bytes ≡ Ok own.links =
    ap (λ (tag : List ℕ). links_handed dig tag world.chain.log bytes) tag_is ∙ own.handed in
    let taken = taken-bundle dig (wallet_of node) world.chain.log bytes own.links handed own.mine short in
    let answer : effect.reply ≡ (answered wallet_cause on_accepted
    (accept_effect dig (wallet_of node) world.chain.log bytes).answer).reply =
    accept-reply dig world name n node token effect number node_is is_up is
    ∙ ap (λ (b : List ℕ). (answered wallet_cause on_accepted
    (accept_effect dig (wallet_of node) world.chain.log b).answer).reply) bytes_are in
    subst (IsTakenBundle world.chain.log coin tip) (sym answer)
    (subst (λ (t : ℕ). IsTakenBundle world.chain.log coin t (answered wallet_cause on_accepted
    (accept_effect dig (wallet_of node) world.chain.log bytes).answer).reply) own.tip_is
    (subst (λ (c : ℕ). IsTakenBundle world.chain.log c (tip_of own.links) (answered wallet_cause on_accepted
    (accept_effect dig (wallet_of node) world.chain.log bytes).answer).reply) own.coin_is taken))

-- ---- the law

pub honest_bundles_are_taken : HonestBundlesAreTaken
honest_bundles_are_taken dig lines run world op node n coin tip name bytes token made effect run_is honest was number
    node_is is_up coin_is place_is bytes_are is =
    let own = own-bundle dig lines run world op coin tip bytes made (owner_of_node node) run_is honest was coin_is
    place_is in
    let short = note-short dig world.chain.tag world.chain.log own.0.bundle own.0.links own.0.history own.1 in
    taken-by dig lines run world node n coin tip name bytes token effect run_is own.0 short number node_is is_up
    bytes_are is
