-- Each line of a run makes a move, so every run keeps what moves keep.
use Rattle.world_rules.proofs.Basics.{◌≡◌, ℕ, not, Bool, true, false, if◌then◌else◌, List, [], ◌∷◌, Some, refl, sym, ap, ◌&&◌, arith, and_parts, false≢true, common_steps}
use Rattle.world_rules.proofs.CoinWords.{RootCall, tests_by, rules_of, answer_to, is_accepted, log_after}
use Rattle.world_rules.proofs.NodeWords.{wallet_text, owner_of}
use Rattle.world_rules.proofs.WorldWords.{Line, Event, Declares, Joins, Bounces, log_of, wallet_owner, accepted, Wallet, Watcher, Node, World, is_new_name, is_wallet_account, Deed, new_node, after_crash, TraceEntry, entry_of, Run, run_of, events_of, NewWallet, NewWatcher, NewRogue, Act, Rests, Signs, Adds, Enters, Orders, Crashes, End, end_of, node_after, deed_at, done, IsActIn}
use Rattle.plasma_tx.specs.declared.answer.Answer.{Answer}
use Rattle.world_rules.proofs.Lives.{begun, IsAny, any_run, runs_keep}
use Rattle.world_rules.proofs.Named.{Card, card, cards, new-other, cards-set, cards-push, cards-length}
use Rattle.world_rules.proofs.KeptNames.{Kept, Move, Rests as Stays, Enters as Joining, Takes, Adds as AddsNode, AddsWallet, kept-move}
use Rattle.world_rules.proofs.NamedDeeds.{IsDeed, Plain, Accepting, order-is}

-- what is done with a node leaves names and roles
from-deed : (nodes after : List Card) (log : List RootCall) (event : Event) → after ≡ nodes → IsDeed log event
    → Move nodes after log log event
from-deed nodes after log event same (Plain plain) = Stays same refl plain
from-deed nodes after log event same (Accepting n bundle is coin) = Takes n bundle same refl is coin

pub card-after : (node : Node) (deed : Deed) (end : End) → card (node_after node deed end) ≡ card node
card-after node deed end = grind (arith, common_steps)

head : (a b c d : Bool) → ((a && b) && c && d) ≡ true → a ≡ true
head a b c d is = grind (arith, common_steps)

module _ (dig : List ℕ → List ℕ) (world : World) where
  -- the act makes a move
  abbrev Makes : Act → Type 0
  Makes act =
      Move (cards world.nodes) (cards (done dig world act).world.nodes) world.chain.log
      (done dig world act).world.chain.log (done dig world act).event

  act-moves : (act : Act) → IsActIn world act → Makes act
  unfolding done log_after
  act-moves (Rests reply) known = Stays refl refl refl
  act-moves (Signs leaf body rogue) known = Stays refl refl refl
  act-moves (Adds name (NewWallet who)) known =
      AddsWallet name (owner_of who) (cards-push world.nodes (new_node Wallet name who.account (wallet_text who))) refl
      (ap (λ (k : ℕ). Declares k (owner_of who)) (sym (cards-length world.nodes)))
      (grind (arith, common_steps, new-other, head))
  act-moves (Adds name (NewWatcher account)) known =
      AddsNode (record { name = name; role = Watcher })
      (grind (arith, common_steps, cards-push)) refl refl
      (new-other world name (and_parts (is_new_name world name) (not (is_wallet_account world account)) known).0)
  act-moves (Adds name (NewRogue who)) known = Stays refl refl refl
  act-moves (Enters origin call) known =
      (elim (is_accepted answer) as (λ b. Move (cards world.nodes) (cards world.nodes) world.chain.log
      (if b then call ∷ world.chain.log else world.chain.log) (if b then Joins call else Bounces call)) [
        | true ↦ Joining call refl refl refl
        | false ↦ Stays refl refl refl
      ])
    where
      answer : Answer
      answer = answer_to (tests_by dig) (rules_of world.chain) world.chain.log call
  act-moves (Orders place order cut) known =
      let deed = deed_at dig world place order in
      let end = end_of cut place.node order deed in
      from-deed (cards world.nodes) _ world.chain.log _
      (grind (arith, common_steps, cards-set, card-after))
      (order-is dig world.chain.log place.number place.node order end)
  act-moves (Crashes place) known =
      Stays (cards-set world.nodes place.number place.node (after_crash place.node) known refl) refl refl

-- ---- runs

-- what is kept behind the entries of a run
abbrev KeptIn : List TraceEntry → World → Type 0
KeptIn entries world = Kept (cards world.nodes) world.chain.log (events_of entries)

-- the first line begins the chain
begins : (tag operator most : ℕ)
    → KeptIn (entry_of (Line.Chain tag operator most) (begun tag operator most) ∷ []) (begun tag operator most).world
unfolding events_of log_of wallet_owner accepted
begins tag operator most = grind (arith, common_steps, false≢true)

-- what every run keeps
pub record IsKeptRun (run : Run) : Type 0 where
  pub kept : (world : World) → run.world ≡ Some world
      → Kept (cards world.nodes) world.chain.log (events_of run.entries)

pub run-kept : (dig : List ℕ → List ℕ) (lines : List Line) (run : Run) → run_of dig lines ≡ Some run → IsKeptRun run
unfolding events_of
run-kept dig lines run is = record {
  kept = λ world world_is.
      runs_keep dig IsAny KeptIn begins
      (λ before so_far there line act come good act_is known kept.
      kept-move (cards there.nodes) (cards (done dig there act).world.nodes) there.chain.log
      (done dig there act).world.chain.log (done dig there act).event (events_of so_far.entries)
      (act-moves dig there act known) kept)
      lines run world (any_run dig lines run world is world_is);
}
