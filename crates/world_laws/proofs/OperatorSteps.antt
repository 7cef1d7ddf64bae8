-- What each act that is free leaves of an operator that keeps to the rules.
use Rattle.world_laws.proofs.Basics.{◌≡◌, ◌⊎◌, ℕ, ◌<◌, ◌≤◌, ◌==◌, Bool, true, false, if◌then◌else◌, List, [], ◌∷◌, ◌++◌, Option, Some, None, Ok, inl, inr, refl, sym, ap, ◌∙◌, subst, set, slice_get, arith, lit<, Err, zero, suc, Result, option_map_or, cases_eq, ne_eqb, true≢false, false≢true, slice_get_within, bytes_eq-Decides, common_steps, some_same, none_some}
use Rattle.world_laws.proofs.CoinWords.{root_of, SignedTx, TxRefusal, RootCall, Answer, CoinView, Chain, with_log, signed_in, AreBytes, tests_by, rules_of, answer_to, is_accepted, log_after, Has, coin_at}
use Rattle.world_laws.proofs.NodeWords.{Effect, are_of, offer_cause, prove_cause, NodeOrder, OperatorOrder, with_record, Response, answered, on_pooled, on_bundled, on_proved, operator_does}
use Rattle.world_laws.proofs.OperatorWords.{Offered, Sealed, note_text, operator_kinds, who_is, notes_of, Forest, after_note, forest_of, forest_in, offer_at, offer_of, offer_effect, seal_effect, prove_answer, bundle_answer, absences_answer, log_of, kept_notes, times_committed, times_sealed, one_if, count-push}
use Rattle.world_laws.proofs.WorldWords.{Line, Event, Joins, Bounces, Other, Idle, node_in, is_command_of, Operator, Node, World, is_wallet_role, is_watcher_role, is_operator_role, Deed, as_deed, node_does, with_records, after_command, after_crash, Run, IsFitOrder, each-answer, begun, set-same, set-other, push-other, Place, NewWallet, NewWatcher, NewRogue, Origin, OnOffer, Act, Rests, Signs, Adds, Enters, Orders, Crashes, End, Whole, Crashed, Kept, Lost, end_of, node_after, event_after, deed_at, done, IsThere, IsFrom, has_order, IsActIn, IsFitAct, change_of, EachNode, IsKeptOwn, each_node_keeps, IfThere, node-there, OperatorIsFirst, by-end, IsRun, is_commit, commits_since}
use Rattle.node_journal.specs.Effect.{unless}
use Rattle.node_journal.proofs.Roles.{notes_follow}
use Rattle.operator_rules.specs.declared.refusal.OfferRefusal.{OfferRefusal}
use Rattle.operator_rules.proofs.Role.{commands_keep_the_role, commands_add_their_notes}
use Rattle.world_laws.proofs.Acts.{over_events}
use Rattle.world_laws.proofs.OperatorActs.{commits_root, lays_by, is_offered, IsFree}
use Rattle.world_laws.proofs.DeedOffers.{order-quiet}
use Rattle.world_laws.proofs.Keeps.{offered-has}
use Rattle.world_laws.proofs.OperatorKeeping.{IsKeeping, HasKeeping, keeps-still, keeps-joins, keeps-own, keeps-note}

-- ---- the operator's deeds

-- what a deed of the operator adds and offers, where nothing is laid
pub data OwnDeed (dig : List ℕ → List ℕ) (notes : List (List ℕ)) (log : List RootCall) (deed : Deed) : Type 0 where
  NoNote : deed.note ≡ None → deed.gives.offers ≡ [] → OwnDeed dig notes log deed
  Pools : (bytes : List ℕ) (coin : ℕ) → AreBytes bytes → (offer_effect dig notes log bytes).answer ≡ Ok coin
      → (offer_effect dig notes log bytes).note ≡ Some (note_text (Offered bytes))
      → deed.note ≡ Some (note_text (Offered bytes)) → deed.gives.offers ≡ [] → OwnDeed dig notes log deed
  SealsPool : deed.note ≡ Some (note_text Sealed)
      → deed.gives.offers ≡ RootCall.Commit (who_is notes).account (root_of dig (forest_in notes).pool) ∷ []
      → OwnDeed dig notes log deed

-- an offer is refused and adds nothing, or takes the coin's transfer
abbrev OfferEnds : List ℕ → Effect (Result ℕ OfferRefusal) → Type 0
OfferEnds bytes effect =
    (effect.note ≡ None)
    ⊎ ((coin : ℕ) × (effect.answer ≡ Ok coin) × (effect.note ≡ Some (note_text (Offered bytes))))

module _ (dig : List ℕ → List ℕ) (tag : List ℕ) (log : List RootCall) (forest : Forest) (bytes : List ℕ) where
  offer-causes : (tx : SignedTx) (failed : Option OfferRefusal) → OfferEnds bytes
      (unless failed (record { answer = Ok tx.body.coin; note = Some (note_text (Offered bytes)) }))
  offer-causes tx None = inr (tx.body.coin, refl, refl)
  offer-causes tx (Some why) = inl refl

  offer-made : (tx : SignedTx) (made : Option CoinView) → OfferEnds bytes (offer_at dig tag log forest bytes tx made)
  offer-made tx made = grind (arith, common_steps, offer-causes)

  offer-read : (r : Result SignedTx TxRefusal) → OfferEnds bytes (offer_of dig tag log forest bytes r)
  offer-read (Err why) = inl refl
  offer-read (Ok tx) = offer-made tx (coin_at log tx.body.coin)

offer-ends : (dig : List ℕ → List ℕ) (notes : List (List ℕ)) (log : List RootCall) (bytes : List ℕ)
    → OfferEnds bytes (offer_effect dig notes log bytes)
unfolding offer_effect
offer-ends dig notes log bytes =
    offer-read dig (who_is notes).tag log (forest_in notes) bytes (signed_in (who_is notes).tag bytes)

-- a refusal offers nothing, so what is answered offers nothing where no answer does
none-offered : {A E : Type 0} (cause : E → List ℕ) (give : A → Response) (result : Result A E)
    → ((answer : A) → (give answer).offers ≡ []) → (answered cause give result).offers ≡ []
none-offered cause give result none =
    each-answer (λ r. r.offers ≡ []) cause give result (λ answer is. none answer) (λ why. refl)

module _ (dig : List ℕ → List ℕ) (log : List RootCall) (n : ℕ) (op : Node) where
  abbrev IsOwnDeed : Deed → Type 0
  IsOwnDeed deed = OwnDeed dig op.notes log deed

  operator-deed : (order : OperatorOrder) → lays_by (NodeOrder.Operator order) ≡ false
      → IsFitOrder (NodeOrder.Operator order)
      → IsOwnDeed (as_deed n (NodeOrder.Operator order) (operator_does dig log op.notes order))
  unfolding operator_does seal_effect
  operator-deed (OperatorOrder.Offer bytes) free fit = by (offer-ends dig op.notes log bytes)
    where
      none : (answered offer_cause on_pooled (offer_effect dig op.notes log bytes).answer).offers ≡ []
      none = none-offered offer_cause on_pooled (offer_effect dig op.notes log bytes).answer (λ coin. refl)

      by : OfferEnds bytes (offer_effect dig op.notes log bytes)
          → IsOwnDeed (as_deed n (NodeOrder.Operator (OperatorOrder.Offer bytes))
          (operator_does dig log op.notes (OperatorOrder.Offer bytes)))
      by (inl nothing) = NoNote nothing none
      by (inr taken) = Pools bytes taken.0 fit.are taken.1 taken.2 taken.2 none
  operator-deed (OperatorOrder.Lay coin leaf) free fit = absurd (true≢false free)
  operator-deed OperatorOrder.Seal free fit = SealsPool refl refl
  operator-deed (OperatorOrder.Bundle coin tip) free fit =
      NoNote refl (none-offered prove_cause on_bundled (bundle_answer dig op.notes log coin tip) (λ bundle. refl))
  operator-deed (OperatorOrder.Prove coin block) free fit =
      NoNote refl (none-offered prove_cause on_proved (prove_answer dig op.notes log coin block) (λ opening. refl))
  operator-deed (OperatorOrder.Absences coin after last) free fit =
      NoNote refl (none-offered prove_cause on_bundled (absences_answer dig op.notes log coin after last)
      (λ bundle. refl))

  own-deed : (order : NodeOrder) → lays_by order ≡ false → IsFitOrder order → op.role ≡ Operator
      → has_order order op.role ≡ true → IsOwnDeed (as_deed n order (node_does dig log op order))
  own-deed (NodeOrder.Operator order) free fit role may = operator-deed order free fit
  own-deed NodeOrder.Open free fit role may = grind (arith, common_steps)
  own-deed (NodeOrder.Wallet order) free fit role may = absurd (false≢true (sym (ap is_wallet_role role) ∙ may))
  own-deed (NodeOrder.Watcher order) free fit role may = absurd (false≢true (sym (ap is_watcher_role role) ∙ may))

-- ---- events

node-no-commit : (event : Event) (n : ℕ) → node_in event ≡ Some n → is_commit event ≡ false
node-no-commit (Joins call) n is = absurd (none_some n is)
node-no-commit event n is = refl

-- the root that a call commits
root_named : RootCall → List ℕ
root_named (RootCall.Commit account root) = root
root_named call = []

-- ---- the operator's orders

module _ (dig : List ℕ → List ℕ) (events : List Event) (chain : Chain) (op : Node)
    (keeping : IsKeeping dig events chain op) where
  -- a deed of the operator, after which it offers what the deed does, or nothing
  own-after : (event : Event) (deed : Deed) (after : Node) → OwnDeed dig op.notes chain.log deed
      → after.role ≡ op.role → after.notes ≡ with_record op.notes deed.note
      → (after.offers ≡ deed.gives.offers) ⊎ (after.offers ≡ [])
      → IsKeeping dig (event ∷ events) chain after
  unfolding offer_effect seal_effect root_named
  own-after event deed after (NoNote nothing none) role notes offers = grind (arith, common_steps, keeps-own)
  own-after event deed after (Pools bytes coin are taken noted note_is none) role notes offers =
      let body = note_text (Offered bytes) in
      let notes_are : after.notes ≡ op.notes ++ body ∷ [] = notes ∙ ap (with_record op.notes) note_is in
      let added = commands_add_their_notes dig op.notes chain.log 0 bytes body keeping.kinds (lit< tt) in
      let may = (commands_keep_the_role dig op.notes chain.log 0 bytes body keeping.kinds).0 noted in
      let empty : after.offers ≡ [] = grind (arith) in
      keeps-note dig events chain op keeping event (Offered bytes) after role
      (ap (are_of operator_kinds) notes_are ∙ notes_follow operator_kinds op.notes body keeping.kinds may)
      (ap who_is notes_are ∙ added.0) (ap notes_of notes_are ∙ added.1 noted)
      (are, (coin, pool-honest bytes coin taken))
      (grind (arith, common_steps))
    where
      pool-honest : (bytes : List ℕ) (coin : ℕ) → (offer_effect dig op.notes chain.log bytes).answer ≡ Ok coin
          → (offer_of dig chain.tag (log_of keeping.acts) (forest_of (kept_notes keeping.acts)) bytes
          (signed_in chain.tag bytes)).answer ≡ Ok coin
      pool-honest bytes coin taken = grind (arith, common_steps)
  own-after event deed after (SealsPool note_is calls_are) role notes offers =
      let body = note_text Sealed in
      let notes_are : after.notes ≡ op.notes ++ body ∷ [] = notes ∙ ap (with_record op.notes) note_is in
      let added = commands_add_their_notes dig op.notes chain.log 0 [] body keeping.kinds (lit< tt) in
      let may = (commands_keep_the_role dig op.notes chain.log 0 [] body keeping.kinds).2 noted in
      keeps-note dig events chain op keeping event Sealed after role
      (ap (are_of operator_kinds) notes_are ∙ notes_follow operator_kinds op.notes body keeping.kinds may)
      (ap who_is notes_are ∙ added.0) (ap notes_of notes_are ∙ added.3 noted) tt
      (λ account root has. elim offers [
        | inl same ↦ waits account root
            (subst (λ (calls : List RootCall). Has calls (RootCall.Commit account root)) (same ∙ calls_are) has)
        | inr empty ↦ absurd (subst (λ (calls : List RootCall). Has calls (RootCall.Commit account root)) empty has)
      ])
    where
      noted : (seal_effect dig op.notes).note ≡ Some (note_text Sealed)
      noted = refl

      pool_root : List ℕ
      pool_root = root_of dig (forest_in op.notes).pool

      strict : times_committed chain.log pool_root
          < times_sealed dig (after_note Sealed (forest_in op.notes)).sealed pool_root
      strict = grind (arith, common_steps, count-push, one_if, bytes_eq-Decides)

      waits : (account : ℕ) (root : List ℕ)
          → Has (RootCall.Commit (who_is op.notes).account pool_root ∷ []) (RootCall.Commit account root)
          → times_committed chain.log root
          < times_sealed dig (after_note Sealed (forest_in op.notes)).sealed root
      waits account root (inl same) =
          subst (λ (r : List ℕ). times_committed chain.log r
          < times_sealed dig (after_note Sealed (forest_in op.notes)).sealed r) (ap root_named same) strict
      waits account root (inr none) = absurd none

  own-ends : (n : ℕ) (deed : Deed) → OwnDeed dig op.notes chain.log deed → (end : End)
      → IsKeeping dig (event_after n deed end ∷ events) chain (node_after op deed end)
  own-ends n deed own Whole = own-after _ deed (after_command op deed) own refl refl (inl refl)
  own-ends n deed own Crashed = own-after _ deed (after_crash (with_records op deed)) own refl refl (inr refl)
  own-ends n deed own Kept = own-after _ deed (after_crash (with_records op deed)) own refl refl (inr refl)
  own-ends n deed own Lost = keeps-own dig events chain op keeping (Other n) (after_crash op) refl refl refl

-- ---- nodes that aren't the operator

-- they offer no commit
abbrev pub IsQuiet : ℕ → Node → Type 0
IsQuiet n node = is_operator_role node.role ≡ false → (call : RootCall) → Has node.offers call
    → commits_root call ≡ false

abbrev pub AreQuiet : World → Type 0
AreQuiet world = EachNode (IfThere IsQuiet) world.nodes

own-quiet : (dig : List ℕ → List ℕ) (world : World) (act : Act) → IsActIn world act
    → IsKeptOwn (IfThere IsQuiet) (IfThere IsQuiet) world.nodes (change_of dig world act)
own-quiet dig world (Adds name (NewWallet who)) known = λ none other call has. absurd has
own-quiet dig world (Adds name (NewWatcher account)) known = λ none other call has. absurd has
own-quiet dig world (Adds name (NewRogue who)) known = tt
own-quiet dig world (Orders place order cut) known =
    λ quiet. by (end_of cut place.node order (deed_at dig world place order))
  where
    by : (end : End) → IsQuiet place.number (node_after place.node (deed_at dig world place order) end)
    by Whole other call has = order-quiet dig world place order known call has other
    by Crashed other call has = absurd has
    by Kept other call has = absurd has
    by Lost other call has = absurd has
own-quiet dig world (Crashes place) known = λ quiet other call has. absurd has
own-quiet dig world act known = tt

first-quiet : (tag operator most : ℕ) → AreQuiet (begun tag operator most).world
first-quiet tag operator most zero = λ other call has. absurd has
first-quiet tag operator most (suc n) = tt

pub runs-quiet : (dig : List ℕ → List ℕ) (lines : List Line) (run : Run) (world : World) → IsRun dig lines run world
    → AreQuiet world
runs-quiet dig =
    over_events dig (λ events world. AreQuiet world) (λ tag operator most fits. first-quiet tag operator most)
    (λ lines run world line act next are.
    each_node_keeps (IfThere IsQuiet) (IfThere IsQuiet) dig world act next.known are
    (record { others = λ m other found quiet. quiet; own = own-quiet dig world act next.known }))

-- ---- acts

module _ (dig : List ℕ → List ℕ) (events : List Event) (world : World) (first : OperatorIsFirst world)
    (quiet : AreQuiet world) (has : HasKeeping dig events world.chain world.nodes) where
  abbrev op : Node
  op = has.op

  abbrev After : Act → Type 0
  After act =
      HasKeeping dig ((done dig world act).event ∷ events) (done dig world act).world.chain
      (done dig world act).world.nodes

  is-op : (n : ℕ) (node : Node) → n ≡ 0 → slice_get world.nodes n ≡ Some node → op ≡ node
  is-op n node here is = some_same op node (sym has.op_is ∙ ap (slice_get world.nodes) (sym here) ∙ is)

  -- a commit that a node offers is the operator's
  offered-own : (call : RootCall) (origin : Origin) → IsFrom world call origin → commits_root call ≡ true
      → is_offered origin ≡ true → Has op.offers call
  offered-own call (OnOffer place) from some offered = by (is_operator_role place.node.role) refl
    where
      there : Has place.node.offers call
      there = offered-has from.1.0 place.node call from.1.1

      by : (b : Bool) → is_operator_role place.node.role ≡ b → Has op.offers call
      by true role =
          subst (λ (node : Node). Has node.offers call)
          (sym (is-op place.number place.node (first place.number place.node from.0 role) from.0)) there
      by false role = grind (arith, common_steps, false≢true, node-there, there)
  offered-own call origin from some offered = absurd (false≢true offered)

  calls-keep : (call : RootCall) (origin : Origin) → IsFrom world call origin
      → (commits_root call ≡ true → is_offered origin ≡ true)
      → commits_since ((done dig world (Enters origin call)).event ∷ events) ≤ 1 → After (Enters origin call)
  unfolding done log_after
  calls-keep call origin from free once = record { op = op; op_is = has.op_is; is = by once }
    where
      answer : Answer
      answer = answer_to (tests_by dig) (rules_of world.chain) world.chain.log call

      by : commits_since ((if is_accepted answer then Joins call else Bounces call) ∷ events) ≤ 1
          → IsKeeping dig ((if is_accepted answer then Joins call else Bounces call) ∷ events)
          (with_log world.chain (if is_accepted answer then call ∷ world.chain.log else world.chain.log)) op
      by =
          elim (is_accepted answer) as (λ b. commits_since ((if b then Joins call else Bounces call) ∷ events) ≤ 1
          → IsKeeping dig ((if b then Joins call else Bounces call) ∷ events)
          (with_log world.chain (if b then call ∷ world.chain.log else world.chain.log)) op) [
            | true ↦ λ at_most.
                keeps-joins dig events world.chain op has.is call at_most
                (λ some. offered-own call origin from some (free some))
            | false ↦ λ at_most. keeps-still dig events world.chain op has.is (Bounces call) refl refl
          ]

  -- a node that changes, by its own event: the operator, or another
  changes : (place : Place) (event : Event) (after : Node) → IsThere world place → node_in event ≡ Some place.number
      → (IsKeeping dig events world.chain place.node → IsKeeping dig (event ∷ events) world.chain after)
      → HasKeeping dig (event ∷ events) world.chain (set world.nodes place.number after)
  changes place event after there by own = elim (cases_eq place.number 0) [
    | inl here ↦ record {
      op = after;
      op_is = ap (slice_get (set world.nodes place.number after)) (sym here)
          ∙ set-same world.nodes place.number place.node after there;
      is = own (subst (IsKeeping dig events world.chain) (is-op place.number place.node here there) has.is);
    }
    | inr apart ↦ record {
      op = op;
      op_is = set-other world.nodes place.number 0 after apart ∙ has.op_is;
      is = keeps-still dig events world.chain op has.is event
          (ap (λ (o : Option ℕ). option_map_or (λ m. m == 0) o false) by ∙ ne_eqb place.number 0 apart)
          (node-no-commit event place.number by);
    }
  ]

  adds : (node : Node) (event : Event) → is_command_of 0 event ≡ false → is_commit event ≡ false
      → HasKeeping dig (event ∷ events) world.chain (world.nodes ++ node ∷ [])
  adds node event other none =
      let within = slice_get_within world.nodes 0 op has.op_is in record {
        op = op;
        op_is = push-other world.nodes node 0 (λ same. omega (arith, same, within)) ∙ has.op_is;
        is = keeps-still dig events world.chain op has.is event other none;
      }

  still : IsKeeping dig (Idle ∷ events) world.chain op
  still = keeps-still dig events world.chain op has.is Idle refl refl

  pub act-keeps : (act : Act) → IsActIn world act → IsFitAct act → IsFree act
      → commits_since ((done dig world act).event ∷ events) ≤ 1 → After act
  unfolding done
  act-keeps (Rests reply) known fit free once = record { op = op; op_is = has.op_is; is = still }
  act-keeps (Signs leaf body rogue) known fit free once = record { op = op; op_is = has.op_is; is = still }
  act-keeps (Adds name (NewWallet who)) known fit free once = adds _ _ refl refl
  act-keeps (Adds name (NewWatcher account)) known fit free once = adds _ _ refl refl
  act-keeps (Adds name (NewRogue who)) known fit free once = record { op = op; op_is = has.op_is; is = still }
  act-keeps (Enters origin call) known fit free once = calls-keep call origin known free once
  act-keeps (Orders place order cut) known fit free once =
      let deed = deed_at dig world place order in
      let end = end_of cut place.node order deed in
      changes place _ _ known.there (by-end dig world first place order known end).node
      (λ keeping. own-ends dig events world.chain place.node keeping place.number deed
      (own-deed dig world.chain.log place.number place.node order free fit keeping.role known.role) end)
  act-keeps (Crashes place) known fit free once =
      changes place (Other place.number) (after_crash place.node) known refl
      (λ keeping. keeps-own dig events world.chain place.node keeping (Other place.number) (after_crash place.node)
      refl refl refl)
