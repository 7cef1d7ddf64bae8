-- The wallets of a world behind one more line: a line that declares one adds it, and no other line does.
use Rattle.world_core.proofs.Words.{◌≡◌, ℕ, suc, ◌+◌, Bool, true, false, if◌then◌else◌, List, [], ◌∷◌, ◌++◌, length, map, set, slice_get, Option, Some, None, refl, sym, ap, ◌∙◌, subst, arith, false≢true, append-nil, RootCall, Tests, Rules, tests_by, rules_of, answer_to, is_accepted, some_same, Line, wallet_text, Event, Declares, Joins, Bounces, Watches, Wallet, Watcher, Node, World, is_wallet_role, keeps_rules, LineEffect, new_node, declares_wallet, declares_watcher, called, after_crash, effect_of, Named, wallets_from, NewWallet, NewWatcher, NewRogue, Act, Adds, Enters, Orders, Crashes, callers_after, end_of, node_after, deed_at, done, IsActOf, is-act, act-kept, card-after, named_of, LineEvent, IsEvent, IsJoin, IsWatch, declared_by, wallets_in, name_in}
use Rattle.lms_sign.specs.declared.types.LmsTypes.{LmsTypes}
use Rattle.plasma_tx.specs.declared.answer.Answer.{Answer}
use Rattle.node_rules.specs.declared.identity.WalletIdentity.{WalletIdentity}
use Rattle.node_rules.specs.Watcher.{identity_text as watcher_text}
use Rattle.world_rules.proofs.Named.{Card, card, cards, cards-set}
use Rattle.world_rules.proofs.KeptNames.{is_plain}
use Rattle.world_rules.proofs.NamedDeeds.{IsDeed, Plain, Accepting, order-is}

-- a line that declares no wallet names none
pub no_name : (line : Line)
    → ((name : List ℕ) (account seed : ℕ) (types : Option LmsTypes) → line ≡ Line.Wallet name account seed types → ⊥)
    → [] ≡ name_in line
no_name (Line.Wallet name account seed types) other = absurd (other name account seed types refl)
no_name line other = refl

-- ---- the wallets among nodes

-- by their names and roles
abbrev named-cards : ℕ → List Card → List Named
named-cards n [] = []
named-cards n (one ∷ others) =
    if is_wallet_role one.role then record { number = n; name = one.name } ∷ named-cards (n + 1) others
    else named-cards (n + 1) others

by-cards : (n : ℕ) (nodes : List Node) → wallets_from n nodes ≡ named-cards n (cards nodes)
unfolding wallets_from
by-cards n [] = refl
by-cards n (node ∷ nodes) =
    ap (λ (rest : List Named).
    if is_wallet_role node.role then record { number = n; name = node.name } ∷ rest else rest)
    (by-cards (n + 1) nodes)

same-cards : (nodes others : List Node) → cards others ≡ cards nodes → wallets_from 0 others ≡ wallets_from 0 nodes
same-cards nodes others same = by-cards 0 others ∙ ap (named-cards 0) same ∙ sym (by-cards 0 nodes)

-- the node, where it is a wallet
abbrev lone : ℕ → Bool → Node → List Named
lone n wallet node = if wallet then record { number = n; name = node.name } ∷ [] else []

behind : {X : Type 0} (b : Bool) (x : X) (longer shorter more : List X) → longer ≡ shorter ++ more
    → (if b then x ∷ longer else longer) ≡ (if b then x ∷ shorter else shorter) ++ more
behind true x longer shorter more is = ap (λ xs. x ∷ xs) is
behind false x longer shorter more is = is

-- one more node
wallets-append : (k : ℕ) (nodes : List Node) (node : Node)
    → wallets_from k (nodes ++ node ∷ [])
    ≡ wallets_from k nodes ++ lone (k + length nodes) (is_wallet_role node.role) node
unfolding wallets_from
wallets-append k [] node =
    let here : k ≡ k + 0 = omega arith in ap (λ n. lone n (is_wallet_role node.role) node) here
wallets-append k (first ∷ nodes) node =
    let there : (k + 1) + length nodes ≡ k + suc (length nodes) = omega arith in
    behind (is_wallet_role first.role) (record { number = k; name = first.name })
    (wallets_from (k + 1) (nodes ++ node ∷ [])) (wallets_from (k + 1) nodes)
    (lone (k + suc (length nodes)) (is_wallet_role node.role) node)
    (wallets-append (k + 1) nodes node
    ∙ ap (λ n. wallets_from (k + 1) nodes ++ lone n (is_wallet_role node.role) node) there)

-- ---- events that declare no wallet

abbrev is-silent : Event → Bool
is-silent (Declares w me) = false
is-silent event = true

plain-silent : (event : Event) → is_plain event ≡ true → is-silent event ≡ true
plain-silent (Declares w me) plain = plain
plain-silent event plain = refl

deed-silent : (log : List RootCall) (event : Event) → IsDeed log event → is-silent event ≡ true
deed-silent log event (Plain plain) = plain-silent event plain
deed-silent log event (Accepting n bundle is coin) = ap is-silent is

module _ (tests : Tests) (rules : Rules) (log : List RootCall) (name : List ℕ) where
  joins-none : (call : RootCall) (event : LineEvent) → IsJoin tests rules log call event → declared_by name event ≡ []
  joins-none call (LineEvent.Joins fact) is = refl
  joins-none call event is = absurd is

  watch-none : (n : ℕ) (calls : List RootCall) (event : LineEvent) → IsWatch n calls event
      → declared_by name event ≡ []
  watch-none n calls (LineEvent.Watches node coins) is = refl
  watch-none n calls event is = absurd is

  silent-none : (told : Event) (event : LineEvent) → is-silent told ≡ true → IsEvent tests rules log told event
      → declared_by name event ≡ []
  silent-none (Declares w me) event silent is = absurd (false≢true silent)
  silent-none (Joins call) event silent is = joins-none call event is
  silent-none (Watches n calls) event silent is = watch-none n calls event is
  silent-none told event silent is = ap (declared_by name) is

-- ---- lines that declare no wallet

record AddsNone (world : World) (effect : LineEffect) : Type 0 where
  wallets : wallets_from 0 effect.world.nodes ≡ wallets_from 0 world.nodes
  silent : is-silent effect.event ≡ true

module _ (dig : List ℕ → List ℕ) (world : World) where
  calls-none : (callers : List ℕ) (call : RootCall)
      → AddsNone world (called dig (record world { raw_callers = callers }) call)
  calls-none callers call = record { wallets = refl; silent = by (is_accepted answer) }
    where
      answer : Answer
      answer = answer_to (tests_by dig) (rules_of world.chain) world.chain.log call

      by : (b : Bool) → is-silent (if b then Joins call else Bounces call) ≡ true
      by true = refl
      by false = refl

  -- a node that changes, but for name and role
  one-none : (n : ℕ) (node after : Node) → slice_get world.nodes n ≡ Some node → card after ≡ card node
      → wallets_from 0 (set world.nodes n after) ≡ wallets_from 0 world.nodes
  one-none n node after at same =
      same-cards world.nodes (set world.nodes n after) (cards-set world.nodes n node after at same)

  -- ---- each line

  module _ (tests : Tests) (rules : Rules) (log : List RootCall) (event : LineEvent) where
    -- the wallets with the one that the event declares, by a name
    abbrev IsNamed : List ℕ → LineEffect → Type 0
    IsNamed name effect = IsEvent tests rules log effect.event event
        → wallets_from 0 effect.world.nodes ≡ wallets_from 0 world.nodes ++ map named_of (declared_by name event)

    none-named : (name : List ℕ) (effect : LineEffect) → AddsNone world effect → IsNamed name effect
    none-named name effect none is =
        none.wallets ∙ sym (append-nil (wallets_from 0 world.nodes))
        ∙ ap (λ more. wallets_from 0 world.nodes ++ map named_of more)
        (sym (silent-none tests rules log name effect.event event none.silent is))

    wallet-named : (name : List ℕ) (who : WalletIdentity) → IsNamed name (declares_wallet world name who)
    wallet-named name who is =
        wallets-append 0 world.nodes (new_node Wallet name who.account (wallet_text who))
        ∙ ap (λ n. wallets_from 0 world.nodes ++ record { number = n; name = name } ∷ []) count
        ∙ ap (λ (e : LineEvent). wallets_from 0 world.nodes ++ map named_of (declared_by name e)) (sym is)
      where
        count : 0 + length world.nodes ≡ length world.nodes
        count = omega arith

    watcher-none : (name : List ℕ) (account : ℕ) → AddsNone world (declares_watcher world name account)
    watcher-none name account = record {
      wallets =
          wallets-append 0 world.nodes
          (new_node Watcher name account (watcher_text (record { tag = world.chain.tag; account = account })))
          ∙ append-nil (wallets_from 0 world.nodes);
      silent = refl;
    }

    act-named : (line : Line) (act : Act) → IsActOf world line act → IsNamed (name_in line) (done dig world act)
    unfolding done
    act-named line (Adds name (NewWallet who)) is =
        subst (λ l. IsNamed (name_in l) (declares_wallet world name who)) (sym is.line_is.3) (wallet-named name who)
    act-named line (Adds name (NewWatcher account)) is =
        none-named (name_in line) (done dig world (Adds name (NewWatcher account))) (watcher-none name account)
    act-named line (Adds name (NewRogue who)) is =
        none-named (name_in line) (done dig world (Adds name (NewRogue who))) (record { wallets = refl; silent = refl })
    act-named line (Enters origin call) is =
        none-named (name_in line) (done dig world (Enters origin call))
        (calls-none (callers_after world.raw_callers origin) call)
    act-named line (Orders place order cut) is =
        let deed = deed_at dig world place order in
        let end = end_of cut place.node order deed in
        none-named (name_in line) (done dig world (Orders place order cut)) (record {
          wallets =
              one-none place.number place.node (node_after place.node deed end) is.known.there
              (card-after place.node deed end);
          silent =
              deed-silent world.chain.log _ (order-is dig world.chain.log place.number place.node order end);
        })
    act-named line (Crashes place) is =
        none-named (name_in line) (done dig world (Crashes place)) (record {
          wallets = one-none place.number place.node (after_crash place.node) is.known refl;
          silent = refl;
        })
    act-named line act is =
        none-named (name_in line) (done dig world act) (record { wallets = refl; silent = refl })

-- the first line, which begins the chain, names none
pub line_named : (dig : List ℕ → List ℕ) (world : Option World) (line : Line) (effect : LineEffect) (tests : Tests)
    (rules : Rules) (log : List RootCall) (event : LineEvent) → effect_of dig world line ≡ Some effect
    → keeps_rules world line ≡ true → IsEvent tests rules log effect.event event
    → wallets_from 0 effect.world.nodes ≡ wallets_in world ++ map named_of (declared_by (name_in line) event)
unfolding effect_of wallets_from
line_named dig None (Line.Chain tag operator most) effect tests rules log event is keeps told =
    subst (λ (x : LineEffect). IsEvent tests rules log x.event event
    → wallets_from 0 x.world.nodes ≡ map named_of (declared_by [] event)) (some_same _ effect is)
    (λ idle. ap (λ (e : LineEvent). map named_of (declared_by [] e)) (sym idle)) told
line_named dig None line effect tests rules log event is keeps told = absurd (cc is)
line_named dig (Some world) line effect tests rules log event is keeps told =
    let act = act-kept world line keeps in
    let of = is-act world line act.0 act.1 in
    let same : done dig world act.0 ≡ effect = some_same _ effect (sym (of.effect dig) ∙ is) in
    subst (λ (x : LineEffect). IsEvent tests rules log x.event event → wallets_from 0 x.world.nodes
    ≡ wallets_from 0 world.nodes ++ map named_of (declared_by (name_in line) event)) same
    (act-named dig world tests rules log event line act.0 of) told
