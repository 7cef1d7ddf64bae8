-- Over every run, what a wallet's node gave out is what its leaf binds, so no leaf of its key signs two messages.
use Rattle.world_laws.proofs.Basics.{◌≡◌, ℕ, true, List, [], ◌∷◌, ◌++◌, slice_get, Option, Some, None, inl, inr, refl, sym, ap, ◌∙◌, subst, arith, option_map, option_and_then, filter_map, cons_option, false≢true, find_at, common_steps, some_same, none_some}
use Rattle.world_laws.proofs.CoinWords.{signature_of, Owner, Body, body_text, body_at_start, Has, has-contains, contains-has}
use Rattle.world_laws.proofs.NodeWords.{secret_of, Reply}
use Rattle.world_laws.proofs.WorldWords.{and_then_some, option_map_some, Line, Command, WalletCommand, Event, bound_by, leaf_at, Node, World, is_wallet_role, number_of, owner_of_node, owner_named, LineEffect, TraceEntry, entry_of, Run, events_of, GivenOut, wallet_of_line, leaf_sent, given_by, given_out, IsCommandIn, position-parts, run-kept, KeptWorld, NodesGrow, records_grow, begun, IsRun, GivenOutIsBound, LeavesSignOneMessage, Act, act_of, steps_are_of_acts, IsFitAct, line_effect, begun}
use Rattle.node_rules.specs.WalletRecords.{who_is}
use Rattle.world_laws.proofs.Acts.{IsNext, over_acts}
use Rattle.world_laws.proofs.SignedDeeds.{named-role, new-sent}
use Rattle.world_laws.proofs.SignedStays.{stays, leaf-stays, KeysApart, keys-act}

-- what there is is one
one-of : {A : Type 0} (o : Option A) (x y : A) → o ≡ Some x → o ≡ Some y → x ≡ y
one-of o x y one other = some_same x y (sym one ∙ other)

-- ---- what holds of a run

-- a wallet with the name is there, and the bytes are the body that its leaf binds, with the leaf's signature
record IsSigned (events : List Event) (world : World) (name made : List ℕ) (q : ℕ) : Type 0 where
  n : ℕ
  node : Node
  number : number_of is_wallet_role world name ≡ Some n
  node_is : slice_get world.nodes n ≡ Some node
  body : Body
  leaf : leaf_at q (bound_by events n) ≡ Some body
  made_is : made ≡ body_text body ++ signature_of (secret_of (who_is node.notes)) q (body_text body)

-- so it is of each of these entries, behind the events
abbrev AreSigned : List Event → List TraceEntry → World → Type 0
AreSigned events entries world = (entry : TraceEntry) → Has entries entry → (name : List ℕ) (own : WalletCommand)
    (q : ℕ) → IsCommandIn entry.line (Command.Wallet name own) → entry.reply ≡ Reply.Sent q
    → IsSigned events world name entry.made q

record IsSignedRun (entries : List TraceEntry) (world : World) : Type 0 where
  signed : AreSigned (events_of entries) entries world
  apart : KeysApart world.nodes

-- the first line is no command, and there is no wallet yet
first-signed : (tag operator most : ℕ)
    → IsSignedRun (entry_of (Line.Chain tag operator most) (begun tag operator most) ∷ [])
    (begun tag operator most).world
first-signed tag operator most = grind (arith, common_steps, begun, false≢true, some_same, none_some)

module _ (dig : List ℕ → List ℕ) (events : List Event) (entries : List TraceEntry) (world : World)
    (kept : KeptWorld dig events world) (line : Line) (act : Act) (fit : IsFitAct act)
    (act_is : act_of world line ≡ Some act) where
  abbrev effect : LineEffect
  effect = line_effect dig world act

  grown : NodesGrow world (line_effect dig world act).world.nodes
  grown =
      records_grow dig world line (line_effect dig world act)
      (steps_are_of_acts dig world line ∙ ap (option_map (line_effect dig world)) act_is)

  -- the entry of the line
  newest-signed : (name : List ℕ) (own : WalletCommand) (q : ℕ) → IsCommandIn line (Command.Wallet name own)
      → effect.reply ≡ Reply.Sent q → IsSigned (effect.event ∷ events) effect.world name effect.made q
  newest-signed name own q in_command sent =
      let new = new-sent dig events world kept line act name own q fit act_is in_command sent in
      let stay = stays dig events world kept name new.n new.node new.number new.node_is effect.world.nodes grown in
      grind (arith, common_steps)

  -- and those before it
  older-signed : (name made : List ℕ) (q : ℕ) → IsSigned events world name made q
      → IsSigned (effect.event ∷ events) effect.world name made q
  older-signed name made q old =
      let stay = stays dig events world kept name old.n old.node old.number old.node_is effect.world.nodes grown in
      grind (arith, common_steps, leaf-stays)

  more-signed : AreSigned events entries world
      → AreSigned (effect.event ∷ events) (entry_of line effect ∷ entries) effect.world
  more-signed are entry (inl same) name own q in_command sent =
      subst (λ (e : TraceEntry). IsSigned (effect.event ∷ events) effect.world name e.made q) same
      (newest-signed name own q
      (subst (λ (e : TraceEntry). IsCommandIn e.line (Command.Wallet name own)) (sym same) in_command)
      (ap (λ (e : TraceEntry). e.reply) same ∙ sent))
  more-signed are entry (inr has) name own q in_command sent =
      older-signed name entry.made q (are entry has name own q in_command sent)

next-signed : (dig : List ℕ → List ℕ) (lines : List Line) (run : Run) (world : World) (line : Line) (act : Act)
    → IsNext dig lines run world line act → IsSignedRun run.entries world
    → IsSignedRun (entry_of line (line_effect dig world act) ∷ run.entries) (line_effect dig world act).world
unfolding events_of
next-signed dig lines run world line act next holds = record {
  signed = more-signed dig (events_of run.entries) run.entries world next.kept line act next.fit next.act_is
      holds.signed;
  apart = keys-act dig (events_of run.entries) world next.kept holds.apart act next.known next.fit;
}

runs-signed : (dig : List ℕ → List ℕ) (lines : List Line) (run : Run) (world : World) → IsRun dig lines run world
    → IsSignedRun run.entries world
runs-signed dig = over_acts dig IsSignedRun (λ tag operator most fits. first-signed tag operator most) (next-signed dig)

-- ---- what is given out

module _ {X Y : Type 0} (read : X → Option Y) where
  has-read : (xs : List X) (x : X) (y : Y) → Has xs x → read x ≡ Some y → Has (filter_map read xs) y
  has-read [] x y has is = absurd has
  has-read (z ∷ zs) x y (inl same) is =
      subst (λ (o : Option Y). Has (cons_option o (filter_map read zs)) y) (sym (ap read same ∙ is)) (inl refl)
  has-read (z ∷ zs) x y (inr has) is = grind (arith, common_steps, has-read zs x y has is)

  read-from : (xs : List X) (y : Y) → Has (filter_map read xs) y → (x : X) × Has xs x × (read x ≡ Some y)
  read-from [] y has = absurd has
  read-from (z ∷ zs) y has =
      (elim (read z) as (λ (o : Option Y). read z ≡ o → Has (cons_option o (filter_map read zs)) y
      → (x : X) × Has (z ∷ zs) x × (read x ≡ Some y)) [
        | None ↦ λ none later. let found = read-from zs y later in (found.0, inr found.1, found.2)
        | Some w ↦ λ some there. elim there [
          | inl same ↦ (z, inl refl, some ∙ ap Some same)
          | inr later ↦ let found = read-from zs y later in (found.0, inr found.1, found.2)
        ]
      ]) refl has

-- the wallet of a command's line, and the command of a wallet's
wallet-of : (line : Line) (name : List ℕ) (own : WalletCommand) → IsCommandIn line (Command.Wallet name own)
    → wallet_of_line line ≡ Some name
wallet-of line name own (inl plain) = ap wallet_of_line plain
wallet-of line name own (inr in_cut) = ap wallet_of_line in_cut.3

command-of : (line : Line) (name : List ℕ) → wallet_of_line line ≡ Some name
    → (own : WalletCommand) × IsCommandIn line (Command.Wallet name own)
command-of (Line.Command (Command.Wallet other own)) name is =
    (own, inl (ap (λ (n : List ℕ). Line.Command (Command.Wallet n own)) (some_same other name is)))
command-of (Line.Cut node calls outcome (Command.Wallet other own)) name is = (
  own,
  grind (arith, some_same),
)
command-of line name is = absurd (cc is)

sent-of : (reply : Reply) (q : ℕ) → leaf_sent reply ≡ Some q → reply ≡ Reply.Sent q
sent-of (Reply.Sent leaf) q is = ap Reply.Sent (some_same leaf q is)
sent-of reply q is = absurd (cc is)

-- the owner that a wallet's name stands for
owner-of : (world : World) (name : List ℕ) (n : ℕ) (node : Node) → number_of is_wallet_role world name ≡ Some n
    → slice_get world.nodes n ≡ Some node → owner_named world name ≡ Some (owner_of_node node)
owner-of world name n node number node_is = grind (arith, common_steps, find_at, position-parts)

abbrev given-of : ℕ → List ℕ → Owner → GivenOut
given-of leaf made owner = record { key = owner.key; leaf = leaf; bytes = made }

given-by : (world : World) (entry : TraceEntry) (name : List ℕ) (own : WalletCommand) (q : ℕ) (owner : Owner)
    → IsCommandIn entry.line (Command.Wallet name own) → entry.reply ≡ Reply.Sent q
    → owner_named world name ≡ Some owner → given_by world entry ≡ Some (given-of q entry.made owner)
given-by world entry name own q owner in_command sent owner_is = grind (arith, common_steps, wallet-of)

-- ---- the laws

pub given_out_is_bound : GivenOutIsBound
unfolding given_out
given_out_is_bound dig lines run world entry name own q n node run_is has in_command sent number node_is =
    let events = events_of run.entries in
    let there = contains-has run.entries entry has in
    let signed = (runs-signed dig lines run world run_is).signed entry there name own q in_command sent in
    grind (arith, common_steps, one-of, has-contains, has-read, given-by, owner-of)

-- whose the bytes are that were given out
record IsOwn (events : List Event) (world : World) (given : GivenOut) : Type 0 where
  n : ℕ
  node : Node
  node_is : slice_get world.nodes n ≡ Some node
  role : is_wallet_role node.role ≡ true
  key : given.key ≡ (owner_of_node node).key
  body : Body
  leaf : leaf_at given.leaf (bound_by events n) ≡ Some body
  bytes : given.bytes ≡ body_text body ++ signature_of (secret_of (who_is node.notes)) given.leaf (body_text body)

module _ (dig : List ℕ → List ℕ) (lines : List Line) (run : Run) (world : World) (run_is : IsRun dig lines run world)
  where
    own-from : (entry : TraceEntry) (name : List ℕ) (own : WalletCommand) (q : ℕ) (owner : Owner)
        → Has run.entries entry → IsCommandIn entry.line (Command.Wallet name own) → entry.reply ≡ Reply.Sent q
        → owner_named world name ≡ Some owner → IsOwn (events_of run.entries) world (given-of q entry.made owner)
    own-from entry name own q owner has in_command sent owner_is =
        let kept = run-kept dig run_is.digest lines run world run_is.lines_are run_is.run_is run_is.world_is in
        let signed = (runs-signed dig lines run world run_is).signed entry has name own q in_command sent in
        let same : owner ≡ owner_of_node signed.node =
        one-of (owner_named world name) owner (owner_of_node signed.node) owner_is
        (owner-of world name signed.n signed.node signed.number signed.node_is) in
        record {
          n = signed.n;
          node = signed.node;
          node_is = signed.node_is;
          role = named-role dig (events_of run.entries) world kept name signed.n signed.node signed.number
              signed.node_is;
          key = ap (λ (o : Owner). o.key) same;
          body = signed.body;
          leaf = signed.leaf;
          bytes = signed.made_is;
        }

    own-of : (entry : TraceEntry) (given : GivenOut) → Has run.entries entry → given_by world entry ≡ Some given
        → IsOwn (events_of run.entries) world given
    own-of entry given has is =
        let sent = and_then_some (λ leaf. option_map (given-of leaf entry.made)
        (option_and_then (owner_named world) (wallet_of_line entry.line))) (leaf_sent entry.reply) given is in
        let mapped = option_map_some (given-of sent.0 entry.made)
        (option_and_then (owner_named world) (wallet_of_line entry.line)) given sent.2 in
        let named = and_then_some (owner_named world) (wallet_of_line entry.line) mapped.0 mapped.1 in
        let command = command-of entry.line named.0 named.1 in
        subst (IsOwn (events_of run.entries) world) mapped.2
        (own-from entry named.0 command.0 sent.0 mapped.0 has command.1 (sent-of entry.reply sent.0 sent.1) named.2)

    given-own : (given : GivenOut) → Has (given_out world run.entries) given
        → IsOwn (events_of run.entries) world given
    unfolding given_out
    given-own given has =
        let found = read-from (given_by world) run.entries given has in own-of found.0 given found.1 found.2

    one-message : (one other : GivenOut) → IsOwn (events_of run.entries) world one
        → IsOwn (events_of run.entries) world other → one.key ≡ other.key → one.leaf ≡ other.leaf
        → one.bytes ≡ other.bytes
    one-message one other first second same_key same_leaf =
        let events = events_of run.entries in
        let same_n : first.n ≡ second.n = grind (arith, common_steps, runs-signed) in
        grind (arith, common_steps, one-of)

pub leaves_sign_one_message : LeavesSignOneMessage
leaves_sign_one_message dig lines run known run_is world one other world_is has_one has_other same_key same_leaf =
    let here : IsRun dig lines run world =
    record { digest = run_is.digest; lines_are = run_is.lines_are; run_is = run_is.run_is; world_is = world_is } in
    ap (λ (bytes : List ℕ). body_at_start bytes)
    (one-message dig lines run world here one other
    (given-own dig lines run world here one (contains-has (given_out world run.entries) one has_one))
    (given-own dig lines run world here other (contains-has (given_out world run.entries) other has_other))
    same_key same_leaf)
