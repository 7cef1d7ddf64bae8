-- That the records of a node in a world are of its role.
use Rattle.world_nodes.proofs.Words.{◌≡◌, ◌<◌, ◌&&◌, ◌∷◌, ◌++◌, [], ℕ, Bool, true, false, if◌then◌else◌, List, length, w32, Option, Some, sym, ap, subst, arith, is_some, All, AllByRecursion, common_steps, Outcome, content_may_be_left, mark, spelled, spelled_record, spelled_records, kept_records, RootCall, AreBytes, WalletIdentity, identity_text, notes_of, FitWords, is_wallet, WatcherIdentity, watcher_text, identity_in-text, records_behind_of, Identity, operator_text, after_crash, wallet_orders_keep, watcher_orders_keep, operator_orders_keep, NodeOrder, WalletOrdered, WatcherOrdered, OperatorOrdered, Open, CutEnd, CutDown, CutStopped, CutDone, DownNode, Site, Down, Gone, Member, fits, IsFit, node_does, with_records, NodeView, role_of, Spells, AreOf, IsOfRole, Crashes, Cuts, crashed, with_disks, member_kind, view_of, IsThere, IsReady, IsEntry, IsIdentityOf}
use Rattle.std.specs.Int.{to_be_bytes}
use Rattle.std.proofs.lemmas.List.Elements.{All-from_recursion, recursion_from_All}
use Rattle.gate_journal.proofs.Front.{read_is_spelled}
use Rattle.node_rules.specs.WalletLaws.{IsIdentity}
use Rattle.node_rules.specs.WatcherLaws.{IsIdentity as IsWatcherIdentity}
use Rattle.node_rules.proofs.WatcherTexts.{identity_in-text as watcher_in-text}
use Rattle.operator_rules.specs.Laws.{IsIdentity as IsOperatorIdentity}
use Rattle.operator_rules.proofs.RecordTexts.{identity_in-text as operator_in-text}
use Rattle.world_rules.specs.World.{Role, Wallet, Watcher, Operator, Node, wallet_of}
use Rattle.world_nodes.specs.declared.order.NodeKind.TheVariants.{Wallet as WalletKind, Watcher as WatcherKind, Operator as OperatorKind}
use Rattle.world_nodes.proofs.Members.{lost}
use Rattle.world_nodes.proofs.Ready.{crashed-unfused}

-- ---- bytes

module _ (P : ℕ → Type 0) where
  parts : (xs ys : List ℕ) → AllByRecursion P (xs ++ ys) → AllByRecursion P xs × AllByRecursion P ys
  parts [] ys all = (tt, all)
  parts (x ∷ xs) ys all = let rest = parts xs ys all.1 in ((all.0, rest.0), rest.1)

abbrev IsByte : ℕ → Type 0
IsByte byte = byte < 256

spelled-bytes : (records : List (List ℕ)) → AllByRecursion IsByte (spelled_records records)
    → AllByRecursion AreBytes records
spelled-bytes [] all = tt
spelled-bytes (body ∷ records) all =
    let both = parts IsByte (spelled_record body) (spelled_records records) all in (
      All-from_recursion IsByte body (parts IsByte (165 ∷ to_be_bytes w32 (length body)) body both.0).1,
      grind (arith, common_steps, spelled-bytes records both.1) steps 20000,
    )

-- the records on a disk are bytes
pub kept-bytes : (records : List (List ℕ)) (image : List ℕ) → AreBytes image → kept_records image ≡ Some records
    → All AreBytes records
kept-bytes records image bytes kept =
    let spells = read_is_spelled image records bytes kept in
    let all = subst (AllByRecursion IsByte) spells.is (recursion_from_All IsByte image bytes) in
    All-from_recursion AreBytes records
    (spelled-bytes records (parts IsByte mark (spelled_records records) (parts IsByte (spelled records) _ all).0).1)

-- ---- records

-- an identity is one of its role
pub wallet-alone : (who : WalletIdentity) → IsIdentity who → IsIdentityOf WalletKind (identity_text who)
unfolding is_wallet notes_of records_behind_of
wallet-alone who is dig =
    ap (λ (o : Option WalletIdentity). ((is_some o && true) && true) && true) (identity_in-text who is)

pub watcher-alone : (who : WatcherIdentity) → IsWatcherIdentity who → IsIdentityOf WatcherKind (watcher_text who)
watcher-alone who is dig = ap (λ (o : Option WatcherIdentity). is_some o && true) (watcher_in-text who is)

pub operator-alone : (who : Identity) → IsOperatorIdentity who → IsIdentityOf OperatorKind (operator_text who)
operator-alone who is dig = ap (λ (o : Option Identity). is_some o && true) (operator_in-text who is)

-- the records are of the role with what an order adds
pub role-after : (dig : List ℕ → List ℕ) (log : List RootCall) (node : Node) (role : Role) (order : NodeOrder)
    → AreOf dig role (wallet_of node) → fits role order ≡ true → IsFit order → FitWords (wallet_of node) log
    → AreOf dig role (wallet_of (with_records node (node_does dig log node order)))
role-after dig log node Wallet (WalletOrdered order) is fit words all =
    wallet_orders_keep dig log (wallet_of node) order is words all
role-after dig log node Watcher (WatcherOrdered order) is fit words all =
    watcher_orders_keep dig log node.notes order is words
role-after dig log node Operator (OperatorOrdered order) is fit words all =
    operator_orders_keep dig log node.notes order is
role-after dig log node Wallet Open is fit words all = is
role-after dig log node Watcher Open is fit words all = is
role-after dig log node Operator Open is fit words all = is
role-after dig log node Wallet (WatcherOrdered order) is fit words all = absurd (cc fit)
role-after dig log node Wallet (OperatorOrdered order) is fit words all = absurd (cc fit)
role-after dig log node Watcher (WalletOrdered order) is fit words all = absurd (cc fit)
role-after dig log node Watcher (OperatorOrdered order) is fit words all = absurd (cc fit)
role-after dig log node Operator (WalletOrdered order) is fit words all = absurd (cc fit)
role-after dig log node Operator (WatcherOrdered order) is fit words all = absurd (cc fit)

-- ---- entries

-- a node whose disks keep its records isn't lost
pub there : {H : Type 0} (hash : H) (name : List ℕ) (account : ℕ) (member : Member) (site : Site H)
    (offers : List RootCall) → Spells (view_of hash name account member site offers) → IsThere site
there hash name account member site offers spells = grind (arith, common_steps, content_may_be_left) steps 20000

-- a site that was taken is lost
pub lost-entry : {H : Type 0} (digest : H → List ℕ → List ℕ) (hash : H) (member : Member) (site after : Site H)
    → IsEntry digest hash member site → after ≡ Gone → IsEntry digest hash member after
lost-entry {H} digest hash member site after entry is =
    subst (IsEntry digest hash member) (sym is) (lost hash member site entry.0, tt)

-- disks that crashed are ready where the node's records are of its role
pub down-ready : {H : Type 0} (digest : H → List ℕ → List ℕ) (hash : H) (name : List ℕ) (account : ℕ)
    (member : Member) (after : Site H) (offers : List RootCall) (ran new : DownNode) (outcome : Outcome)
    → after ≡ Down new → new ≡ with_disks (crashed outcome) ran
    → IsOfRole (digest hash) (view_of hash name account member after offers).node
    → IsReady (digest hash) (role_of (member_kind member))
    after
down-ready {H} digest hash name account member after offers ran new outcome at crashes role =
    grind (arith, common_steps, crashed-unfused) steps 20000

-- the node's records are of its role after a crash, and after a cut of an order that keeps them so
pub crash-role : {H : Type 0} (dig : List ℕ → List ℕ) (outcome : Outcome) (old new : NodeView H)
    → Crashes outcome old new → IsOfRole dig old.node → IsOfRole dig new.node
crash-role dig outcome old new crashes role = subst (IsOfRole dig) (sym crashes.node) role

pub cut-role : {H : Type 0} (dig : List ℕ → List ℕ) (log : List RootCall) (calls : ℕ) (outcome : Outcome)
    (order : NodeOrder) (old : NodeView H) (end : CutEnd) (new : NodeView H)
    → Cuts dig log calls outcome order old end new → IsOfRole dig old.node
    → IsOfRole dig (with_records old.node (node_does dig log old.node order)) → IsOfRole dig new.node
cut-role dig log calls outcome order old CutDown new cuts before after =
    subst (λ (v : NodeView _). IsOfRole dig v.node) (sym cuts.1) before
cut-role dig log calls outcome order old (CutStopped kept) new cuts before after =
    grind (arith, common_steps, by) steps 20000
  where
    by : (b : Bool)
        → IsOfRole dig (after_crash (if b then with_records old.node (node_does dig log old.node order) else old.node))
    by true = after
    by false = before
cut-role dig log calls outcome order old (CutDone given) new cuts before after =
    subst (IsOfRole dig) (sym cuts.1.node) after
