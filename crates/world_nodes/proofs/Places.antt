-- What the calls of an entry do to its node, by the places of the code: the site that was taken, and where one was put.
use Rattle.world_nodes.proofs.Words.{◌≡◌, ◌-◌, [], ℕ, min, true, false, List, Option, None, sym, ◌∙◌, subst, arith, common_steps, with_fuse, HasPattern, Outcome, RootCall, Given, IsGiven, NodeOrder, Open, CutEnd, Counts, DownNode, UpNode, Site, Up, Down, Member, fits, is_opening_order, node_does, NodeView, role_of, Spells, IsDone, Crashes, Cuts, crashed, bare_node, down_kind, down_halves, with_disks, up_kind, up_halves, up_hash, Opens, UpDid, IsDownOf, IsCutShort, IsCutOpening, opening_gives, counts_of, end_in, view_of, IsWhole}
use Rattle.world_nodes.proofs.Cuts.{down_is, with_kind}
use Rattle.world_nodes.proofs.Entries.{command_done, opening_comes, crash_comes, cut_comes, cut_opening_comes}

-- what holds of the node after a call holds of the site where it was put
moved : {H : Type 0} (hash : H) (name : List ℕ) (account : ℕ) (member : Member) (more : List RootCall)
    (after put : Site H) (P : NodeView H → Type 0) → after ≡ put
    → P (view_of hash name account member put more) × Spells (view_of hash name account member put more)
    × IsWhole hash member put
    → P (view_of hash name account member after more) × Spells (view_of hash name account member after more)
    × IsWhole hash member after
moved {H} hash name account member more after put P is all = grind (arith, common_steps) steps 20000

pub command_at : {H : Type 0} (digest : H → List ℕ → List ℕ) (hash : H) (name : List ℕ) (account : ℕ)
    (member : Member) (offers more : List RootCall) (old : NodeView H) (site taken after : Site H) (node new :
    UpNode H)
    (log : List RootCall) (order : NodeOrder) (given : Given)
    → view_of hash name account member site offers ≡ old → IsWhole hash member site → Spells old → taken ≡ site
    → taken ≡ Up node → fits old.node.role order ≡ true → is_opening_order order ≡ false
    → UpDid (node_does (digest (up_hash node)) log (bare_node (up_halves node)) order) node None new
    → IsGiven (node_does (digest (up_hash node)) log (bare_node (up_halves node)) order).response given
    → more ≡ given.offers.items → after ≡ Up new
    → IsDone order (node_does (digest old.hash) log old.node order) old given
    (view_of hash name account member after more)
    × Spells (view_of hash name account member after more) × IsWhole hash member after
command_at digest hash name account member offers more old site taken after node new log order given is whole spells
    same at fit command did gives copied put =
    moved hash name account member more after (Up new)
    (IsDone order (node_does (digest old.hash) log old.node order) old given) put
    (command_done digest hash name account member offers more old site node new log order given is whole spells
    (sym same ∙ at) fit command did gives copied)

pub opening_at : {H : Type 0} (digest : H → List ℕ → List ℕ) (hash : H) (name : List ℕ) (account : ℕ)
    (member : Member) (offers more : List RootCall) (old : NodeView H) (site taken after : Site H) (down : DownNode)
    (up : UpNode H) (log : List RootCall) (given : Given)
    → view_of hash name account member site offers ≡ old → IsWhole hash member site → Spells old → taken ≡ site
    → taken ≡ Down down → Opens (digest hash) down up → up_hash up ≡ hash
    → IsGiven (opening_gives (up_halves up)) given → more ≡ [] → after ≡ Up up
    → IsDone Open (node_does (digest old.hash) log old.node Open) old given
    (view_of hash name account member after more)
    × Spells (view_of hash name account member after more) × IsWhole hash member after
opening_at digest hash name account member offers more old site taken after down up log given is whole spells
    same at
    opens same_hash gives none put =
    moved hash name account member more after (Up up)
    (IsDone Open (node_does (digest old.hash) log old.node Open) old given) put
    (opening_comes digest hash name account member offers more old site down up log given is whole spells
    (sym same ∙ at) opens same_hash gives none)

pub crash_at : {H : Type 0} (hash : H) (name : List ℕ) (account : ℕ) (member : Member) (offers more : List RootCall)
    (old : NodeView H) (site taken after : Site H) (down new : DownNode) (outcome : Outcome)
    → view_of hash name account member site offers ≡ old → IsWhole hash member site → Spells old → taken ≡ site
    → IsDownOf taken down → new ≡ with_disks (crashed outcome) down → more ≡ [] → after ≡ Down new
    → Crashes outcome old (view_of hash name account member after more)
    × Spells (view_of hash name account member after more) × IsWhole hash member after
crash_at {H} hash name account member offers more old site taken after down new outcome is whole spells same at
    crashes
    none put =
    moved hash name account member more after (Down new) (Crashes outcome old) put
    (crash_comes hash name account member offers more old site down new outcome is whole spells
    (subst (λ (s : Site H). IsDownOf s down) same at) crashes none)

pub cut_at : {H : Type 0} (digest : H → List ℕ → List ℕ) (hash : H) (name : List ℕ) (account : ℕ)
    (member : Member) (offers more : List RootCall) (old : NodeView H) (site taken after : Site H)
    (down fused ran new : DownNode) (log : List RootCall) (calls fuse : ℕ) (outcome : Outcome) (order : NodeOrder)
    (given : Option Given) (before : Counts) (end : CutEnd)
    → view_of hash name account member site offers ≡ old → IsWhole hash member site → Spells old
    → old.node.is_up ≡ true → fits old.node.role order ≡ true → is_opening_order order ≡ false → HasPattern outcome
    → taken ≡ site → IsDownOf taken down → before ≡ counts_of (down_halves down) → min 4 (fuse - 3) ≡ min 4 calls
    → fused ≡ with_disks (with_fuse fuse) down → IsCutShort H (digest hash) log order fused given ran
    → new ≡ with_disks (crashed outcome) ran → end ≡ end_in before (down_halves new) given → more ≡ []
    → after ≡ Down new
    → Cuts (digest old.hash) log calls outcome order old end (view_of hash name account member after more)
    × Spells (view_of hash name account member after more) × IsWhole hash member after
cut_at {H} digest hash name account member offers more old site taken after down fused ran new log calls fuse
    outcome order
    given before end is whole spells up fit command pattern same at counted fuses fusing cut crashes ending none put =
    moved hash name account member more after (Down new)
    (Cuts (digest old.hash) log calls outcome order old end) put
    (cut_comes digest hash name account member offers more old site down fused ran new log calls fuse outcome
    order given
    before end is whole spells up fit command pattern (subst (λ (s : Site H). IsDownOf s down) same at) counted fuses
    fusing cut crashes ending none)

pub cut_opening_at : {H : Type 0} (digest : H → List ℕ → List ℕ) (hash : H) (name : List ℕ) (account : ℕ)
    (member : Member) (offers more : List RootCall) (old : NodeView H) (site taken after : Site H)
    (down fused left new : DownNode) (log : List RootCall) (calls : ℕ) (outcome : Outcome) (end : CutEnd)
    → view_of hash name account member site offers ≡ old → IsWhole hash member site → Spells old → taken ≡ site
    → taken ≡ Down down → fused ≡ with_disks (with_fuse calls) down
    → IsCutOpening H (digest hash) calls fused end left → new ≡ with_disks (crashed outcome) left → more ≡ []
    → after ≡ Down new
    → Cuts (digest old.hash) log calls outcome Open old end (view_of hash name account member after more)
    × Spells (view_of hash name account member after more) × IsWhole hash member after
cut_opening_at digest hash name account member offers more old site taken after down fused left new log calls
    outcome end
    is whole spells same at fusing cut crashes none put =
    moved hash name account member more after (Down new)
    (Cuts (digest old.hash) log calls outcome Open old end) put
    (cut_opening_comes digest hash name account member offers more old site down fused left new log calls
    outcome end is
    whole spells (sym same ∙ at) fusing cut crashes none)

-- the order fits the disks with a fuse
pub cut_fits : {H : Type 0} (hash : H) (name : List ℕ) (account : ℕ) (member : Member) (offers : List RootCall)
    (old : NodeView H) (site taken : Site H) (down fused : DownNode) (fuse : ℕ) (order : NodeOrder)
    → view_of hash name account member site offers ≡ old → IsWhole hash member site
    → fits old.node.role order ≡ true → taken ≡ site → IsDownOf taken down → fused ≡ with_disks (with_fuse fuse) down
    → fits (role_of (down_kind fused)) order ≡ true
cut_fits {H} hash name account member offers old site taken down fused fuse order is whole fit same at fusing =
    grind (arith, common_steps, with_kind, down_is) steps 20000

-- and a node that is up
pub up_fits : {H : Type 0} (hash : H) (name : List ℕ) (account : ℕ) (member : Member) (offers : List RootCall)
    (old : NodeView H) (site taken : Site H) (node : UpNode H) (order : NodeOrder)
    → view_of hash name account member site offers ≡ old → IsWhole hash member site
    → fits old.node.role order ≡ true → taken ≡ site → taken ≡ Up node → fits (role_of (up_kind node)) order ≡ true
up_fits {H} hash name account member offers old site taken node order is whole fit same at =
    grind (arith, common_steps) steps 20000
