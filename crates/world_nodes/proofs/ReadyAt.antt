-- What the calls of an entry need of its disks, and leave them, by the places of the code.
use Rattle.world_nodes.proofs.Words.{◌≡◌, ◌<◌, ◌≤◌, ◌^◌, ◌∷◌, [], ℕ, false, List, None, refl, sym, ◌∙◌, ap, subst, arith, All, common_steps, content, with_fuse, Outcome, content_may_be_left, RootCall, AreBytes, FitWords, wallet_of, Doing, NodeOrder, CutEnd, DownNode, UpNode, Site, Up, Down, Member, node_does, with_records, NodeView, role_of, Spells, AreOf, IsOfRole, Crashes, Cuts, NoneListedOf, Halves, NoFuses, records_in, crashed, down_kind, down_halves, with_disks, up_closed, up_hash, up_halves, up_kind, MayOpen, IsToStop, Opens, UpDid, RunsOn, IsDownOf, IsThere, is_up, halves_of, member_kind, view_of, IsWhole, IsReady, IsEntry, IsDeclared, first_note}
use Rattle.plasma_tx.specs.Views.{blocks}
use Rattle.world_nodes.specs.Boxed.{IsWholeSite}
use Rattle.world_nodes.proofs.Runs.{KeepsAll, view_keeps}
use Rattle.world_nodes.proofs.Cuts.{down_same, down_is, whole_down, with_kind}
use Rattle.world_nodes.proofs.CutOpenings.{fused_keeps, fused_same}
use Rattle.world_nodes.proofs.Declared.{begun_records, begun_keeps}
use Rattle.world_nodes.proofs.Ready.{unfused-open, fused-open, may-open, to-stop, runs-on, ran-unfused, opened-unfused}
use Rattle.world_nodes.proofs.Roles.{kept-bytes, there, down-ready, crash-role, cut-role}

-- the node of an entry, whose disks keep its records; the site was taken
module _ {H : Type 0} (digest : H → List ℕ → List ℕ) (hash : H) (name : List ℕ) (account : ℕ) (member : Member)
    (offers : List RootCall) (old : NodeView H) (site taken : Site H)
    (is : view_of hash name account member site offers ≡ old) (whole : IsWhole hash member site) (spells : Spells old)
    (same : taken ≡ site) where
  keeps : KeepsAll (halves_of member site)
  keeps = view_keeps hash name account (role_of (member_kind member)) (is_up site) (halves_of member site) offers
      (subst Spells (sym is) spells)

  pub there-at : IsThere taken
  there-at = subst IsThere (sym same) (there hash name account member site offers (subst Spells (sym is) spells))

  -- the disks that were taken from it
  module _ (down : DownNode) (at : IsDownOf taken down) where
    down-at : IsDownOf site down
    down-at = subst (λ (s : Site H). IsDownOf s down) same at

    halves-same : down_halves down ≡ halves_of member site
    halves-same = down_same member site down down-at keeps

    pub down-keeps : KeepsAll (down_halves down)
    down-keeps = subst KeepsAll (sym halves-same) keeps

    down-none : NoneListedOf (down_halves down)
    down-none = (whole_down hash member site down down-at keeps whole).none_listed

    down-role : IsOfRole (digest old.hash) old.node
        → AreOf (digest hash) (role_of (down_kind down)) (records_in (down_halves down))
    down-role role = grind (arith, common_steps, down_is, down-at, halves-same) steps 20000

    -- they are opened as they are, and with a fuse that lets three calls pass; with a shorter one they aren't
    pub opens-at : IsOfRole (digest old.hash) old.node → NoFuses (down_halves down) → MayOpen (digest hash) down
    opens-at role unfused =
        may-open (digest hash) down (unfused-open (down_halves down) down-none unfused) down-keeps (down-role role)

    fused-role : (fuse : ℕ) → IsOfRole (digest old.hash) old.node
        → AreOf (digest hash) (role_of (down_kind (with_disks (with_fuse fuse) down)))
        (records_in (down_halves (with_disks (with_fuse fuse) down)))
    fused-role fuse role = grind (arith, common_steps, with_kind, fused_same, down-role) steps 20000

    pub fused-opens-at : (fuse : ℕ) (fused : DownNode) → fused ≡ with_disks (with_fuse fuse) down → 3 ≤ fuse
        → IsOfRole (digest old.hash) old.node → MayOpen (digest hash) fused
    fused-opens-at fuse fused fusing least role =
        subst (MayOpen (digest hash)) (sym fusing)
        (may-open (digest hash) (with_disks (with_fuse fuse) down) (fused-open fuse down least down-none)
        (fused_keeps fuse down down-keeps) (fused-role fuse role))

    pub stops-at : (calls : ℕ) (fused : DownNode) → fused ≡ with_disks (with_fuse calls) down → calls < 3
        → IsToStop H (digest hash) fused
    stops-at calls fused fusing few =
        subst (IsToStop H (digest hash)) (sym fusing) (to-stop calls few H (digest hash) down down-none)

    -- the notes are bytes, and the log's blocks are numbered in 64 bits
    pub words-at : (log : List RootCall) → AreBytes (content (down_halves down).notes.disk.history)
        → blocks log < 2 ^ 64 → FitWords (wallet_of old.node) log
    words-at log bytes few =
        let bytes' = subst (λ (h : Halves). AreBytes (content h.notes.disk.history)) halves-same bytes in
        let disk = (halves_of member site).notes.disk.history in record {
          notes = subst (λ (v : NodeView H). All AreBytes v.node.notes) is
              (kept-bytes (halves_of member site).notes.records (content disk) bytes'
              (keeps.notes (content disk) (content_may_be_left disk)));
          blocks = few;
        }

  -- ---- disks that crashed

  role-here : IsOfRole (digest old.hash) old.node → IsOfRole (digest hash) old.node
  role-here role =
      subst (λ (h : H). IsOfRole (digest h) old.node) (sym (ap (λ (v : NodeView H). v.hash) is)) role

  module _ (after : Site H) (more : List RootCall) (ran new : DownNode) (outcome : Outcome) (put : after ≡ Down new)
      (crashes : new ≡ with_disks (crashed outcome) ran) (role : IsOfRole (digest old.hash) old.node) where
    pub crash-ready : Crashes outcome old (view_of hash name account member after more)
        → IsReady (digest hash) (role_of (member_kind member)) after
    crash-ready crashed_so = grind (arith, common_steps, down-ready, crash-role, role-here) steps 20000

    pub cut-ready : (log : List RootCall) (calls : ℕ) (order : NodeOrder) (end : CutEnd)
        → Cuts (digest old.hash) log calls outcome order old end (view_of hash name account member after more)
        → IsOfRole (digest old.hash) (with_records old.node (node_does (digest old.hash) log old.node order))
        → IsReady (digest hash) (role_of (member_kind member)) after
    cut-ready log calls order end cuts added =
        let left = cut-role (digest old.hash) log calls outcome order old end
        (view_of hash name account member after more) cuts role added in
        down-ready digest hash name account member after more ran new outcome put crashes
        (grind (arith, common_steps) steps 20000)

-- ---- the role of an entry that isn't lost

module _ {H : Type 0} (digest : H → List ℕ → List ℕ) (hash : H) (name : List ℕ) (account : ℕ) (member : Member)
    (offers : List RootCall) (old : NodeView H) (site : Site H)
    (is : view_of hash name account member site offers ≡ old) (entry : IsEntry digest hash member site) where
  seen : (other : Site H) → site ≡ other
      → IsOfRole (digest hash) (view_of hash name account member other offers).node
      → IsOfRole (digest old.hash) old.node
  seen other at role = grind (arith, common_steps) steps 20000

  pub role-up : (node : UpNode H) → site ≡ Up node
      → AreOf (digest (up_hash node)) (role_of (up_kind node)) (records_in (up_halves node))
      → IsOfRole (digest old.hash) old.node
  role-up node at role = grind (arith, common_steps, seen) steps 20000

  pub role-down : (down : DownNode) → site ≡ Down down → IsOfRole (digest old.hash) old.node
  role-down down at = seen (Down down) at (subst (IsEntry digest hash member) at entry).1.1

  site-role : Spells old → (s : Site H) → site ≡ s → IsWholeSite digest s → IsOfRole (digest old.hash) old.node
  site-role spells s at role = grind (arith, common_steps, role-up, role-down, there) steps 20000

  -- so it is at each site, where the records of a node that is up are of its role
  pub role-at : Spells old → IsWholeSite digest site → IsOfRole (digest old.hash) old.node
  role-at spells role = site-role spells site refl role

-- ---- nodes that are ready

module _ {H : Type 0} (digest : H → List ℕ → List ℕ) (hash : H) (member : Member) (site taken : Site H)
    (entry : IsEntry digest hash member site) (same : taken ≡ site) where
  up-entry : (node : UpNode H) → taken ≡ Up node → IsEntry digest hash member (Up node)
  up-entry node at = subst (IsEntry digest hash member) (sym same ∙ at) entry

  pub open-at : (node : UpNode H) → taken ≡ Up node → up_closed node ≡ false
  open-at node at = (up-entry node at).0.is_site.2

  pub runs-at : (node : UpNode H) → taken ≡ Up node → RunsOn node
  runs-at node at =
      let here = up-entry node at in runs-on node here.0.none_listed here.1 here.0.is_site.2

  pub ran-ready : (node new : UpNode H) (after : Site H) (deed : Doing) → taken ≡ Up node → UpDid deed node None new
      → after ≡ Up new → IsReady (digest hash) (role_of (member_kind member)) after
  ran-ready node new after deed at did put = grind (arith, common_steps, ran-unfused, up-entry) steps 20000

  pub unfused-at : (down : DownNode) → taken ≡ Down down → NoFuses (down_halves down)
  unfused-at down at = (subst (IsEntry digest hash member) (sym same ∙ at) entry).1.0

  pub opened-ready : (down : DownNode) (up : UpNode H) (after : Site H) → taken ≡ Down down
      → Opens (digest hash) down up → after ≡ Up up → IsReady (digest hash) (role_of (member_kind member)) after
  opened-ready down up after at opens put = grind (arith, common_steps, opened-unfused, unfused-at) steps 20000

-- ---- nodes that are declared

pub declared-opens : (dig : List ℕ → List ℕ) (member : Member) (down : DownNode) → IsDeclared member down
    → MayOpen dig down
declared-opens dig member down is =
    let none : NoneListedOf (down_halves down) = record {
      notes = is.begun.notes.listed;
      leaves = λ half at. (is.begun.leaves half at).listed;
    } in
    may-open dig down (unfused-open (down_halves down) none is.unfused) (begun_keeps (first_note down) down is.begun)
    (grind (arith, common_steps, alone) steps 20000)
  where
    alone : (down : DownNode) → IsDeclared member down
        → record { notes = first_note down ∷ []; leaves = [] } ≡ records_in (down_halves down)
    alone down is = grind (arith, common_steps, begun_records) steps 20000
