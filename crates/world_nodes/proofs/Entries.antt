-- What the calls of an entry do to its node.
use Rattle.world_nodes.proofs.Words.{◌≡◌, ◌-◌, ◌∷◌, ◌++◌, [], ℕ, min, Bool, true, false, cond, not, List, length, Option, Some, None, refl, sym, ◌∙◌, ap, subst, arith, length-append, ◌&&◌, IfSome, option_or, slice_get, common_steps, with_fuse, HasPattern, Outcome, is_added, RootCall, Role, Node, Doing, with_record, after_crash, Given, IsGiven, NodeOrder, Open, CutEnd, CutDown, CutStopped, CutDone, Counts, DownNode, UpNode, Site, Up, Down, Member, fits, is_opening_order, node_does, with_records, NodeView, role_of, Spells, IsDone, Crashes, is_kept, DisksCrash, Ends, Cuts, Halves, crashed, leaves_of, bare_node, down_kind, down_halves, with_disks, up_kind, up_halves, up_hash, taken_down, Opens, UpDid, IsDownOf, IsCutShort, IsCutOpening, opening_gives, counts_of, kept_behind, end_in, member_kind, is_up, halves_of, view_in, view_of, IsOf, IsWhole}
use Rattle.std.proofs.lemmas.Option.{slice_get_past, slice_get_read}
use Rattle.std.proofs.Math.Seq.{get_or-append_seam}
use Rattle.world_nodes.proofs.Members.{stays_of}
use Rattle.world_nodes.proofs.Runs.{KeepsAll, up_has, down_has, view_keeps, keeps_view, adds_few, same_deed, UpRan, up_ran, ran_keeps, done, whole_ran, up_opened, opened_keeps, opened_same, whole_opened, opening_done, opened_none}
use Rattle.world_nodes.proofs.Cuts.{down_same, whole_down, AreLeft, left_keeps, whole_left, crash_left, crash_done, with_kind, CutLeaves, node_cut, left_node, cut_kind, up_left, taken_kind, left_records}
use Rattle.world_nodes.proofs.CutOpenings.{refused_cut, fused_keeps, fused_listed, fused_same}
use Rattle.world_nodes.proofs.CutDisks.{TellCut, node_tells, command_crashed, opening_crashed, opened_notes_told, opened_leaves_told, refused_tells}

-- ---- orders

-- an order of a node that is up
pub command_done : {H : Type 0} (digest : H → List ℕ → List ℕ) (hash : H) (name : List ℕ) (account : ℕ)
    (member : Member) (offers more : List RootCall) (old : NodeView H) (site : Site H) (node new : UpNode H)
    (log : List RootCall) (order : NodeOrder) (given : Given)
    → view_of hash name account member site offers ≡ old → IsWhole hash member site → Spells old → site ≡ Up node
    → fits old.node.role order ≡ true → is_opening_order order ≡ false
    → UpDid (node_does (digest (up_hash node)) log (bare_node (up_halves node)) order) node None new
    → IsGiven (node_does (digest (up_hash node)) log (bare_node (up_halves node)) order).response given
    → more ≡ given.offers.items
    → IsDone order (node_does (digest old.hash) log old.node order) old given
    (view_of hash name account member (Up new) more)
    × Spells (view_of hash name account member (Up new) more) × IsWhole hash member (Up new)
command_done {H} digest hash name account member offers more old site node new log order given is whole
    spells at fit
    command did gives copied =
    let role = role_of (member_kind member) in
    let whole' : IsWhole hash member (Up node) = subst (IsWhole hash member) at whole in
    let is' : view_of hash name account member (Up node) offers ≡ old =
    sym (ap (λ (s : Site H). view_of hash name account member s offers) at) ∙ is in
    let view = view_of hash name account member (Up node) offers in
    let deed' = node_does (digest (up_hash node)) log (bare_node (up_halves node)) order in
    let deed = node_does (digest hash) log view.node order in
    let same : deed' ≡ deed = grind (arith, common_steps, same_deed) steps 20000 in
    let fit' : fits (role_of (up_kind node)) order ≡ true =
    ap (λ k. fits (role_of k) order) whole'.is_site.0 ∙ (ap (λ (v : NodeView H). fits v.node.role order) is' ∙ fit) in
    let few = adds_few (digest (up_hash node)) log (bare_node (up_halves node)) node order fit' command in
    let ran : UpRan deed node new = subst (λ (d : Doing). UpRan d node new) same (up_ran deed' node new few did) in
    let gives' : IsGiven deed.response given = subst (λ (d : Doing). IsGiven d.response given) same gives in
    let keeps : KeepsAll (up_halves node) =
    view_keeps hash name account role true (up_halves node) offers (subst Spells (sym is') spells) in
    let done' : IsDone order deed view given
    (view_in hash name account role true (up_halves new) deed.response.offers) =
    done hash name account role (up_halves node) (up_halves new) offers order deed given ran.halves gives' in
    let done'' : IsDone order deed view given (view_of hash name account member (Up new) more) =
    grind (arith, common_steps) steps 20000 in
    let after : IsWhole hash member (Up new) = whole_ran hash member deed node new whole' ran in (
      subst (λ (v : NodeView H). IsDone order (node_does (digest v.hash) log v.node order) v given
          (view_of hash name account member (Up new) more)) is' done'',
      keeps_view hash name account role true (up_halves new) more (up_has hash member new after)
          (ran_keeps deed (up_halves node) (up_halves new) ran.halves keeps),
      after,
    )

-- an opening of a node that is down
pub opening_comes : {H : Type 0} (digest : H → List ℕ → List ℕ) (hash : H) (name : List ℕ) (account : ℕ)
    (member : Member) (offers more : List RootCall) (old : NodeView H) (site : Site H) (down : DownNode)
    (up : UpNode H) (log : List RootCall) (given : Given)
    → view_of hash name account member site offers ≡ old → IsWhole hash member site → Spells old → site ≡ Down down
    → Opens (digest hash) down up → up_hash up ≡ hash → IsGiven (opening_gives (up_halves up)) given → more ≡ []
    → IsDone Open (node_does (digest old.hash) log old.node Open) old given
    (view_of hash name account member (Up up) more)
    × Spells (view_of hash name account member (Up up) more) × IsWhole hash member (Up up)
opening_comes {H} digest hash name account member offers more old site down up log given is whole spells
    at opens same gives none =
    let role = role_of (member_kind member) in
    let whole' : IsWhole hash member (Down down) = subst (IsWhole hash member) at whole in
    let is' : view_of hash name account member (Down down) offers ≡ old =
    sym (ap (λ (s : Site H). view_of hash name account member s offers) at) ∙ is in
    let view = view_of hash name account member (Down down) offers in
    let keeps : KeepsAll (down_halves down) =
    view_keeps hash name account role false (down_halves down) offers (subst Spells (sym is') spells) in
    let opened = up_opened (digest hash) down up opens keeps in
    let records = opened_same down up opened in
    let gives' : IsGiven (node_does (digest hash) log view.node Open).response given =
    grind (arith, common_steps) steps 20000 in
    let done' = opening_done (digest hash) log hash name account role down up offers given opened gives' in
    let done'' : IsDone Open (node_does (digest hash) log view.node Open) view given (view_of hash name
    account member (Up up) more) = grind (arith, common_steps) steps 20000 in
    let after : IsWhole hash member (Up up) = whole_opened hash member down up whole' opened same in (
      grind (arith, common_steps) steps 20000,
      keeps_view hash name account role true (up_halves up) more (up_has hash member up after)
          (opened_keeps down up opened),
      after,
    )

-- ---- a crash

pub crash_comes : {H : Type 0} (hash : H) (name : List ℕ) (account : ℕ)
    (member : Member) (offers more : List RootCall) (old : NodeView H) (site : Site H) (down new : DownNode)
    (outcome : Outcome) → view_of hash name account member site offers ≡ old → IsWhole hash member site → Spells old
    → IsDownOf site down → new ≡ with_disks (crashed outcome) down → more ≡ []
    → Crashes outcome old (view_of hash name account member (Down new) more)
    × Spells (view_of hash name account member (Down new) more) × IsWhole hash member (Down new)
crash_comes {H} hash name account member offers more old site down new outcome is whole spells taken crashes none =
    let role = role_of (member_kind member) in
    let keeps = view_keeps hash name account role (is_up site) (halves_of member site) offers
    (subst Spells (sym is) spells) in
    let same = down_same member site down taken keeps in
    let keeps' : KeepsAll (down_halves down) = subst KeepsAll (sym same) keeps in
    let whole' = whole_down hash member site down taken keeps whole in
    let base : view_in hash name account role (is_up site) (down_halves down) offers ≡ old =
    ap (λ (h : Halves). view_in hash name account role (is_up site) h offers) same ∙ is in
    let after = with_disks (crashed outcome) down in
    let left = crash_left outcome down keeps' whole'.none_listed in
    let done' = crash_done hash name account role (is_up site) offers outcome down keeps' whole'.none_listed in
    let whole'' : IsWhole hash member (Down after) =
    whole_left hash member after (down_halves down).notes.records (leaves_of (down_halves down))
    (with_kind (crashed outcome) down ∙ whole'.is_site) left whole'.identity in
    let all : Crashes outcome old (view_of hash name account member (Down after) [])
    × Spells (view_of hash name account member (Down after) []) × IsWhole hash member (Down after) = (
      subst (λ (v : NodeView H). Crashes outcome v (view_of hash name account member (Down after) [])) base done',
      keeps_view hash name account role false (down_halves after) [] (down_has hash member after whole'')
          (left_keeps (down_halves down).notes.records (leaves_of (down_halves down)) (down_halves after) left),
      whole'',
    ) in
    let at_new = subst (λ (d : DownNode). Crashes outcome old (view_of hash name account member (Down d) [])
    × Spells (view_of hash name account member (Down d) []) × IsWhole hash member (Down d)) (sym crashes) all in
    subst (λ (os : List RootCall). Crashes outcome old (view_of hash name account member (Down new) os)
    × Spells (view_of hash name account member (Down new) os) × IsWhole hash member (Down new)) (sym none) at_new

-- ---- the record that is kept

at_end : (records : List (List ℕ)) (added : Option (List ℕ))
    → slice_get (with_record records added) (length records) ≡ added
at_end records None = slice_get_past records (length records) (omega arith)
at_end records (Some body) =
    slice_get_read (records ++ body ∷ []) (length (records ++ body ∷ [])) (length records) body refl
    (omega (arith, length-append records (body ∷ []))) (sym (get_or-append_seam records body [] body))

end_if : (b : Bool) (records : List (List ℕ)) (added : Option (List ℕ))
    → slice_get (cond b (with_record records added) records) (length records) ≡ cond b added None
end_if true records added = at_end records added
end_if false records added = at_end records None

or_if : (b : Bool) (first second : Option (List ℕ)) → option_or (cond b first None) (cond b second None)
    ≡ cond b (option_or first second) None
or_if true first second = refl
or_if false first second = refl

kept_is : (b : Bool) (base halves : Halves) (deed : Doing)
    → halves.notes.records ≡ cond b (with_record base.notes.records deed.note) base.notes.records
    → leaves_of halves ≡ cond b (with_record (leaves_of base) deed.leaf) (leaves_of base)
    → kept_behind (counts_of base) halves ≡ cond b (option_or deed.note deed.leaf) None
kept_is b base halves deed notes leaves =
    (grind (arith, common_steps) steps 20000)
    ∙ ((λ i. option_or (end_if b base.notes.records deed.note i) (end_if b (leaves_of base) deed.leaf i))
    ∙ or_if b deed.note deed.leaf)

node_if : (b : Bool) (node : Node) (deed : Doing)
    → after_crash (record node {
      notes = cond b (with_record node.notes deed.note) node.notes;
      leaves = cond b (with_record node.leaves deed.leaf) node.leaves;
    }) ≡ after_crash (cond b (with_records node deed) node)
node_if true node deed = refl
node_if false node deed = refl

-- how a command ended that was cut
ends : {H : Type 0} (hash : H) (name : List ℕ) (account : ℕ) (role : Role) (offers : List RootCall) (calls : ℕ)
    (outcome : Outcome) (order : NodeOrder) (deed : Doing) (base halves : Halves) (given : Option Given)
    → is_opening_order order ≡ false → IfSome given (IsGiven deed.response)
    → CutLeaves calls outcome deed given base.notes.records (leaves_of base) halves
    → DisksCrash calls outcome order deed (view_in hash name account role true base offers)
    (view_in hash name account role false halves [])
    → Ends calls outcome order deed (view_in hash name account role true base offers)
    (end_in (counts_of base) halves given) (view_in hash name account role false halves [])
ends hash name account role offers calls outcome order deed base halves (Some given) command gives left disks = (
  gives,
  record {
    is_up = refl;
    passed = grind (arith, common_steps) steps 20000;
    node = left_node hash name account role true base halves offers (with_record base.notes.records deed.note)
        (with_record (leaves_of base) deed.leaf) left.1;
    disks = disks;
    hash = refl;
  },
)
ends hash name account role offers calls outcome order deed base halves None command gives left disks =
    let node = (view_in hash name account role true base offers).node in
    let added = is_added calls outcome in
    let kept : is_kept calls outcome order ≡ added = ap (λ (b : Bool). not b && added) command in
    let there = left_node hash name account role true base halves offers
    (cond added (with_record base.notes.records deed.note) base.notes.records)
    (cond added (with_record (leaves_of base) deed.leaf) (leaves_of base)) left.1 in
    record {
      is_up = refl;
      stopped = grind (arith, common_steps) steps 20000;
      keeps = grind (arith, common_steps, kept_is, left_records) steps 20000;
      node = there ∙ (node_if added node deed ∙ sym (grind (arith, common_steps) steps 20000));
      disks = disks;
      hash = refl;
    }

of_if : (b : Bool) (member : Member) (notes : List (List ℕ)) (added : Option (List ℕ)) → IsOf member notes
    → IsOf member (cond b (with_record notes added) notes)
of_if true member notes added is = stays_of member notes added is
of_if false member notes added is = is

-- what is left of a command keeps its records, and the entry is whole
left_comes : {H : Type 0} (hash : H) (member : Member) (calls : ℕ) (outcome : Outcome) (deed : Doing)
    (given : Option Given) (notes leaves : List (List ℕ)) (new : DownNode) → down_kind new ≡ member_kind member
    → IsOf member notes → CutLeaves calls outcome deed given notes leaves (down_halves new)
    → KeepsAll (down_halves new) × IsWhole hash member (Down new)
left_comes hash member calls outcome deed (Some given) notes leaves new kind is left = (
  left_keeps (with_record notes deed.note) (with_record leaves deed.leaf) (down_halves new) left.1,
  whole_left hash member new (with_record notes deed.note) (with_record leaves deed.leaf) kind left.1
      (stays_of member notes deed.note is),
)
left_comes hash member calls outcome deed None notes leaves new kind is left =
    let b = is_added calls outcome in (
      left_keeps (cond b (with_record notes deed.note) notes) (cond b (with_record leaves deed.leaf) leaves)
          (down_halves new) left.1,
      whole_left hash member new (cond b (with_record notes deed.note) notes)
          (cond b (with_record leaves deed.leaf) leaves) kind left.1 (of_if b member notes deed.note is),
    )

pub cut_comes : {H : Type 0} (digest : H → List ℕ → List ℕ) (hash : H) (name : List ℕ) (account : ℕ)
    (member : Member) (offers more : List RootCall) (old : NodeView H) (site : Site H)
    (down fused ran new : DownNode) (log : List RootCall) (calls fuse : ℕ) (outcome : Outcome) (order : NodeOrder)
    (given : Option Given) (before : Counts) (end : CutEnd)
    → view_of hash name account member site offers ≡ old → IsWhole hash member site → Spells old
    → old.node.is_up ≡ true → fits old.node.role order ≡ true → is_opening_order order ≡ false → HasPattern outcome
    → IsDownOf site down → before ≡ counts_of (down_halves down) → min 4 (fuse - 3) ≡ min 4 calls
    → fused ≡ with_disks (with_fuse fuse) down → IsCutShort H (digest hash) log order fused given ran
    → new ≡ with_disks (crashed outcome) ran → end ≡ end_in before (down_halves new) given → more ≡ []
    → Cuts (digest old.hash) log calls outcome order old end (view_of hash name account member (Down new) more)
    × Spells (view_of hash name account member (Down new) more) × IsWhole hash member (Down new)
cut_comes {H} digest hash name account member offers more old site down fused ran new log calls fuse outcome
    order given
    before end is whole spells up fit command pattern taken counted fuses fusing cut crashes ending none =
    let role = role_of (member_kind member) in
    let keeps = view_keeps hash name account role (is_up site) (halves_of member site) offers
    (subst Spells (sym is) spells) in
    let same = down_same member site down taken keeps in
    let keeps' : KeepsAll (down_halves down) = subst KeepsAll (sym same) keeps in
    let whole' = whole_down hash member site down taken keeps whole in
    let is_up' : is_up site ≡ true = ap (λ (v : NodeView H). v.node.is_up) is ∙ up in
    let view = view_in hash name account role true (down_halves down) offers in
    let base : view ≡ old =
    (λ i. view_in hash name account role (sym is_up' i) (same i) offers) ∙ is in
    let opens : Opens (digest hash) (with_disks (with_fuse fuse) down) cut.opened =
    subst (λ (d : DownNode). Opens (digest hash) d cut.opened) fusing cut.opens in
    let opened = up_opened (digest hash) (with_disks (with_fuse fuse) down) cut.opened opens
    (fused_keeps fuse down keeps') in
    let deed' = node_does (digest hash) log (bare_node (up_halves cut.opened)) order in
    let deed = node_does (digest hash) log view.node order in
    let records = opened_same (with_disks (with_fuse fuse) down) cut.opened opened ∙ fused_same fuse down in
    let as_deed : deed' ≡ deed =
    same_deed (digest hash) log (bare_node (up_halves cut.opened)) view.node order records command in
    let fit' : fits (role_of (up_kind cut.opened)) order ≡ true = grind (arith, common_steps, with_kind) steps 20000 in
    let few = adds_few (digest hash) log (bare_node (up_halves cut.opened)) cut.opened order fit' command in
    let left' = node_cut calls fuse fuses outcome pattern (digest hash) deed' down cut.opened cut.ran given keeps'
    whole'.none_listed few opens cut.did in
    let after : with_disks (crashed outcome) (taken_down cut.ran) ≡ new =
    ap (with_disks (crashed outcome)) (sym cut.down) ∙ sym crashes in
    let left : CutLeaves calls outcome deed given (down_halves down).notes.records (leaves_of (down_halves down))
    (down_halves new) = grind (arith, common_steps) steps 20000 in
    let gives : IfSome given (IsGiven deed.response) =
    subst (λ (d : Doing). IfSome given (IsGiven d.response)) as_deed cut.gives in
    let kind : down_kind new ≡ member_kind member = grind (arith, common_steps, with_kind, cut_kind) steps 20000 in
    let comes = left_comes hash member calls outcome deed given (down_halves down).notes.records
    (leaves_of (down_halves down)) new kind whole'.identity left in
    let tells : TellCut calls deed (down_halves down) (down_halves (taken_down cut.ran)) =
    subst (λ (d : Doing). TellCut calls d (down_halves down) (down_halves (taken_down cut.ran))) as_deed
    (node_tells calls fuse fuses outcome pattern (digest hash) deed' down cut.opened cut.ran given keeps'
    whole'.none_listed few opens cut.did) in
    let disks : DisksCrash calls outcome order deed view (view_in hash name account role false (down_halves new) []) =
    subst (λ (d : DownNode). DisksCrash calls outcome order deed view
    (view_in hash name account role false (down_halves d) [])) after
    (command_crashed hash name account role true offers calls outcome order deed (down_halves down)
    (taken_down cut.ran) command tells) in
    let ended = ends hash name account role offers calls outcome order deed (down_halves down) (down_halves new) given
    command gives left disks in
    let end_is : end_in (counts_of (down_halves down)) (down_halves new) given ≡ end =
    ap (λ (b : Counts). end_in b (down_halves new) given) (sym counted) ∙ sym ending in
    let cuts : Cuts (digest old.hash) log calls outcome order old end (view_of hash name account member (Down
    new) []) =
    subst (λ (v : NodeView H). Cuts (digest v.hash) log calls outcome order v end
    (view_of hash name account member (Down new) [])) base
    (grind (arith, common_steps) steps 20000) in
    subst (λ (os : List RootCall). Cuts (digest old.hash) log calls outcome order old end
    (view_of hash name account member (Down new) os)
    × Spells (view_of hash name account member (Down new) os) × IsWhole hash member (Down new)) (sym none) (
      cuts,
      keeps_view hash name account role false (down_halves new) [] (down_has hash member new comes.1) comes.0,
      comes.1,
    )

-- how an opening ended that was cut, and what is left of it
opening_ends : {H : Type 0} (digest : H → List ℕ → List ℕ) (hash : H) (name : List ℕ) (account : ℕ)
    (member : Member) (offers : List RootCall) (down left : DownNode) (log : List RootCall) (calls : ℕ)
    (outcome : Outcome) (end : CutEnd) → KeepsAll (down_halves down) → IsWhole hash member (Down down)
    → IsCutOpening H (digest hash) calls (with_disks (with_fuse calls) down) end left
    → (let view = view_of hash name account member (Down down) offers in
    let after = with_disks (crashed outcome) left in
    Cuts (digest hash) log calls outcome Open view end (view_of hash name account member (Down after) [])
    × (down_kind after ≡ member_kind member)
    × AreLeft (down_halves down).notes.records (leaves_of (down_halves down)) (down_halves after))
opening_ends digest hash name account member offers down left log calls outcome CutDown keeps whole cut = absurd cut
opening_ends digest hash name account member offers down left log calls outcome (CutStopped kept) keeps whole cut =
    let role = role_of (member_kind member) in
    let by = refused_cut calls cut.0 outcome (digest hash) down left keeps whole.none_listed cut.2 in
    let told = refused_tells calls cut.0 (digest hash) down left keeps whole.none_listed cut.2 in
    let deed = node_does (digest hash) log (view_of hash name account member (Down down) offers).node Open in
    let after = with_disks (crashed outcome) left in (
      record {
        is_up = refl;
        stopped = cut.0;
        keeps = cut.1;
        node = left_node hash name account role false (down_halves down) (down_halves after) offers
            (down_halves down).notes.records (leaves_of (down_halves down)) by.1;
        disks = opening_crashed hash name account role offers calls outcome deed (down_halves down) left told.0 told.1;
        hash = refl;
      },
      with_kind (crashed outcome) left ∙ (by.0 ∙ whole.is_site),
      by.1,
    )
opening_ends digest hash name account member offers down left log calls outcome (CutDone given) keeps whole cut =
    let role = role_of (member_kind member) in
    let fused = with_disks (with_fuse calls) down in
    let up = cut.1.0 in
    let opened = up_opened (digest hash) fused up cut.1.1 (fused_keeps calls down keeps) in
    let records = opened_same fused up opened ∙ fused_same calls down in
    let none = opened_none fused up opened (fused_listed calls down whole.none_listed) in
    let there = up_left outcome up (opened_keeps fused up opened) none in
    let after = with_disks (crashed outcome) left in
    let back : taken_down up ≡ left = sym cut.1.2 in
    let here : AreLeft (down_halves down).notes.records (leaves_of (down_halves down)) (down_halves after) =
    grind (arith, common_steps) steps 20000 in
    let view = view_of hash name account member (Down down) offers in
    let deed = node_does (digest hash) log view.node Open in
    let disks : DisksCrash calls outcome Open deed view (view_in hash name account role false (down_halves after) []) =
    subst (λ (d : DownNode). DisksCrash calls outcome Open deed view
    (view_in hash name account role false (down_halves (with_disks (crashed outcome) d)) [])) back
    (opening_crashed hash name account role offers calls outcome deed (down_halves down) (taken_down up)
    (opened_notes_told calls cut.0 down up opened) (opened_leaves_told calls cut.0 down up opened)) in (
      (
        grind (arith, common_steps) steps 20000,
        record {
          is_up = refl;
          passed = cut.0;
          node = left_node hash name account role false (down_halves down) (down_halves after) offers
              (down_halves down).notes.records (leaves_of (down_halves down)) here;
          disks = disks;
          hash = refl;
        },
      ),
      grind (arith, common_steps, with_kind, taken_kind) steps 20000,
      here,
    )

pub cut_opening_comes : {H : Type 0} (digest : H → List ℕ → List ℕ) (hash : H) (name : List ℕ) (account : ℕ)
    (member : Member) (offers more : List RootCall) (old : NodeView H) (site : Site H)
    (down fused left new : DownNode) (log : List RootCall) (calls : ℕ) (outcome : Outcome) (end : CutEnd)
    → view_of hash name account member site offers ≡ old → IsWhole hash member site → Spells old → site ≡ Down down
    → fused ≡ with_disks (with_fuse calls) down → IsCutOpening H (digest hash) calls fused end left
    → new ≡ with_disks (crashed outcome) left → more ≡ []
    → Cuts (digest old.hash) log calls outcome Open old end (view_of hash name account member (Down new) more)
    × Spells (view_of hash name account member (Down new) more) × IsWhole hash member (Down new)
cut_opening_comes {H} digest hash name account member offers more old site down fused left new log calls
    outcome end is
    whole spells at fusing cut crashes none =
    let role = role_of (member_kind member) in
    let whole' : IsWhole hash member (Down down) = subst (IsWhole hash member) at whole in
    let is' : view_of hash name account member (Down down) offers ≡ old =
    sym (ap (λ (s : Site H). view_of hash name account member s offers) at) ∙ is in
    let keeps : KeepsAll (down_halves down) =
    view_keeps hash name account role false (down_halves down) offers (subst Spells (sym is') spells) in
    let cut' : IsCutOpening H (digest hash) calls (with_disks (with_fuse calls) down) end left =
    subst (λ (d : DownNode). IsCutOpening H (digest hash) calls d end left) fusing cut in
    let by = opening_ends digest hash name account member offers down left log calls outcome end keeps whole'
    cut' in
    let after = with_disks (crashed outcome) left in
    let N = (down_halves down).notes.records in
    let L = leaves_of (down_halves down) in
    let cuts : Cuts (digest old.hash) log calls outcome Open old end (view_of hash name account member (Down
    after) []) = grind (arith, common_steps) steps 20000 in
    let whole'' : IsWhole hash member (Down after) = whole_left hash member after N L by.1 by.2 whole'.identity in
    let all : Cuts (digest old.hash) log calls outcome Open old end (view_of hash name account member (Down
    after) [])
    × Spells (view_of hash name account member (Down after) []) × IsWhole hash member (Down after) = (
      cuts,
      keeps_view hash name account role false (down_halves after) [] (down_has hash member after whole'')
          (left_keeps N L (down_halves after) by.2),
      whole'',
    ) in
    let at_new = subst (λ (d : DownNode). Cuts (digest old.hash) log calls outcome Open old end
    (view_of hash name account member (Down d) [])
    × Spells (view_of hash name account member (Down d) []) × IsWhole hash member (Down d)) (sym crashes) all in
    subst (λ (os : List RootCall). Cuts (digest old.hash) log calls outcome Open old end
    (view_of hash name account member (Down new) os)
    × Spells (view_of hash name account member (Down new) os) × IsWhole hash member (Down new)) (sym none) at_new
