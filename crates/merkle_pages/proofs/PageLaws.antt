-- Pages as functions from a name and a place to a node.
use Rattle.merkle_pages.proofs.Words.{◌≡◌, ◌≢◌, ℕ, suc, ◌+◌, ◌-◌, ◌*◌, ◌/◌, ◌%◌, ◌^◌, ◌<◌, ◌≤◌, true, cond, List, [], Option, Some, None, Result, Ok, Err, OnOk, OnErr, refl, sym, ap, ◌∙◌, inl, inr, arith, BTreeMap, get, is_at, nat_cmp, ordering_then, is_eq, pow-succ', div-add-mod, cases_Bool, cases_lt, eqb-true, eq-eqb, lt-ltb, le-ltb, pow_pos, pow_below, mod_below, shr-shr, common_steps, Paged, name_cmp, name_at, place_at, kept_digest, page_node, node_at, SameNodes, PutsNode, PutsAt}
use Rattle.std.specs.declared.cmp.Ordering.{Ordering}
use Rattle.std.specs.Str.{bytes_eq}
use Rattle.merkle_pages.specs.declared.pages.PageName.{PageName}

abbrev name_of : ℕ → ℕ → PageName
name_of number bits = record { number = number; bits = bits }

name_of-same : (number other bits more : ℕ) → number ≡ other → bits ≡ more → name_of number bits ≡ name_of other more
name_of-same number other bits more e f = rw (e, f) refl

-- ---- the order of places and of names

pub place-tied : (one other : ℕ) → is_at (nat_cmp one) other ≡ true → one ≡ other
place-tied one other h = grind (arith, common_steps, cases_lt, lt-ltb, cases_Bool, eqb-true, le-ltb) steps 20000

pub place-self : (place : ℕ) → is_at (nat_cmp place) place ≡ true
place-self place = rw (le-ltb place place (omega arith), eq-eqb place place refl) refl

both-tied : (one other : Ordering) → is_eq (ordering_then one other) ≡ true → (is_eq one ≡ true) × (is_eq other ≡ true)
both-tied one other h = grind (arith, common_steps) steps 20000

tied-both : (one other : Ordering) → is_eq one ≡ true → is_eq other ≡ true → is_eq (ordering_then one other) ≡ true
tied-both one other h g = grind (arith, common_steps) steps 20000

pub name-tied : (one other : PageName) → is_at (name_cmp one) other ≡ true → one ≡ other
name-tied one other h = grind (arith, common_steps, both-tied, name_of-same, place-tied) steps 20000

pub name-self : (name : PageName) → is_at (name_cmp name) name ≡ true
name-self name = grind (arith, common_steps, tied-both, place-self) steps 20000

-- ---- nodes put and taken away

-- the pages with that page under that name, or with none
abbrev pub PutsPage : Paged → Paged → PageName → Option (BTreeMap ℕ (List ℕ)) → Type 0
PutsPage old new name page = (other : PageName) → get name_cmp new other ≡ cond (is_at (name_cmp name) other) page
    (get name_cmp old other)

-- a page with the same nodes changes no node
pub page_node-same : (old new : Paged) (name : PageName) (page made : BTreeMap ℕ (List ℕ))
    → Some page ≡ get name_cmp old name → PutsPage old new name (Some made) → made.entries ≡ page.entries
    → SameNodes old new
page_node-same old new name page made there puts same other place = elim (cases_Bool (is_at (name_cmp name) other)) [
  | inl is ↦
      let e : name ≡ other = name-tied name other is in
      grind (arith, common_steps) steps 20000
  | inr isnt ↦ rw (puts other, isnt) refl
]

-- a page taken away that keeps no node changes no node
pub page_node-removed : (old new : Paged) (name : PageName) → ((place : ℕ) → page_node old name place ≡ None)
    → PutsPage old new name None → SameNodes old new
page_node-removed old new name empty removes other place =
    grind (arith, common_steps, cases_Bool, name-tied) steps 20000

-- a page in place of what stood under its name, which differs at one place
pub puts-page : (old new : Paged) (name : PageName) (made : BTreeMap ℕ (List ℕ)) (place : ℕ) (kept : Option (List ℕ))
    → PutsPage old new name (Some made) → get nat_cmp made place ≡ kept
    → ((other : ℕ) → other ≢ place → get nat_cmp made other ≡ page_node old name other)
    → PutsNode name place kept old new
puts-page old new name made place kept puts here elsewhere =
    grind (arith, common_steps, name-self, cases_Bool, name-tied) steps 20000

pub page_node-there : (pages : Paged) (name : PageName) (page : BTreeMap ℕ (List ℕ)) (place : ℕ)
    → Some page ≡ get name_cmp pages name → page_node pages name place ≡ get nat_cmp page place
page_node-there pages name page place there = rw (← there) refl

pub page_node-absent : (pages : Paged) (name : PageName) (place : ℕ)
    → None ≡ get name_cmp pages name → page_node pages name place ≡ None
page_node-absent pages name place absent = rw (← absent) refl

-- a page that was found, with a node put into it, or with none where memory runs out
pub found-ok : {A E : Type 0} (result : Result A E) (old new : Paged) (name : PageName)
    (page made : BTreeMap ℕ (List ℕ)) (place : ℕ) (digest : List ℕ) → Some page ≡ get name_cmp old name
    → PutsPage old new name (Some made) → OnOk result (get nat_cmp made place ≡ Some digest)
    → OnOk result ((other : ℕ) → other ≢ place → get nat_cmp made other ≡ get nat_cmp page other)
    → OnOk result (PutsNode name place (Some digest) old new)
found-ok (Ok value) old new name page made place digest there puts here elsewhere =
    puts-page old new name made place (Some digest) puts here
    (λ other ne. elsewhere other ne ∙ sym (page_node-there old name page other there))
found-ok (Err why) old new name page made place digest there puts here elsewhere = tt

pub found-err : {A E : Type 0} (result : Result A E) (old new : Paged) (name : PageName)
    (page made : BTreeMap ℕ (List ℕ)) → Some page ≡ get name_cmp old name → PutsPage old new name (Some made)
    → OnErr result (made.entries ≡ page.entries) → OnErr result (SameNodes old new)
found-err (Ok value) old new name page made there puts same = tt
found-err (Err why) old new name page made there puts same = page_node-same old new name page made there puts same

pub found-absent : {A E : Type 0} (result : Result A E) (old : Paged) (name : PageName) (page : BTreeMap ℕ (List ℕ))
    (place : ℕ) → Some page ≡ get name_cmp old name → OnErr result (get nat_cmp page place ≡ None)
    → OnErr result (page_node old name place ≡ None)
found-absent result old name page place there absent = grind (arith, common_steps, page_node-there) steps 20000

-- no node put where there is none
pub puts_none : (pages : Paged) (name : PageName) (place : ℕ) (digest default : List ℕ)
    → page_node pages name place ≡ None → bytes_eq digest default ≡ true
    → PutsNode name place (kept_digest digest default) pages pages
puts_none pages name place digest default none same = grind (arith, common_steps) steps 20000

pub page_node-none : (pages : Paged) (name : PageName) (place : ℕ) → pages.entries ≡ [] → page_node pages name place ≡ None
page_node-none pages name place none = rw none refl

-- ---- places

-- powers of two that a level above doubles
double-le : (low high : ℕ) → low < high → 2 * 2 ^ low ≤ 2 ^ high
double-le low high lt =
    let double = pow-succ' 2 low in
    elim (cases_lt (suc low) high) [
      | inl below ↦ omega (arith, pow_below (suc low) high below)
      | inr above ↦ let e : high ≡ suc low = omega arith in rw e (omega arith)
    ]

place-below : (one other coin more : ℕ) → one % 15 < other % 15 → place_at other more < place_at one coin
place-below one other coin more lt =
    let double = double-le (15 - other % 15) (15 - one % 15) (omega arith) in
    grind (arith, common_steps, mod_below, pow_pos) steps 20000

-- levels of one page whose places are one are one
pub place-level : (one other coin more : ℕ) → one / 15 ≡ other / 15 → place_at one coin ≡ place_at other more
    → one ≡ other
place-level one other coin more page same = grind (arith, common_steps, cases_lt, place-below) steps 20000

-- coins with one page and place at a level agree from the level on
pub prefix-from : (level coin other : ℕ) → name_at level coin ≡ name_at level other
    → place_at level coin ≡ place_at level other
    → coin / 2 ^ level ≡ other / 2 ^ level
prefix-from level coin other name place =
    let width = 15 - level % 15 in
    let top : level + width ≡ 15 * (level / 15) + 15 = omega arith in
    grind (arith, common_steps, shr-shr, div-add-mod) steps 20000

-- coins that agree from a level on have one page and place there
pub name_at-prefix : (level coin other : ℕ) → coin / 2 ^ level ≡ other / 2 ^ level
    → name_at level coin ≡ name_at level other
name_at-prefix level coin other e =
    let width = 15 - level % 15 in
    let top : level + width ≡ 15 * (level / 15) + 15 = omega arith in
    let bits : coin / 2 ^ (15 * (level / 15) + 15) ≡ other / 2 ^ (15 * (level / 15) + 15) =
    rw (← top) (sym (shr-shr coin level width) ∙ ap (λ (q : ℕ). q / 2 ^ width) e ∙ shr-shr other level width) in
    name_of-same (level / 15) (level / 15) _ _ refl bits

-- coins that agree above a level have one page there
pub name_at-above : (level coin other : ℕ) → coin / 2 ^ suc level ≡ other / 2 ^ suc level
    → name_at level coin ≡ name_at level other
name_at-above level coin other e =
    let width = 14 - level % 15 in
    let top : suc level + width ≡ 15 * (level / 15) + 15 = omega arith in
    let bits : coin / 2 ^ (15 * (level / 15) + 15) ≡ other / 2 ^ (15 * (level / 15) + 15) =
    rw (← top) (sym (shr-shr coin (suc level) width) ∙ ap (λ (q : ℕ). q / 2 ^ width) e
    ∙ shr-shr other (suc level) width) in
    name_of-same (level / 15) (level / 15) _ _ refl bits

pub place_at-prefix : (level coin other : ℕ) → coin / 2 ^ level ≡ other / 2 ^ level
    → place_at level coin ≡ place_at level other
place_at-prefix level coin other e = rw e refl

-- ---- a node at a level on the way up from a coin

pub node-prefix : (level other coin : ℕ) (pages : Paged) → other / 2 ^ level ≡ coin / 2 ^ level
    → node_at level other pages ≡ node_at level coin pages
node-prefix level other coin pages e = rw (name_at-prefix level other coin e, place_at-prefix level other coin e) refl

pub puts-here : (level coin other : ℕ) (kept : Option (List ℕ)) (old new : Paged) → PutsAt level coin kept old new
    → other / 2 ^ level ≡ coin / 2 ^ level → node_at level other new ≡ kept
puts-here level coin other kept old new puts e = node-prefix level other coin new e ∙ puts.here

pub puts-elsewhere : (level coin k other : ℕ) (kept : Option (List ℕ)) (old new : Paged)
    → PutsAt level coin kept old new → (k ≡ level → other / 2 ^ level ≡ coin / 2 ^ level → ⊥)
    → node_at k other new ≡ node_at k other old
puts-elsewhere level coin k other kept old new puts apart =
    puts.elsewhere (name_at k other) (place_at k other) (λ name place.
    let page : k / 15 ≡ level / 15 = ap (λ (n : PageName). n.number) name in
    let e : k ≡ level = place-level k level other coin page place in
    apart e (prefix-from level other coin (rw e at name) (rw e at place)))
