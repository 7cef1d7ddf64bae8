-- The names and roles of nodes: a name is new where it is declared, so no two nodes have one name.
use Rattle.world_rules.proofs.Basics.{◌≡◌, ℕ, zero, suc, map, nat_lt, true, false, List, [], ◌∷◌, ◌++◌, length, set, slice_get, bytes_eq, Some, refl, sym, ap, ◌∙◌, subst, arith, position_or_len, or_parts, not-true, false_from_ne_true, true≢false, lt-ltb, ltb-false, le-ltb, common_steps}
use Rattle.world_rules.proofs.WorldWords.{Role, Node, World, any_role, is_named, is_new_name}
use Rattle.std.specs.Cmp.Lexicographic.{bytes_decides}

-- a node's name and role
pub record Card : Type 0 where
  pub name : List ℕ
  pub role : Role

abbrev pub card : Node → Card
card node = record { name = node.name; role = node.role }

abbrev pub cards : List Node → List Card
cards nodes = map card nodes

-- ---- names

-- names that differ do so either way round
pub names-flip : (one other : List ℕ) → bytes_eq one other ≡ false → bytes_eq other one ≡ false
names-flip one other apart = false_from_ne_true (bytes_eq other one)
    (λ same. true≢false (sym ((bytes_decides one other).1 (sym ((bytes_decides other one).0 same))) ∙ apart))

pub own-name : (name : List ℕ) → bytes_eq name name ≡ true
own-name name = (bytes_decides name name).1 refl

-- none of the nodes has the name
abbrev pub IsOther : List ℕ → List Card → Type 0
IsOther name [] = Unit {0}
IsOther name (one ∷ others) = (bytes_eq one.name name ≡ false) × IsOther name others

-- no two nodes have one name
abbrev pub AreDistinct : List Card → Type 0
AreDistinct [] = Unit {0}
AreDistinct (one ∷ others) = IsOther one.name others × AreDistinct others

other-push : (name : List ℕ) (nodes : List Card) (new : Card) → IsOther name nodes → bytes_eq new.name name ≡ false
    → IsOther name (nodes ++ new ∷ [])
other-push name [] new other apart = (apart, tt)
other-push name (one ∷ others) new other apart = (other.0, other-push name others new other.1 apart)

-- names stay apart with a new one
pub distinct-push : (nodes : List Card) (new : Card) → AreDistinct nodes → IsOther new.name nodes
    → AreDistinct (nodes ++ new ∷ [])
distinct-push [] new distinct other = (tt, tt)
distinct-push (one ∷ others) new distinct other =
    grind (arith, common_steps, distinct-push others new distinct.1 other.1, other-push, names-flip)

-- a node that is there has another name
pub other-at : (name : List ℕ) (nodes : List Card) (i : ℕ) (one : Card) → IsOther name nodes
    → slice_get nodes i ≡ Some one → bytes_eq one.name name ≡ false
other-at name [] i one other is = absurd (cc is)
other-at name (first ∷ rest) zero one other is =
    let same : first ≡ one = cc is in subst (λ (c : Card). bytes_eq c.name name ≡ false) same other.0
other-at name (first ∷ rest) (suc i) one other is = other-at name rest i one other.1 is

-- ---- new names

no-place : (name : List ℕ) (nodes : List Node)
    → nat_lt (position_or_len (is_named any_role name) nodes) (length nodes) ≡ false → IsOther name (cards nodes)
no-place name [] none = tt
no-place name (node ∷ nodes) none =
    grind (arith, common_steps, no-place name nodes, true≢false, lt-ltb, ltb-false, le-ltb)

-- a name that may be declared is none's
pub new-other : (world : World) (name : List ℕ) → is_new_name world name ≡ true → IsOther name (cards world.nodes)
new-other world name new = grind (arith, common_steps, or_parts, not-true, no-place, true≢false)

-- ---- numbers

-- a node that changes, but for its name and role, changes no name and no role
pub cards-set : (nodes : List Node) (n : ℕ) (old new : Node) → slice_get nodes n ≡ Some old → card new ≡ card old
    → cards (set nodes n new) ≡ cards nodes
cards-set [] n old new is same = refl
cards-set (node ∷ nodes) zero old new is same =
    let first : node ≡ old = cc is in ap (λ (one : Card). one ∷ cards nodes) (same ∙ ap card (sym first))
cards-set (node ∷ nodes) (suc n) old new is same = grind (arith, common_steps, cards-set nodes n old new is same)

pub cards-push : (nodes : List Node) (new : Node) → cards (nodes ++ new ∷ []) ≡ cards nodes ++ card new ∷ []
cards-push [] new = refl
cards-push (node ∷ nodes) new = ap (λ (rest : List Card). card node ∷ rest) (cards-push nodes new)

pub cards-length : (nodes : List Node) → length (cards nodes) ≡ length nodes
cards-length [] = refl
cards-length (node ∷ nodes) = ap suc (cards-length nodes)

-- a node is there under its number
pub card-at : (nodes : List Node) (n : ℕ) (node : Node) → slice_get nodes n ≡ Some node
    → slice_get (cards nodes) n ≡ Some (card node)
card-at [] n node is = absurd (cc is)
card-at (first ∷ rest) zero node is = let same : first ≡ node = cc is in ap (λ (one : Node). Some (card one)) same
card-at (first ∷ rest) (suc n) node is = card-at rest n node is

-- those that are there stay under their numbers, and the new one comes after them
pub stays-at : (nodes : List Card) (new one : Card) (n : ℕ) → slice_get nodes n ≡ Some one
    → slice_get (nodes ++ new ∷ []) n ≡ Some one
stays-at [] new one n is = absurd (cc is)
stays-at (first ∷ rest) new one zero is = is
stays-at (first ∷ rest) new one (suc n) is = stays-at rest new one n is

pub last-at : (nodes : List Card) (new : Card) → slice_get (nodes ++ new ∷ []) (length nodes) ≡ Some new
last-at [] new = refl
last-at (first ∷ rest) new = last-at rest new

pub none-past : (nodes : List Card) (one : Card) → slice_get nodes (length nodes) ≡ Some one → ⊥
none-past [] one is = cc is
none-past (first ∷ rest) one is = none-past rest one is
