-- Who the nodes of a world are: their names, accounts and roles, which no line but a declaration changes.
use Rattle.std.proofs.Common.{◌≡◌, ℕ, zero, suc, ◌+◌, ◌==◌, ◌&&◌, ◌||◌, not, cond, nat_lt, map, Bool, true, false, if◌then◌else◌, List, [], ◌∷◌, length, set, slice_get, Option, Some, None, is_some, bytes_eq, refl, sym, ap, ◌∙◌, subst}
use Rattle.std.specs.Prelude.{find, filter}
use Rattle.std.specs.List.{position, position_or_len, list_any}
use Rattle.std.proofs.lemmas.Bool.{false≢true}
use Rattle.schedule_text.specs.declared.line.Line.{Line}
use Rattle.world_rules.specs.World.{Role, Node, World, is_named, is_wallet_role}
use Rattle.world_rules.specs.Deeds.{Deed}
use Rattle.world_rules.specs.Steps.{LineEffect, after_crash, step}
use Rattle.world_rules.specs.Acts.{NewWallet, NewWatcher, NewRogue, Act, Adds, Orders, Crashes, End, Whole, Crashed, Kept, Lost, end_of, node_after, deed_at, done}
use Rattle.world_rules.proofs.Lines.{IsActOf, is-act}
use Rattle.world_rules.proofs.Lives.{stepped}

-- who a node is
pub record Person : Type 0 where
  pub name : List ℕ
  pub account : ℕ
  pub role : Role

abbrev pub person : Node → Person
person node = record { name = node.name; account = node.account; role = node.role }

abbrev pub people : List Node → List Person
people nodes = map person nodes

-- somebody has the name, and a role that passes
abbrev pub is_called : (Role → Bool) → List ℕ → Person → Bool
is_called may name one = bytes_eq one.name name && may one.role

-- ---- what is asked of nodes is asked of people

people-length : (nodes : List Node) → length (people nodes) ≡ length nodes
people-length [] = refl
people-length (node ∷ nodes) = ap suc (people-length nodes)

place-same : (may : Role → Bool) (name : List ℕ) (nodes : List Node)
    → position_or_len (is_named may name) nodes ≡ position_or_len (is_called may name) (people nodes)
place-same may name [] = refl
place-same may name (node ∷ nodes) =
    ap (λ (place : ℕ). cond (not (is_named may name node)) (1 + place) 0) (place-same may name nodes)

pub position-same : (may : Role → Bool) (name : List ℕ) (nodes : List Node)
    → position (is_named may name) nodes ≡ position (is_called may name) (people nodes)
position-same may name nodes =
    ap (λ (place : ℕ). if nat_lt place (length nodes) then Some place else None) (place-same may name nodes)
    ∙ ap (λ (count : ℕ). if nat_lt (position_or_len (is_called may name) (people nodes)) count
    then Some (position_or_len (is_called may name) (people nodes)) else None) (sym (people-length nodes))

pub found-same : (may : Role → Bool) (name : List ℕ) (nodes : List Node)
    → is_some (find (is_named may name) nodes) ≡ is_some (find (is_called may name) (people nodes))
found-same may name [] = refl
found-same may name (node ∷ nodes) = by (is_named may name node) (found-same may name nodes)
  where
    by : (b : Bool) → is_some (find (is_named may name) nodes) ≡ is_some (find (is_called may name) (people nodes))
        → is_some (if b then Some node else find (is_named may name) nodes)
        ≡ is_some (if b then Some (person node) else find (is_called may name) (people nodes))
    by true rest = refl
    by false rest = rest

pub accounts-same : (account : ℕ) (nodes : List Node)
    → list_any (λ node. node.account == account) (filter (λ node. is_wallet_role node.role) nodes)
    ≡ list_any (λ one. one.account == account) (filter (λ one. is_wallet_role one.role) (people nodes))
accounts-same account [] = refl
accounts-same account (node ∷ nodes) = by (is_wallet_role node.role) (accounts-same account nodes)
  where
    others : Bool
    others = list_any (λ node. node.account == account) (filter (λ node. is_wallet_role node.role) nodes)

    people_others : Bool
    people_others =
        list_any (λ one. one.account == account) (filter (λ one. is_wallet_role one.role) (people nodes))

    by : (b : Bool) → others ≡ people_others
        → list_any (λ node. node.account == account)
        (cond b (node ∷ filter (λ node. is_wallet_role node.role) nodes)
        (filter (λ node. is_wallet_role node.role) nodes))
        ≡ list_any (λ one. one.account == account)
        (cond b (person node ∷ filter (λ one. is_wallet_role one.role) (people nodes))
        (filter (λ one. is_wallet_role one.role) (people nodes)))
    by true rest = ap (λ (b : Bool). (node.account == account) || b) rest
    by false rest = rest

-- ---- who stays

-- a node that changes, but for name, account and role, changes nobody
people-set : (nodes : List Node) (n : ℕ) (old new : Node) → slice_get nodes n ≡ Some old
    → person new ≡ person old → people (set nodes n new) ≡ people nodes
people-set [] n old new is same = refl
people-set (node ∷ nodes) zero old new is same =
    let first : node ≡ old = cc is in ap (λ (one : Person). one ∷ people nodes) (same ∙ ap person (sym first))
people-set (node ∷ nodes) (suc n) old new is same =
    ap (λ (rest : List Person). person node ∷ rest) (people-set nodes n old new is same)

-- whether a line is of what is done once all is declared
abbrev pub is_played : Line → Bool
is_played (Line.Fund _ _) = true
is_played (Line.Tick _) = true
is_played (Line.Deposit _ _) = true
is_played (Line.Call _ _) = true
is_played (Line.Enter _ _) = true
is_played (Line.Command _) = true
is_played (Line.Crash _ _) = true
is_played _ = false

module _ (dig : List ℕ → List ℕ) (world : World) where
  abbrev Stays : List Node → Type 0
  Stays nodes = people nodes ≡ people world.nodes

  person-after : (node : Node) (deed : Deed) (end : End) → person (node_after node deed end) ≡ person node
  person-after node deed Whole = refl
  person-after node deed Crashed = refl
  person-after node deed Kept = refl
  person-after node deed Lost = refl

  stay : (line : Line) (act : Act) → is_played line ≡ true → IsActOf world line act
      → Stays (done dig world act).world.nodes
  unfolding done
  stay line (Adds name (NewWallet who)) played is =
      absurd (false≢true (ap is_played (sym is.line_is.3) ∙ played))
  stay line (Adds name (NewWatcher account)) played is =
      absurd (false≢true (ap is_played (sym is.line_is) ∙ played))
  stay line (Adds name (NewRogue who)) played is = refl
  stay line (Orders place order cut) played is =
      let deed = deed_at dig world place order in
      let end = end_of cut place.node order deed in
      people-set world.nodes place.number place.node (node_after place.node deed end) is.known.there
      (person-after place.node deed end)
  stay line (Crashes place) played is =
      people-set world.nodes place.number place.node (after_crash place.node) is.known refl
  stay line act played is = refl

  -- a line that is stepped then changes nobody
  pub people-stay : (line : Line) (effect : LineEffect) → is_played line ≡ true
      → step dig (Some world) line ≡ Some effect → people effect.world.nodes ≡ people world.nodes
  people-stay line effect played is =
      let made = stepped dig world line effect is in
      subst (λ (e : LineEffect). Stays e.world.nodes) made.effect_is
      (stay line made.act played (is-act world line made.act made.act_is))
