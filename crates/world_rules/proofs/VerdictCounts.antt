-- How many verdicts there are on a wallet and a coin, and what a verdict is on.
use Rattle.world_rules.proofs.Basics.{◌≡◌, ◌⊎◌, ℕ, zero, suc, ◌+◌, ◌<◌, ◌≤◌, cond, Bool, true, false, if◌then◌else◌, List, [], ◌∷◌, ◌++◌, slice_get, bytes_eq, Contains, count_by, flat_map, filter_map, Option, Some, None, inl, inr, refl, ap, ◌∙◌, subst, arith, rules, cons_option, range_with_len, cases_eq, eq-eqb, ne_eqb, and_from, and_left, and_right, Contains-append_cases, common_steps}
use Rattle.world_rules.proofs.CoinWords.{Owner, coins, Tests, Rules}
use Rattle.world_rules.proofs.WorldWords.{and_then_some, option_map_some, Verdict, Event, log_of, wallet_owner, Node, is_wallet_role, held_tip, Named, verdict_at, verdict_of, wallets_from, verdicts_on, is_on}
use Rattle.std.proofs.lemmas.List.Sums.{sum_by-cons, sum_by-append}
use Rattle.world_rules.proofs.Named.{card, cards, IsOther, AreDistinct, names-flip, own-name, other-at, card-at}

-- ---- counts

count-no : (p : Verdict → Bool) (one : Verdict) (rest : List Verdict) → p one ≡ false
    → count_by p (one ∷ rest) ≡ count_by p rest
count-no p one rest fails =
    sum_by-cons (λ x. cond (p x) 1 0) one rest ∙ ap (λ (b : Bool). cond b 1 0 + count_by p rest) fails ∙ omega arith

count-yes : (p : Verdict → Bool) (one : Verdict) (rest : List Verdict) → p one ≡ true
    → count_by p (one ∷ rest) ≡ 1 + count_by p rest
count-yes p one rest passes =
    sum_by-cons (λ x. cond (p x) 1 0) one rest ∙ ap (λ (b : Bool). cond b 1 0 + count_by p rest) passes

count-append : (p : Verdict → Bool) (xs ys : List Verdict) → count_by p (xs ++ ys) ≡ count_by p xs + count_by p ys
count-append p xs ys = sum_by-append (λ x. cond (p x) 1 0) xs ys

-- ---- over coins

module _ (p : Verdict → Bool) (f : ℕ → Option Verdict) where
  abbrev over : ℕ → ℕ → ℕ
  over start n = count_by p (filter_map f (range_with_len start n))

  skip : (o : Option Verdict) (rest : List Verdict) → ((v : Verdict) → o ≡ Some v → p v ≡ false)
      → count_by p (cons_option o rest) ≡ count_by p rest
  skip o rest fail = grind (arith, common_steps, count-no)

  -- none where no coin of the range has one that passes
  pub coins-none : (n start : ℕ) → ((k : ℕ) (v : Verdict) → start ≤ k → f k ≡ Some v → p v ≡ false)
      → over start n ≡ 0
  coins-none zero start fail = refl
  coins-none (suc n) start fail =
      skip (f start) (filter_map f (range_with_len (start + 1) n)) (λ v is. fail start v (omega arith) is)
      ∙ coins-none n (start + 1) (λ k v le is. fail k v (omega arith) is)

  -- one where one coin of the range has one
  pub coins-one : (n start c : ℕ) (v : Verdict) → start ≤ c → c < start + n → f c ≡ Some v → p v ≡ true
      → ((k : ℕ) (other : Verdict) → (k ≡ c → ⊥) → f k ≡ Some other → p other ≡ false) → over start n ≡ 1
  coins-one zero start c v low high is passes fail = absurd (omega arith)
  coins-one (suc n) start c v low high is passes fail = elim (cases_eq start c) [
    | inl here ↦ grind (arith, common_steps, count-yes, coins-none)
    | inr past ↦
        grind (arith, common_steps, coins-one n (start + 1) c v (omega arith) (omega arith) is passes fail, skip, past)
  ]

-- ---- over wallets

module _ (p : Verdict → Bool) (f : Named → List Verdict) (name : List ℕ)
    (none : (wallet : Named) → bytes_eq wallet.name name ≡ false → count_by p (f wallet) ≡ 0) where
  abbrev among : ℕ → List Node → ℕ
  among k nodes = count_by p (flat_map f (wallets_from k nodes))

  one-more : (wallet : Named) (rest : List Named) (here there : ℕ) → count_by p (f wallet) ≡ here
      → count_by p (flat_map f rest) ≡ there → count_by p (flat_map f (wallet ∷ rest)) ≡ here + there
  one-more wallet rest here there first second = grind (arith, common_steps, count-append)

  past : (k n : ℕ) (node : Node) (nodes : List Node) → bytes_eq node.name name ≡ false → among (k + 1) nodes ≡ n
      → among k (node ∷ nodes) ≡ n
  unfolding wallets_from
  past k n node nodes apart rest = grind (arith, common_steps, one-more)

  -- none where no node has the name
  pub wallets-none : (nodes : List Node) (k : ℕ) → IsOther name (cards nodes) → among k nodes ≡ 0
  unfolding wallets_from
  wallets-none [] k other = refl
  wallets-none (node ∷ nodes) k other = past k 0 node nodes other.0 (wallets-none nodes (k + 1) other.1)

  -- those of the wallet with the name, where no two nodes have one name
  pub wallets-one : (nodes : List Node) (k i : ℕ) (node : Node) (n : ℕ) → AreDistinct (cards nodes)
      → slice_get nodes i ≡ Some node → is_wallet_role node.role ≡ true → node.name ≡ name
      → count_by p (f (record { number = k + i; name = name })) ≡ n → among k nodes ≡ n
  unfolding wallets_from
  wallets-one [] k i node n distinct is wallet own count = absurd (cc is)
  wallets-one (first ∷ rest) k zero node n distinct is wallet own count =
      grind (arith, common_steps, one-more, wallets-none, cards)
  wallets-one (first ∷ rest) k (suc i) node n distinct is wallet own count =
      past k n first rest
      (names-flip name first.name (subst (λ (x : List ℕ). bytes_eq x first.name ≡ false) own
      (other-at first.name (cards rest) i (card node) distinct.0 (card-at rest i node is))))
      (wallets-one rest (k + 1) i node n distinct.1 is wallet own
      (grind (arith, common_steps)))

-- ---- what a verdict is on

-- a verdict on a wallet and a coin: who the wallet is, its held tip of the coin, and what became of the coin
pub record IsVerdict (tests : Tests) (rules : Rules) (events : List Event) (wallet : Named) (c : ℕ)
    (verdict : Verdict) : Type 0 where
  pub me : Owner
  pub tip : ℕ
  pub owner : wallet_owner events wallet.number ≡ Some me
  pub tip_is : held_tip events wallet.number c ≡ Some tip
  pub name : verdict.wallet ≡ wallet.name
  pub coin : verdict.coin ≡ c
  pub kind : verdict.kind ≡ verdict_at tests rules events me wallet.number c tip

module _ (tests : Tests) (rules : Rules) (events : List Event) where
  pub verdict-is : (wallet : Named) (c : ℕ) (verdict : Verdict)
      → verdict_of tests rules events wallet c ≡ Some verdict → IsVerdict tests rules events wallet c verdict
  verdict-is wallet c verdict is = grind (arith, common_steps, and_then_some, option_map_some)

  -- there is one where the wallet is declared and has a held tip
  pub verdict-some : (wallet : Named) (c : ℕ) (me : Owner) (tip : ℕ) → wallet_owner events wallet.number ≡ Some me
      → held_tip events wallet.number c ≡ Some tip
      → (verdict : Verdict) × (verdict_of tests rules events wallet c ≡ Some verdict)
  verdict-some wallet c me tip owner tip_is = (
    record { wallet = wallet.name; coin = c; kind = verdict_at tests rules events me wallet.number c tip },
    grind (arith, common_steps),
  )

  -- ---- one verdict

  -- none is on another name
  others-none : (name : List ℕ) (c : ℕ) (wallet : Named) → bytes_eq wallet.name name ≡ false
      → count_by (is_on name c) (verdicts_on tests rules events wallet) ≡ 0
  others-none name c wallet apart = grind (arith, common_steps, coins-none, and_left, verdict-is)

  -- one is on a wallet and a coin of the log that has a held tip
  own-one : (c : ℕ) (wallet : Named) (me : Owner) (tip : ℕ) → wallet_owner events wallet.number ≡ Some me
      → held_tip events wallet.number c ≡ Some tip → 1 ≤ c → c ≤ coins (log_of events)
      → count_by (is_on wallet.name c) (verdicts_on tests rules events wallet) ≡ 1
  own-one c wallet me tip owner tip_is low high =
      let made = verdict-some wallet c me tip owner tip_is in
      let is = verdict-is wallet c made.0 made.1 in
      coins-one (is_on wallet.name c) (verdict_of tests rules events wallet) (coins (log_of events)) 1 c made.0 low
      (omega arith) made.1
      (grind (arith, common_steps, and_from, own-name, eq-eqb))
      (grind (arith, common_steps, and_right, ne_eqb, verdict-is))

  pub one-verdict : (nodes : List Node) (n c tip : ℕ) (node : Node) (me : Owner) → AreDistinct (cards nodes)
      → slice_get nodes n ≡ Some node → is_wallet_role node.role ≡ true → wallet_owner events n ≡ Some me
      → held_tip events n c ≡ Some tip → 1 ≤ c → c ≤ coins (log_of events)
      → count_by (is_on node.name c) (flat_map (verdicts_on tests rules events) (wallets_from 0 nodes)) ≡ 1
  one-verdict nodes n c tip node me distinct is wallet owner tip_is low high =
      let from : n ≡ 0 + n = omega arith in
      wallets-one (is_on node.name c) (verdicts_on tests rules events) node.name (others-none node.name c) nodes 0 n
      node 1 distinct is wallet refl
      ((grind (arith, common_steps))
      ∙ own-one c (record { number = n; name = node.name }) me tip owner tip_is low high)

-- ---- where a verdict comes from

nothing : (v : Verdict) → Contains [] v → ⊥
nothing v found = omega (arith, found.1)

among-cons : (one : Verdict) (rest : List Verdict) (v : Verdict) → Contains (one ∷ rest) v
    → (one ≡ v) ⊎ Contains rest v
among-cons one rest v found = grind (arith, common_steps, nothing)

pub from-coin : (f : ℕ → Option Verdict) (n start : ℕ) (v : Verdict)
    → Contains (filter_map f (range_with_len start n)) v → (c : ℕ) × (f c ≡ Some v)
from-coin f zero start v found = absurd (nothing v found)
from-coin f (suc n) start v found = at (f start) refl found (from-coin f n (start + 1) v)
  where
    at : (o : Option Verdict) → f start ≡ o → Contains (cons_option o (filter_map f (range_with_len (start + 1) n))) v
        → (Contains (filter_map f (range_with_len (start + 1) n)) v → (c : ℕ) × (f c ≡ Some v))
        → (c : ℕ) × (f c ≡ Some v)
    at None is among rest = rest among
    at (Some one) is among rest = elim (among-cons one (filter_map f (range_with_len (start + 1) n)) v among) [
      | inl same ↦ (start, is ∙ ap (λ (x : Verdict). Some x) same)
      | inr later ↦ rest later
    ]

-- a verdict of the wallets from number k on is of one of the nodes
pub record IsFrom (f : Named → List Verdict) (k : ℕ) (nodes : List Node) (v : Verdict) : Type 0 where
  pub place : ℕ
  pub node : Node
  pub is_node : slice_get nodes place ≡ Some node
  pub among : Contains (f (record { number = k + place; name = node.name })) v

pub from-wallet : (f : Named → List Verdict) (nodes : List Node) (k : ℕ) (v : Verdict)
    → Contains (flat_map f (wallets_from k nodes)) v → IsFrom f k nodes v
unfolding wallets_from
from-wallet f [] k v found = absurd (nothing v found)
from-wallet f (node ∷ nodes) k v found =
    at (is_wallet_role node.role) found (λ among. later (from-wallet f nodes (k + 1) v among))
  where
    later : IsFrom f (k + 1) nodes v → IsFrom f k (node ∷ nodes) v
    later from =
        let on : k + 1 + from.place ≡ k + suc from.place = omega arith in
        grind (arith, common_steps)

    here : Contains (f (record { number = k; name = node.name })) v → IsFrom f k (node ∷ nodes) v
    here among =
        let on : k ≡ k + zero = omega arith in
        grind (arith, common_steps)

    at : (b : Bool) → Contains (flat_map f (if b then record { number = k; name = node.name } ∷ wallets_from (k + 1)
        nodes else wallets_from (k + 1) nodes)) v
        → (Contains (flat_map f (wallets_from (k + 1) nodes)) v → IsFrom f k (node ∷ nodes) v)
        → IsFrom f k (node ∷ nodes) v
    at true among rest = elim (Contains-append_cases (f (record { number = k; name = node.name }))
        (flat_map f (wallets_from (k + 1) nodes)) v among) [
          | inl first ↦ here first
          | inr other ↦ rest other
        ]
    at false among rest = rest among
