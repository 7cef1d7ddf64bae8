-- A wallet's own exit of a coin that it holds is at the tip.
use Rattle.safety_laws.proofs.Basics.{◌≡◌, ℕ, ◌==◌, true, false, if◌then◌else◌, List, [], ◌∷◌, Some, inl, inr, refl, sym, ◌∙◌, arith, rules, list_any, or_cases, common_steps}
use Rattle.safety_laws.proofs.CoinWords.{Owner, RootCall, coin_at, Exit, exits, Tests, Rules, Has, all-has, contains-has}
use Rattle.safety_laws.proofs.NodeWords.{exit_block}
use Rattle.safety_laws.proofs.WorldWords.{Event, Declares, Joins, log_of, coin_of_call, wallet_owner, accepted, is_bundle, seen, is_forged, was_deposited, is_mine, left_by, is_left, is_tip, IsLegal, some_same, HasOneLeaf, SignsBy, Holding, held_top, IsOwnAt, IfOwn, came-from, undeclared-none, left-is, left-stands, left-has}
use Rattle.world_laws.proofs.Offers.{left_start, tip-held}

-- a start that the wallet left
record WasLeft (events : List Event) (w c e : ℕ) : Type 0 where
  call : RootCall
  has : Has (left_by events w) call
  coin_is : coin_of_call call ≡ c
  block_is : exit_block call ≡ e

left-on : (event : Event) (events : List Event) (w c e : ℕ) → WasLeft events w c e → WasLeft (event ∷ events) w c e
left-on event events w c e l = grind (arith, common_steps, left-has)

module _ (tests : Tests) (rules : Rules) (w c e : ℕ) where
  -- the wallet left with each own exit
  was-left : (events : List Event) → IsLegal tests rules events → (me : Owner) → wallet_owner events w ≡ Some me
      → (x : Exit) → Has (exits (log_of events)) x → IsOwnAt me c e x → WasLeft events w c e
  unfolding IsLegal log_of exits wallet_owner
  was-left [] legal me me_is x there own = absurd there
  was-left (Declares v other ∷ events) legal me me_is x there own =
      (elim (v == w) as (λ b. (v == w) ≡ b → (if b then Some other else wallet_owner events w) ≡ Some me
      → WasLeft (Declares v other ∷ events) w c e) [
        | true ↦ grind (arith, common_steps, some_same, undeclared-none)
        | false ↦ λ apart mine. left-on (Declares v other) events w c e
            (was-left events legal.1 me mine x there own)
      ]) refl me_is
  was-left (Joins call ∷ events) legal me me_is x there own =
      left-on (Joins call) events w c e
      (elim (all-has (IfOwn (log_of events) me c e call) (exits (call ∷ log_of events)) x
      (came-from tests rules (log_of events) me c e call legal.0.accepted) there own) [
        | inl r ↦ was-left events legal.1 me me_is r.0 r.1 r.2
        | inr s ↦ grind (arith, common_steps, contains-has)
      ])
  was-left (event ∷ events) legal me me_is x there own =
      left-on event events w c e (was-left events legal.1 me me_is x there own)

-- so it is at the tip at which the wallet holds the coin
pub own-at-tip : (tests : Tests) (rules : Rules) → SignsBy tests → (events : List Event) (w c e : ℕ)
    → IsLegal tests rules events → HasOneLeaf tests (log_of events) c (seen events c)
    → is_forged rules.tag events w c ≡ false → (h : Holding events w c e) → (x : Exit)
    → Has (exits (log_of events)) x → x.coin ≡ c → is_mine h.me x ≡ true → x.block ≡ e
own-at-tip tests rules signs events w c e legal one unforged h x there c_is mine =
    let block : ℕ = x.block in
    let l = was-left tests rules w c block events legal h.me h.me_is x there (c_is, mine, refl) in
    let k = left_start tests rules events w l.call legal l.has in
    let same : k.me ≡ h.me = some_same k.me h.me (sym k.me_is ∙ h.me_is) in
    let tip : is_tip events w h.me c block ≡ true =
    (λ i. is_tip events w (sym same i) (sym l.coin_is i) (sym l.block_is i)) ∙ k.tip in
    let left : is_left (left_by events w) c block ≡ true =
    (λ i. is_left (left_by events w) (sym l.coin_is i) (sym l.block_is i)) ∙ left-is (left_by events w) l.call l.has in
    let other : Holding events w c block = record {
      me = h.me;
      me_is = h.me_is;
      source = or_cases (was_deposited h.me block (coin_at (log_of events) c))
          (list_any (is_bundle c block) (accepted events w)) tip;
      not_away = left-stands tests rules events w c block legal left;
      not_withdrawn = h.not_withdrawn;
    } in
    let low = held_top tests rules signs events w c e legal one h unforged block tip in
    let high = held_top tests rules signs events w c block legal one other unforged e
    (tip-held events w c e h) in
    omega (arith, low, high)
