-- The accounts of wallets by their nodes' numbers: no two wallets have one, and every account that deposits or starts
-- is a wallet's or that of a `call` line.
use Rattle.world_laws.proofs.Basics.{◌≡◌, ◌⊎◌, ℕ, zero, suc, ◌==◌, ◌||◌, Bool, true, false, if◌then◌else◌, List, [], ◌∷◌, ◌++◌, length, map, Option, Some, None, inl, inr, refl, sym, ap, ◌∙◌, set, slice_get, arith, list_any, filter, ◌≡◌, ◌⊎◌, ℕ, zero, suc, ◌==◌, ◌||◌, Bool, true, false, if◌then◌else◌, List, [], ◌∷◌, ◌++◌, length, map, Option, Some, None, inl, inr, refl, sym, ap, ◌∙◌, set, slice_get, arith, cases_eq, eq-eqb, or_left, or_right, common_steps, some_same}
use Rattle.world_laws.proofs.CoinWords.{RootCall, Has}
use Rattle.world_laws.proofs.WorldWords.{Node, World, is_wallet_role, is_wallet_account, push-same, push-other, starts_by, deposits_by}
use Rattle.std.proofs.lemmas.Map.Keys.{any_passes_from_place}

-- the account of a wallet's node
abbrev pub holder : Node → Option ℕ
holder node = if is_wallet_role node.role then Some node.account else None

abbrev pub holders : List Node → List (Option ℕ)
holders nodes = map holder nodes

-- a wallet has the account
abbrev pub IsHeld : List (Option ℕ) → ℕ → Type 0
IsHeld held account = (n : ℕ) × (slice_get held n ≡ Some (Some account))

-- ---- nodes

pub holder-wallet : (node : Node) → is_wallet_role node.role ≡ true → holder node ≡ Some node.account
holder-wallet node is = ap (λ (b : Bool). if b then Some node.account else None) is

pub holder-at : (nodes : List Node) (n : ℕ) (node : Node) → slice_get nodes n ≡ Some node
    → slice_get (holders nodes) n ≡ Some (holder node)
holder-at [] n node is = absurd (cc is)
holder-at (first ∷ rest) zero node is = ap (λ (one : Node). Some (holder one)) (some_same first node is)
holder-at (first ∷ rest) (suc n) node is = holder-at rest n node is

-- a wallet's account is one of a node
pub held-node : (nodes : List Node) (n account : ℕ) → slice_get (holders nodes) n ≡ Some (Some account)
    → (node : Node) × (slice_get nodes n ≡ Some node) × (is_wallet_role node.role ≡ true) × (node.account ≡ account)
held-node [] n account is = absurd (cc is)
held-node (first ∷ rest) zero account is = grind (arith, common_steps, some_same)
held-node (first ∷ rest) (suc n) account is = held-node rest n account is

-- a node that changes, but for its role and account, leaves them
pub holders-set : (nodes : List Node) (n : ℕ) (old new : Node) → slice_get nodes n ≡ Some old
    → holder new ≡ holder old → holders (set nodes n new) ≡ holders nodes
holders-set [] n old new is same = refl
holders-set (node ∷ nodes) zero old new is same =
    ap (λ (one : Option ℕ). one ∷ holders nodes) (same ∙ ap holder (sym (some_same node old is)))
holders-set (node ∷ nodes) (suc n) old new is same =
    ap (λ (rest : List (Option ℕ)). holder node ∷ rest) (holders-set nodes n old new is same)

pub holders-push : (nodes : List Node) (new : Node) → holders (nodes ++ new ∷ []) ≡ holders nodes ++ holder new ∷ []
holders-push [] new = refl
holders-push (node ∷ nodes) new = ap (λ (rest : List (Option ℕ)). holder node ∷ rest) (holders-push nodes new)

-- ---- the tests of declarations

pub any-filter : (p q : Node → Bool) (xs : List Node) (n : ℕ) (x : Node) → slice_get xs n ≡ Some x → q x ≡ true
    → p x ≡ true → list_any p (filter q xs) ≡ true
any-filter p q [] n x is kept passes = absurd (cc is)
any-filter p q (y ∷ ys) zero x is kept passes = grind (arith, common_steps, some_same, or_left)
any-filter p q (y ∷ ys) (suc n) x is kept passes =
    grind (arith, common_steps, any-filter p q ys n x is kept passes, or_right)

-- the account of a declared node is declared, and a wallet's is a wallet's
pub held-declared : (nodes : List Node) (account : ℕ) → IsHeld (holders nodes) account
    → list_any (λ (node : Node). node.account == account) nodes ≡ true
held-declared nodes account held = grind (arith, common_steps, held-node, any_passes_from_place, eq-eqb)

pub held-wallet : (world : World) (account : ℕ) → IsHeld (holders world.nodes) account
    → is_wallet_account world account ≡ true
held-wallet world account held = grind (arith, common_steps, held-node, any-filter, eq-eqb)

-- ---- what is kept of accounts

-- the call deposits or starts by the account
abbrev pub Moves : ℕ → RootCall → Type 0
Moves account call = (deposits_by account call ≡ true) ⊎ (starts_by account call ≡ true)

-- the account is a wallet's, or that of a `call` line
abbrev pub IsKnown : List (Option ℕ) → List ℕ → ℕ → Type 0
IsKnown held callers account = IsHeld held account ⊎ (list_any (λ caller. caller == account) callers ≡ true)

pub record KeepAccounts (held : List (Option ℕ)) (callers : List ℕ) (log : List RootCall) : Type 0 where
  pub distinct : (n m account : ℕ) → slice_get held n ≡ Some (Some account) → slice_get held m ≡ Some (Some account)
      → n ≡ m
  pub known : (account : ℕ) (call : RootCall) → Has log call → Moves account call → IsKnown held callers account

held-push : (held : List (Option ℕ)) (new : Option ℕ) (n : ℕ) (one : Option ℕ) → slice_get held n ≡ Some one
    → slice_get (held ++ new ∷ []) n ≡ Some one
held-push [] new n one is = absurd (cc is)
held-push (first ∷ rest) new zero one is = is
held-push (first ∷ rest) new (suc n) one is = held-push rest new n one is

known-push : (held : List (Option ℕ)) (new : Option ℕ) (callers : List ℕ) (account : ℕ)
    → IsKnown held callers account → IsKnown (held ++ new ∷ []) callers account
known-push held new callers account (inl is) = inl (is.0, held-push held new is.0 (Some account) is.1)
known-push held new callers account (inr is) = inr is

-- one more node, whose account is no other wallet's where it is a wallet
pub accounts-push : (held : List (Option ℕ)) (new : Option ℕ) (callers : List ℕ) (log : List RootCall)
    → ((account : ℕ) → new ≡ Some account → IsHeld held account → ⊥) → KeepAccounts held callers log
    → KeepAccounts (held ++ new ∷ []) callers log
accounts-push held new callers log other kept = record {
  distinct = distinct;
  known = λ account call has moves. known-push held new callers account (kept.known account call has moves);
}
  where
    last : (m account : ℕ) → length held ≡ m → slice_get (held ++ new ∷ []) m ≡ Some (Some account)
        → new ≡ Some account
    last m account same is =
        some_same new (Some account)
        (sym (push-same held new) ∙ ap (slice_get (held ++ new ∷ [])) same ∙ is)

    distinct : (n m account : ℕ) → slice_get (held ++ new ∷ []) n ≡ Some (Some account)
        → slice_get (held ++ new ∷ []) m ≡ Some (Some account) → n ≡ m
    distinct n m account one two = grind (arith, common_steps, cases_eq, last, push-other)

-- more `call` lines
pub accounts-callers : (held : List (Option ℕ)) (callers more : List ℕ) (log : List RootCall)
    → ((account : ℕ) → list_any (λ caller. caller == account) callers ≡ true
    → list_any (λ caller. caller == account) more ≡ true) → KeepAccounts held callers log → KeepAccounts held more log
accounts-callers held callers more log grows kept = grind (arith, common_steps)

-- one more call, whose account is known
pub accounts-call : (held : List (Option ℕ)) (callers : List ℕ) (log : List RootCall) (call : RootCall)
    → ((account : ℕ) → Moves account call → IsKnown held callers account) → KeepAccounts held callers log
    → KeepAccounts held callers (call ∷ log)
accounts-call held callers log call is_known kept = grind (arith, common_steps)

-- an account that isn't known neither deposited nor started
pub unknown-none : (held : List (Option ℕ)) (callers : List ℕ) (log : List RootCall) (p : RootCall → Bool)
    (account : ℕ) → ((call : RootCall) → p call ≡ true → Moves account call) → KeepAccounts held callers log
    → (IsKnown held callers account → ⊥) → list_any p log ≡ false
unknown-none held callers log p account moves kept unknown =
    none log (λ call has is. unknown (kept.known account call has (moves call is)))
  where
    none : (calls : List RootCall) → ((call : RootCall) → Has calls call → p call ≡ true → ⊥)
        → list_any p calls ≡ false
    none [] never = refl
    none (call ∷ calls) never =
        (elim (p call) as (λ b. p call ≡ b → (b || list_any p calls) ≡ false) [
          | true ↦ λ is. absurd (never call (inl refl) is)
          | false ↦ λ is. none calls (λ later has. never later (inr has))
        ]) refl
