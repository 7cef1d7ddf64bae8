-- What each form has that words spell.
use Rattle.run_words.proofs.Basics.{◌≡◌, ◌≤◌, ℕ, Bool, true, ◌&&◌, if◌then◌else◌, List, [], ◌∷◌, codes, Option, Some, None, option_map, refl, arith, IfSome, leb-true, bytes_eq, common_steps, ◌>>=◌, number_in, number_within_in, hex_of_in, only_if, Form, Replay, Brief, Wallet, Operator, Watcher, alone, types_in, wallet_of, init_wallet, operator_of, init_operator, init_form, make_form, verify_form, hss_init, hss_sign, hss_verify, hss_form, audit_form, form_named, form_of, IsSound}
use Rattle.lms_sign.specs.declared.types.LmsTypes.{LmsTypes}
use Rattle.lms_sign.specs.Types.{is_supported}

-- a form that hangs on a value
over : {A : Type 0} (P : A → Type 0) (value : Option A) (form : A → Option Form) → IfSome value P
    → ((x : A) → P x → IsSound (form x)) → IsSound (value >>= form)
over _ value form known each = grind (arith, common_steps) steps 20000

-- of whose value nothing is known
any : {A : Type 0} (value : Option A) (form : A → Option Form) → ((x : A) → IsSound (form x)) → IsSound (value >>= form)
any value form each = grind (arith, common_steps) steps 20000

mapped : {A : Type 0} (value : Option A) (form : A → Form) → ((x : A) → IsSound (Some (form x)))
    → IsSound (option_map form value)
mapped value form each = grind (arith, common_steps) steps 20000

either : (test : Bool) (one other : Option Form) → IsSound one → IsSound other → IsSound (if test then one else other)
either test one other left right = grind (arith, common_steps) steps 20000

passed : {A : Type 0} (test : A → Bool) (value : Option A) → IfSome (only_if test value) (λ x. test x ≡ true)
passed test value = grind (arith, common_steps) steps 20000

alone-sound : (form : Form) (words : List (List ℕ)) → IsSound (Some form) → IsSound (alone form words)
unfolding alone
alone-sound form words is = grind (arith, common_steps) steps 20000

types-sound : (lms ots : List ℕ) → IfSome (types_in lms ots) (λ types. is_supported types ≡ true)
unfolding types_in
types-sound lms ots = grind (arith, common_steps, passed) steps 20000

wallet-sound : (tag account seed : List ℕ) (types : LmsTypes) → is_supported types ≡ true
    → IsSound (wallet_of tag account seed types)
unfolding wallet_of
wallet-sound tag account seed types is = grind (arith, common_steps, any) steps 20000

init-wallet-sound : (words : List (List ℕ)) → IsSound (init_wallet words)
unfolding init_wallet
init-wallet-sound [] = tt
init-wallet-sound (tag ∷ []) = tt
init-wallet-sound (tag ∷ account ∷ []) = tt
init-wallet-sound (tag ∷ account ∷ seed ∷ []) = wallet-sound tag account seed _ refl
init-wallet-sound (tag ∷ account ∷ seed ∷ lms ∷ []) = tt
init-wallet-sound (tag ∷ account ∷ seed ∷ lms ∷ ots ∷ []) =
    over (λ types. is_supported types ≡ true) (types_in lms ots) (wallet_of tag account seed) (types-sound lms ots)
    (wallet-sound tag account seed)
init-wallet-sound (tag ∷ account ∷ seed ∷ lms ∷ ots ∷ more ∷ words) = tt

operator-sound : (tag account : List ℕ) (key_seed : Option (List ℕ)) → IsSound (operator_of tag account key_seed)
unfolding operator_of
operator-sound tag account key_seed = any (hex_of_in 32 tag) _ (λ t. any (number_in account) _ (λ a. tt))

init-operator-sound : (words : List (List ℕ)) → IsSound (init_operator words)
unfolding init_operator
init-operator-sound words = grind (arith, common_steps, operator-sound, any) steps 20000

init-sound : (words : List (List ℕ)) → IsSound (init_form words)
unfolding init_form
init-sound words = grind (arith, common_steps, either, init-wallet-sound, init-operator-sound, mapped) steps 20000

gated : (high x : ℕ) (a b : Bool) → (b ≡ true → x ≤ high) → IfSome (if a && b then Some x else None) (λ n. n ≤ high)
gated high x a b fits = grind (arith, common_steps) steps 20000

within-high : (low high : ℕ) (word : List ℕ) → IfSome (number_within_in low high word) (λ n. n ≤ high)
unfolding number_within_in
within-high low high word = grind (arith, common_steps, gated, leb-true) steps 20000

make-sound : (words : List (List ℕ)) → IsSound (make_form words)
unfolding make_form
make-sound [] = tt
make-sound (seed ∷ []) = tt
make-sound (seed ∷ count ∷ []) =
    any (number_in seed) _
    (λ s. over (λ n. n ≤ 10000) (number_within_in 0 10000 count) _ (within-high 0 10000 count) (λ c few. few))
make-sound (seed ∷ count ∷ more ∷ words) = tt

verify-sound : (words : List (List ℕ)) → IsSound (verify_form words)
unfolding verify_form
verify-sound words = grind (arith, common_steps, any) steps 20000

hss-init-sound : (words : List (List ℕ)) → IsSound (hss_init words)
unfolding hss_init
hss-init-sound words = grind (arith, common_steps, mapped) steps 20000

hss-sign-sound : (words : List (List ℕ)) → IsSound (hss_sign words)
unfolding hss_sign
hss-sign-sound words = grind (arith, common_steps, mapped) steps 20000

hss-verify-sound : (words : List (List ℕ)) → IsSound (hss_verify words)
unfolding hss_verify
hss-verify-sound words = grind (arith, common_steps, any) steps 20000

hss-sound : (words : List (List ℕ)) → IsSound (hss_form words)
unfolding hss_form
hss-sound words = grind (arith, common_steps, either, hss-init-sound, hss-sign-sound, hss-verify-sound) steps 20000

audit-sound : (words : List (List ℕ)) → IsSound (audit_form words)
unfolding audit_form
audit-sound words = grind (arith, common_steps, any) steps 20000

named-sound : (name : List ℕ) (words : List (List ℕ)) → IsSound (form_named name words)
unfolding form_named
named-sound name words =
    either (bytes_eq name (codes "replay")) _ _ (alone-sound Replay words tt)
    (either (bytes_eq name (codes "brief")) _ _ (alone-sound Brief words tt)
    (either (bytes_eq name (codes "wallet")) _ _ (alone-sound Wallet words tt)
    (either (bytes_eq name (codes "operator")) _ _ (alone-sound Operator words tt)
    (either (bytes_eq name (codes "watcher")) _ _ (alone-sound Watcher words tt)
    (either (bytes_eq name (codes "init")) _ _ (init-sound words)
    (either (bytes_eq name (codes "make")) _ _ (make-sound words)
    (grind (arith, common_steps, either, verify-sound, hss-sound, audit-sound, alone-sound) steps 20000)))))))

pub forms-sound : (words : List (List ℕ)) → IsSound (form_of words)
unfolding form_of
forms-sound words = grind (arith, common_steps, named-sound) steps 20000
