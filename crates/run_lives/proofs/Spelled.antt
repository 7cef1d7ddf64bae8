-- What the words of an init spell: an identity whose fields are of their types, and whose tag and seed are bytes.
use Rattle.run_lives.proofs.Words.{◌≡◌, ◌<◌, ◌^◌, ℕ, Bool, true, false, if◌then◌else◌, List, [], ◌∷◌, length, codes, Option, Some, None, option_map, refl, subst, Form, Replay, Brief, Wallet, Operator, Watcher, InitWallet, InitOperator, InitWatcher, HssInit, HssSign, Archive, InitsAreOfTheirRoles}
use Rattle.std.specs.Prelude.{IfSome, ◌==◌}
use Rattle.std.proofs.lemmas.Bool.{eqb-true}
use Rattle.std.specs.Str.{bytes_eq}
use Rattle.plasma_base.specs.HexText.{hex_in, ◌>>=◌}
use Rattle.plasma_base.proofs.HexLaws.{hex_text-hex_in}
use Rattle.line_forms.specs.Tokens.{AreBytes, number_in, number_within_in, hex_of_in, only_if}
use Rattle.line_forms.proofs.NumberLaws.{number_text-in}
use Rattle.lms_sign.specs.declared.types.LmsTypes.{LmsTypes}
use Rattle.run_words.specs.Forms.{alone, types_in, wallet_of, init_wallet, operator_of, init_operator, identity_in, init_form, make_form, verify_form, hss_init, hss_sign, hss_verify, hss_form, audit_form, form_named, form_of, IsSound}
use Rattle.run_words.proofs.SoundLaws.{forms-sound}
use Rattle.node_lives.proofs.Identities.{identities_are_of_their_roles}

-- 32 bytes
abbrev Are32 : List ℕ → Type 0
Are32 bytes = AreBytes bytes × (length bytes ≡ 32)

-- what an init of a node has, but for the types of a wallet's key
abbrev Fit : Option Form → Type 0
Fit (Some (InitWallet tag account seed types)) = Are32 tag × (account < 2 ^ 64) × Are32 seed
Fit (Some (InitOperator tag account key_seed)) = Are32 tag × (account < 2 ^ 64) × IfSome key_seed Are32
Fit (Some (InitWatcher tag account)) = Are32 tag × (account < 2 ^ 64)
Fit (Some (HssInit seed)) = Are32 seed
Fit form = Unit {0}

over : {A : Type 0} (P : A → Type 0) (value : Option A) (form : A → Option Form) → IfSome value P
    → ((x : A) → P x → Fit (form x)) → Fit (value >>= form)
over P None form known each = tt
over P (Some x) form known each = each x known

any : {A : Type 0} (value : Option A) (form : A → Option Form) → ((x : A) → Fit (form x)) → Fit (value >>= form)
any None form each = tt
any (Some x) form each = each x

mapped : {A : Type 0} (P : A → Type 0) (value : Option A) (form : A → Form) → IfSome value P
    → ((x : A) → P x → Fit (Some (form x))) → Fit (option_map form value)
mapped P None form known each = tt
mapped P (Some x) form known each = each x known

either : (test : Bool) (one other : Option Form) → Fit one → Fit other → Fit (if test then one else other)
either true one other left right = left
either false one other left right = right

if-some : {A : Type 0} (P : A → Type 0) (value : Option A) → ((x : A) → value ≡ Some x → P x) → IfSome value P
if-some P None each = tt
if-some P (Some x) each = each x refl

number-fits : (word : List ℕ) → IfSome (number_in word) (λ n. n < 2 ^ 64)
number-fits word = if-some (λ n. n < 2 ^ 64) (number_in word) (λ n is. (number_text-in word n is).1)

passes : {A : Type 0} (P : A → Type 0) (test : A → Bool) (value : Option A) → IfSome value P
    → IfSome (only_if test value) (λ x. P x × (test x ≡ true))
passes P test None known = tt
passes P test (Some x) known =
    elim (test x) as (λ b. test x ≡ b → IfSome (if b then Some x else None) (λ y. P y × (test y ≡ true))) [
      | true ↦ λ is. (known, is)
      | false ↦ λ is. tt
    ] refl

if-more : {A : Type 0} (P Q : A → Type 0) (value : Option A) → IfSome value P → ((x : A) → P x → Q x) → IfSome value Q
if-more P Q None known each = tt
if-more P Q (Some x) known each = each x known

hex-fits : (word : List ℕ) → IfSome (hex_of_in 32 word) Are32
unfolding hex_of_in
hex-fits word =
    if-more (λ bytes. AreBytes bytes × ((length bytes == 32) ≡ true)) Are32
    (only_if (λ bytes. length bytes == 32) (hex_in word))
    (passes AreBytes (λ bytes. length bytes == 32) (hex_in word)
    (if-some AreBytes (hex_in word) (λ bytes is. (hex_text-hex_in word bytes is).1)))
    (λ bytes are. (are.0, eqb-true (length bytes) 32 are.1))

alone-fit : (form : Form) (words : List (List ℕ)) → Fit (Some form) → Fit (alone form words)
unfolding alone
alone-fit form [] is = is
alone-fit form (word ∷ words) is = tt

wallet-fit : (tag account seed : List ℕ) (types : LmsTypes) → Fit (wallet_of tag account seed types)
unfolding wallet_of
wallet-fit tag account seed types =
    over Are32 (hex_of_in 32 tag) _ (hex-fits tag)
    (λ t t-fits. over (λ n. n < 2 ^ 64) (number_in account) _ (number-fits account)
    (λ a a-fits. over Are32 (hex_of_in 32 seed) _ (hex-fits seed) (λ s s-fits. (t-fits, a-fits, s-fits))))

init-wallet-fit : (words : List (List ℕ)) → Fit (init_wallet words)
unfolding init_wallet
init-wallet-fit [] = tt
init-wallet-fit (tag ∷ []) = tt
init-wallet-fit (tag ∷ account ∷ []) = tt
init-wallet-fit (tag ∷ account ∷ seed ∷ []) = wallet-fit tag account seed _
init-wallet-fit (tag ∷ account ∷ seed ∷ lms ∷ []) = tt
init-wallet-fit (tag ∷ account ∷ seed ∷ lms ∷ ots ∷ []) =
    any (types_in lms ots) (wallet_of tag account seed) (wallet-fit tag account seed)
init-wallet-fit (tag ∷ account ∷ seed ∷ lms ∷ ots ∷ more ∷ words) = tt

operator-fit : (tag account : List ℕ) (key_seed : Option (List ℕ)) → IfSome key_seed Are32
    → Fit (operator_of tag account key_seed)
unfolding operator_of
operator-fit tag account key_seed seed-fits =
    over Are32 (hex_of_in 32 tag) _ (hex-fits tag)
    (λ t t-fits. over (λ n. n < 2 ^ 64) (number_in account) _ (number-fits account)
    (λ a a-fits. (t-fits, a-fits, seed-fits)))

init-operator-fit : (words : List (List ℕ)) → Fit (init_operator words)
unfolding init_operator
init-operator-fit [] = tt
init-operator-fit (tag ∷ []) = tt
init-operator-fit (tag ∷ account ∷ []) = operator-fit tag account None tt
init-operator-fit (tag ∷ account ∷ seed ∷ []) =
    over Are32 (hex_of_in 32 seed) _ (hex-fits seed) (λ s s-fits. operator-fit tag account (Some s) s-fits)
init-operator-fit (tag ∷ account ∷ seed ∷ more ∷ words) = tt

pair-fits : (tag account : List ℕ)
    → IfSome (identity_in (tag ∷ account ∷ [])) (λ who. Are32 who.0 × (who.1 < 2 ^ 64))
unfolding identity_in
pair-fits tag account = by (hex_of_in 32 tag) (number_in account) (hex-fits tag) (number-fits account)
  where
    by : (t : Option (List ℕ)) (a : Option ℕ) → IfSome t Are32 → IfSome a (λ n. n < 2 ^ 64)
        → IfSome {T = List ℕ × ℕ} (t >>= (λ x. a >>= (λ y. Some (x, y)))) (λ who. Are32 who.0 × (who.1 < 2 ^ 64))
    by None a t-fits a-fits = tt
    by (Some t) None t-fits a-fits = tt
    by (Some t) (Some a) t-fits a-fits = (t-fits, a-fits)

init-watcher-fit : (words : List (List ℕ)) → IfSome (identity_in words) (λ who. Are32 who.0 × (who.1 < 2 ^ 64))
unfolding identity_in
init-watcher-fit [] = tt
init-watcher-fit (tag ∷ []) = tt
init-watcher-fit (tag ∷ account ∷ []) = pair-fits tag account
init-watcher-fit (tag ∷ account ∷ more ∷ words) = tt

init-fit : (words : List (List ℕ)) → Fit (init_form words)
unfolding init_form
init-fit [] = tt
init-fit (role ∷ words) =
    either (bytes_eq role (codes "wallet")) _ _ (init-wallet-fit words)
    (either (bytes_eq role (codes "operator")) _ _ (init-operator-fit words)
    (either (bytes_eq role (codes "watcher")) _ _
    (mapped (λ who. Are32 who.0 × (who.1 < 2 ^ 64)) (identity_in words) _ (init-watcher-fit words) (λ who is. is)) tt))

make-fit : (words : List (List ℕ)) → Fit (make_form words)
unfolding make_form
make-fit [] = tt
make-fit (seed ∷ []) = tt
make-fit (seed ∷ count ∷ []) = any (number_in seed) _ (λ s. any (number_within_in 0 10000 count) _ (λ c. tt))
make-fit (seed ∷ count ∷ more ∷ words) = tt

verify-fit : (words : List (List ℕ)) → Fit (verify_form words)
unfolding verify_form
verify-fit [] = tt
verify-fit (key ∷ []) = tt
verify-fit (key ∷ message ∷ []) = tt
verify-fit (key ∷ message ∷ signature ∷ []) =
    any (hex_in key) _ (λ k. any (hex_in message) _ (λ m. any (hex_in signature) _ (λ s. tt)))
verify-fit (key ∷ message ∷ signature ∷ more ∷ words) = tt

-- of a value of which nothing is asked
free : {A : Type 0} (value : Option A) (form : A → Form) → ((x : A) → Fit (Some (form x))) → Fit (option_map form value)
free None form each = tt
free (Some x) form each = each x

hss-init-fit : (words : List (List ℕ)) → Fit (hss_init words)
unfolding hss_init
hss-init-fit [] = tt
hss-init-fit (seed ∷ []) = mapped Are32 (hex_of_in 32 seed) HssInit (hex-fits seed) (λ s is. is)
hss-init-fit (seed ∷ more ∷ words) = tt

hss-sign-fit : (words : List (List ℕ)) → Fit (hss_sign words)
unfolding hss_sign
hss-sign-fit [] = tt
hss-sign-fit (message ∷ []) = free (hex_in message) HssSign (λ m. tt)
hss-sign-fit (message ∷ more ∷ words) = tt

hss-verify-fit : (words : List (List ℕ)) → Fit (hss_verify words)
unfolding hss_verify
hss-verify-fit [] = tt
hss-verify-fit (key ∷ []) = tt
hss-verify-fit (key ∷ message ∷ []) = tt
hss-verify-fit (key ∷ message ∷ signature ∷ []) =
    any (hex_in key) _ (λ k. any (hex_in message) _ (λ m. any (hex_in signature) _ (λ s. tt)))
hss-verify-fit (key ∷ message ∷ signature ∷ more ∷ words) = tt

hss-fit : (words : List (List ℕ)) → Fit (hss_form words)
unfolding hss_form
hss-fit [] = tt
hss-fit (verb ∷ words) =
    either (bytes_eq verb (codes "init")) _ _ (hss-init-fit words)
    (either (bytes_eq verb (codes "sign")) _ _ (hss-sign-fit words)
    (either (bytes_eq verb (codes "verify")) _ _ (hss-verify-fit words) tt))

audit-fit : (words : List (List ℕ)) → Fit (audit_form words)
unfolding audit_form
audit-fit [] = tt
audit-fit (key ∷ []) = tt
audit-fit (key ∷ receipt ∷ []) = any (hex_of_in 56 key) _ (λ k. any (hex_in receipt) _ (λ r. tt))
audit-fit (key ∷ receipt ∷ more ∷ words) = tt

named-fit : (name : List ℕ) (words : List (List ℕ)) → Fit (form_named name words)
unfolding form_named
named-fit name words =
    either (bytes_eq name (codes "replay")) _ _ (alone-fit Replay words tt)
    (either (bytes_eq name (codes "brief")) _ _ (alone-fit Brief words tt)
    (either (bytes_eq name (codes "wallet")) _ _ (alone-fit Wallet words tt)
    (either (bytes_eq name (codes "operator")) _ _ (alone-fit Operator words tt)
    (either (bytes_eq name (codes "watcher")) _ _ (alone-fit Watcher words tt)
    (either (bytes_eq name (codes "init")) _ _ (init-fit words)
    (either (bytes_eq name (codes "make")) _ _ (make-fit words)
    (either (bytes_eq name (codes "verify")) _ _ (verify-fit words)
    (either (bytes_eq name (codes "hss")) _ _ (hss-fit words)
    (either (bytes_eq name (codes "audit")) _ _ (audit-fit words)
    (either (bytes_eq name (codes "archive")) _ _ (alone-fit Archive words tt) tt))))))))))

forms-fit : (words : List (List ℕ)) → Fit (form_of words)
unfolding form_of
forms-fit [] = tt
forms-fit (name ∷ words) = named-fit name words

fits-as : (words : List (List ℕ)) (form : Form) → form_of words ≡ Some form → Fit (Some form)
fits-as words form is = subst Fit is (forms-fit words)

sound-as : (words : List (List ℕ)) (form : Form) → form_of words ≡ Some form → IsSound (Some form)
sound-as words form is = subst IsSound is (forms-sound words)

seed-bytes : (seed : Option (List ℕ)) → IfSome seed Are32 → IfSome seed AreBytes
seed-bytes seed fits = if-more Are32 AreBytes seed fits (λ bytes are. are.0)

seed-long : (seed : Option (List ℕ)) → IfSome seed Are32 → IfSome seed (λ bytes. length bytes ≡ 32)
seed-long seed fits = if-more Are32 (λ bytes. length bytes ≡ 32) seed fits (λ bytes are. are.1)

pub inits_are_of_their_roles : (dig : List ℕ → List ℕ) → InitsAreOfTheirRoles dig
inits_are_of_their_roles dig = record {
  watcher = λ words tag account is.
      (let fits = fits-as words (InitWatcher tag account) is in
      (identities_are_of_their_roles dig).watcher _ (record { tag = fits.0.1; account = fits.1 }) fits.0.0);
  operator = λ words tag account seed is digests.
      (let fits = fits-as words (InitOperator tag account seed) is in
      (identities_are_of_their_roles dig).operator _
      (record { tag = fits.0.1; account = fits.1; key_seed = seed-long seed fits.2 }) fits.0.0
      (seed-bytes seed fits.2) digests);
  wallet = λ words tag account seed types is.
      (let fits = fits-as words (InitWallet tag account seed types) is in
      (identities_are_of_their_roles dig).wallet _
      (record {
        tag = fits.0.1;
        account = fits.1;
        seed = fits.2.1;
        types = sound-as words (InitWallet tag account seed types) is;
      }) fits.0.0 fits.2.0);
  signer = λ words seed is. (fits-as words (HssInit seed) is).1;
}
