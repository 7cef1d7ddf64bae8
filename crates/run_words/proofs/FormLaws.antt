-- Forms begin with one of the names, and the word after the name begins with no hyphen.
use Rattle.run_words.proofs.Basics.{◌≡◌, ℕ, ◌==◌, ◌||◌, Bool, true, false, if◌then◌else◌, List, [], ◌∷◌, Option, None, refl, ap, subst, map, sym, codes, true≢false, ◌≤◌, length, arith, is_some, option_map, AllByRecursion, list_any, bytes_eq, eqb-true, hex_in, number_in, hex_of_in, form_named, alone, init_form, init_wallet, init_operator, init_watcher, identity_in, make_form, verify_form, hss_form, hss_init, hss_sign, hss_verify, audit_form, Form, Replay, Brief, Wallet, Operator, Watcher, InitWatcher, Archive}
use Rattle.std.proofs.lemmas.Slice.Eq.{bytes_eq-Decides}
use Rattle.run_words.specs.declared.parsing.TheConstants.{NAMES}

-- the names that forms begin with
abbrev pub names : List (List ℕ)
names = map (λ name. name.now) NAMES

-- ---- a chain of choices

-- the first answer whose test passes
abbrev chosen : List (Bool × Option Form) → Option Form
chosen [] = None
chosen (row ∷ rows) = if row.0 then row.1 else chosen rows

-- where an answer is chosen, a test passes
some_chosen : (rows : List (Bool × Option Form)) → is_some (chosen rows) ≡ true → list_any (λ row. row.0) rows ≡ true
some_chosen [] is = is
some_chosen ((true, form) ∷ rows) is = refl
some_chosen ((false, form) ∷ rows) is = some_chosen rows is

-- where no answer is one, none is chosen
none_chosen : (rows : List (Bool × Option Form)) → AllByRecursion (λ row. row.1 ≡ None) rows → chosen rows ≡ None
none_chosen [] each = refl
none_chosen ((true, form) ∷ rows) each = each.0
none_chosen ((false, form) ∷ rows) each = none_chosen rows each.1

-- each name, and what the words behind it spell
abbrev choices : List ℕ → List (List ℕ) → List (Bool × Option Form)
choices name words =
    (bytes_eq name (codes "replay"), alone Replay words)
    ∷ (bytes_eq name (codes "brief"), alone Brief words)
    ∷ (bytes_eq name (codes "wallet"), alone Wallet words)
    ∷ (bytes_eq name (codes "operator"), alone Operator words)
    ∷ (bytes_eq name (codes "watcher"), alone Watcher words)
    ∷ (bytes_eq name (codes "init"), init_form words)
    ∷ (bytes_eq name (codes "make"), make_form words)
    ∷ (bytes_eq name (codes "verify"), verify_form words)
    ∷ (bytes_eq name (codes "hss"), hss_form words)
    ∷ (bytes_eq name (codes "audit"), audit_form words)
    ∷ (bytes_eq name (codes "archive"), alone Archive words)
    ∷ []

-- ---- names

-- a form has one of the names
pub named : (name : List ℕ) (rest : List (List ℕ)) → is_some (form_named name rest) ≡ true
    → list_any (bytes_eq name) names ≡ true
unfolding form_named
named name rest is = some_chosen (choices name rest) is

-- what holds of each of some names holds of a name that is one of them
pub at_name : (P : List ℕ → Type 0) (those : List (List ℕ)) (name : List ℕ) → AllByRecursion P those
    → list_any (bytes_eq name) those ≡ true → P name
at_name P [] name each is = absurd (true≢false (sym is))
at_name P (first ∷ those) name each is = go (bytes_eq name first) refl is (at_name P those name each.1)
  where
    go : (b : Bool) → bytes_eq name first ≡ b → (b || list_any (bytes_eq name) those) ≡ true
        → (list_any (bytes_eq name) those ≡ true → P name) → P name
    go true same any more = subst P (sym ((bytes_eq-Decides name first).0 same)) each.0
    go false same any more = more any

-- ---- the word after the name

-- a word with a hyphen spells no number and no bytes; 45 is the hyphen
no_number : (word : List ℕ) → number_in (45 ∷ word) ≡ None
unfolding number_in
no_number [] = refl
no_number (second ∷ word) = refl

no_hex : (word : List ℕ) → hex_in (45 ∷ word) ≡ None
unfolding hex_in
no_hex [] = refl
no_hex (second ∷ word) = refl

-- so neither `make` nor `verify` has it as its next word
no_make : (word : List ℕ) (words : List (List ℕ)) → make_form ((45 ∷ word) ∷ words) ≡ None
unfolding make_form
no_make word [] = refl
no_make word (count ∷ []) = rw (no_number word) refl
no_make word (count ∷ more ∷ words) = refl

no_verify : (word : List ℕ) (words : List (List ℕ)) → verify_form ((45 ∷ word) ∷ words) ≡ None
unfolding verify_form
no_verify word [] = refl
no_verify word (message ∷ []) = refl
no_verify word (message ∷ signature ∷ []) = rw (no_hex word) refl
no_verify word (message ∷ signature ∷ more ∷ words) = refl

no_audit : (word : List ℕ) (words : List (List ℕ)) → audit_form ((45 ∷ word) ∷ words) ≡ None
unfolding audit_form hex_of_in
no_audit word [] = refl
no_audit word (receipt ∷ []) = rw (no_hex word) refl
no_audit word (receipt ∷ more ∷ words) = refl

-- no form has a word with a hyphen behind its name
no_hyphen : (name word : List ℕ) (words : List (List ℕ)) → form_named name ((45 ∷ word) ∷ words) ≡ None
unfolding form_named alone init_form hss_form
no_hyphen name word words =
    none_chosen (choices name ((45 ∷ word) ∷ words)) (
      refl,
      (
        refl,
        (
          refl,
          (
            refl,
            (refl, (refl, (no_make word words, (no_verify word words, (refl, (no_audit word words, (refl, tt))))))),
          ),
        ),
      ),
    )

-- nor do they have an empty one
empty_make : (words : List (List ℕ)) → make_form ([] ∷ words) ≡ None
unfolding make_form number_in
empty_make [] = refl
empty_make (count ∷ []) = refl
empty_make (count ∷ more ∷ words) = refl

empty_verify : (words : List (List ℕ)) → verify_form ([] ∷ words) ≡ None
unfolding verify_form hex_in
empty_verify [] = refl
empty_verify (message ∷ []) = refl
empty_verify (message ∷ signature ∷ []) = refl
empty_verify (message ∷ signature ∷ more ∷ words) = refl

empty_audit : (words : List (List ℕ)) → audit_form ([] ∷ words) ≡ None
unfolding audit_form hex_of_in hex_in
empty_audit [] = refl
empty_audit (receipt ∷ []) = refl
empty_audit (receipt ∷ more ∷ words) = refl

-- no form has an empty word behind its name
no_empty : (name : List ℕ) (words : List (List ℕ)) → form_named name ([] ∷ words) ≡ None
unfolding form_named alone init_form hss_form
no_empty name words =
    none_chosen (choices name ([] ∷ words)) (
      refl,
      (
        refl,
        (
          refl,
          (
            refl,
            (refl, (refl, (empty_make words, (empty_verify words, (refl, (empty_audit words, (refl, tt))))))),
          ),
        ),
      ),
    )

-- the first word, if there is one, is not empty and begins with no hyphen
abbrev pub IsPlain : List (List ℕ) → Type 0
IsPlain [] = Unit {0}
IsPlain ([] ∷ words) = ⊥
IsPlain ((first ∷ word) ∷ words) = (first == 45) ≡ false

-- the word after the name of a form is so
pub plain : (name : List ℕ) (rest : List (List ℕ)) → is_some (form_named name rest) ≡ true → IsPlain rest
plain name [] is = tt
plain name ([] ∷ words) is =
    let none : is_some (form_named name ([] ∷ words)) ≡ false = ap is_some (no_empty name words) in
    cc
plain name ((first ∷ word) ∷ words) is = go (first == 45) refl
  where
    go : (b : Bool) → (first == 45) ≡ b → (first == 45) ≡ false
    go false other = other
    go true same =
        let hyphen : first ≡ 45 = eqb-true first 45 same in
        let none : is_some (form_named name ((first ∷ word) ∷ words)) ≡ false =
        rw hyphen (ap is_some (no_hyphen name word words)) in
        cc

-- ---- the number of words

-- words that are too many
no_wallet : (a b c d e f : List ℕ) (words : List (List ℕ)) → init_wallet (a ∷ b ∷ c ∷ d ∷ e ∷ f ∷ words) ≡ None
unfolding init_wallet
no_wallet a b c d e f words = refl

no_identity : (a b c : List ℕ) (words : List (List ℕ)) → identity_in (a ∷ b ∷ c ∷ words) ≡ None
unfolding identity_in
no_identity a b c words = refl

no_init : (role a b c d e f : List ℕ) (words : List (List ℕ))
    → init_form (role ∷ a ∷ b ∷ c ∷ d ∷ e ∷ f ∷ words) ≡ None
unfolding init_form init_operator
no_init role a b c d e f words =
    none_chosen (
    (bytes_eq role (codes "wallet"), init_wallet (a ∷ b ∷ c ∷ d ∷ e ∷ f ∷ words))
    ∷ (bytes_eq role (codes "operator"), init_operator (a ∷ b ∷ c ∷ d ∷ e ∷ f ∷ words))
    ∷ (bytes_eq role (codes "watcher"), init_watcher (a ∷ b ∷ c ∷ d ∷ e ∷ f ∷ words))
    ∷ []
    ) (
      no_wallet a b c d e f words,
      (refl, (ap (option_map (λ who. InitWatcher who.0 who.1)) (no_identity a b c (d ∷ e ∷ f ∷ words)), tt)),
    )

no_hss : (verb a b c d e f : List ℕ) (words : List (List ℕ))
    → hss_form (verb ∷ a ∷ b ∷ c ∷ d ∷ e ∷ f ∷ words) ≡ None
unfolding hss_form hss_init hss_sign hss_verify
no_hss verb a b c d e f words =
    none_chosen (
    (bytes_eq verb (codes "init"), hss_init (a ∷ b ∷ c ∷ d ∷ e ∷ f ∷ words))
    ∷ (bytes_eq verb (codes "sign"), hss_sign (a ∷ b ∷ c ∷ d ∷ e ∷ f ∷ words))
    ∷ (bytes_eq verb (codes "verify"), hss_verify (a ∷ b ∷ c ∷ d ∷ e ∷ f ∷ words))
    ∷ []
    ) (refl, (refl, (refl, tt)))

no_seven : (name role a b c d e f : List ℕ) (words : List (List ℕ))
    → form_named name (role ∷ a ∷ b ∷ c ∷ d ∷ e ∷ f ∷ words) ≡ None
unfolding form_named alone make_form verify_form audit_form
no_seven name role a b c d e f words =
    none_chosen (choices name (role ∷ a ∷ b ∷ c ∷ d ∷ e ∷ f ∷ words)) (
      refl,
      (
        refl,
        (
          refl,
          (
            refl,
            (
              refl,
              (
                no_init role a b c d e f words,
                (refl, (refl, (no_hss role a b c d e f words, (refl, (refl, tt))))),
              ),
            ),
          ),
        ),
      ),
    )

-- at most six words stand behind the name of a form
pub few : (name : List ℕ) (rest : List (List ℕ)) → is_some (form_named name rest) ≡ true → length rest ≤ 6
few name [] is = omega arith
few name (a ∷ []) is = omega arith
few name (a ∷ b ∷ []) is = omega arith
few name (a ∷ b ∷ c ∷ []) is = omega arith
few name (a ∷ b ∷ c ∷ d ∷ []) is = omega arith
few name (a ∷ b ∷ c ∷ d ∷ e ∷ []) is = omega arith
few name (a ∷ b ∷ c ∷ d ∷ e ∷ f ∷ []) is = omega arith
few name (a ∷ b ∷ c ∷ d ∷ e ∷ f ∷ g ∷ rest) is =
    let none : is_some (form_named name (a ∷ b ∷ c ∷ d ∷ e ∷ f ∷ g ∷ rest)) ≡ false =
    ap is_some (no_seven name a b c d e f g rest) in
    cc
