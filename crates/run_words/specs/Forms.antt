-- The forms of a run: what the words after the program's name ask for.
use Rattle.std.specs.Prelude.{◌≡◌, ◌≤◌, ℕ, true, List, [], ◌∷◌, codes, Option, Some, None, if◌then◌else◌, option_map}
use Rattle.std.specs.Str.{bytes_eq}
use Rattle.plasma_base.specs.HexText.{hex_in, ◌>>=◌}
use Rattle.line_forms.specs.Tokens.{number_in, number_within_in, hex_of_in, only_if}
use Rattle.lms_sign.specs.declared.types.LmsTypes.{LmsTypes}
use Rattle.lms_sign.specs.Types.{is_supported}
use Rattle.run_words.specs.declared.form.Form.{Form}
use Rattle.run_words.specs.declared.form.Form.TheVariants.{Replay, Brief, Wallet, Operator, Watcher, InitWallet, InitOperator, InitWatcher, Make, Verify, HssInit, HssSign, HssVerify, Audit, Archive}

-- a form that its name alone spells
unfoldable pub alone : Form → List (List ℕ) → Option Form
alone form [] = Some form
alone form (word ∷ words) = None

-- ---- `init`

-- `<lms> <ots>`: the types of a key, which are a pair that is supported
unfoldable pub types_in : List ℕ → List ℕ → Option LmsTypes
types_in lms ots = do
  l ← number_in lms
  o ← number_in ots
  only_if is_supported (Some (record { lms = l; ots = o }))

-- `<tag> <account> <seed>`, with these types: the tag and the seed are hexes of 32 bytes
unfoldable pub wallet_of : List ℕ → List ℕ → List ℕ → LmsTypes → Option Form
wallet_of tag account seed types = do
  t ← hex_of_in 32 tag
  a ← number_in account
  s ← hex_of_in 32 seed
  Some (InitWallet t a s types)

-- `<tag> <account> <seed>` with the types 5 and 4, or `<tag> <account> <seed> <lms> <ots>`
unfoldable pub init_wallet : List (List ℕ) → Option Form
init_wallet (tag ∷ account ∷ seed ∷ []) = wallet_of tag account seed (record { lms = 5; ots = 4 })
init_wallet (tag ∷ account ∷ seed ∷ lms ∷ ots ∷ []) = types_in lms ots >>= wallet_of tag account seed
init_wallet _ = None

-- `<tag> <account>`, with this seed of a key or none: the tag is a hex of 32 bytes
unfoldable pub operator_of : List ℕ → List ℕ → Option (List ℕ) → Option Form
operator_of tag account key_seed = do
  t ← hex_of_in 32 tag
  a ← number_in account
  Some (InitOperator t a key_seed)

-- `<tag> <account>` without a key, or `<tag> <account> <seed>`: the seed is a hex of 32 bytes
unfoldable pub init_operator : List (List ℕ) → Option Form
init_operator (tag ∷ account ∷ []) = operator_of tag account None
init_operator (tag ∷ account ∷ seed ∷ []) = hex_of_in 32 seed >>= (λ s. operator_of tag account (Some s))
init_operator _ = None

-- `<tag> <account>`: the tag is a hex of 32 bytes
unfoldable pub identity_in : List (List ℕ) → Option (List ℕ × ℕ)
identity_in (tag ∷ account ∷ []) = do
  t ← hex_of_in 32 tag
  a ← number_in account
  Some (t, a)
identity_in _ = None

abbrev pub init_watcher : List (List ℕ) → Option Form
init_watcher words = option_map (λ who. InitWatcher who.0 who.1) (identity_in words)

-- the role, and its words
unfoldable pub init_form : List (List ℕ) → Option Form
init_form [] = None
init_form (role ∷ words) =
    if bytes_eq role (codes "wallet") then init_wallet words
    else if bytes_eq role (codes "operator") then init_operator words
    else if bytes_eq role (codes "watcher") then init_watcher words
    else None

-- ---- the other forms with words

-- `<seed> <count>`: the count is at most 10,000
unfoldable pub make_form : List (List ℕ) → Option Form
make_form (seed ∷ count ∷ []) = do
  s ← number_in seed
  c ← number_within_in 0 10000 count
  Some (Make s c)
make_form _ = None

-- `<key> <message> <signature>`, each a hex of any length
unfoldable pub verify_form : List (List ℕ) → Option Form
verify_form (key ∷ message ∷ signature ∷ []) = do
  k ← hex_in key
  m ← hex_in message
  s ← hex_in signature
  Some (Verify k m s)
verify_form _ = None

-- ---- `hss`

-- `<seed>`: a hex of 32 bytes
unfoldable pub hss_init : List (List ℕ) → Option Form
hss_init (seed ∷ []) = option_map HssInit (hex_of_in 32 seed)
hss_init _ = None

-- `<message>`: a hex of any length
unfoldable pub hss_sign : List (List ℕ) → Option Form
hss_sign (message ∷ []) = option_map HssSign (hex_in message)
hss_sign _ = None

-- `<key> <message> <signature>`, each a hex of any length
unfoldable pub hss_verify : List (List ℕ) → Option Form
hss_verify (key ∷ message ∷ signature ∷ []) = do
  k ← hex_in key
  m ← hex_in message
  s ← hex_in signature
  Some (HssVerify k m s)
hss_verify _ = None

-- what is done, and its words
unfoldable pub hss_form : List (List ℕ) → Option Form
hss_form [] = None
hss_form (verb ∷ words) =
    if bytes_eq verb (codes "init") then hss_init words
    else if bytes_eq verb (codes "sign") then hss_sign words
    else if bytes_eq verb (codes "verify") then hss_verify words
    else None

-- ---- `audit`

-- `<key> <receipt>`: the key is a hex of 56 bytes, and the receipt one of any length
unfoldable pub audit_form : List (List ℕ) → Option Form
audit_form (key ∷ receipt ∷ []) = do
  k ← hex_of_in 56 key
  r ← hex_in receipt
  Some (Audit k r)
audit_form _ = None

-- ---- all forms

-- what the words after a name spell
unfoldable pub form_named : List ℕ → List (List ℕ) → Option Form
form_named name words =
    if bytes_eq name (codes "replay") then alone Replay words
    else if bytes_eq name (codes "brief") then alone Brief words
    else if bytes_eq name (codes "wallet") then alone Wallet words
    else if bytes_eq name (codes "operator") then alone Operator words
    else if bytes_eq name (codes "watcher") then alone Watcher words
    else if bytes_eq name (codes "init") then init_form words
    else if bytes_eq name (codes "make") then make_form words
    else if bytes_eq name (codes "verify") then verify_form words
    else if bytes_eq name (codes "hss") then hss_form words
    else if bytes_eq name (codes "audit") then audit_form words
    else if bytes_eq name (codes "archive") then alone Archive words
    else None

-- the form that the words spell, if they spell one
unfoldable pub form_of : List (List ℕ) → Option Form
form_of [] = None
form_of (name ∷ words) = form_named name words

-- what each form has: the types of a wallet's key are supported, and no more rounds are made than a schedule may have
abbrev pub IsSound : Option Form → Type 0
IsSound (Some (InitWallet tag account seed types)) = is_supported types ≡ true
IsSound (Some (Make seed count)) = count ≤ 10000
IsSound form = Unit {0}
