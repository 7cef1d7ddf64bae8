-- What is asked of the key that a caller resolves, and of a wallet's types, and the key of a rogue.
use Rattle.std.specs.Prelude.{◌≡◌, List, [], ℕ, Option}
use Rattle.lms_sign.specs.declared.types.LmsTypes.{LmsTypes}
use Rattle.lms_sign.specs.declared.secret.Secret.{Secret}
use Rattle.node_rules.specs.WalletRecords.{secret_of}
use Rattle.schedule_text.specs.declared.call_form.CallForm.{CallForm}
use Rattle.schedule_text.specs.Grammar.{optional_types}
use Rattle.world_rules.specs.World.{World, key_of}

-- the key is the one that the form's token stands for; forms other than a deposit have none
abbrev pub IsKeyOf : World → CallForm → Option (List ℕ) → Type 0
IsKeyOf world (CallForm.Deposit amount token) key = key ≡ key_of world token
IsKeyOf world _ key = Unit {0}

-- the types that a declaration in the grammar may have
abbrev pub AreTypes : Option LmsTypes → Type 0
AreTypes types = optional_types.Is types

-- the key of whoever has this seed and these types
abbrev pub secret_by : LmsTypes → List ℕ → Secret
secret_by types seed = secret_of (record { tag = []; account = 0; seed = seed; types = types })
