-- The numbers and bytes of lines that are in the grammar fit.
use Rattle.world_rules.proofs.Basics.{◌≡◌, ℕ, ◌^◌, ◌<◌, true, Option, arith, List, and_from, or_left, or_right, eq-eqb, cases_eq, common_steps}
use Rattle.world_rules.proofs.CoinWords.{LmsTypes, is_supported}
use Rattle.world_rules.proofs.WorldWords.{OutcomeToken, Line, Command, IsLine, types_or_first, HexOrName, OWNER_BYTES, IsHexOrName}
use Rattle.world_rules.proofs.KeptNode.{IsFit}

-- ---- commands

-- a command alone
pub command-fit : (command : Command) → IsLine (Line.Command command) → IsFit command
command-fit command is = grind (arith, common_steps)

-- and in a cut
pub cut-fit : (node : List ℕ) (calls : ℕ) (outcome : OutcomeToken) (command : Command)
    → IsLine (Line.Cut node calls outcome command) → IsFit command
cut-fit node calls outcome command is = grind (arith, common_steps)

-- ---- declarations

-- a wallet's account and types
pub wallet-fit : (name : List ℕ) (account seed : ℕ) (types : Option LmsTypes)
    → IsLine (Line.Wallet name account seed types)
    → (account < 2 ^ 64) × (is_supported (types_or_first types) ≡ true)
wallet-fit name account seed types is = grind (arith, common_steps, cases_eq, or_left, eq-eqb, or_right, and_from)

pub watcher-fit : (name : List ℕ) (account : ℕ) → IsLine (Line.Watcher name account) → account < 2 ^ 64
watcher-fit name account is = is.1.0

pub rogue-fit : (name : List ℕ) (account seed : ℕ) (types : Option LmsTypes)
    → IsLine (Line.Rogue name account seed types) → account < 2 ^ 64
rogue-fit name account seed types is = is.1.0

-- ---- the others

pub sign-fit : (rogue : List ℕ) (leaf coin parent : ℕ) (to : HexOrName) (last : Option ℕ)
    → IsLine (Line.Sign rogue leaf coin parent to last) → IsHexOrName OWNER_BYTES to
sign-fit rogue leaf coin parent to last is = is.1.1.1.1.0

pub chain-fit : (tag operator most : ℕ) → IsLine (Line.Chain tag operator most) → most < 2 ^ 64
chain-fit tag operator most is = is.1.1.0.0
