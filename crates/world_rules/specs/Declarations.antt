-- The rules of declarations: which lines of the grammar may stand where. A line that breaks one is a bad line.
use Rattle.std.specs.Prelude.{ℕ, ◌==◌, ◌&&◌, ◌||◌, not, Bool, true, false, nat_lt, List, length, filter, Option, Some, None, is_some, unwrap_or}
use Rattle.std.specs.List.{list_any}
use Rattle.std.specs.Option.{option_map_or}
use Rattle.std.specs.Str.{bytes_eq}
use Rattle.lms_sign.specs.{declared.types.LmsTypes.{LmsTypes}, Types.{leaf_count}}
use Rattle.schedule_text.specs.{declared.line.Line.{Line}, declared.command.Command.{Command}, declared.command.WalletCommand.{WalletCommand}, Grammar.{node_of}}
use Rattle.node_rules.specs.{declared.identity.WalletIdentity.{WalletIdentity}, WalletRecords.{who_is, owner_of}}
use Rattle.world_rules.specs.declared.TheConstants.{MOST_WALLETS}
use Rattle.world_rules.specs.World.{Role, Node, Rogue, World, is_wallet_role, is_watcher_role, is_operator_role, does_watch, padded, number_of, any_role, rogue_named, owner_of_node, new_owner_of, call_of}

-- ---- what is declared

-- the types of a key that names none
abbrev pub types_or_first : Option LmsTypes → LmsTypes
types_or_first types = unwrap_or types (record { lms = 5; ots = 4 })

-- the identity of a wallet that is declared
abbrev pub declared_wallet : World → ℕ → ℕ → Option LmsTypes → WalletIdentity
declared_wallet world account seed types =
    record { tag = world.chain.tag; account = account; seed = padded seed; types = types_or_first types }

-- a node with the name is there, with a role that passes
abbrev pub is_declared : (Role → Bool) → World → List ℕ → Bool
is_declared may world name = is_some (number_of may world name)

-- the name is a node's or a rogue's; the operator's is `op`
abbrev pub is_used : World → List ℕ → Bool
is_used world name = is_declared any_role world name || is_some (rogue_named world name)

-- the wallets that are declared
abbrev pub wallet_nodes : World → List Node
wallet_nodes world = filter (λ node. is_wallet_role node.role) world.nodes

-- the account is a wallet's
abbrev pub is_wallet_account : World → ℕ → Bool
is_wallet_account world account = list_any (λ node. node.account == account) (wallet_nodes world)

-- the account is the operator's, or that of a declared name
abbrev pub is_declared_account : World → ℕ → Bool
is_declared_account world account =
    list_any (λ node. node.account == account) world.nodes
    || list_any (λ rogue. rogue.account == account) world.rogues

-- an earlier `call` line has the account
abbrev pub is_caller : World → ℕ → Bool
is_caller world account = list_any (λ caller. caller == account) world.raw_callers

-- a wallet has the key, or the seed
abbrev pub is_wallet_key : World → List ℕ → Bool
is_wallet_key world key = list_any (λ node. bytes_eq (owner_of_node node).key key) (wallet_nodes world)

abbrev pub is_wallet_seed : World → List ℕ → Bool
is_wallet_seed world seed = list_any (λ node. bytes_eq (who_is node.notes).seed seed) (wallet_nodes world)

-- ---- the rules

-- a declared name is new
abbrev pub is_new_name : World → List ℕ → Bool
is_new_name world name = not (is_used world name)

-- A wallet may be declared: its name is new, and there are fewer than the most. Its account isn't the operator's, nor
-- that of a declared name or of an earlier `call` line; and neither its key nor its seed is another wallet's.
abbrev pub may_be_wallet : World → List ℕ → WalletIdentity → Bool
may_be_wallet world name who =
    (is_new_name world name && nat_lt (length (wallet_nodes world)) MOST_WALLETS)
    && not (is_declared_account world who.account || is_caller world who.account)
    && not (is_wallet_key world (owner_of who).key || is_wallet_seed world who.seed)

-- a watcher or a rogue may be declared: its name is new, and its account isn't a wallet's
abbrev pub may_be_other : World → List ℕ → ℕ → Bool
may_be_other world name account = is_new_name world name && not (is_wallet_account world account)

-- which nodes have the command
abbrev pub plays : Command → Role → Bool
plays (Command.Wallet name command) = is_wallet_role
plays (Command.Watcher name command) = is_watcher_role
plays (Command.Operator command) = is_operator_role
plays (Command.Watch name) = does_watch
plays (Command.Open name) = any_role

-- the name that a wallet's command has beside the wallet's own is declared
abbrev pub is_sendable : World → WalletCommand → Bool
is_sendable world (WalletCommand.Send coin to last) = is_some (new_owner_of world to)
is_sendable world command = true

-- so are those of each command
abbrev pub has_declared_names : World → Command → Bool
has_declared_names world (Command.Wallet name command) = is_sendable world command
has_declared_names world command = true

-- the names of a command are declared, each as what the command asks for
abbrev pub may_command : World → Command → Bool
may_command world command =
    is_declared (plays command) world (node_of command) && has_declared_names world command

-- the leaf is one of the rogue's key
abbrev pub has_leaf_number : ℕ → Option Rogue → Bool
has_leaf_number leaf rogue = option_map_or (λ found. nat_lt leaf (leaf_count found.secret.types)) rogue false

-- the line keeps the rules, where the chain has begun
abbrev pub keeps_rules_in : World → Line → Bool
keeps_rules_in world (Line.Chain tag operator most) = false
keeps_rules_in world (Line.Wallet name account seed types) =
    may_be_wallet world name (declared_wallet world account seed types)
keeps_rules_in world (Line.Watcher name account) = may_be_other world name account
keeps_rules_in world (Line.Rogue name account seed types) = may_be_other world name account
keeps_rules_in world (Line.Fund account amount) = true
keeps_rules_in world (Line.Tick time) = true
keeps_rules_in world (Line.Money account) = true
keeps_rules_in world (Line.Deposit wallet amount) = is_declared is_wallet_role world wallet
keeps_rules_in world (Line.Call account form) =
    not (is_wallet_account world account) && is_some (call_of world account form)
keeps_rules_in world (Line.Enter node number) = is_declared any_role world node
keeps_rules_in world (Line.Command command) = may_command world command
keeps_rules_in world (Line.Sign rogue leaf coin parent to last) =
    has_leaf_number leaf (rogue_named world rogue) && is_some (new_owner_of world to)
keeps_rules_in world (Line.Crash node outcome) = is_declared any_role world node
keeps_rules_in world (Line.Cut node calls outcome command) =
    bytes_eq (node_of command) node && may_command world command

-- the line keeps the rules: the first line begins the chain, and no other does
unfoldable pub keeps_rules : Option World → Line → Bool
keeps_rules None (Line.Chain tag operator most) = true
keeps_rules None line = false
keeps_rules (Some world) line = keeps_rules_in world line
