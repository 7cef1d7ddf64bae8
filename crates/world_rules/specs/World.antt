-- The world that a schedule's lines step through: the chain, the nodes with the records that their disks keep, names
-- for strangers, and the mail.
use Rattle.std.specs.Prelude.{ℕ, ◌-◌, ◌==◌, ◌&&◌, ◌||◌, Bool, true, false, if◌then◌else◌, List, [], ◌++◌, replicate, find, set, slice_get, Option, Some, unwrap_or, option_map}
use Rattle.std.specs.Int.{w64, to_be_bytes}
use Rattle.std.specs.List.{position}
use Rattle.std.specs.Option.{option_or}
use Rattle.std.specs.Str.{bytes_eq}
use Rattle.line_forms.specs.{declared.tokens.HexOrName.{HexOrName}, declared.tokens.HexOrItem.{HexOrItem}, declared.tokens.ShownToken.{ShownToken}}
use Rattle.lms_sign.specs.{declared.secret.Secret.{Secret}, Tree.{public_key_of}}
use Rattle.plasma_tx.specs.{declared.opening.RawOpening.{RawOpening}, declared.owner.Owner.{Owner}, declared.call.Shown.{Shown}, declared.call.RootCall.{RootCall}, Chain.{Chain}, Spelling.{owner_in}}
use Rattle.schedule_text.specs.declared.call_form.CallForm.{CallForm}
use Rattle.node_rules.specs.{WalletRecords.{who_is, owner_of}, Wallet.{WalletRecords}}
pub use Rattle.node_replies.specs.Roles.{Role, Wallet, Watcher, Operator}

-- ---- nodes

-- A node: its name and account, what it is, whether it is up, the records that its disks keep, and the calls that it
-- offers. The first of its notes is its identity. Wallets alone have leaves.
pub record Node : Type 0 where
  pub name : List ℕ
  pub account : ℕ
  pub role : Role
  pub is_up : Bool
  pub notes : List (List ℕ)
  pub leaves : List (List ℕ)
  pub offers : List RootCall

-- the role is this one
abbrev pub is_wallet_role : Role → Bool
is_wallet_role Wallet = true
is_wallet_role Watcher = false
is_wallet_role Operator = false

abbrev pub is_watcher_role : Role → Bool
is_watcher_role Wallet = false
is_watcher_role Watcher = true
is_watcher_role Operator = false

abbrev pub is_operator_role : Role → Bool
is_operator_role Wallet = false
is_operator_role Watcher = false
is_operator_role Operator = true

-- whether it watches: a wallet and a watcher do
abbrev pub does_watch : Role → Bool
does_watch role = is_wallet_role role || is_watcher_role role

-- a wallet's records
abbrev pub wallet_of : Node → WalletRecords
wallet_of node = record { notes = node.notes; leaves = node.leaves }

-- who a wallet is
abbrev pub owner_of_node : Node → Owner
owner_of_node node = owner_of (who_is node.notes)

-- ---- the world

-- a stranger's account and key, which a schedule gives a name
pub record Rogue : Type 0 where
  pub name : List ℕ
  pub account : ℕ
  pub secret : Secret

-- the owner that a rogue is
abbrev pub owner_of_rogue : Rogue → Owner
owner_of_rogue rogue = record { account = rogue.account; key = public_key_of rogue.secret }

-- The world. The operator is the first node, and the others follow in the order of their declarations. `raw_callers`
-- has the accounts of the `call` lines, and `mail` the item of each line, in order: the bytes that the line made, or
-- none.
pub record World : Type 0 where
  pub chain : Chain
  pub nodes : List Node
  pub rogues : List Rogue
  pub raw_callers : List ℕ
  pub mail : List (List ℕ)

-- the world with node n changed
abbrev pub with_node : World → ℕ → Node → World
with_node world n node = record world { nodes = set world.nodes n node }

-- the tag and the seed that a number stands for: 24 zero bytes and the number's eight
abbrev pub padded : ℕ → List ℕ
padded number = replicate 24 0 ++ to_be_bytes w64 number

-- ---- names

-- the node has the name, and a role that passes
abbrev pub is_named : (Role → Bool) → List ℕ → Node → Bool
is_named may name node = bytes_eq node.name name && may node.role

-- the number of the node with the name, where its role passes
abbrev pub number_of : (Role → Bool) → World → List ℕ → Option ℕ
number_of may world name = position (is_named may name) world.nodes

-- any role passes
abbrev pub any_role : Role → Bool
any_role role = true

-- the rogue with the name
abbrev pub rogue_named : World → List ℕ → Option Rogue
rogue_named world name = find (λ rogue. bytes_eq rogue.name name) world.rogues

-- the owner that a name stands for: a wallet's, or a rogue's
abbrev pub owner_named : World → List ℕ → Option Owner
owner_named world name =
    option_or (option_map owner_of_node (find (is_named is_wallet_role name) world.nodes))
    (option_map owner_of_rogue (rogue_named world name))

-- ---- tokens

-- the mail item of a line; a line without one, and a line that isn't earlier, stand for no bytes
abbrev pub item_of : World → ℕ → List ℕ
item_of world line = if line == 0 then [] else unwrap_or (slice_get world.mail (line - 1)) []

-- the bytes of a token
abbrev pub bytes_of : World → HexOrItem → List ℕ
bytes_of world (HexOrItem.Hex bytes) = bytes
bytes_of world (HexOrItem.Item line) = item_of world line

-- the key of a token, where its name is a wallet's or a rogue's
abbrev pub key_of : World → HexOrName → Option (List ℕ)
key_of world (HexOrName.Hex key) = Some key
key_of world (HexOrName.Name who) = option_map (λ owner. owner.key) (owner_named world who)

-- the owner of a token
abbrev pub new_owner_of : World → HexOrName → Option Owner
new_owner_of world (HexOrName.Hex bytes) = Some (owner_in bytes)
new_owner_of world (HexOrName.Name who) = owner_named world who

-- the opening of a block
abbrev pub opening_of : World → ℕ → HexOrItem → RawOpening
opening_of world block token = record { block = block; bytes = bytes_of world token }

-- what a token shows at a block
abbrev pub shown_of : World → ℕ → ShownToken → Shown
shown_of world block ShownToken.Deposit = Shown.Deposit block
shown_of world block (ShownToken.Bytes token) = Shown.Spend (opening_of world block token)

-- the call of an account
abbrev pub call_of : World → ℕ → CallForm → Option RootCall
call_of world account (CallForm.Deposit amount key) = option_map (RootCall.Deposit account amount) (key_of world key)
call_of world account (CallForm.Commit root) = Some (RootCall.Commit account root)
call_of world account (CallForm.Start coin block) = Some (RootCall.StartDeposit account coin block)
call_of world account (CallForm.Exit coin parent shown exit token) =
    Some (RootCall.StartSpend account coin (shown_of world parent shown) (opening_of world exit token))
call_of world account (CallForm.After coin exit block token) =
    Some (RootCall.After account coin exit (opening_of world block token))
call_of world account (CallForm.Between coin exit block token) =
    Some (RootCall.Between account coin exit (opening_of world block token))
call_of world account (CallForm.Before coin exit block shown) =
    Some (RootCall.Before account coin exit (shown_of world block shown))
call_of world account (CallForm.Respond coin exit challenged block token) =
    Some (RootCall.Respond account coin exit challenged (opening_of world block token))
call_of world account (CallForm.Finish coin exit) = Some (RootCall.Finish account coin exit)
