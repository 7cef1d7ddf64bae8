-- What is promised of every schedule: of operator, strangers, losses and crashes.
use Rattle.std.specs.Prelude.{◌≡◌, ◌≢◌, ◌⊎◌, ◌<◌, ℕ, ◌+◌, ◌||◌, Bool, true, false, nat_lt, List, ◌∷◌, ◌++◌, slice_get, Option, Some, None, is_some, is_none}
use Rattle.std.specs.List.{All, Contains, list_any}
use Rattle.plasma_tx.specs.{declared.rules.TheConstants.{EXIT_BOND, CHALLENGE_BOND}, declared.owner.Owner.{Owner}, declared.body.Body.{Body}, declared.call.RootCall.{RootCall}, declared.answer.Answer.{Answer}}
use Rattle.lms_sign.specs.Tree.{signature_of}
use Rattle.plasma_tx.specs.{declared.answer.Refusal.{Refusal}, Spelling.{body_text}, Views.{coins, exit_at}, Shown.{tests_by, rules_of}, Table.{answer_to, is_accepted}, Money.{balance_of}}
use Rattle.schedule_text.specs.{declared.line.Line.{Line}, declared.command.Command.{Command}, declared.command.WalletCommand.{WalletCommand}, Grammar.{IsLine}}
use Rattle.node_rules.specs.WalletRecords.{secret_of, who_is}
use Rattle.node_replies.specs.{declared.reply.Reply.{Reply}, Orders.{exit_block}}
use Rattle.world_rules.specs.{declared.verdict.Verdict.{Verdict}, declared.verdict.VerdictKind.{VerdictKind}, declared.verdict.Exhibit.{Exhibit}}
use Rattle.world_rules.specs.{Events.{Event, Joins, Watches, log_of, coin_of_call, wallet_owner, bound_by, leaf_at, is_command_of, offers_of}, World.{Node, World, is_wallet_role, number_of, owner_of_node}}
use Rattle.world_rules.specs.{Steps.{TraceEntry, Run, run_of, events_of}, Exhibits.{collides, is_forged, exhibit_of}, Safety.{holds, is_attended, is_safe, is_joined, is_harmed}}
use Rattle.world_rules.specs.{Verdicts.{SignsOneMessage, given_out, verdicts_of, exhibit_of_run, first_unattended, takes_from}, Laws.{IsDigest, IsCommandIn}}

-- A run of a schedule's lines, the newest first: the lines are in the grammar and keep the rules of declarations, and
-- the digest gives 32 bytes. Nothing else is supposed of them: whatever the operator, strangers, losses and crashes do
-- is such a list of lines.
pub record IsRun (dig : List ℕ → List ℕ) (lines : List Line) (run : Run) (world : World) : Type 0 where
  pub digest : IsDigest dig
  pub lines_are : All IsLine lines
  pub run_is : run_of dig lines ≡ Some run
  pub world_is : run.world ≡ Some world

-- What a wallet's node gave out is what its leaf binds, with the key's signature by that leaf; and it is among what the
-- wallets' nodes of the run gave out.
pub record IsBoundTo (run : Run) (world : World) (n : ℕ) (node : Node) (entry : TraceEntry) (q : ℕ) : Type 0 where
  pub body : Body
  pub leaf : leaf_at q (bound_by (events_of run.entries) n) ≡ Some body
  pub made : entry.made
      ≡ body_text body ++ signature_of (secret_of (who_is node.notes)) q (body_text body)
  pub given : Contains (given_out world run.entries)
      (record { key = (owner_of_node node).key; leaf = q; bytes = entry.made })

abbrev pub GivenOutIsBound : Type 0
GivenOutIsBound = (dig : List ℕ → List ℕ) (lines : List Line) (run : Run) (world : World) (entry : TraceEntry)
    (name : List ℕ) (command : WalletCommand) (q n : ℕ) (node : Node)
    → IsRun dig lines run world → Contains run.entries entry → IsCommandIn entry.line (Command.Wallet name command)
    → entry.reply ≡ Reply.Sent q → number_of is_wallet_role world name ≡ Some n
    → slice_get world.nodes n ≡ Some node → IsBoundTo run world n node entry q

-- no leaf of a wallet's key signs two messages
abbrev pub LeavesSignOneMessage : Type 0
LeavesSignOneMessage = (dig : List ℕ → List ℕ) (lines : List Line) (run : Run) (world : World)
    → IsRun dig lines run world → SignsOneMessage run

-- The coin that a wallet holds is safe. At each line of a run: unless the trace up to it shows, at this coin, two byte
-- strings with one digest, or a signature that is valid under the wallet's key and that the wallet never made, no exit
-- of another account was paid while the wallet held the coin at e, and its own exit at e wasn't cancelled or dropped,
-- and paid where it was finished at its end; where each tick before the line that met a deadline of the coin, while
-- the wallet held it at e, was attended.
abbrev pub HeldCoinsAreSafe : Type 0
HeldCoinsAreSafe = (dig : List ℕ → List ℕ) (lines : List Line) (run : Run) (world : World)
    (later events : List Event) (event : Event) (w c e : ℕ)
    → IsRun dig lines run world → events_of run.entries ≡ later ++ event ∷ events
    → is_attended events w c e ≡ true
    → collides dig (event ∷ events) c ≡ false
    → is_forged world.chain.tag (event ∷ events) w c ≡ false
    → is_safe (tests_by dig) (rules_of world.chain) (event ∷ events) w c e ≡ true

-- the coin was deposited by this call behind these events, before which both wallets were declared
pub record AreDeclaredBefore (events : List Event) (v w c : ℕ) : Type 0 where
  pub later : List Event
  pub account : ℕ
  pub amount : ℕ
  pub key : List ℕ
  pub earlier : List Event
  pub events_are : events ≡ later ++ Joins (RootCall.Deposit account amount key) ∷ earlier
  pub coin : c ≡ coins (log_of earlier) + 1
  pub one : is_some (wallet_owner earlier v) ≡ true
  pub other : is_some (wallet_owner earlier w) ≡ true

-- Two wallets that were declared before its deposit don't both hold a coin, unless the trace exhibits.
abbrev pub OneWalletHolds : Type 0
OneWalletHolds = (dig : List ℕ → List ℕ) (lines : List Line) (run : Run) (world : World) (v w c d e : ℕ)
    → IsRun dig lines run world → v ≢ w → AreDeclaredBefore (events_of run.entries) v w c
    → collides dig (events_of run.entries) c ≡ false
    → is_forged world.chain.tag (events_of run.entries) v c ≡ false
    → is_forged world.chain.tag (events_of run.entries) w c ≡ false
    → holds (events_of run.entries) v c d ≡ true → holds (events_of run.entries) w c e ≡ true → ⊥

-- ---- the words of the headline, and the printed lines

-- each tick was attended where no line is the first that wasn't
abbrev pub AttendedIsNoneUnattended : Type 0
AttendedIsNoneUnattended = (events : List Event) (w c e : ℕ)
    → is_attended events w c e ≡ is_none (first_unattended events w c e)

-- a collision at a coin, and a forgery at it for a wallet, are exhibited
abbrev pub ExhibitsAreShown : Type 0
ExhibitsAreShown = (dig : List ℕ → List ℕ) (tag : List ℕ) (events : List Event) (w c : ℕ)
    → (collides dig events c ≡ true) ⊎ (is_forged tag events w c ≡ true)
    → exhibit_of dig tag events ≢ Exhibit.Nothing

-- an event of a run harms a holder exactly where it takes the coin
abbrev pub HarmsAreTakings : Type 0
HarmsAreTakings = (dig : List ℕ → List ℕ) (lines : List Line) (run : Run) (world : World)
    (later events : List Event) (event : Event) (me : Owner) (w c e : ℕ)
    → IsRun dig lines run world → events_of run.entries ≡ later ++ event ∷ events
    → wallet_owner events w ≡ Some me → holds events w c e ≡ true
    → is_harmed (tests_by dig) (rules_of world.chain) events w c e event
    ≡ takes_from (tests_by dig) (rules_of world.chain) events me w c e event

-- A verdict `lost` stands only above an exhibit.
abbrev pub LostIsExhibited : Type 0
LostIsExhibited = (dig : List ℕ → List ℕ) (lines : List Line) (run : Run) (world : World) (verdict : Verdict)
    → IsRun dig lines run world → Contains (verdicts_of dig run) verdict → verdict.kind ≡ VerdictKind.Lost
    → exhibit_of_run dig run ≢ Exhibit.Nothing

-- ---- what is offered is taken

-- a Before whose account can't pay the bond
abbrev pub lacks_bond : List RootCall → RootCall → Bool
lacks_bond log (RootCall.Before account coin exit shown) = nat_lt (balance_of log account) CHALLENGE_BOND
lacks_bond log call = false

-- the node watched, and since then it had no command and no call was accepted
pub record IsFreshWatch (events : List Event) (n : ℕ) (calls : List RootCall) : Type 0 where
  pub later : List Event
  pub earlier : List Event
  pub events_are : events ≡ later ++ Watches n calls ∷ earlier
  pub since : list_any (λ event. is_command_of n event || is_joined event) later ≡ false

-- A call that a watch offers is accepted where no call was accepted since, unless it is a Before for which its account
-- doesn't have the money; where the trace shows no clash at its coin.
abbrev pub DueCallsAreTaken : Type 0
DueCallsAreTaken = (dig : List ℕ → List ℕ) (lines : List Line) (run : Run) (world : World) (n : ℕ)
    (calls : List RootCall) (call : RootCall)
    → IsRun dig lines run world → IsFreshWatch (events_of run.entries) n calls → Contains calls call
    → collides dig (events_of run.entries) (coin_of_call call) ≡ false
    → lacks_bond world.chain.log call ≡ false
    → is_accepted (answer_to (tests_by dig) (rules_of world.chain) world.chain.log call) ≡ true

-- the account of a call that starts an exit
abbrev pub starter : RootCall → Option ℕ
starter (RootCall.StartDeposit account coin block) = Some account
starter (RootCall.StartSpend account coin parent exit) = Some account
starter call = None

-- the call starts an exit
abbrev pub is_start : RootCall → Bool
is_start call = is_some (starter call)

-- the answer accepts a start of the coin's exit at a block by the account; or the exit stands, or the balance is less
-- than the bond, and the answer says so
abbrev pub IsTakenAt : List RootCall → ℕ → ℕ → ℕ → Answer → Type 0
IsTakenAt log account c e answer =
    (is_accepted answer ≡ true)
    ⊎ ((answer ≡ Answer.Refused Refusal.ExitStands) × (is_some (exit_at log c e) ≡ true))
    ⊎ ((answer ≡ Answer.Refused (Refusal.NoFunds (balance_of log account) EXIT_BOND))
    × (balance_of log account < EXIT_BOND))

abbrev pub IsTaken : List RootCall → ℕ → RootCall → Answer → Type 0
IsTaken log account call answer = IsTakenAt log account (coin_of_call call) (exit_block call) answer

-- A start that a wallet offers is taken while the wallet holds the coin at the exit's block, but where the exit stands
-- or the money is missing.
abbrev pub StartsAreTaken : Type 0
StartsAreTaken = (dig : List ℕ → List ℕ) (lines : List Line) (run : Run) (world : World) (w account : ℕ)
    (call : RootCall)
    → IsRun dig lines run world → Contains (offers_of (events_of run.entries) w) call → starter call ≡ Some account
    → holds (events_of run.entries) w (coin_of_call call) (exit_block call) ≡ true
    → IsTaken world.chain.log account call
    (answer_to (tests_by dig) (rules_of world.chain) world.chain.log call)
