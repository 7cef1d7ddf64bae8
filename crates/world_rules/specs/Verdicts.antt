-- What became of each coin that a wallet ever held, what wallets gave out, and the counts of a run.
use Rattle.std.specs.Prelude.{◌≡◌, ℕ, ◌+◌, ◌==◌, ◌&&◌, ◌||◌, not, Bool, true, false, if◌then◌else◌, List, [], ◌∷◌, ◌++◌, length, map, filter, Option, Some, None, option_map, option_and_then}
use Rattle.std.specs.List.{Contains, count_by, flat_map, filter_map, range_with_len}
use Rattle.std.specs.Option.{option_map_or, option_or}
use Rattle.plasma_tx.specs.{declared.owner.Owner.{Owner}, declared.call.RootCall.{RootCall}, declared.views.CoinView.{CoinView}, Spelling.{body_at_start}, Views.{blocks, coins, coin_at, Exit, exit_at}}
use Rattle.plasma_tx.specs.{Shown.{Tests, Rules, tests_by, rules_of}, RuleLaws.{is_paid}, Table.{answer_to}}
use Rattle.schedule_text.specs.{declared.line.Line.{Line}, declared.command.Command.{Command}}
use Rattle.wallet_core.specs.State.{own_deposit, greatest}
use Rattle.node_replies.specs.declared.reply.Reply.{Reply}
use Rattle.world_rules.specs.{declared.verdict.Verdict.{Verdict}, declared.verdict.VerdictKind.{VerdictKind}, declared.verdict.Exhibit.{Exhibit}, declared.verdict.Counts.{Counts}}
use Rattle.world_rules.specs.{Events.{Event, Joins, log_of, wallet_owner, accepted, signed_away_by, is_sent_from}, World.{Node, World, owner_named, is_wallet_role}, Steps.{TraceEntry, Run, events_of}, Exhibits.{exhibit_of}}
use Rattle.world_rules.specs.Safety.{holds, goes_unattended, is_mine, is_own}

-- ---- the tip

-- the wallet held the coin at e before some line, or holds it now
unfoldable pub ever_held : List Event → ℕ → ℕ → ℕ → Bool
ever_held [] w c e = holds [] w c e
ever_held (event ∷ events) w c e = holds (event ∷ events) w c e || ever_held events w c e

-- the deposit block, where the wallet is the depositor
abbrev pub own_deposit_of : Option Owner → Option CoinView → List ℕ
own_deposit_of owner made = option_map_or (λ me. own_deposit me made) owner []

-- the blocks at which the wallet may have held the coin: its own deposit, and the tips that it accepted
abbrev pub possible_tips : List Event → ℕ → ℕ → List ℕ
possible_tips events w c =
    own_deposit_of (wallet_owner events w) (coin_at (log_of events) c)
    ++ map (λ bundle. bundle.tip) (filter (λ bundle. bundle.coin == c) (accepted events w))

-- the greatest block at which it ever held the coin
unfoldable pub held_tip : List Event → ℕ → ℕ → Option ℕ
held_tip events w c = greatest (filter (ever_held events w c) (possible_tips events w c))

-- ---- what ended it

-- the exit stands, and is another account's
abbrev pub is_others : Owner → Option Exit → Bool
is_others me exit = option_map_or (λ found. not (is_mine me found)) exit false

-- a Finish behind these calls is answered Paid
abbrev pub is_finish_paid : Tests → Rules → List RootCall → ℕ → ℕ → ℕ → Bool
is_finish_paid tests rules log account coin block =
    is_paid (answer_to tests rules log (RootCall.Finish account coin block))

-- the event pays the wallet's exit of the coin at e
abbrev pub pays_own : Tests → Rules → List RootCall → Owner → ℕ → ℕ → Event → Bool
pays_own tests rules log me c e (Joins (RootCall.Finish account coin block)) =
    (coin == c) && (block == e) && is_own me (exit_at log coin block)
    && is_finish_paid tests rules log account coin block
pays_own tests rules log me c e event = false

-- the event pays another account's exit of the coin
abbrev pub pays_other : Tests → Rules → List RootCall → Owner → ℕ → Event → Bool
pays_other tests rules log me c (Joins (RootCall.Finish account coin block)) =
    (coin == c) && is_others me (exit_at log coin block) && is_finish_paid tests rules log account coin block
pays_other tests rules log me c event = false

-- the event cancels or drops the wallet's exit of the coin at e
abbrev pub ends_own : Tests → Rules → List RootCall → Owner → ℕ → ℕ → Event → Bool
ends_own tests rules log me c e (Joins (RootCall.After account coin block spend)) =
    (coin == c) && (block == e) && is_own me (exit_at log coin block)
ends_own tests rules log me c e (Joins (RootCall.Between account coin block spend)) =
    (coin == c) && (block == e) && is_own me (exit_at log coin block)
ends_own tests rules log me c e (Joins (RootCall.Finish account coin block)) =
    (coin == c) && (block == e) && is_own me (exit_at log coin block)
    && not (is_finish_paid tests rules log account coin block)
ends_own tests rules log me c e event = false

-- The event takes the coin: it pays another account's exit while the wallet holds the coin at e, or ends the wallet's
-- exit at e unpaid, whether it holds the coin or not.
abbrev pub takes_from : Tests → Rules → List Event → Owner → ℕ → ℕ → ℕ → Event → Bool
takes_from tests rules events me w c e event =
    (pays_other tests rules (log_of events) me c event && holds events w c e)
    || ends_own tests rules (log_of events) me c e event

-- the events before the first that takes the coin
unfoldable pub before_taking : Tests → Rules → List Event → Owner → ℕ → ℕ → ℕ → Option (List Event)
before_taking tests rules [] me w c e = None
before_taking tests rules (event ∷ events) me w c e =
    option_or (before_taking tests rules events me w c e)
    (if takes_from tests rules events me w c e event then Some events else None)

-- the number of the first line that met a deadline of the held coin and that nobody attended
unfoldable pub first_unattended : List Event → ℕ → ℕ → ℕ → Option ℕ
first_unattended [] w c e = None
first_unattended (event ∷ events) w c e =
    option_or (first_unattended events w c e)
    (if goes_unattended events w c e event then Some (length events + 1) else None)

-- an event pays the wallet's exit at e
unfoldable pub exit_was_paid : Tests → Rules → List Event → Owner → ℕ → ℕ → Bool
exit_was_paid tests rules [] me c e = false
exit_was_paid tests rules (event ∷ events) me c e =
    pays_own tests rules (log_of events) me c e event || exit_was_paid tests rules events me c e

-- ---- the verdict

-- unattended in this line, or lost; taken behind these events, or held
abbrev pub lost_or : Option ℕ → VerdictKind
lost_or None = VerdictKind.Lost
lost_or (Some line) = VerdictKind.Unattended line

abbrev pub taken_or : Option (List Event) → ℕ → ℕ → ℕ → VerdictKind
taken_or None w c e = VerdictKind.Held
taken_or (Some events) w c e = lost_or (first_unattended events w c e)

-- what became of a coin that a wallet held at e, its greatest tip: the first of these that applies
unfoldable pub verdict_at : Tests → Rules → List Event → Owner → ℕ → ℕ → ℕ → VerdictKind
verdict_at tests rules events me w c e =
    if is_sent_from (signed_away_by events w) c e then VerdictKind.Away
    else if exit_was_paid tests rules events me c e then VerdictKind.Paid
    else taken_or (before_taking tests rules events me w c e) w c e

-- a wallet's number and name
pub record Named : Type 0 where
  pub number : ℕ
  pub name : List ℕ

-- the verdict on a wallet and a coin, if the wallet ever held it
abbrev pub verdict_on : Tests → Rules → List Event → Named → Owner → ℕ → Option Verdict
verdict_on tests rules events wallet me c =
    option_map
    (λ e. record { wallet = wallet.name; coin = c; kind = verdict_at tests rules events me wallet.number c e })
    (held_tip events wallet.number c)

abbrev pub verdict_of : Tests → Rules → List Event → Named → ℕ → Option Verdict
verdict_of tests rules events wallet c =
    option_and_then (λ me. verdict_on tests rules events wallet me c) (wallet_owner events wallet.number)

-- the wallets among the nodes from number n on, in their order
unfoldable pub wallets_from : ℕ → List Node → List Named
wallets_from n [] = []
wallets_from n (node ∷ nodes) =
    if is_wallet_role node.role then record { number = n; name = node.name } ∷ wallets_from (n + 1) nodes
    else wallets_from (n + 1) nodes

-- the verdicts on a wallet's coins, by rising coin
abbrev pub verdicts_on : Tests → Rules → List Event → Named → List Verdict
verdicts_on tests rules events wallet =
    filter_map (verdict_of tests rules events wallet) (range_with_len 1 (coins (log_of events)))

-- the verdicts on all wallets, in the order of their declarations
unfoldable pub verdicts_in : (List ℕ → List ℕ) → World → List Event → List Verdict
verdicts_in dig world events =
    flat_map (verdicts_on (tests_by dig) (rules_of world.chain) events) (wallets_from 0 world.nodes)

-- those of a run; none where the chain hasn't begun
unfoldable pub verdicts_of : (List ℕ → List ℕ) → Run → List Verdict
verdicts_of dig run = option_map_or (λ world. verdicts_in dig world (events_of run.entries)) run.world []

-- the exhibit of a run
unfoldable pub exhibit_of_run : (List ℕ → List ℕ) → Run → Exhibit
exhibit_of_run dig run =
    option_map_or (λ world. exhibit_of dig world.chain.tag (events_of run.entries)) run.world Exhibit.Nothing

-- ---- what wallets gave out

-- a signed transfer that a wallet's node gave out: the wallet's key, the number of the leaf, and the transfer's bytes
pub record GivenOut : Type 0 where
  pub key : List ℕ
  pub leaf : ℕ
  pub bytes : List ℕ

-- the wallet of a command, and that of a line
abbrev pub wallet_of_command : Command → Option (List ℕ)
wallet_of_command (Command.Wallet name command) = Some name
wallet_of_command command = None

abbrev pub wallet_of_line : Line → Option (List ℕ)
wallet_of_line (Line.Command command) = wallet_of_command command
wallet_of_line (Line.Cut node calls outcome command) = wallet_of_command command
wallet_of_line line = None

-- the number of the leaf that a wallet's answer names
abbrev pub leaf_sent : Reply → Option ℕ
leaf_sent (Reply.Sent leaf) = Some leaf
leaf_sent reply = None

-- what an entry gives out: the bytes that a wallet's line made which was answered with a leaf
abbrev pub given_by : World → TraceEntry → Option GivenOut
given_by world entry =
    option_and_then
    (λ leaf. option_map (λ owner. record { key = owner.key; leaf = leaf; bytes = entry.made })
    (option_and_then (owner_named world) (wallet_of_line entry.line)))
    (leaf_sent entry.reply)

unfoldable pub given_out : World → List TraceEntry → List GivenOut
given_out world entries = filter_map (given_by world) entries

-- two transfers that wallets' nodes gave out in a run with one key and one leaf have one body
abbrev pub SignsOneMessage : Run → Type 0
SignsOneMessage run = (world : World) (one other : GivenOut) → run.world ≡ Some world
    → Contains (given_out world run.entries) one → Contains (given_out world run.entries) other
    → one.key ≡ other.key → one.leaf ≡ other.leaf
    → body_at_start one.bytes ≡ body_at_start other.bytes

-- ---- counts

-- the answer is a refusal
abbrev pub is_refused_reply : Reply → Bool
is_refused_reply (Reply.Refused cause) = true
is_refused_reply reply = false

-- the entry is answered with a refusal, and not with `done` before it
abbrev pub is_refused : TraceEntry → Bool
is_refused entry = not entry.done && is_refused_reply entry.reply

-- the kind is this one
abbrev pub is_held_kind : VerdictKind → Bool
is_held_kind VerdictKind.Held = true
is_held_kind kind = false

abbrev pub is_paid_kind : VerdictKind → Bool
is_paid_kind VerdictKind.Paid = true
is_paid_kind kind = false

abbrev pub is_away_kind : VerdictKind → Bool
is_away_kind VerdictKind.Away = true
is_away_kind kind = false

abbrev pub is_lost_kind : VerdictKind → Bool
is_lost_kind VerdictKind.Lost = true
is_lost_kind kind = false

abbrev pub is_unattended_kind : VerdictKind → Bool
is_unattended_kind (VerdictKind.Unattended line) = true
is_unattended_kind kind = false

-- how many verdicts are of a kind
abbrev pub count_verdicts : (VerdictKind → Bool) → List Verdict → ℕ
count_verdicts is_asked verdicts = count_by (λ verdict. is_asked verdict.kind) verdicts

-- what `brief` counts of a trace, by its verdicts
abbrev pub counts_with : List TraceEntry → List RootCall → List Verdict → Counts
counts_with entries log verdicts = record {
  lines = length entries;
  accepted = length log;
  refused = count_by is_refused entries;
  blocks = blocks log;
  coins = coins log;
  held = count_verdicts is_held_kind verdicts;
  paid = count_verdicts is_paid_kind verdicts;
  away = count_verdicts is_away_kind verdicts;
  lost = count_verdicts is_lost_kind verdicts;
  unattended = count_verdicts is_unattended_kind verdicts;
}

unfoldable pub counts_of : (List ℕ → List ℕ) → Run → Counts
counts_of dig run = counts_with run.entries (log_of (events_of run.entries)) (verdicts_of dig run)
