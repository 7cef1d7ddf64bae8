-- What a trace keeps of the lines of a run.
use Rattle.std.specs.Prelude.{◌≡◌, ℕ, List, [], map, reverse, Option, Some, None}
use Rattle.std.specs.Option.{ForSome}
use Rattle.plasma_tx.specs.Shown.{Tests, Rules}
use Rattle.world_rules.specs.Events.{Event, wallets}
use Rattle.coin_verdicts.specs.{declared.fact.Fact.{Fact}, declared.wallet.NamedWallet.{NamedWallet}, Facts.{AreFacts}}
use Rattle.trace_exhibits.specs.{Lines.{read_of}, Findings.{HasDigest as IsFoundBy, Finds}, declared.findings.Findings.{Findings}}

-- the facts of the lines and the declared wallets, the oldest first; and, once there is a line, what lines show
pub record TraceState : Type 0 where
  pub facts : List Fact
  pub wallets : List NamedWallet
  pub found : Option Findings

-- nothing of no lines
abbrev pub no_trace : TraceState
no_trace = record { facts = []; wallets = []; found = None }

-- what is found is found by the digest
abbrev pub IsOpenTo : (List ℕ → List ℕ) → Option Findings → Type 0
IsOpenTo dig found = ForSome found (IsFoundBy dig)

abbrev pub HasDigest : (List ℕ → List ℕ) → TraceState → Type 0
HasDigest dig trace = IsOpenTo dig trace.found

-- what is found is what these events show, the newest first; nothing before the first
abbrev pub FindsIn : (List ℕ → List ℕ) → List ℕ → List Event → Option Findings → Type 0
FindsIn dig tag events None = events ≡ []
FindsIn dig tag events (Some found) = Finds dig tag events found

-- the number of a wallet that was named
abbrev pub number_of : NamedWallet → ℕ
number_of wallet = wallet.number

-- the trace is that of these events, the newest first, under the digest and under the tests and the rules of the
-- contract
pub record Tells (dig : List ℕ → List ℕ) (tests : Tests) (rules : Rules) (events : List Event) (trace : TraceState)
    : Type 0 where
  pub facts : AreFacts tests rules events (reverse trace.facts)
  pub named : map number_of trace.wallets ≡ reverse (wallets events)
  pub finds : FindsIn dig rules.tag (map read_of events) trace.found
