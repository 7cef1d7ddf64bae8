-- What the contract accepts shows transfers of its tag alone.
use Rattle.std.specs.Prelude.{◌≡◌, ℕ, true, List}
use Rattle.std.specs.List.{All}
use Rattle.plasma_tx.specs.declared.call.RootCall.{RootCall}
use Rattle.plasma_tx.specs.Shown.{Tests, Rules}
use Rattle.plasma_tx.specs.Table.{answer_to, is_accepted, IsLegal}
use Rattle.watch_duty.specs.Laws.{openings_of_call}
use Rattle.tag_laws.specs.Tags.{ShowsOwn}

-- each opening of the call, of whichever coin, shows a transfer of the chain
abbrev pub CallShowsOwn : List ℕ → RootCall → Type 0
CallShowsOwn tag call = (coin : ℕ) → All (ShowsOwn tag coin) (openings_of_call coin call)

-- so it is of an accepted call: the exit and the parent of a start, the spend of an After, a Between and a Respond,
-- and what a Before shows
abbrev pub AcceptedCallsAreOfTheChain : Type 0
AcceptedCallsAreOfTheChain = (tests : Tests) (rules : Rules) (log : List RootCall) (call : RootCall)
    → is_accepted (answer_to tests rules log call) ≡ true → CallShowsOwn rules.tag call

-- and of each call of a contract's log
abbrev pub LogsAreOfTheChain : Type 0
LogsAreOfTheChain = (rules : Rules) (log : List RootCall) → IsLegal rules log → All (CallShowsOwn rules.tag) log
