-- What the contract accepts shows transfers of its tag.
use Rattle.std.proofs.Common.{◌≡◌, ℕ, ◌==◌, true, false, if◌then◌else◌, List, [], ◌∷◌, ◌++◌, Some, None, refl, subst}
use Rattle.std.specs.List.{All}
use Rattle.std.specs.Option.{option_map}
use Rattle.std.proofs.lemmas.Bool.{eqb-true}
use Rattle.std.proofs.lemmas.List.Elements.{All-nil, All-cons, All-append}
use Rattle.plasma_tx.specs.declared.owner.Owner.{Owner}
use Rattle.plasma_tx.specs.declared.opening.RawOpening.{RawOpening}
use Rattle.plasma_tx.specs.declared.signed_tx.SignedTx.{SignedTx}
use Rattle.plasma_tx.specs.declared.call.Shown.{Shown}
use Rattle.plasma_tx.specs.declared.call.Shown.TheVariants.{Deposit as AtDeposit, Spend}
use Rattle.plasma_tx.specs.declared.call.RootCall.{RootCall}
use Rattle.plasma_tx.specs.declared.call.RootCall.TheVariants.{Fund, Tick, Deposit, Commit, StartDeposit, StartSpend, After, Between, Before, Respond, Finish}
use Rattle.plasma_tx.specs.Shown.{Tests, Rules, shown_tx, shown_owner}
use Rattle.plasma_tx.specs.Table.{IsLegal}
use Rattle.plasma_tx.specs.Accepted.{ShowsTx}
use Rattle.plasma_tx.specs.RuleLaws.{Shows}
use Rattle.plasma_tx.proofs.Accepted.{openings_show, accepted_calls_show}
use Rattle.coin_history.specs.History.{leaf_of_opening}
use Rattle.watch_duty.specs.Laws.{shown_openings}
use Rattle.tag_laws.specs.Tags.{ShowsOwn}
use Rattle.tag_laws.specs.Calls.{CallShowsOwn, AcceptedCallsAreOfTheChain, LogsAreOfTheChain}
use Rattle.tag_laws.proofs.Tags.{transfer-own}

module _ (tests : Tests) (rules : Rules) (log : List RootCall) where
  shows-own : (c : ℕ) (opening : RawOpening) (tx : SignedTx) → ShowsTx tests rules log c opening tx
      → ShowsOwn rules.tag c opening
  shows-own c opening tx shown =
      (tx, transfer-own rules.tag (leaf_of_opening opening) c opening.block tx shown.spelled)

  single : (c : ℕ) (o : RawOpening) → ShowsOwn rules.tag c o → All (ShowsOwn rules.tag c) (o ∷ [])
  single c o own = All-cons (ShowsOwn rules.tag c) o [] own (All-nil (ShowsOwn rules.tag c))

  -- a parent whose owner is shown is the deposit, or a transfer of the chain
  parent-own : (c : ℕ) (shown : Shown) (owner : Owner) → shown_owner tests rules log c shown ≡ Some owner
      → All (ShowsOwn rules.tag c) (shown_openings shown)
  parent-own c (AtDeposit block) owner is = All-nil (ShowsOwn rules.tag c)
  parent-own c (Spend opening) owner is =
      (elim (shown_tx tests rules log c opening) as (λ o. shown_tx tests rules log c opening ≡ o
      → option_map (λ (tx : SignedTx). tx.body.to) o ≡ Some owner → All (ShowsOwn rules.tag c) (opening ∷ [])) [
        | None ↦ λ none wrong. absurd (cc wrong)
        | Some tx ↦ λ some same. single c opening (shows-own c opening tx
            (openings_show tests rules log c opening tx some))
      ]) refl is

  -- those of the call's coin, where the other is the call's
  of-coin : (coin other : ℕ) (openings : List RawOpening) → All (ShowsOwn rules.tag coin) openings
      → All (ShowsOwn rules.tag other) (if coin == other then openings else [])
  of-coin coin other openings all =
      (elim (coin == other) as (λ b. (coin == other) ≡ b
      → All (ShowsOwn rules.tag other) (if b then openings else [])) [
        | true ↦ λ same. subst (λ (c : ℕ). All (ShowsOwn rules.tag c) openings) (eqb-true coin other same) all
        | false ↦ λ apart. All-nil (ShowsOwn rules.tag other)
      ]) refl

  call-own : (call : RootCall) → Shows tests rules log call → CallShowsOwn rules.tag call
  call-own (Fund account amount) shows c = All-nil (ShowsOwn rules.tag c)
  call-own (Tick time) shows c = All-nil (ShowsOwn rules.tag c)
  call-own (Deposit account amount key) shows c = All-nil (ShowsOwn rules.tag c)
  call-own (Commit account root) shows c = All-nil (ShowsOwn rules.tag c)
  call-own (StartDeposit account coin block) shows c = All-nil (ShowsOwn rules.tag c)
  call-own (StartSpend account coin parent exit) shows c =
      of-coin coin c (shown_openings parent ++ exit ∷ [])
      (All-append (ShowsOwn rules.tag coin) (shown_openings parent) (exit ∷ [])
      (parent-own coin parent shows.parent_owner shows.parent_shown)
      (single coin exit (shows-own coin exit shows.tx shows.shown)))
  call-own (After account coin exit spend) shows c =
      of-coin coin c (spend ∷ []) (single coin spend (shows-own coin spend shows.tx shows.shown))
  call-own (Between account coin exit spend) shows c =
      of-coin coin c (spend ∷ []) (single coin spend (shows-own coin spend shows.tx shows.shown))
  call-own (Before account coin exit shown) shows c =
      of-coin coin c (shown_openings shown) (parent-own coin shown shows.owner shows.owner_shown)
  call-own (Respond account coin exit challenged spend) shows c =
      of-coin coin c (spend ∷ []) (single coin spend (shows-own coin spend shows.tx shows.shown))
  call-own (Finish account coin exit) shows c = All-nil (ShowsOwn rules.tag c)

pub accepted_calls_are_of_the_chain : AcceptedCallsAreOfTheChain
accepted_calls_are_of_the_chain tests rules log call is =
    call-own tests rules log call (accepted_calls_show tests rules log call is)

pub logs_are_of_the_chain : LogsAreOfTheChain
unfolding IsLegal
logs_are_of_the_chain rules [] legal = All-nil (CallShowsOwn rules.tag)
logs_are_of_the_chain rules (call ∷ log) legal =
    All-cons (CallShowsOwn rules.tag) call log
    (accepted_calls_are_of_the_chain legal.0.0 rules log call legal.0.1) (logs_are_of_the_chain rules log legal.1)
