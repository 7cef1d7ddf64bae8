-- Names that the files beside this one use.
pub use Rattle.std.proofs.Common.{◌∙◌, sym, ◌≡◌, ℕ, ◌+◌, ◌-◌, ◌≤◌, Bool, List, [], Option, arith, ◌==◌, true, false, Some, Result, Err, not, if◌then◌else◌, ◌∷◌, ◌++◌, length, map, filter, None, refl, ap, ◌&&◌, cond, subst, find, ◌<◌, Ok, Bor, ◌||◌}
pub use Rattle.std.proofs.lemmas.Bool.{ne_eqb, eq-eqb, eqb-true, and_parts, cases_eq, false≢true, le-leb}
pub use Rattle.std.proofs.lemmas.Grind.{common_steps}
pub use Rattle.std.specs.Prelude.{nat_le, option_to_list, is_some, MatchResult, IsTrue, IsSome, IfSome, IsErrAnd, ◌≢◌}
pub use Rattle.std.specs.Option.{option_map, option_copied}
pub use Rattle.std.specs.List.{list_any, list_all, AllByRecursion}
pub use Rattle.std.proofs.lemmas.List.Folds.{list_any-append, list_all-map, find-append}
pub use Rattle.exit_game.specs.declared.game.Game.{Game}
pub use Rattle.exit_game.specs.Games.{slots_in, HasSlots}
pub use Rattle.bond_ledger.specs.declared.ledger.Ledger.{Ledger}
pub use Rattle.bond_ledger.specs.Ledger.{balance_in, held_in, funded_in, HasSums, amount_at, is_known}
pub use Rattle.plasma_tx.specs.declared.call.RootCall.{RootCall}
pub use Rattle.plasma_tx.specs.declared.call.RootCall.TheVariants.{Tick, StartDeposit, Fund, After, StartSpend, Between, Before, Respond, Finish, Commit, Deposit}
pub use Rattle.plasma_tx.specs.Chain.{Chain, with_log}
pub use Rattle.plasma_tx.specs.Views.{Challenge, Exit, challenge_at, block_of, is_withdrawn, now, is_exit, without_exit, with_exit_changed, with_challenge as exit_challenged, with_answer_at, with_answer as exit_answered, deposit_exit, spend_exit, new_challenge, blocks, coins}
unfoldable pub use Rattle.plasma_tx.specs.Views.{exits, exit_at}
pub use Rattle.plasma_tx.specs.declared.movement.Movement.{Movement}
pub use Rattle.plasma_tx.specs.Shown.{tests_by, Tests, rules_of, Rules, root_at}
unfoldable pub use Rattle.plasma_tx.specs.Shown.{shown_tx}
pub use Rattle.plasma_tx.specs.Money.{amount_of, payout, finish_pays, amount_released, finish_releases, moved, cancel_pays, exit_bonds, answered_bond, challenge_of}
unfoldable pub use Rattle.plasma_tx.specs.Money.{share_of, pays, takes, releases, balance_of, held_of, funded}
pub use Rattle.plasma_tx.specs.Table.{decided, is_over, is_committed_after, is_committed_between, is_parent_of, where_coin, where_exit, start_spend_causes, where_challenged, after_causes, between_causes, respond_causes, is_accepted}
unfoldable pub use Rattle.plasma_tx.specs.Table.{answer_to, IsLegal, log_after}
pub use Rattle.plasma_tx.specs.declared.rules.TheConstants.{CHALLENGE_WINDOW, RESPONSE_WINDOW, EXIT_BOND, CHALLENGE_BOND, EXIT_PERIOD, MOST_MONEY, LAST_TIME}
pub use Rattle.plasma_tx.proofs.Accepted.{owners_are_read, accepted_calls_show}
pub use Rattle.root_contract.specs.Agreement.{Agrees}
pub use Rattle.root_contract.specs.Changes.{SameMoney, Changes, IsAccepted}
pub use Rattle.exit_game.specs.declared.challenges.Challenge.{Challenge as Kept}
pub use Rattle.exit_game.specs.declared.slot.Slot.{Slot}
pub use Rattle.plasma_tx.specs.declared.owner.Owner.{Owner}
pub use Rattle.plasma_tx.specs.declared.opening.RawOpening.{RawOpening}
pub use Rattle.plasma_tx.specs.declared.call.Shown.{Shown}
pub use Rattle.plasma_tx.specs.declared.answer.Answer.{Answer}
pub use Rattle.plasma_tx.specs.declared.answer.Answer.TheVariants.{Cancelled, Ticked, Started, Committed, Responded, Deposited, Funded, Refused as IsRefused, NoMemory as WantsMemory, Challenged}
pub use Rattle.plasma_tx.proofs.Bounds.{times_are_bounded, responds_answer}
pub use Rattle.root_contract.specs.declared.stop.Stop.{Stop}
pub use Rattle.root_contract.specs.Exits.{as_exit, as_challenge, exits_of_coin, IsDated, IsUnchallenged, IsOpen}
pub use Rattle.root_contract.specs.Judging.{Judges, spend_causes, Takes, table_answer, answer_of, shows_opening, may_want}
pub use Rattle.plasma_tx.specs.declared.views.CoinView.{CoinView}
pub use Rattle.root_contract.specs.Settling.{unpaid_of, payout_of, finish_paid, released_of, finish_released, open_bonds, first_open, unpaid_amount}
pub use Rattle.bond_ledger.proofs.Known.{held_is_of_known}
pub use Rattle.exit_game.specs.Challenges.{challenge_at as kept_at, answered_at}
pub use Rattle.exit_game.specs.Slots.{slot_at, without_slot, with_slot_changed, with_challenge, with_answer, IsUnchallengedAt, without_last, IsOpenAt}
pub use Rattle.root_contract.specs.declared.judging.Owners.{Owners}
