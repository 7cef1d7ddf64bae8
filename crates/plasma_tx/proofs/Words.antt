-- Names that the files beside this one use.
pub use Rattle.std.proofs.Common.{◌≡◌, ℕ, ◌==◌, ◌&&◌, ◌||◌, Bool, true, false, if◌then◌else◌, List, [], ◌∷◌, ◌++◌, map, Option, Some, refl, sym, ap, ◌∙◌, find, filter, arith, length, Ok, Err, None, subst, zero, suc, ◌+◌, ◌<◌, take, drop, slice_set, slice_index_or, ◌^◌, ◌≤◌, nat_le, inl, inr, append_assoc, ◌-◌, get_or, ◌*◌, cond, not, ◌≢◌, add-one, ◌⊎◌, position, rules}
pub use Rattle.std.proofs.lemmas.Bool.{eqb-true, eq-eqb, cases_Bool, and_parts, both_ways, ne_eqb, le-leb, leb-true, cases_lt, or_parts, eqb-false, ltb-true, ltb-false, leb-false, not-false, cases_eq, or_cases, and_from, or_from, not_from_true, lt-ltb, le-ltb, lt-leb, false_from_ne_true, true≢false}
pub use Rattle.std.proofs.lemmas.Grind.{common_steps}
pub use Rattle.std.specs.Prelude.{is_some, Result, OnErr, is_none, nat_lt, slice_get, unwrap_or, IfSome, OnOk}
pub use Rattle.std.specs.List.{list_all, list_any, All, slice_range, AllByRecursion, AllPairs, position_or_len}
pub use Rattle.std.specs.Option.{option_map, option_or}
pub use Rattle.std.specs.Ordering.{nat_cmp}
pub use Rattle.std.specs.Cmp.Lexicographic.{slice_cmp}
pub use Rattle.std.specs.BTreeMap.{is_at, BTreeMap, get}
pub use Rattle.std.specs.BTreeSet.{BTreeSet, contains, IsOrdered}
pub use Rattle.std.proofs.lemmas.List.{length-append, take_at, drop_at, length-take-le, length-drop, take-append-drop, drop-drop, take_all, take-append-le, drop-append-le, get_or_past, reverse-append, append-nil}
pub use Rattle.std.proofs.lemmas.List.Folds.{find-append, list_any-append}
pub use Rattle.std.proofs.lemmas.List.Elements.{All-take, All-drop, filter-append}
pub use Rattle.std.specs.Int.{w32, to_be_bytes, from_be_bytes, w64}
pub use Rattle.std.proofs.lemmas.Nat.{from_be_bytes-to_be_bytes_4, be_bytes_4, be_bytes_8, from_be_bytes-to_be_bytes_8}
pub use Rattle.std.proofs.lemmas.Fn.{filter_same}
pub use Rattle.plasma_tx.specs.declared.rules.TheConstants.{RESPONSE_WINDOW, EXIT_PERIOD, EXIT_BOND, CHALLENGE_BOND, LAST_TIME, MOST_MONEY}
pub use Rattle.plasma_tx.specs.declared.opening.RawOpening.{RawOpening}
pub use Rattle.plasma_tx.specs.declared.signed_tx.SignedTx.{SignedTx}
pub use Rattle.plasma_tx.specs.declared.call.Shown.{Shown}
pub use Rattle.plasma_tx.specs.declared.call.RootCall.{RootCall}
pub use Rattle.plasma_tx.specs.declared.call.RootCall.TheVariants.{StartDeposit, StartSpend, After, Between, Before, Respond, Finish, Fund, Tick, Deposit, Commit}
pub use Rattle.plasma_tx.specs.declared.answer.Answer.{Answer}
pub use Rattle.plasma_tx.specs.declared.answer.Answer.TheVariants.{Funded, Deposited, Committed, Started, Cancelled, Challenged, Responded, Refused, Ticked, Paid, Dropped}
pub use Rattle.plasma_tx.specs.declared.views.CoinView.{CoinView}
pub use Rattle.plasma_tx.specs.Views.{Challenge, Exit, is_exit, without_exit, with_exit_changed, challenge_at, with_challenge, with_answer_at, with_answer, without_responses, is_responded, block_of, new_challenge, has_no_open_challenge, challenge_view, exit_view, deposit_exit, spend_exit, owner_of_coin, new_coin, has_exits, is_root_committed, is_response_to, owner_of}
unfoldable pub use Rattle.plasma_tx.specs.Views.{responses, now, exits, exit_at, is_withdrawn, exits_of, blocks, coins, coin_at, block_at, deposits_of}
pub use Rattle.plasma_tx.specs.Shown.{Tests, Rules, root_at, shown_owner, spends, signs, goes_to}
unfoldable pub use Rattle.plasma_tx.specs.Shown.{shown_tx}
pub use Rattle.plasma_tx.specs.Table.{Cause, decided, is_accepted, is_committed_after, is_committed_between, is_parent_of, fund_causes, deposit_causes, commit_causes, start_deposit_causes, start_spend_causes, after_causes, between_causes, before_causes, respond_causes, where_coin, where_exit, where_challenged, tick_causes, finish_causes, finish_effect, is_payable}
unfoldable pub use Rattle.plasma_tx.specs.Table.{answer_to, IsLegal, log_after}
pub use Rattle.plasma_tx.specs.Accepted.{ShowsTx, Deposits, Commits, StartsDeposit, StartsSpend, CancelsAfter, CancelsBetween, Challenges, Responds, Finishes}
pub use Rattle.plasma_tx.specs.RuleLaws.{is_last, OthersLeaveExits, ExitsLeaveBy, Shows, OpeningsShow, OwnersAreRead, AcceptedCallsShow, IsDatedBy, TimesAreBounded, ExitsAreTheirOwners, TransfersAreShown, ShownCallsAreAccepted, AnswersDecide, MoneyIsKept, HeldIsOfAccounts, BalancesSuffice, HeldSuffices, BalancesAreCovered, LogsAreLegal}
unfoldable pub use Rattle.plasma_tx.specs.RuleLaws.{log_after_all}
pub use Rattle.plasma_tx.specs.declared.owner.Owner.{Owner}
pub use Rattle.plasma_tx.specs.Openings.{raw_of, leaf_length, HasOpeningLength, with_proof}
unfoldable pub use Rattle.plasma_tx.specs.Openings.{opening_text, leaf_in, opening_in}
pub use Rattle.plasma_tx.specs.Transfer.{may_stand_in, is_transfer, kept_transfer, named_owner}
unfoldable pub use Rattle.plasma_tx.specs.Transfer.{transfer_in, recipient_in}
pub use Rattle.plasma_tx.specs.Laws.{is_challenged_at, NewChallengesAreOpen, WithdrawnIsPaid, ClocksAreTicks, is_block_call, block_calls, BlocksAreCalls, CoinsAreDeposits, without_challenges, ExitsStand, with_answered, ExitsAreInOrder, ChallengesAreInOrder, ChallengesStand}
unfoldable pub use Rattle.plasma_tx.specs.Laws.{RespondsAnswer, was_paid, blocks_made, coins_made, last_start, start_place, before_place, first_before, was_responded}
pub use Rattle.plasma_tx.specs.declared.movement.Movement.{Movement}
pub use Rattle.plasma_tx.specs.Money.{moved, challenge_bonds, exit_bonds, amount_of, amount_released, open_challenges, cancel_pays, payout, finish_pays, answered_bond, challenge_of, finish_releases, AccountsBelow, callers, held}
unfoldable pub use Rattle.plasma_tx.specs.Money.{share_of, bonds, sum_below, funded, pays, takes, releases, balance_of, held_of}
pub use Rattle.plasma_tx.specs.declared.views.ChallengeView.{ChallengeView}
pub use Rattle.plasma_tx.specs.declared.views.ExitView.{ExitView}
pub use Rattle.plasma_tx.specs.declared.views.Response.{Response}
pub use Rattle.plasma_tx.specs.declared.standing.Change.{Change}
pub use Rattle.plasma_tx.specs.ChallengeLists.{view_with_answer_at, is_challenged}
pub use Rattle.plasma_tx.specs.Standing.{new_exit, without_view, with_view_changed, with_challenge_view, with_answer_view, has_no_open_view, change_of, standing_of, no_standing, Standing, AreDistinct}
unfoldable pub use Rattle.plasma_tx.specs.Standing.{standing_after}
pub use Rattle.plasma_tx.specs.declared.views.BlockView.TheVariants.{Root, DepositOf}
pub use Rattle.plasma_tx.specs.declared.coin_states.States.{States}
pub use Rattle.plasma_tx.specs.Keeps.{item_at, Keeps, standing_in, deposits_in, AreExiting, other_in}
pub use Rattle.plasma_tx.specs.declared.signed_tx.TxRefusal.{TxRefusal}
pub use Rattle.plasma_tx.specs.Spelling.{AreBytes, number_text, number_at, first_mark, second_mark, mark_of, common_text, has_first_mark, has_second_mark, body_length, body_at_start, with_signature, IsOwner, IsBody}
unfoldable pub use Rattle.plasma_tx.specs.Spelling.{body_in, signed_in, owner_text, owner_in, body_text, signed_text}
pub use Rattle.plasma_tx.specs.declared.views.BlockView.{BlockView}
