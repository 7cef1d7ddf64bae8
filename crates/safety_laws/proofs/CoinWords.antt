-- What the files beside this one say of coins: calls, views, histories, signatures, and what endangers a coin.
pub use Rattle.plasma_tx.specs.declared.owner.Owner.{Owner}
pub use Rattle.plasma_tx.specs.declared.call.RootCall.{RootCall}
pub use Rattle.plasma_tx.specs.declared.call.RootCall.TheVariants.{Respond, Finish, Fund, Tick, Deposit, Commit, StartDeposit, StartSpend, Between, Before, After}
pub use Rattle.plasma_tx.specs.declared.views.ChallengeView.{ChallengeView}
pub use Rattle.plasma_tx.specs.declared.views.ExitView.{ExitView}
pub use Rattle.plasma_tx.specs.declared.rules.TheConstants.{CHALLENGE_WINDOW, RESPONSE_WINDOW, LAST_TIME, EXIT_PERIOD}
pub use Rattle.plasma_tx.specs.Views.{Challenge, Exit, is_exit, challenge_at, challenge_view, exit_view, block_of, has_no_open_challenge, with_answer, with_answer_at}
unfoldable pub use Rattle.plasma_tx.specs.Views.{now, exits, exit_at, exits_of, is_withdrawn, blocks, coins, block_at, coin_at, responses}
pub use Rattle.plasma_tx.specs.Shown.{Rules, tests_by, Tests, rules_of, root_at, shown_owner}
unfoldable pub use Rattle.plasma_tx.specs.Shown.{shown_tx}
pub use Rattle.plasma_tx.specs.declared.signed_tx.SignedTx.{SignedTx}
pub use Rattle.plasma_tx.specs.declared.links.Link.{Link}
pub use Rattle.plasma_tx.specs.ChallengeLists.{is_challenged}
pub use Rattle.plasma_tx.specs.Links.{tip_of, last_spend}
unfoldable pub use Rattle.plasma_tx.specs.Transfer.{is_signed_by, transfer_in}
unfoldable pub use Rattle.plasma_tx.specs.Money.{balance_of, pays, share_of, funded}
pub use Rattle.plasma_tx.specs.Table.{is_accepted, is_over, is_before_parent, is_committed_after, is_parent_of}
unfoldable pub use Rattle.plasma_tx.specs.Table.{answer_to}
pub use Rattle.plasma_tx.specs.declared.opening.RawOpening.{RawOpening}
pub use Rattle.plasma_tx.specs.declared.call.Shown.TheVariants.{Deposit as AtDeposit, Spend}
unfoldable pub use Rattle.plasma_tx.specs.Openings.{leaf_in}
pub use Rattle.plasma_tx.specs.Laws.{is_end, is_respond, is_start}
pub use Rattle.plasma_tx.specs.RuleLaws.{is_of_exit}
pub use Rattle.plasma_tx.specs.declared.call.Shown.{Shown}
pub use Rattle.plasma_tx.specs.Accepted.{ShowsTx, CancelsAfter, CancelsBetween, Responds, Finishes, StartsSpend}
pub use Rattle.plasma_tx.proofs.RuleNames.{exits-distinct, is_at, challenged-once, one_if}
unfoldable pub use Rattle.plasma_tx.proofs.RuleNames.{count}
pub use Rattle.plasma_tx.proofs.Accepted.{accepted_calls_show}
pub use Rattle.coin_history.specs.History.{IsHistory}
unfoldable pub use Rattle.coin_history.specs.History.{links_in}
pub use Rattle.watch_duty.specs.Duty.{due_for, due_of, tip_shown, link_after, within, old_owner, second_spend, planted_parent, answer, answers}
unfoldable pub use Rattle.watch_duty.specs.Duty.{next_link}
pub use Rattle.watch_duty.proofs.Members.{Has, has-contains, has-filter, has-map, only-found, all-has, any-map, has-flat_map, contains-has, has-cases, has-left, has-right}
pub use Rattle.watch_duty.proofs.Dues.{IsDue, due_for-due, DueAfter, DueBetween, DueBefore, DueRespond}
pub use Rattle.coin_safety.specs.declared.kept.Kept.{Kept}
pub use Rattle.coin_safety.specs.Numbers.{later, later as after}
unfoldable pub use Rattle.coin_safety.specs.Numbers.{least}
pub use Rattle.coin_safety.specs.Advice.{standing, tip, exit_in, due, takes, missing, calls_of, holder, is_answered, before_by, again_for, shown_again, start_of, own_start, instead, is_to_finish, has_challenged, is_own, finishes, timed}
unfoldable pub use Rattle.coin_safety.specs.Advice.{left_by, answer_shown, start_shown}
pub use Rattle.coin_safety.specs.Words.{answer_end, window_end, end_of_call, answer_ends, ends_of, next_line, starter, word_of}
unfoldable pub use Rattle.coin_safety.specs.Words.{payment}
pub use Rattle.coin_safety.specs.Laws.{AreAhead, ends, NothingIsDue, is_poor, IsPaidOut, Tells, IsFirst}
unfoldable pub use Rattle.coin_safety.specs.Laws.{with_calls}
pub use Rattle.coin_safety.specs.declared.word.Word.TheVariants.{Paid, Gone, Safe, Act, Leaving, Late}
pub use Rattle.coin_safety.specs.declared.word.Word.{Word}
pub use Rattle.coin_safety.proofs.Telling.{words_tell}
