-- Names that many files beside this one use: lists and numbers, coins and their exits, and what is safe.
pub use Rattle.std.proofs.Common.{take, ◌≡◌, ℕ, ◌+◌, ◌<◌, ◌≤◌, ◌==◌, ◌&&◌, ◌||◌, true, false, if◌then◌else◌, List, [], ◌∷◌, ◌++◌, map, filter, Some, None, inl, inr, refl, sym, ap, ◌∙◌, subst, arith, zero, suc, length, drop, get_or, reverse, slice_set, slice_index_or, rules, append-nil, cond, Option, ◌-◌, not, Bool, min, ◌⊎◌, find, drop-cons}
pub use Rattle.std.specs.Prelude.{is_some, nat_lt, slice_get, is_none, nat_le, unwrap_or}
pub use Rattle.std.specs.List.{Contains, flat_map, list_any, sum_by, fold, AllByRecursion, AllPairs, list_all}
pub use Rattle.std.specs.Option.{option_and_then, option_map, option_map_or, option_copied, option_or, option_to_list}
pub use Rattle.std.proofs.lemmas.Bool.{and_parts, and_from, eqb-true, eq-eqb, lt-ltb, ltb-true, ltb-false, leb-true, true≢false, le-ltb, not-true, ne_eqb, leb-false, cases_eq}
pub use Rattle.std.specs.Ordering.{nat_cmp}
pub use Rattle.std.specs.BTreeMap.{get, is_at}
pub use Rattle.std.proofs.lemmas.Option.{slice_get-get_or}
pub use Rattle.std.proofs.lemmas.List.Elements.{recursion_from_All, filter_more}
pub use Rattle.std.proofs.lemmas.List.{flat_map_more, take_more, reverse-append, reverse-reverse, length-reverse, length-take-le, append_assoc, map_more, map-append}
pub use Rattle.plasma_tx.specs.declared.owner.Owner.{Owner}
pub use Rattle.plasma_tx.specs.declared.opening.RawOpening.{RawOpening}
pub use Rattle.plasma_tx.specs.declared.signed_tx.SignedTx.{SignedTx}
pub use Rattle.plasma_tx.specs.declared.links.Links.{Links}
pub use Rattle.plasma_tx.specs.declared.call.Shown.{Shown}
pub use Rattle.plasma_tx.specs.declared.call.Shown.TheVariants.{Spend, Deposit as AtDeposit}
pub use Rattle.plasma_tx.specs.declared.call.RootCall.{RootCall}
pub use Rattle.plasma_tx.specs.declared.call.RootCall.TheVariants.{Fund, Tick, Deposit, Commit, StartDeposit, StartSpend, After, Between, Before, Respond, Finish}
pub use Rattle.plasma_tx.specs.declared.views.ChallengeView.{ChallengeView}
pub use Rattle.plasma_tx.specs.declared.views.CoinView.{CoinView}
pub use Rattle.plasma_tx.specs.declared.views.ExitView.{ExitView}
pub use Rattle.plasma_tx.specs.declared.rules.TheConstants.{CHALLENGE_BOND, CHALLENGE_WINDOW, EXIT_PERIOD, EXIT_BOND, RESPONSE_WINDOW}
pub use Rattle.plasma_tx.specs.ChallengeLists.{is_challenged}
pub use Rattle.plasma_tx.specs.Accepted.{ShowsTx, StartsSpend, CancelsBetween, StartsDeposit, Responds}
pub use Rattle.plasma_tx.specs.Links.{tip_of, last_spend, last_owner_of}
unfoldable pub use Rattle.plasma_tx.specs.Money.{balance_of, share_of, takes as taken}
pub use Rattle.plasma_tx.specs.Shown.{Tests, Rules, root_at, shown_owner}
pub use Rattle.plasma_tx.specs.Table.{answer_to, is_accepted, is_before_parent, is_over, is_parent_of}
pub use Rattle.plasma_tx.specs.Views.{Exit, is_exit, exit_view, challenge_view, deposit_exit, spend_exit, block_of, has_no_open_challenge}
unfoldable pub use Rattle.plasma_tx.specs.Views.{now, coin_at, exits, exit_at, exits_of, is_withdrawn, blocks, coins, responses}
pub use Rattle.plasma_tx.proofs.Accepted.{accepted_calls_show, owners_are_read}
pub use Rattle.plasma_tx.proofs.Acceptance.{transfers_are_shown, shown_calls_are_accepted}
pub use Rattle.plasma_tx.proofs.Names.{some_same, eqb-flip, challenge-at, option_or-none}
pub use Rattle.coin_history.specs.declared.bundle.Bundle.{Bundle}
pub use Rattle.coin_history.specs.History.{IsHistory, opens_block, links_in, links_of}
unfoldable pub use Rattle.coin_history.specs.History.{AreLinked}
pub use Rattle.coin_history.proofs.HistoryGrow.{root_at-grown, committed-le}
pub use Rattle.watch_duty.specs.Duty.{due_for, due_of, tip_shown, within, link_after, guard_of}
pub use Rattle.watch_duty.specs.Laws.{HaveOneLeaf, openings_of_call, is_poor_before}
unfoldable pub use Rattle.watch_duty.specs.Laws.{IsLegalBy}
pub use Rattle.watch_duty.proofs.Members.{Has, has-contains, contains-has, has-left, has-cases, has-map, has-filter, has-flat_map, all-has, only-found, none-found, any-map, has-right}
pub use Rattle.watch_duty.proofs.Shown.{seen, IsShownAt, Deposited, Transferred, IsBegun, OfDeposit, OfSpend, IsShownExit, exits-shown}
pub use Rattle.coin_safety.specs.declared.kept.Kept.{Kept}
pub use Rattle.coin_safety.specs.Advice.{standing, exit_in, lowest, earlier_spend, instead, is_to_finish, has_challenged, is_own, own_start, finishes, due, shown_again, timed, calls_of, tip, again_for, is_answered, answer_in, left_in, takes, holder, may_leave, is_planted, start_by, start_of, before_by, missing}
unfoldable pub use Rattle.coin_safety.specs.Advice.{start_shown, answer_shown, left_by}
pub use Rattle.coin_safety.specs.Laws.{is_poor, ActsAreAccepted, IsMet, NothingDueIsLeftOut, EnoughIsEnough, NoneIsPoor, IsHere, ends, AreAhead, NothingIsDue, IsToLeave, IsActBy, IsFresh, IsPaidOut, IsFirst, IsAway, Tells, WordsTell}
unfoldable pub use Rattle.coin_safety.specs.Laws.{with_calls}
pub use Rattle.coin_safety.specs.declared.kept.Sent.{Sent}
pub use Rattle.plasma_tx.proofs.States.{is_at-nat}
pub use Rattle.plasma_tx.specs.declared.links.Link.{Link}
pub use Rattle.coin_history.proofs.HistoryLinks.{tip_from, owner_from, tip-is, last_owner-is}
pub use Rattle.watch_duty.proofs.GuardLinks.{Rises, has-above, links-opened, rises-from, has-tip, tip-link, follows}
pub use Rattle.coin_safety.specs.Numbers.{later}
unfoldable pub use Rattle.coin_safety.specs.Numbers.{least}
pub use Rattle.coin_safety.specs.Words.{ends_of, end_of_call, answer_ends, is_strange, away, sent_word, left_leaf, left_word, next_line, starter, paid_by, paid_word, first_end, come, late_word, stale_word, due_by, at_once, act_by, act_word, leaving_word, safe_word}
unfoldable pub use Rattle.coin_safety.specs.Words.{payment}
pub use Rattle.plasma_tx.specs.Standing.{Standing, new_exit, standing_after, change_of, standing_of, has_no_open_view}
pub use Rattle.plasma_tx.proofs.CoinExits.{after-change, views}
pub use Rattle.coin_safety.specs.Lean.{FollowsAll, own_bonds, Follows, lean, concerns, payment_by, share, cancel_share, payout_share, finish_share, paid_to, taken_of}
pub use Rattle.coin_safety.specs.Index.{AreLowest, spend_in}
pub use Rattle.coin_safety.specs.declared.payment.Payment.{Payment}
