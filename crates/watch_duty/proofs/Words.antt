-- Names that many files beside this one use: lists and numbers, calls and coins, and the calls that are due.
pub use Rattle.std.proofs.Common.{◌≡◌, ◌++◌, take, ◌⊎◌, ℕ, ◌+◌, ◌<◌, ◌==◌, Bool, true, false, if◌then◌else◌, List, [], Option, Some, None, inl, inr, refl, arith, ◌∷◌, map, sym, ap, ◌∙◌, subst, find, length, get_or, suc, ◌&&◌, not, cond, zero, ◌≤◌, ◌||◌, filter, drop}
pub use Rattle.std.specs.Prelude.{nat_lt, unwrap_or, is_some, slice_get}
pub use Rattle.std.specs.Option.{option_map, option_map_or, option_or, option_and_then}
pub use Rattle.std.specs.List.{flat_map, AllByRecursion, position, Contains, list_any, AllPairs, cons_option}
pub use Rattle.std.proofs.lemmas.Bool.{and_parts, eqb-true, ltb-true, leb-false, not-true, eq-eqb, cases_lt, lt-ltb, le-ltb, or_left, or_right, true≢false, cases_eq, ne_eqb, and_from, ltb-false}
pub use Rattle.std.proofs.lemmas.List.Elements.{recursion_from_All, filter-append}
pub use Rattle.std.proofs.lemmas.Grind.{common_steps}
pub use Rattle.plasma_tx.specs.declared.owner.Owner.{Owner}
pub use Rattle.plasma_tx.specs.declared.opening.RawOpening.{RawOpening}
pub use Rattle.plasma_tx.specs.declared.signed_tx.SignedTx.{SignedTx}
pub use Rattle.plasma_tx.specs.declared.links.Link.{Link}
pub use Rattle.plasma_tx.specs.declared.links.Links.{Links}
pub use Rattle.plasma_tx.specs.declared.call.Shown.TheVariants.{Deposit as AtDeposit, Spend}
pub use Rattle.plasma_tx.specs.declared.call.RootCall.{RootCall}
pub use Rattle.plasma_tx.specs.declared.call.RootCall.TheVariants.{After, Between, Before, Respond, StartDeposit, StartSpend, Deposit}
pub use Rattle.plasma_tx.specs.declared.views.ChallengeView.{ChallengeView}
pub use Rattle.plasma_tx.specs.declared.views.CoinView.{CoinView}
pub use Rattle.plasma_tx.specs.declared.views.ExitView.{ExitView}
pub use Rattle.plasma_tx.specs.ChallengeLists.{is_challenged}
pub use Rattle.plasma_tx.specs.Links.{tip_of}
pub use Rattle.plasma_tx.specs.Views.{now, Challenge, Exit, block_of, owner_of, owner_of_coin, owner_of_opening, is_exit, deposit_exit, spend_exit, with_exit_changed, with_answer_at, with_challenge, new_challenge, challenge_at, coins, exit_view, challenge_view}
unfoldable pub use Rattle.plasma_tx.specs.Views.{coin_at, exits, exit_at, exits_of}
pub use Rattle.plasma_tx.specs.declared.rules.TheConstants.{CHALLENGE_WINDOW, RESPONSE_WINDOW, CHALLENGE_BOND}
pub use Rattle.plasma_tx.specs.Shown.{Tests, Rules, shown_tx, shown_owner, root_at}
pub use Rattle.plasma_tx.specs.Table.{is_before_parent, is_parent_of, answer_to, is_accepted}
pub use Rattle.plasma_tx.specs.Accepted.{ShowsTx, StartsDeposit, StartsSpend, Challenges, CancelsAfter, CancelsBetween, Responds}
pub use Rattle.plasma_tx.proofs.Each.{some_same, all-append, all-map, all-weaker, each-exit}
pub use Rattle.plasma_tx.proofs.RuleNames.{exits-distinct, one_if, challenged-once, is_at}
unfoldable pub use Rattle.plasma_tx.proofs.RuleNames.{count}
pub use Rattle.coin_history.proofs.HistoryLinks.{tip_from, tip-is, with_tx}
pub use Rattle.watch_duty.specs.Duty.{answer, due_for, link_after, tip_shown, within, old_owner, second_spend, planted_parent, answers, guard_of, due_of}
unfoldable pub use Rattle.watch_duty.specs.Duty.{due_calls, next_link}
pub use Rattle.watch_duty.specs.Laws.{shown_openings, openings_of_call, link_by_place, by_link, response_by_place, due_by_place, LinksAreByPlace, DueCallsAreByPlace, HaveOneLeaf, is_poor_before, DueCallsAreAccepted, is_challenge, NothingIsDueWithoutExits, OneChallengeIsDue}
unfoldable pub use Rattle.watch_duty.specs.Laws.{IsLegalBy}
pub use Rattle.watch_duty.specs.declared.guard.Guard.{Guard}
pub use Rattle.watch_duty.specs.Watches.{log_of, links_of}
