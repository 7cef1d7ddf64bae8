-- What the files beside this one say of coins: calls, views, histories, signatures, and what endangers a coin.
pub use Rattle.lms_sign.specs.Types.{is_supported, leaf_count}
unfoldable pub use Rattle.lms_sign.specs.Types.{u32_at, height, chains, u32str}
unfoldable pub use Rattle.lms_sign.specs.Tree.{public_key_of, signature_of}
pub use Rattle.sparse_merkle.specs.MaskedPath.{sibling_at}
unfoldable pub use Rattle.sparse_merkle.specs.MaskedPath.{proof_path, set_bits, lowest_default}
pub use Rattle.sparse_merkle.specs.Opening.{parent_string}
unfoldable pub use Rattle.sparse_merkle.specs.Opening.{hashed_strings, hashed_string, is_opening}
pub use Rattle.sparse_merkle.specs.TreeDigest.{leaf_string, bit_of, node_string, default_digest}
unfoldable pub use Rattle.sparse_merkle.specs.TreeDigest.{subtree_digest}
pub use Rattle.plasma_tx.specs.declared.rules.TheConstants.{CHALLENGE_BOND, EXIT_BOND, CHALLENGE_WINDOW, RESPONSE_WINDOW, EXIT_PERIOD}
pub use Rattle.plasma_tx.specs.declared.opening.RawOpening.{RawOpening}
pub use Rattle.plasma_tx.specs.declared.call.RootCall.{RootCall}
pub use Rattle.plasma_tx.specs.declared.call.RootCall.TheVariants.{After, Between, Finish, StartSpend, Before, Respond, Deposit, Tick, StartDeposit, Fund, Commit}
pub use Rattle.plasma_tx.specs.declared.answer.Answer.TheVariants.{Cancelled, Paid, Dropped, Refused}
pub use Rattle.plasma_tx.specs.Laws.{is_end, is_start, start_by, without_challenges, is_challenged_at}
unfoldable pub use Rattle.plasma_tx.specs.Laws.{last_start}
pub use Rattle.plasma_tx.specs.Views.{Challenge, Exit, has_no_open_challenge, block_of, challenge_at, with_answer, is_exit, with_challenge, new_challenge, deposit_exit, spend_exit, exit_view, challenge_view, without_exit, with_exit_changed, owner_of_opening}
unfoldable pub use Rattle.plasma_tx.specs.Views.{exits, exit_at, is_withdrawn, now, blocks, coins, block_at, coin_at, responses, exits_of}
pub use Rattle.plasma_tx.specs.Shown.{Tests, Rules, tests_by, rules_of, root_at, shown_owner, opens_root}
unfoldable pub use Rattle.plasma_tx.specs.Shown.{shown_tx}
pub use Rattle.plasma_tx.specs.Table.{Cause, decided, is_accepted, may_exit_at, is_over, is_before_parent, is_committed_after, is_committed_between, is_payable}
unfoldable pub use Rattle.plasma_tx.specs.Table.{answer_to, log_after, IsLegal, IsLegal as IsLegalLog}
pub use Rattle.plasma_tx.specs.RuleLaws.{is_paid, is_of_exit}
pub use Rattle.plasma_tx.specs.Money.{open_challenges, challenge_bonds, cancel_pays, payout}
unfoldable pub use Rattle.plasma_tx.specs.Money.{share_of, pays, takes, balance_of, funded}
pub use Rattle.plasma_tx.specs.declared.owner.Owner.{Owner}
pub use Rattle.plasma_tx.specs.declared.body.Body.{Body}
pub use Rattle.plasma_tx.specs.declared.signed_tx.SignedTx.{SignedTx}
pub use Rattle.plasma_tx.specs.declared.call.Shown.TheVariants.{Spend, Deposit as AtDeposit}
pub use Rattle.plasma_tx.specs.declared.views.CoinView.{CoinView}
pub use Rattle.plasma_tx.specs.Spelling.{AreBytes, IsOwner, IsBody, mark_of, last_text}
unfoldable pub use Rattle.plasma_tx.specs.Spelling.{owner_text, body_text, signed_text, signed_in, body_in, owner_in}
pub use Rattle.plasma_tx.specs.Transfer.{is_transfer, may_stand_in, kept_transfer}
unfoldable pub use Rattle.plasma_tx.specs.Transfer.{is_signed_by, transfer_in}
pub use Rattle.plasma_tx.specs.declared.call.Shown.{Shown}
pub use Rattle.plasma_tx.specs.Links.{last_owner_of, tip_of}
unfoldable pub use Rattle.plasma_tx.specs.Openings.{leaf_in, opening_in}
pub use Rattle.plasma_tx.specs.declared.links.Links.{Links}
pub use Rattle.plasma_tx.proofs.Ends.{paid_exactly}
pub use Rattle.plasma_tx.proofs.Accepted.{accepted_calls_show}
pub use Rattle.plasma_tx.proofs.Bounds.{coin_at-le, responds_answer}
pub use Rattle.plasma_tx.proofs.Each.{all-append, each-exit, some_same}
pub use Rattle.plasma_tx.proofs.RuleNames.{exits-distinct, challenged-once, filter-none, map-none, count-none}
unfoldable pub use Rattle.plasma_tx.proofs.RuleNames.{count}
pub use Rattle.plasma_tx.proofs.Stands.{exits_stand, same-challenged}
pub use Rattle.plasma_tx.proofs.Answered.{new_challenges_are_open}
pub use Rattle.coin_history.specs.History.{links_of, is_absent, transfer_of, opens_block, IsHistory}
unfoldable pub use Rattle.coin_history.specs.History.{links_in, committed_blocks, AreLinked}
pub use Rattle.wallet_core.specs.State.{is_owner}
pub use Rattle.watch_duty.specs.Duty.{tip_shown, due_for, due_of}
unfoldable pub use Rattle.watch_duty.specs.Duty.{next_link}
pub use Rattle.watch_duty.proofs.Members.{Has, has-contains, contains-has, has-map, has-flat_map, all-has, only-found, has-filter, any-map, none-found}
