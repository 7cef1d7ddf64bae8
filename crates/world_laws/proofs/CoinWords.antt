-- What the files beside this one say of coins: calls, views, histories, signatures, and what endangers a coin.
pub use Rattle.lms_sign.specs.Types.{is_supported}
unfoldable pub use Rattle.lms_sign.specs.Types.{height, chains, u32_at}
pub use Rattle.lms_sign.specs.Tree.{signature_of}
pub use Rattle.sparse_merkle.specs.declared.tree.Entry.{Entry}
unfoldable pub use Rattle.sparse_merkle.specs.TreeDigest.{leaf_of, subtree_digest, root_of}
pub use Rattle.sparse_merkle.specs.MaskedPath.{MaskedPath, has_proof_length, mask_in}
unfoldable pub use Rattle.sparse_merkle.specs.MaskedPath.{proof_path, set_bits, siblings_in, proof_in, lowest_default}
unfoldable pub use Rattle.sparse_merkle.specs.Opening.{hashed_strings, is_opening, hashed_string}
pub use Rattle.plasma_tx.specs.declared.body.Body.{Body}
pub use Rattle.plasma_tx.specs.declared.opening.RawOpening.{RawOpening}
pub use Rattle.plasma_tx.specs.declared.signed_tx.SignedTx.{SignedTx}
pub use Rattle.plasma_tx.specs.declared.call.RootCall.{RootCall}
pub use Rattle.plasma_tx.specs.Transfer.{may_stand_in}
unfoldable pub use Rattle.plasma_tx.specs.Transfer.{is_signed_by, transfer_in, recipient_in}
pub use Rattle.plasma_tx.specs.Views.{new_coin, Exit, exit_view, has_no_open_challenge, Challenge, challenge_at, challenge_view, block_of, is_exit, without_exit, with_challenge, with_answer, new_challenge, with_exit_changed, with_answer_at, spend_exit}
unfoldable pub use Rattle.plasma_tx.specs.Views.{blocks, coin_at, is_withdrawn, now, coins, responses, exits, exit_at, exits_of, block_at}
pub use Rattle.plasma_tx.specs.Shown.{Tests, Rules, root_at, tests_by, root_in, rules_of, shown_owner}
unfoldable pub use Rattle.plasma_tx.specs.Shown.{shown_tx}
pub use Rattle.plasma_tx.specs.declared.call.RootCall.TheVariants.{Deposit, Commit, Fund, Tick, StartSpend, After, Respond, Finish, Between, Before, StartDeposit}
pub use Rattle.plasma_tx.specs.declared.links.Links.{Links}
pub use Rattle.plasma_tx.specs.declared.owner.Owner.{Owner}
pub use Rattle.plasma_tx.specs.declared.views.CoinView.{CoinView}
pub use Rattle.plasma_tx.specs.declared.call.Shown.TheVariants.{Deposit as AtDeposit, Spend}
pub use Rattle.plasma_tx.specs.Laws.{is_respond, is_start, is_end, is_challenged_at}
pub use Rattle.plasma_tx.specs.declared.views.ExitView.{ExitView}
pub use Rattle.plasma_tx.specs.Links.{last_owner_of, tip_of, last_spend}
pub use Rattle.plasma_tx.specs.Spelling.{IsOwner, IsBody, body_at_start, AreBytes, body_length, with_signature}
unfoldable pub use Rattle.plasma_tx.specs.Spelling.{signed_in, owner_text, body_text, owner_in, body_in, signed_text}
pub use Rattle.plasma_tx.specs.declared.opening.Opening.{Opening}
pub use Rattle.plasma_tx.specs.declared.links.Link.{Link}
pub use Rattle.plasma_tx.specs.declared.rules.TheConstants.{CHALLENGE_WINDOW, RESPONSE_WINDOW, EXIT_PERIOD, EXIT_BOND}
pub use Rattle.plasma_tx.specs.declared.call.Shown.{Shown}
pub use Rattle.plasma_tx.specs.Table.{is_accepted, decided, finish_causes, finish_effect, is_payable, where_exit, Cause, too_poor, is_committed_after, is_parent_of}
unfoldable pub use Rattle.plasma_tx.specs.Table.{answer_to, log_after, IsLegal as IsLegalLog}
pub use Rattle.plasma_tx.specs.Openings.{leaf_length}
unfoldable pub use Rattle.plasma_tx.specs.Openings.{leaf_in, opening_in}
pub use Rattle.plasma_tx.specs.declared.answer.Answer.{Answer}
pub use Rattle.plasma_tx.specs.Accepted.{CancelsAfter, CancelsBetween, ShowsTx, StartsSpend, StartsDeposit, Challenges, Responds}
pub use Rattle.plasma_tx.specs.RuleLaws.{is_paid}
pub use Rattle.plasma_tx.specs.Chain.{Chain, with_log}
pub use Rattle.plasma_tx.specs.declared.signed_tx.TxRefusal.{TxRefusal}
pub use Rattle.plasma_tx.specs.declared.answer.Refusal.{Refusal}
pub use Rattle.plasma_tx.proofs.Leaves.{transfer-read, empty-none}
pub use Rattle.plasma_tx.proofs.Bounds.{coin_at-le, exits_are_their_owners, responds_answer}
pub use Rattle.plasma_tx.proofs.OpeningTexts.{leaf-shown, opening_in-ok}
pub use Rattle.plasma_tx.proofs.Accepted.{accepted_calls_show, openings_show}
pub use Rattle.plasma_tx.proofs.RuleNames.{exits-distinct}
pub use Rattle.plasma_tx.proofs.Each.{all-weaker, each-exit, all-append, all-map, all-filter}
pub use Rattle.coin_history.specs.declared.bundle.Bundle.{Bundle}
pub use Rattle.coin_history.specs.History.{leaf_of_opening, transfer_of, IsHistory, links_of, is_absent, opens_block, IsAbsent, is_committed, link_of}
unfoldable pub use Rattle.coin_history.specs.History.{committed_blocks, AreLinked, links_in}
pub use Rattle.coin_history.specs.Bundles.{IsBundle, Items, AreRising, length_at, items_in, bundle_of, item_text}
unfoldable pub use Rattle.coin_history.specs.Bundles.{bundle_in, bundle_text}
pub use Rattle.coin_history.specs.Checking.{history_of, is_asked, opening_at, absence_of}
pub use Rattle.coin_history.proofs.HistoryGrow.{root_at-grown, histories_stay, committed-le, coin_at-grown}
pub use Rattle.coin_history.proofs.BundleLaws.{bundle_in-text, items_in-ok}
pub use Rattle.coin_history.proofs.HistoryFound.{histories_are_found}
pub use Rattle.coin_history.proofs.HistoryLinks.{tip-is, tip_from, none-linked, owner_from, last_owner-is, with_tx}
pub use Rattle.coin_history.proofs.CheckFacts.{tagged-same, empty-is}
pub use Rattle.wallet_core.specs.declared.notes.CoinTip.{CoinTip}
pub use Rattle.wallet_core.specs.declared.notes.Notes.{Notes}
pub use Rattle.wallet_core.specs.declared.coin_state.CoinState.TheVariants.{Leaving, Held, Nothing, Sending}
pub use Rattle.wallet_core.specs.State.{own_deposit, noted_tips, tips_of, is_noted, is_owner, spends_tip, sends_by}
unfoldable pub use Rattle.wallet_core.specs.State.{greatest}
pub use Rattle.wallet_core.specs.Laws.{IsTip}
pub use Rattle.wallet_core.specs.declared.coin_state.CoinState.{CoinState}
pub use Rattle.wallet_core.specs.declared.notes.LeafRecord.{LeafRecord}
pub use Rattle.wallet_core.proofs.StateLaws.{kept_coins_are_held, held_coins_are_kept, leaving_is, held_is, sending_is}
pub use Rattle.watch_duty.specs.Duty.{due_for, due_of, link_after, tip_shown, within, answer}
unfoldable pub use Rattle.watch_duty.specs.Duty.{next_link}
pub use Rattle.watch_duty.specs.Laws.{HaveOneLeaf, is_poor_before, openings_of_call, shown_openings}
unfoldable pub use Rattle.watch_duty.specs.Laws.{IsLegalBy}
pub use Rattle.watch_duty.proofs.Members.{Has, has-left, has-cases, has-contains, contains-has, has-right, has-filter, has-map, any-has, any-map, has-flat_map, only-found, all-has}
pub use Rattle.watch_duty.proofs.Dues.{IsDue, due_for-due, IsDue as IsDueFor, DueAfter, DueBetween, DueBefore, DueRespond}
pub use Rattle.watch_duty.proofs.Shown.{seen as log_seen, IsSpent, IsShownAt as IsLogShownAt, Deposited as LogDeposited, Transferred as LogTransferred, IsShownChallenge as IsLogShownChallenge, IsBegun as IsLogBegun, OfDeposit as LogOfDeposit, OfSpend as LogOfSpend, IsShownExit as IsLogShownExit, exits-shown}
