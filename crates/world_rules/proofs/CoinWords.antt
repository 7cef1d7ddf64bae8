-- What the files beside this one say of coins: calls, views, histories, signatures, and what endangers a coin.
pub use Rattle.lms_sign.specs.declared.types.LmsTypes.{LmsTypes}
pub use Rattle.lms_sign.specs.Types.{is_supported, leaf_count}
pub use Rattle.lms_sign.specs.Tree.{public_key_of, signature_of}
pub use Rattle.sparse_merkle.specs.declared.tree.Entry.{Entry}
pub use Rattle.sparse_merkle.specs.TreeDigest.{entry_of, with_leaf, near_part, far_part, root_of}
unfoldable pub use Rattle.sparse_merkle.specs.TreeDigest.{leaf_of, subtree_digest, path_below, path_to}
pub use Rattle.plasma_tx.specs.declared.owner.Owner.{Owner}
pub use Rattle.plasma_tx.specs.declared.opening.RawOpening.{RawOpening}
pub use Rattle.plasma_tx.specs.declared.links.Links.{Links}
pub use Rattle.plasma_tx.specs.declared.call.RootCall.{RootCall}
pub use Rattle.plasma_tx.specs.declared.views.CoinView.{CoinView}
pub use Rattle.plasma_tx.specs.Links.{tip_of, last_owner_of}
unfoldable pub use Rattle.plasma_tx.specs.Views.{coin_at, blocks, coins}
pub use Rattle.plasma_tx.specs.Shown.{tests_by, Rules, rules_of, Tests, root_at}
pub use Rattle.plasma_tx.specs.declared.body.Body.{Body}
pub use Rattle.plasma_tx.specs.Spelling.{IsOwner, AreBytes, body_text, number_at, body_at_start, IsBody}
unfoldable pub use Rattle.plasma_tx.specs.Spelling.{owner_in, signed_text}
pub use Rattle.plasma_tx.specs.Table.{answer_to, is_accepted}
unfoldable pub use Rattle.plasma_tx.specs.Table.{log_after}
pub use Rattle.plasma_tx.proofs.Names.{some_same}
pub use Rattle.plasma_tx.proofs.Each.{all-append, all-filter, all-found, all-weaker}
pub use Rattle.plasma_tx.proofs.Spellings.{owner_in-is, signed_in-text, signed_in-ok}
pub use Rattle.coin_history.specs.declared.bundle.Bundle.{Bundle}
pub use Rattle.coin_history.specs.Bundles.{bundle_in, bundle_text}
pub use Rattle.coin_history.specs.History.{IsHistory, blocks_of}
unfoldable pub use Rattle.coin_history.specs.History.{committed_blocks, links_in}
pub use Rattle.coin_history.specs.declared.refusal.HistoryRefusal.{HistoryRefusal}
pub use Rattle.coin_history.specs.Checking.{may_be_tip}
unfoldable pub use Rattle.coin_history.specs.Checking.{history_of}
pub use Rattle.coin_history.proofs.HistoryGrow.{coin_at-grown}
pub use Rattle.wallet_core.specs.declared.notes.Notes.{Notes}
pub use Rattle.wallet_core.specs.State.{is_owner, is_noted, own_deposit, noted_tips, tips_of, spends_tip, sends_by}
unfoldable pub use Rattle.wallet_core.specs.State.{sending_leaf, holds as wallet_holds, greatest}
pub use Rattle.wallet_core.specs.declared.notes.CoinTip.{CoinTip}
pub use Rattle.wallet_core.specs.declared.notes.LeafRecord.{LeafRecord}
