-- The samples, computed.
use Rattle.std.proofs.Common.{refl}
use Rattle.gate_journal.specs.Image.{records_from}
use Rattle.lms_sign.specs.Types.{height, u32_at}
use Rattle.leaf_journal.specs.Records.{records_behind_of}
use Rattle.plasma_tx.specs.Openings.{leaf_in}
use Rattle.plasma_tx.specs.Spelling.{body_text, body_in, owner_text, owner_in, signed_in}
use Rattle.plasma_tx.specs.Transfer.{transfer_in}
use Rattle.plasma_tx.specs.Views.{now, blocks, coins, block_at, coin_at, responses, exits, exit_at, is_withdrawn}
use Rattle.plasma_tx.specs.Shown.{shown_tx}
use Rattle.plasma_tx.specs.Table.{answer_to}
use Rattle.plasma_tx.specs.Money.{pays, takes, share_of, balance_of, funded}
use Rattle.coin_history.specs.History.{links_in}
use Rattle.coin_history.specs.Checking.{above, history_of, lowest_failure}
use Rattle.wallet_core.specs.State.{greatest, sending_leaf, state_of}
use Rattle.node_rules.specs.WalletRecords.{identity_in, identity_text, note_in as wallet_note, notes_of as wallet_notes, who_is}
use Rattle.node_rules.specs.Wallet.{again_answer}
use Rattle.node_rules.specs.WalletOpening.{is_wallet}
use Rattle.operator_rules.specs.Records.{identity_in as operator_in, identity_text as operator_text, note_in, note_text, notes_of, who_is as operator_who}
use Rattle.receipt_audit.specs.Promises.{promise_text}
use Rattle.tag_laws.specs.Samples.{OthersAreOpened, OthersCount, OthersAreTold}

pub others_are_opened : OthersAreOpened
unfolding records_from records_behind_of body_text body_in owner_text owner_in identity_in identity_text wallet_note
    wallet_notes who_is is_wallet operator_in operator_text note_in note_text notes_of operator_who promise_text
    signed_in height
others_are_opened = record {
  apart = refl;
  named = refl;
  promised = refl;
  leaves = refl;
  promises = refl;
  wallets = λ dig. refl;
  offers = refl;
  other_offers = refl;
  notes = refl;
}

pub others_count : OthersCount
unfolding body_text body_in owner_text owner_in identity_in identity_text who_is promise_text again_answer greatest
    sending_leaf state_of now blocks coins block_at coin_at responses exits exit_at is_withdrawn
others_count = record {
  held = refl;
  sending = refl;
  again = refl;
  alike = record { notes = refl; marked = refl; leaves = refl };
  desks = refl;
  desks_marked = refl;
}

pub others_are_told : OthersAreTold
unfolding body_text body_in owner_text owner_in signed_in transfer_in leaf_in links_in above history_of lowest_failure
    answer_to shown_tx u32_at balance_of pays takes share_of funded now blocks coins block_at coin_at responses exits
    exit_at is_withdrawn
others_are_told = record { history = refl; other_history = refl; accepted = refl; refused = refl }
