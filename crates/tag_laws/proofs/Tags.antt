-- Bytes of another tag are read as no transfer of the chain.
use Rattle.std.proofs.Common.{◌≡◌, ℕ, false, List, length, Some, None, refl, ap, ◌∙◌, arith, rules}
use Rattle.std.specs.List.{slice_range}
use Rattle.std.specs.Str.{bytes_eq}
use Rattle.std.proofs.lemmas.Bool.{le-ltb, false_from_ne_true}
use Rattle.std.proofs.lemmas.Slice.Eq.{bytes_eq-Decides}
use Rattle.std.proofs.lemmas.Grind.{common_steps}
use Rattle.plasma_tx.specs.declared.signed_tx.SignedTx.{SignedTx}
use Rattle.plasma_tx.specs.Spelling.{body_in, body_length, signed_in}
use Rattle.plasma_tx.specs.Transfer.{transfer_in}
use Rattle.plasma_tx.specs.Shown.{shown_tx}
use Rattle.plasma_tx.proofs.Spellings.{signed_in-ok}
use Rattle.plasma_tx.proofs.Leaves.{transfer-read}
use Rattle.plasma_tx.proofs.Accepted.{openings_show}
use Rattle.coin_history.specs.History.{leaf_of_opening}
use Rattle.tag_laws.specs.Tags.{tag_named, IsOfChain, ReadTransfersHaveTheTag, OthersAreRefused, OthersAreNoTransfers, OthersAreNotShown}

pub read_transfers_have_the_tag : ReadTransfersHaveTheTag
read_transfers_have_the_tag tag bytes tx is =
    let known = signed_in-ok tag bytes tx is in
    record {
      read = is;
      tag_is = ap (λ (t : SignedTx). t.body.tag) known.1 ∙ known.0.tagged;
      coin_is = refl;
      named = known.0.tagged;
    }

-- a leaf that spells a transfer of the coin
pub transfer-own : (tag leaf : List ℕ) (coin block : ℕ) (tx : SignedTx) → transfer_in tag coin block leaf ≡ Some tx
    → IsOfChain tag coin leaf tx
transfer-own tag leaf coin block tx is =
    let read = transfer-read tag leaf coin block tx is in
    let own = read_transfers_have_the_tag tag leaf tx read.0 in
    record { read = read.0; tag_is = read.1; coin_is = read.2; named = own.named }

pub others_are_refused : OthersAreRefused
unfolding signed_in body_in
others_are_refused tag bytes tx other is =
    let fits = (signed_in-ok (tag_named bytes) bytes tx is).0 in
    let unlike : bytes_eq (slice_range bytes 4 36) tag ≡ false =
    false_from_ne_true _ (λ same. other ((bytes_eq-Decides (slice_range bytes 4 36) tag).0 same)) in
    rw (le-ltb (length bytes) (body_length bytes) fits.long, fits.marked, unlike) refl

pub others_are_no_transfers : OthersAreNoTransfers
others_are_no_transfers tag leaf coin block other = grind (arith, common_steps, transfer-own)

pub others_are_not_shown : OthersAreNotShown
others_are_not_shown tests rules log coin opening other =
    (elim (shown_tx tests rules log coin opening) as (λ o. shown_tx tests rules log coin opening ≡ o → o ≡ None) [
      | None ↦ λ is. refl
      | Some tx ↦ λ is. absurd (other (transfer-own rules.tag (leaf_of_opening opening) coin opening.block tx
          (openings_show tests rules log coin opening tx is).spelled).named)
    ]) refl
