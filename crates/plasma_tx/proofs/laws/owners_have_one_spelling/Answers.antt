use Rattle.plasma_tx.proofs.Spellings.{owner_in-text, owner_text-in, owner_in-is}
use Rattle.plasma_tx.proofs.laws.owners_have_one_spelling.Goals as goal

pub returns : goal.returns
returns c =
    record {
      read_back = owner_in-text;
      one =
          λ bytes small long. (owner_text-in bytes small long, owner_in-is bytes small long);
    }
