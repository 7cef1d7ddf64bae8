-- The opening of notes.
use Rattle.node_journal.proofs.Words.{◌≡◌, ℕ, List, Ok, arith, common_steps, journal_in, Keeps}

-- what is kept was read
pub read_kept : (image : List ℕ) (records : List (List ℕ)) → Keeps records image → journal_in image ≡ Ok records
read_kept image records keeps = grind (arith, common_steps) steps 20000
