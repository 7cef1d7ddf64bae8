-- What is kept of records: the leaves' form, and what a message spells.
use Rattle.wallet_node.proofs.Words.{◌≡◌, ◌≤◌, ℕ, List, [], ◌∷◌, ◌++◌, length, Ok, sym, ◌∙◌, ap, arith, All, All-push, All-nil, common_steps, most, spelled, Spells, journal_in, every_message, leaf_records, leaf_records_of, leaf_records_read, leaf_records_read_of, MessagesPass, is_body}
use Rattle.node_journal.proofs.Openings.{read_kept}
use Rattle.gate_journal.proofs.Read.{spelled_is_read}
use Rattle.leaf_journal.proofs.Form.{behind-keeps, follows_short}
use Rattle.leaf_journal.proofs.KindRecords.{kind_records}

short-all : (leaves : ℕ) (records : List (List ℕ)) → leaf_records leaves records ≡ Ok records
    → All (λ body. length body ≤ most) records
short-all leaves records are =
    behind-keeps every_message leaves (All (λ body. length body ≤ most))
    (λ before body all may.
    All-push (λ one. length one ≤ most) before body all
    (let short = follows_short leaves before body may in omega (arith, short)))
    [] records records are (All-nil _)

-- records of leaves whose messages are bodies
pub passing-leaves : (leaves : ℕ) (records : List (List ℕ)) → leaf_records leaves records ≡ Ok records
    → MessagesPass is_body records → leaf_records_of is_body leaves records ≡ Ok records
passing-leaves leaves records are pass =
    let image = spelled records ++ 0 ∷ [] in
    let spells : Spells image records = grind (arith, common_steps, short-all) steps 20000 in
    let read : journal_in image ≡ Ok records = read_kept image records (spelled_is_read image records spells) in
    let found = (kind_records is_body leaves image records).1 (ap (leaf_records_read leaves) read ∙ are, pass) in
    sym (ap (leaf_records_read_of is_body leaves) read) ∙ found
