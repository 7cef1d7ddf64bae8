-- What records keep of a bound that a two-level signer gives out.
use Rattle.hss_keys.proofs.Words.{◌≡◌, ◌<◌, ◌+◌, ◌-◌, ℕ, List, [], ◌∷◌, ◌++◌, length, Some, Ok, sym, ◌∙◌, ap, arith, length-append, slice_get, get_or_at, slice_get-get_or, common_steps, HssSeed, Entry, Binds, bottom_key, entries_of, entry_text, key_at, message_at, messages_under, opened_count, used_in, IsEntry, level_records, bound_of, HssBoundState, KeepsBound}
use Rattle.hss_keys.proofs.Counts.{entries-more, messages-bound}
use Rattle.hss_keys.proofs.Form.{are_counted}
use Rattle.hss_keys.proofs.Spelling.{entries_are_read_back}

-- the bottom key of a top leaf that has one
pub bottom-kept : (seed : HssSeed) (records : List (List ℕ)) (j : ℕ) (bottom : List ℕ)
    → level_records seed records ≡ Ok records → j < opened_count (entries_of records) → bottom ≡ bottom_key seed j
    → key_at (entries_of records) j ≡ Some bottom
bottom-kept seed records j bottom are within is = grind (arith, common_steps, are_counted, slice_get-get_or) steps 20000

-- a bound is kept where its bottom key and its message are
pub bound-kept : (seed : HssSeed) (records : List (List ℕ)) (j q : ℕ) (message : List ℕ) (bound : HssBoundState)
    → bound ≡ bound_of seed j q message → key_at (entries_of records) j ≡ Some bound.bottom
    → message_at (entries_of records) j q ≡ Some message → KeepsBound records bound
bound-kept seed records j q message bound is key kept = grind (arith, common_steps) steps 20000

-- the entries behind a record that binds a message
pub entries-bound : (records more : List (List ℕ)) (j q : ℕ) (message : List ℕ) → IsEntry (Binds j q message)
    → more ≡ records ++ entry_text (Binds j q message) ∷ []
    → entries_of more ≡ entries_of records ++ Binds j q message ∷ []
entries-bound records more j q message is_entry is =
    grind (arith, common_steps, entries-more, entries_are_read_back) steps 20000

-- and the message that they keep
pub message-kept : (entries : List Entry) (j q : ℕ) (message : List ℕ) → j + 1 ≡ opened_count entries
    → q ≡ used_in entries → message_at (entries ++ Binds j q message ∷ []) j q ≡ Some message
message-kept entries j q message last next =
    let before = messages_under j entries in
    let here : opened_count entries - 1 ≡ j = omega (arith, last) in
    let count : length before ≡ q = ap (λ n. length (messages_under n entries)) (sym here) ∙ sym next in
    ap (λ (l : List (List ℕ)). slice_get l q) (messages-bound entries j q message)
    ∙ slice_get-get_or (before ++ message ∷ []) q []
    (omega (arith, count, length-append before (message ∷ [])))
    ∙ ap (λ (m : List ℕ). Some m) (get_or_at before message [] [] q count)
