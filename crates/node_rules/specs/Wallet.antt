-- What each command of a wallet answers, and the records that it adds, by its notes, its leaves and the log.
use Rattle.std.specs.Prelude.{ℕ, ◌+◌, ◌-◌, ◌==◌, ◌&&◌, ◌||◌, not, Bool, true, false, nat_lt, nat_le, if◌then◌else◌, List, [], ◌∷◌, ◌++◌, length, find, reverse, slice_get, Option, Some, None, unwrap_or, Result, Ok, Err}
use Rattle.std.specs.List.{flat_map, range_with_len}
use Rattle.std.specs.Option.{option_map, option_map_or}
use Rattle.node_journal.specs.Effect.{first_cause}
use Rattle.lms_sign.specs.{Types.{leaf_count}, Tree.{signature_of}}
use Rattle.plasma_tx.specs.{declared.owner.Owner.{Owner}, declared.body.Body.{Body}, declared.links.Link.{Link}, declared.links.Links.{Links}, declared.call.RootCall.{RootCall}, declared.call.RootCall.TheVariants.{StartDeposit, StartSpend}}
use Rattle.plasma_tx.specs.{Links.{last_spend, last_owner_of, tip_of}, Spelling.{body_text}, Views.{blocks, coins, is_withdrawn}, Shown.{tests_by}}
use Rattle.coin_history.specs.{declared.bundle.Bundle.{Bundle}, declared.refusal.HistoryRefusal.{HistoryRefusal}, Bundles.{bundle_in}, Checking.{absence_of}, Laws.{first_links}}
use Rattle.leaf_journal.specs.Records.{binding_record, is_marked, marker, messages_of}
use Rattle.watch_duty.specs.{declared.guard.Guard.{Guard}, Duty.{due_of, tip_shown}}
use Rattle.wallet_core.specs.{declared.notes.LeafRecord.{LeafRecord}, declared.notes.Notes.{Notes}, declared.coin_state.CoinState.{CoinState}, declared.coin_state.CoinState.TheVariants.{Nothing, Sending, Leaving as LeavingCoin, Held}}
use Rattle.wallet_core.specs.State.{is_owner, is_noted, state_of}
use Rattle.node_rules.specs.{declared.answers.Accepted.{Accepted}, declared.answers.Sent.{Sent}, declared.answers.Reclaimed.{Reclaimed}, declared.identity.WalletIdentity.{WalletIdentity}, declared.refusal.WalletRefusal.{WalletRefusal}}
use Rattle.node_rules.specs.declared.refusal.WalletRefusal.TheVariants.{History, NotMine, Withdrawn, ExitStands, NoteTooLong, NotHeld, Leaving, KeySpent, BadLast, OldJournal, AlreadyNew, NotSending, NoLast, NotYet}
use Rattle.node_rules.specs.{Kept.{kept_of, kept_links, links_handed, standing_block, most_note}, Watcher.{is_of}}
use Rattle.node_rules.specs.WalletRecords.{secret_of, owner_of, Accepts, LeavesWith, Reclaims, note_text, who_is, notes_of, accepted_of, state_notes, leaves_in}

-- ---- a wallet's records, and what a command does

-- the records of its notes, its identity first, and those of its leaves
pub record WalletRecords : Type 0 where
  pub notes : List (List ℕ)
  pub leaves : List (List ℕ)

-- the answer of a command, the note that it adds and the leaf's record that it adds; at most one of them
pub record WalletEffect (A : Type 0) : Type 0 where
  pub answer : A
  pub note : Option (List ℕ)
  pub leaf : Option (List ℕ)

-- the command answers so and adds no record; or it adds a note, or a leaf's record
abbrev pub answers : {A : Type 0} → A → WalletEffect A
answers answer = record { answer = answer; note = None; leaf = None }

abbrev pub notes_it : {A : Type 0} → A → List ℕ → WalletEffect A
notes_it answer note = record { answer = answer; note = Some note; leaf = None }

abbrev pub binds_it : {A : Type 0} → A → List ℕ → WalletEffect A
binds_it answer leaf = record { answer = answer; note = None; leaf = Some leaf }

-- the command is refused for the first cause that holds, else it does this
abbrev pub unless : {A : Type 0} → Option WalletRefusal → WalletEffect (Result A WalletRefusal)
    → WalletEffect (Result A WalletRefusal)
unless None effect = effect
unless (Some why) effect = answers (Err why)

-- who the wallet is
abbrev pub who : WalletRecords → WalletIdentity
who wallet = who_is wallet.notes

-- what its notes say
abbrev pub noted : (List ℕ → List ℕ) → WalletRecords → Notes
noted dig wallet = state_notes (owner_of (who wallet)) (notes_of dig wallet.notes)

-- what a coin is to the wallet
unfoldable pub coin_state : (List ℕ → List ℕ) → WalletRecords → List RootCall → ℕ → CoinState
coin_state dig wallet log coin = state_of (noted dig wallet) (leaves_in wallet.leaves) log coin

-- what the wallet keeps of a coin at a tip: what it accepted first, or nothing at its own deposit
abbrev pub kept_at : (List ℕ → List ℕ) → WalletRecords → ℕ → ℕ → Bundle
kept_at dig wallet coin tip =
    unwrap_or (find (is_of coin tip) (accepted_of (notes_of dig wallet.notes)))
    (record { coin = coin; tip = tip; openings = [] })

-- the links of a coin up to a tip; None where the log has no such coin
abbrev pub links_at : (List ℕ → List ℕ) → WalletRecords → List RootCall → ℕ → ℕ → Option Links
links_at dig wallet log coin tip = kept_links (who wallet).tag log (kept_at dig wallet coin tip)

-- an exit of the coin stands
abbrev pub standing_causes : Option ℕ → List (Bool × WalletRefusal)
standing_causes None = []
standing_causes (Some block) = (true, ExitStands block) ∷ []

-- ---- accept

-- what a history is refused for
abbrev pub accept_causes : Owner → List RootCall → Links → List (Bool × WalletRefusal)
accept_causes me log links =
    let size = length (note_text (Accepts (kept_of links))) in
    (
    (not (is_owner (last_owner_of links) me), NotMine)
    ∷ (is_withdrawn log links.coin, Withdrawn)
    ∷ standing_causes (standing_block log links.coin)
    ++ (nat_lt most_note size, NoteTooLong size)
    ∷ []
    )

-- the coin with this tip is the wallet's own deposit, or was noted before
abbrev pub is_known : Notes → Links → Bool
is_known notes links = (tip_of links == links.deposit) || is_noted links.coin (tip_of links) notes.accepted

abbrev pub accept_taken : Notes → Links → WalletEffect (Result Accepted WalletRefusal)
accept_taken notes links =
    let taken : Accepted = record { coin = links.coin; tip = tip_of links } in
    if is_known notes links then answers (Ok taken) else notes_it (Ok taken) (note_text (Accepts (kept_of links)))

abbrev pub accept_by : List RootCall → Notes → Result Links HistoryRefusal
    → WalletEffect (Result Accepted WalletRefusal)
accept_by log notes (Err why) = answers (Err (History why))
accept_by log notes (Ok links) = unless (first_cause (accept_causes notes.me log links)) (accept_taken notes links)

-- a bundle is handed in
unfoldable pub accept_effect : (List ℕ → List ℕ) → WalletRecords → List RootCall → List ℕ
    → WalletEffect (Result Accepted WalletRefusal)
accept_effect dig wallet log bytes =
    accept_by log (noted dig wallet) (links_handed dig (who wallet).tag log bytes)

-- ---- send

-- the number of bound leaves, which is that of the next one
abbrev pub used : WalletRecords → ℕ
used wallet = length (messages_of wallet.leaves)

-- a message with its signature by leaf q
abbrev pub sent_by : WalletIdentity → ℕ → List ℕ → Sent
sent_by who q message = record { q = q; bytes = message ++ signature_of (secret_of who) q message }

-- what a transfer with a last block, or without one, is refused for
abbrev pub last_causes : WalletRecords → List RootCall → Option ℕ → List (Bool × WalletRefusal)
last_causes wallet log None = []
last_causes wallet log (Some last) =
    (nat_le last (blocks log), BadLast (blocks log)) ∷ (not (is_marked wallet.leaves), OldJournal) ∷ []

abbrev pub send_causes : WalletRecords → List RootCall → Option ℕ → List (Bool × WalletRefusal)
send_causes wallet log last =
    last_causes wallet log last
    ++ (nat_le (leaf_count (who wallet).types) (used wallet), KeySpent (used wallet)) ∷ []

-- the next leaf binds the transfer
abbrev pub send_body : WalletRecords → Body → WalletEffect (Result Sent WalletRefusal)
send_body wallet body =
    binds_it (Ok (sent_by (who wallet) (used wallet) (body_text body))) (binding_record wallet.leaves (body_text body))

abbrev pub send_from : WalletRecords → List RootCall → ℕ → Owner → Option ℕ → CoinState
    → WalletEffect (Result Sent WalletRefusal)
send_from wallet log coin to last Nothing = answers (Err NotHeld)
send_from wallet log coin to last (Sending tip q) = answers (Err NotHeld)
send_from wallet log coin to last (LeavingCoin tip) = answers (Err Leaving)
send_from wallet log coin to last (Held tip) =
    unless (first_cause (send_causes wallet log last))
    (send_body wallet (record { tag = (who wallet).tag; coin = coin; parent = tip; to = to; last = last }))

-- a coin is sent, with a last block or without one
unfoldable pub send_effect : (List ℕ → List ℕ) → WalletRecords → List RootCall → ℕ → Owner → Option ℕ
    → WalletEffect (Result Sent WalletRefusal)
send_effect dig wallet log coin to last = send_from wallet log coin to last (coin_state dig wallet log coin)

-- leaf q names the coin
abbrev pub names_coin : List LeafRecord → ℕ → ℕ → Bool
names_coin leaves coin q = option_map_or (λ leaf. leaf.body.coin == coin) (slice_get leaves q) false

-- the last leaf that names the coin
abbrev pub last_leaf : List LeafRecord → ℕ → Option ℕ
last_leaf leaves coin = find (names_coin leaves coin) (reverse (range_with_len 0 (length leaves)))

abbrev pub again_by : WalletRecords → Option ℕ → Result Sent WalletRefusal
again_by wallet None = Err NotSending
again_by wallet (Some q) = Ok (sent_by (who wallet) q (unwrap_or (slice_get (messages_of wallet.leaves) q) []))

-- the transfer that the last leaf for the coin signs, again
unfoldable pub again_answer : WalletRecords → ℕ → Result Sent WalletRefusal
again_answer wallet coin = again_by wallet (last_leaf (leaves_in wallet.leaves) coin)

-- ---- leave and watch

-- the start of an exit at a tip: of the last link, whose parent is shown by the links before; without links that of
-- the
-- deposit
abbrev pub start_by : ℕ → ℕ → Links → Option Link → RootCall
start_by account tip links None = StartDeposit account links.coin tip
start_by account tip links (Some link) =
    StartSpend account links.coin (tip_shown (first_links (length links.spends - 1) links)) link.opening

abbrev pub start_of : ℕ → ℕ → Links → RootCall
start_of account tip links = start_by account tip links (last_spend links)

-- the start of the wallet's exit of a coin at its tip
abbrev pub exit_start : (List ℕ → List ℕ) → WalletRecords → List RootCall → ℕ → ℕ → Result RootCall WalletRefusal
exit_start dig wallet log coin tip =
    option_map_or (λ links. Ok (start_of (who wallet).account tip links)) (links_at dig wallet log coin tip) (Err
    NotHeld)

abbrev pub leave_from : (List ℕ → List ℕ) → WalletRecords → List RootCall → ℕ → CoinState
    → WalletEffect (Result RootCall WalletRefusal)
leave_from dig wallet log coin Nothing = answers (Err NotHeld)
leave_from dig wallet log coin (Sending tip q) = answers (Err NotHeld)
leave_from dig wallet log coin (LeavingCoin tip) = answers (exit_start dig wallet log coin tip)
leave_from dig wallet log coin (Held tip) = notes_it (exit_start dig wallet log coin tip) (note_text (LeavesWith
    coin tip))

-- the wallet leaves with a coin
unfoldable pub leave_effect : (List ℕ → List ℕ) → WalletRecords → List RootCall → ℕ
    → WalletEffect (Result RootCall WalletRefusal)
leave_effect dig wallet log coin = leave_from dig wallet log coin (coin_state dig wallet log coin)

-- what is due for a coin that the wallet has
abbrev pub due_at : (List ℕ → List ℕ) → WalletRecords → List RootCall → ℕ → ℕ → List RootCall
due_at dig wallet log coin tip =
    option_map_or (λ links. due_of log (who wallet).account (record { links = links })) (links_at dig wallet log
    coin tip)
    []

abbrev pub due_in : (List ℕ → List ℕ) → WalletRecords → List RootCall → ℕ → CoinState → List RootCall
due_in dig wallet log coin Nothing = []
due_in dig wallet log coin (Sending tip q) = []
due_in dig wallet log coin (LeavingCoin tip) = due_at dig wallet log coin tip
due_in dig wallet log coin (Held tip) = due_at dig wallet log coin tip

-- what is due for the coins that the wallet holds or leaves with, by rising coin
unfoldable pub watch_answer : (List ℕ → List ℕ) → WalletRecords → List RootCall → List RootCall
watch_answer dig wallet log =
    flat_map (λ coin. due_in dig wallet log coin (coin_state dig wallet log coin)) (range_with_len 1 (coins log))

-- ---- reclaim and migrate

-- the coin was absent, and no exit of it stands
abbrev pub reclaim_shown : List RootCall → Reclaimed → Result Unit HistoryRefusal
    → WalletEffect (Result Reclaimed WalletRefusal)
reclaim_shown log taken (Err why) = answers (Err (History why))
reclaim_shown log taken (Ok done) =
    unless (first_cause (standing_causes (standing_block log taken.coin)))
    (notes_it (Ok taken) (note_text (Reclaims taken.coin taken.tip taken.q)))

-- the transfer in a leaf is taken back, where its last block has passed
abbrev pub reclaim_last : (List ℕ → List ℕ) → List RootCall → Bundle → Reclaimed → Option ℕ
    → WalletEffect (Result Reclaimed WalletRefusal)
reclaim_last dig log bundle taken None = answers (Err NoLast)
reclaim_last dig log bundle taken (Some last) =
    if nat_lt (blocks log) last then answers (Err (NotYet last))
    else reclaim_shown log taken (absence_of (tests_by dig) log taken.tip last bundle)

-- the last block of a leaf's transfer
abbrev pub last_of : List LeafRecord → ℕ → Option ℕ
last_of leaves q = option_map_or (λ leaf. leaf.body.last) (slice_get leaves q) None

abbrev pub reclaim_from : (List ℕ → List ℕ) → WalletRecords → List RootCall → Bundle → CoinState
    → WalletEffect (Result Reclaimed WalletRefusal)
reclaim_from dig wallet log bundle (Sending tip q) =
    reclaim_last dig log bundle (record { coin = bundle.coin; tip = tip; q = q }) (last_of (leaves_in wallet.leaves) q)
reclaim_from dig wallet log bundle state = answers (Err NotSending)

abbrev pub reclaim_by : (List ℕ → List ℕ) → WalletRecords → List RootCall → Result Bundle HistoryRefusal
    → WalletEffect (Result Reclaimed WalletRefusal)
reclaim_by dig wallet log (Err why) = answers (Err (History why))
reclaim_by dig wallet log (Ok bundle) =
    reclaim_from dig wallet log bundle (coin_state dig wallet log bundle.coin)

-- a bundle of absences is handed in
unfoldable pub reclaim_effect : (List ℕ → List ℕ) → WalletRecords → List RootCall → List ℕ
    → WalletEffect (Result Reclaimed WalletRefusal)
reclaim_effect dig wallet log bytes = reclaim_by dig wallet log (bundle_in bytes)

-- the journal of leaves gets its marker
unfoldable pub migrate_effect : WalletRecords → WalletEffect (Result Unit WalletRefusal)
migrate_effect wallet = if is_marked wallet.leaves then answers (Err AlreadyNew) else binds_it (Ok tt) marker
