-- The texts of refusals: the cause's name in lower case with `-` between its words, and its numbers.
use Rattle.std.specs.Prelude.{ℕ, List, [], ◌∷◌, ◌++◌, codes}
use Rattle.std.specs.List.{flat_map}
use Rattle.line_forms.specs.Tokens.{number_text}
use Rattle.plasma_tx.specs.declared.answer.Refusal.{Refusal}
use Rattle.coin_history.specs.declared.refusal.HistoryRefusal.{HistoryRefusal}
use Rattle.node_rules.specs.declared.refusal.WalletRefusal.{WalletRefusal}
use Rattle.node_rules.specs.declared.refusal.WatcherRefusal.{WatcherRefusal}
use Rattle.operator_rules.specs.declared.refusal.OfferRefusal.{OfferRefusal}
use Rattle.operator_rules.specs.declared.refusal.LayRefusal.{LayRefusal}
use Rattle.operator_rules.specs.declared.refusal.SealRefusal.{SealRefusal}
use Rattle.operator_rules.specs.declared.refusal.ProveRefusal.{ProveRefusal}

-- numbers, each after a blank; 32 is the blank
abbrev pub numbers_text : List ℕ → List ℕ
numbers_text numbers = flat_map (λ n. 32 ∷ number_text n) numbers

-- words, and numbers after them
abbrev pub phrase : List ℕ → List ℕ → List ℕ
phrase words numbers = words ++ numbers_text numbers

-- what the contract refuses a call for
abbrev pub contract_cause : Refusal → List ℕ
contract_cause Refusal.SumTooLarge = codes "sum-too-large"
contract_cause (Refusal.ClockBack now) = phrase (codes "clock-back") (now ∷ [])
contract_cause Refusal.ClockTooLarge = codes "clock-too-large"
contract_cause Refusal.BadAmount = codes "bad-amount"
contract_cause Refusal.BadKey = codes "bad-key"
contract_cause (Refusal.NoFunds has needs) = phrase (codes "no-funds") (has ∷ needs ∷ [])
contract_cause Refusal.TooManyBlocks = codes "too-many-blocks"
contract_cause Refusal.NotOperator = codes "not-operator"
contract_cause Refusal.NoCoin = codes "no-coin"
contract_cause Refusal.Withdrawn = codes "withdrawn"
contract_cause Refusal.BadBlock = codes "bad-block"
contract_cause Refusal.NotOwner = codes "not-owner"
contract_cause Refusal.ExitStands = codes "exit-stands"
contract_cause Refusal.BadOpening = codes "bad-opening"
contract_cause Refusal.NotChild = codes "not-child"
contract_cause Refusal.BadSignature = codes "bad-signature"
contract_cause Refusal.NoExit = codes "no-exit"
contract_cause Refusal.Late = codes "late"
contract_cause Refusal.ChallengeStands = codes "challenge-stands"
contract_cause Refusal.NoChallenge = codes "no-challenge"
contract_cause Refusal.Answered = codes "answered"
contract_cause (Refusal.Early opens) = phrase (codes "early") (opens ∷ [])

-- want of memory, a fault of a device, and that an earlier one closed the node, which no replay has
abbrev pub no_memory : List ℕ
no_memory = codes "no-memory"

abbrev pub device_fault : List ℕ
device_fault = codes "device-fault"

abbrev pub closed : List ℕ
closed = codes "closed"

-- what a bundle is refused for
abbrev pub history_cause : HistoryRefusal → List ℕ
history_cause (HistoryRefusal.BadBundle place) = phrase (codes "bad-bundle") (place ∷ [])
history_cause HistoryRefusal.NoCoin = codes "no-coin"
history_cause (HistoryRefusal.UnknownBlock n) = phrase (codes "unknown-block") (n ∷ [])
history_cause (HistoryRefusal.MissingBlock n) = phrase (codes "missing-block") (n ∷ [])
history_cause (HistoryRefusal.BadOpening n) = phrase (codes "bad-opening") (n ∷ [])
history_cause (HistoryRefusal.NotLink n) = phrase (codes "not-link") (n ∷ [])
history_cause (HistoryRefusal.BadSignature n) = phrase (codes "bad-signature") (n ∷ [])
history_cause (HistoryRefusal.NotAbsent n) = phrase (codes "not-absent") (n ∷ [])
history_cause HistoryRefusal.NoMemory = no_memory

-- what a wallet refuses a command for
abbrev pub wallet_cause : WalletRefusal → List ℕ
wallet_cause (WalletRefusal.History why) = history_cause why
wallet_cause WalletRefusal.NotMine = codes "not-mine"
wallet_cause WalletRefusal.Withdrawn = codes "withdrawn"
wallet_cause (WalletRefusal.ExitStands block) = phrase (codes "exit-stands") (block ∷ [])
wallet_cause (WalletRefusal.NoteTooLong count) = phrase (codes "note-too-long") (count ∷ [])
wallet_cause WalletRefusal.NotHeld = codes "not-held"
wallet_cause WalletRefusal.Leaving = codes "leaving"
wallet_cause (WalletRefusal.KeySpent used) = phrase (codes "key-spent") (used ∷ [])
wallet_cause (WalletRefusal.BadLast blocks) = phrase (codes "bad-last") (blocks ∷ [])
wallet_cause WalletRefusal.OldJournal = codes "old-journal"
wallet_cause WalletRefusal.AlreadyNew = codes "already-new"
wallet_cause WalletRefusal.NotSending = codes "not-sending"
wallet_cause WalletRefusal.NoLast = codes "no-last"
wallet_cause (WalletRefusal.NotYet last) = phrase (codes "not-yet") (last ∷ [])
wallet_cause WalletRefusal.DeviceFault = device_fault
wallet_cause WalletRefusal.Closed = closed
wallet_cause WalletRefusal.NoMemory = no_memory

-- what a watcher refuses a command for
abbrev pub watcher_cause : WatcherRefusal → List ℕ
watcher_cause (WatcherRefusal.History why) = history_cause why
watcher_cause WatcherRefusal.Withdrawn = codes "withdrawn"
watcher_cause (WatcherRefusal.ExitStands block) = phrase (codes "exit-stands") (block ∷ [])
watcher_cause (WatcherRefusal.NoteTooLong count) = phrase (codes "note-too-long") (count ∷ [])
watcher_cause WatcherRefusal.NoGuard = codes "no-guard"
watcher_cause WatcherRefusal.DeviceFault = device_fault
watcher_cause WatcherRefusal.Closed = closed
watcher_cause WatcherRefusal.NoMemory = no_memory

-- what the operator refuses an offer, bytes to lay, a seal or a proof for
abbrev pub offer_cause : OfferRefusal → List ℕ
offer_cause OfferRefusal.NotTransfer = codes "not-transfer"
offer_cause OfferRefusal.NoCoin = codes "no-coin"
offer_cause (OfferRefusal.WrongParent tip) = phrase (codes "wrong-parent") (tip ∷ [])
offer_cause OfferRefusal.BadSignature = codes "bad-signature"
offer_cause (OfferRefusal.TooLate last) = phrase (codes "too-late") (last ∷ [])
offer_cause OfferRefusal.PoolHasCoin = codes "pool-has-coin"
offer_cause OfferRefusal.DeviceFault = device_fault
offer_cause OfferRefusal.Closed = closed
offer_cause OfferRefusal.NoMemory = no_memory

abbrev pub lay_cause : LayRefusal → List ℕ
lay_cause (LayRefusal.LeafTooLong count) = phrase (codes "leaf-too-long") (count ∷ [])
lay_cause LayRefusal.DeviceFault = device_fault
lay_cause LayRefusal.Closed = closed
lay_cause LayRefusal.NoMemory = no_memory

abbrev pub seal_cause : SealRefusal → List ℕ
seal_cause SealRefusal.DeviceFault = device_fault
seal_cause SealRefusal.Closed = closed
seal_cause SealRefusal.NoMemory = no_memory

abbrev pub prove_cause : ProveRefusal → List ℕ
prove_cause ProveRefusal.NoCoin = codes "no-coin"
prove_cause (ProveRefusal.UnknownBlock n) = phrase (codes "unknown-block") (n ∷ [])
prove_cause ProveRefusal.NoMemory = no_memory
