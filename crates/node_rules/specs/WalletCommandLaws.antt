-- What the commands of a wallet add to its records.
use Rattle.std.specs.Prelude.{◌≡◌, ◌≢◌, ◌⊎◌, ℕ, ◌^◌, ◌<◌, true, false, List, [], ◌∷◌, ◌++◌, length, Option, Some, None, IfSome, Ok}
use Rattle.std.specs.List.{All, filter_map, range_with_len}
use Rattle.std.specs.Option.{option_map}
use Rattle.plasma_tx.specs.{declared.owner.Owner.{Owner}, declared.body.Body.{Body}, declared.links.Links.{Links}, declared.call.RootCall.{RootCall}, Links.{tip_of}, Spelling.{AreBytes, IsOwner, body_text}, Views.{blocks, coins}}
use Rattle.leaf_journal.specs.Records.{binding_record, is_marked, marker, messages_of, MayBind}
use Rattle.watch_duty.specs.{declared.guard.Guard.{Guard}, Duty.{due_calls}}
use Rattle.wallet_core.specs.{declared.coin_state.CoinState.{CoinState}, declared.coin_state.CoinState.TheVariants.{Sending, Leaving, Held}}
use Rattle.node_rules.specs.{declared.answers.Reclaimed.{Reclaimed}, Kept.{kept_of, links_handed}, Laws.{IsReadBack}, WalletRecords.{Accepts, LeavesWith, Reclaims, notes_of, accepted_of, leaves_in}}
use Rattle.node_rules.specs.{Wallet.{WalletRecords, WalletEffect, who, coin_state, links_at, start_of, accept_effect, send_effect, leave_effect, reclaim_effect, migrate_effect, watch_answer}, WalletOpening.{is_wallet}}
use Rattle.node_rules.specs.WalletLaws.{AddsNote}

-- records with one more, if there is one
abbrev pub with_more : Option (List ℕ) → List (List ℕ) → List (List ℕ)
with_more None records = records
with_more (Some body) records = records ++ body ∷ []

-- the wallet's records after a command
abbrev pub after : {A : Type 0} → WalletEffect A → WalletRecords → WalletRecords
after effect wallet =
    record { notes = with_more effect.note wallet.notes; leaves = with_more effect.leaf wallet.leaves }

-- the records of the notes are bytes, and the log's blocks are numbered in 64 bits; so are the wallet's tips
pub record FitWords (wallet : WalletRecords) (log : List RootCall) : Type 0 where
  pub notes : All AreBytes wallet.notes
  pub blocks : blocks log < 2 ^ 64

-- ---- the records stay a wallet's

abbrev pub AcceptsKeepTheRole : Type 0
AcceptsKeepTheRole = (dig : List ℕ → List ℕ) (wallet : WalletRecords) (log : List RootCall) (bytes : List ℕ)
    → is_wallet dig wallet ≡ true → AreBytes bytes
    → is_wallet dig (after (accept_effect dig wallet log bytes) wallet) ≡ true

abbrev pub SendsKeepTheRole : Type 0
SendsKeepTheRole = (dig : List ℕ → List ℕ) (wallet : WalletRecords) (log : List RootCall) (coin : ℕ) (to : Owner)
    (last : Option ℕ) → is_wallet dig wallet ≡ true → length to.key ≡ 56
    → is_wallet dig (after (send_effect dig wallet log coin to last) wallet) ≡ true

abbrev pub LeavesKeepTheRole : Type 0
LeavesKeepTheRole = (dig : List ℕ → List ℕ) (wallet : WalletRecords) (log : List RootCall) (coin : ℕ)
    → is_wallet dig wallet ≡ true → is_wallet dig (after (leave_effect dig wallet log coin) wallet) ≡ true

abbrev pub ReclaimsKeepTheRole : Type 0
ReclaimsKeepTheRole = (dig : List ℕ → List ℕ) (wallet : WalletRecords) (log : List RootCall) (bytes : List ℕ)
    → is_wallet dig wallet ≡ true → AreBytes bytes → FitWords wallet log
    → is_wallet dig (after (reclaim_effect dig wallet log bytes) wallet) ≡ true

abbrev pub MigrationsKeepTheRole : Type 0
MigrationsKeepTheRole = (dig : List ℕ → List ℕ) (wallet : WalletRecords) → is_wallet dig wallet ≡ true
    → is_wallet dig (after (migrate_effect wallet) wallet) ≡ true

-- ---- the record is read as the command's

-- an accepted coin's note is that of the links that were handed in, which it keeps, and of which there are some
abbrev pub AddsAccepted : (List ℕ → List ℕ) → WalletRecords → List RootCall → List ℕ → List ℕ → Type 0
AddsAccepted dig wallet log bytes body =
    (links : Links) × (links_handed dig (who wallet).tag log bytes ≡ Ok links)
    × IsReadBack dig (who wallet).tag log links × ((kept_of links).openings ≢ [])
    × AddsNote dig wallet.notes (Accepts (kept_of links)) body

abbrev pub AcceptsAddTheirNotes : Type 0
AcceptsAddTheirNotes = (dig : List ℕ → List ℕ) (wallet : WalletRecords) (log : List RootCall) (bytes : List ℕ)
    → is_wallet dig wallet ≡ true → AreBytes bytes
    → IfSome (accept_effect dig wallet log bytes).note (AddsAccepted dig wallet log bytes)

-- the body of a transfer that the wallet sends
abbrev pub sent_body : WalletRecords → ℕ → ℕ → Owner → Option ℕ → Body
sent_body wallet coin tip to last =
    record { tag = (who wallet).tag; coin = coin; parent = tip; to = to; last = last }

-- the record binds the body to the next leaf
pub record BindsBody (leaves : List (List ℕ)) (body : Body) (leaf : List ℕ) : Type 0 where
  pub may : MayBind leaves (body_text body)
  pub is : leaf ≡ binding_record leaves (body_text body)
  pub messages : messages_of (leaves ++ leaf ∷ []) ≡ messages_of leaves ++ body_text body ∷ []
  pub bodies : leaves_in (leaves ++ leaf ∷ []) ≡ leaves_in leaves ++ record { body = body } ∷ []

-- a sent coin's leaf binds the transfer from the tip at which the wallet holds the coin
abbrev pub AddsSent : (List ℕ → List ℕ) → WalletRecords → List RootCall → ℕ → Owner → Option ℕ → List ℕ → Type 0
AddsSent dig wallet log coin to last leaf =
    (tip : ℕ) × (coin_state dig wallet log coin ≡ Held tip)
    × BindsBody wallet.leaves (sent_body wallet coin tip to last) leaf

abbrev pub SendsAddTheirLeaves : Type 0
SendsAddTheirLeaves = (dig : List ℕ → List ℕ) (wallet : WalletRecords) (log : List RootCall) (coin : ℕ) (to : Owner)
    (last : Option ℕ) → is_wallet dig wallet ≡ true → FitWords wallet log → coin < 2 ^ 64 → IsOwner to
    → IfSome last (λ n. n < 2 ^ 64)
    → IfSome (send_effect dig wallet log coin to last).leaf (AddsSent dig wallet log coin to last)

-- a leaving's note has the tip at which the wallet holds the coin
abbrev pub AddsLeaving : (List ℕ → List ℕ) → WalletRecords → List RootCall → ℕ → List ℕ → Type 0
AddsLeaving dig wallet log coin body =
    (tip : ℕ) × (coin_state dig wallet log coin ≡ Held tip) × AddsNote dig wallet.notes (LeavesWith coin tip) body

abbrev pub LeavesAddTheirNotes : Type 0
LeavesAddTheirNotes = (dig : List ℕ → List ℕ) (wallet : WalletRecords) (log : List RootCall) (coin : ℕ)
    → is_wallet dig wallet ≡ true → FitWords wallet log → coin < 2 ^ 64
    → IfSome (leave_effect dig wallet log coin).note (AddsLeaving dig wallet log coin)

-- the note of a transfer that is taken back has the leaf by which the wallet is sending the coin, and what is answered
abbrev pub AddsReclaimed : (List ℕ → List ℕ) → WalletRecords → List RootCall → List ℕ → List ℕ → Type 0
AddsReclaimed dig wallet log bytes body =
    (taken : Reclaimed) × ((reclaim_effect dig wallet log bytes).answer ≡ Ok taken)
    × (coin_state dig wallet log taken.coin ≡ Sending taken.tip taken.q)
    × AddsNote dig wallet.notes (Reclaims taken.coin taken.tip taken.q) body

abbrev pub ReclaimsAddTheirNotes : Type 0
ReclaimsAddTheirNotes = (dig : List ℕ → List ℕ) (wallet : WalletRecords) (log : List RootCall) (bytes : List ℕ)
    → is_wallet dig wallet ≡ true → AreBytes bytes → FitWords wallet log
    → IfSome (reclaim_effect dig wallet log bytes).note (AddsReclaimed dig wallet log bytes)

-- a migration adds the marker, which isn't there yet and binds nothing
abbrev pub AddsMarker : WalletRecords → List ℕ → Type 0
AddsMarker wallet leaf =
    (leaf ≡ marker) × (is_marked wallet.leaves ≡ false)
    × (leaves_in (wallet.leaves ++ leaf ∷ []) ≡ leaves_in wallet.leaves)

abbrev pub MigrationsAddTheMarker : Type 0
MigrationsAddTheMarker = (wallet : WalletRecords) → IfSome (migrate_effect wallet).leaf (AddsMarker wallet)

-- ---- exits

-- a wallet that leaves with a coin that it holds, or leaves with already, is answered the start of an exit at its tip
abbrev pub LeavesAreAnswered : Type 0
LeavesAreAnswered = (dig : List ℕ → List ℕ) (wallet : WalletRecords) (log : List RootCall) (coin tip : ℕ)
    → (coin_state dig wallet log coin ≡ Held tip) ⊎ (coin_state dig wallet log coin ≡ Leaving tip)
    → (links : Links) × (links_at dig wallet log coin tip ≡ Some links)
    × ((leave_effect dig wallet log coin).answer ≡ Ok (start_of (who wallet).account tip links))

-- each accepted coin has openings, as those have that accepts note
abbrev pub HaveOpenings : (List ℕ → List ℕ) → WalletRecords → Type 0
HaveOpenings dig wallet = All (λ kept. kept.openings ≢ []) (accepted_of (notes_of dig wallet.notes))

-- that exit is of the tip then: the links are the coin's, and end there
abbrev pub ExitsAreOfTheTip : Type 0
ExitsAreOfTheTip = (dig : List ℕ → List ℕ) (wallet : WalletRecords) (log : List RootCall) (coin tip : ℕ)
    (links : Links) → (coin_state dig wallet log coin ≡ Held tip) ⊎ (coin_state dig wallet log coin ≡ Leaving tip)
    → HaveOpenings dig wallet → links_at dig wallet log coin tip ≡ Some links
    → (links.coin ≡ coin) × (tip_of links ≡ tip)

-- ---- what is due

-- the guard of a coin that the wallet holds or leaves with, with its links up to the tip
abbrev pub guard_at : (List ℕ → List ℕ) → WalletRecords → List RootCall → ℕ → ℕ → Option Guard
guard_at dig wallet log coin tip = option_map (λ links. record { links = links }) (links_at dig wallet log coin tip)

abbrev pub guard_in : (List ℕ → List ℕ) → WalletRecords → List RootCall → ℕ → CoinState → Option Guard
guard_in dig wallet log coin (Held tip) = guard_at dig wallet log coin tip
guard_in dig wallet log coin (Leaving tip) = guard_at dig wallet log coin tip
guard_in dig wallet log coin state = None

-- the guards of all such coins, by rising coin
abbrev pub guards_held : (List ℕ → List ℕ) → WalletRecords → List RootCall → List Guard
guards_held dig wallet log =
    filter_map (λ coin. guard_in dig wallet log coin (coin_state dig wallet log coin)) (range_with_len 1 (coins log))

-- a wallet answers what is due for the coins that it holds or leaves with
abbrev pub WalletsDoTheirDuty : Type 0
WalletsDoTheirDuty = (dig : List ℕ → List ℕ) (wallet : WalletRecords) (log : List RootCall)
    → watch_answer dig wallet log ≡ due_calls log (who wallet).account (guards_held dig wallet log)
