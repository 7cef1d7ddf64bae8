-- What a wallet keeps in memory beside its records.
use Rattle.std.specs.Prelude.{◌≡◌, ℕ, ◌-◌, ◌∷◌, [], ◌++◌, ◌==◌, ◌&&◌, Bool, true, false, if◌then◌else◌, List, length, map, take, slice_get, Option, Some, None}
use Rattle.std.specs.Option.{option_map_or}
use Rattle.std.specs.Ordering.{nat_cmp}
use Rattle.std.specs.BTreeSet.{insert_key}
use Rattle.std.specs.Str.{bytes_eq}
use Rattle.sha2.specs.Sha256.{sha256}
use Rattle.lms_sign.specs.{declared.secret.Secret.{Secret}, declared.types.LmsTypes.{LmsTypes}, Tree.{public_key_of}, Types.{leaf_count}}
use Rattle.plasma_tx.specs.{declared.body.Body.{Body}, declared.call.RootCall.{RootCall}, declared.owner.Owner.{Owner}, declared.links.Link.{Link}, Transfer.{nobody}, declared.links.Links.{Links}, Spelling.{body_at_start}}
use Rattle.coin_history.specs.{History.{links_in}, declared.refusal.HistoryRefusal.{HistoryRefusal}, declared.refusal.HistoryRefusal.TheVariants.{NoMemory as HistoryMemory}}
use Rattle.leaf_journal.specs.{Records.{MessagesPass}, Leaves.{leaves_of}, declared.refusal.BindRefusal.{BindRefusal}, declared.refusal.BindRefusal.TheVariants.{KeySpent as Spent, DeviceFault as BindFault, Closed as BindClosed}}
use Rattle.leaf_journal.specs.{declared.refusal.MigrateRefusal.{MigrateRefusal}, declared.refusal.MigrateRefusal.TheVariants.{AlreadyNew as IsNew, DeviceFault as MigrateFault, Closed as MigrateClosed}}
use Rattle.wallet_core.specs.{declared.notes.LeafRecord.{LeafRecord}, declared.notes.Notes.{Notes}, declared.coin_state.CoinState.{CoinState}, declared.coin_state.CoinState.TheVariants.{Held, Leaving}}
use Rattle.node_rules.specs.{declared.kept_coin.KeptCoin.{KeptCoin}, KeptCoins.{kept_coin_of}, declared.identity.WalletIdentity.{WalletIdentity}, declared.refusal.WalletRefusal.{WalletRefusal}}
use Rattle.node_rules.specs.declared.refusal.WalletRefusal.TheVariants.{History, NoMemory, KeySpent, DeviceFault, Closed, AlreadyNew}
use Rattle.node_rules.specs.{WalletRecords.{Note, Accepts, LeavesWith, Reclaims, secret_of, owner_of, coin_tip, notes_of, accepted_of, state_notes, leaves_in, is_body, may_reclaim, who_is}, Kept.{chain_of}}
use Rattle.node_rules.specs.{Wallet.{WalletRecords, kept_at, coin_state, due_in}, WalletOpening.{are_bound}}
use Rattle.wallet_node.specs.{declared.memory.Undo.{Undo}, declared.memory.Undo.TheVariants.{Coin, Leaving as LeavesAgain, Reclaimed}, declared.change.Change.{Change}}
use Rattle.wallet_node.specs.declared.change.Change.TheVariants.{Accepts as TakesUp, LeavesWith as Leaves, Reclaims as TakesBack}

-- a note as it is read
abbrev pub change_of : List ℕ → Note → Change
change_of tag (Accepts kept) = TakesUp (kept_coin_of tag kept)
change_of tag (LeavesWith coin tip) = Leaves coin tip
change_of tag (Reclaims coin tip q) = TakesBack coin tip q

-- what is kept of notes: what a coin's state asks for, and the coins that were accepted with their links
pub record MemoryState : Type 0 where
  pub noted : Notes
  pub kept : List KeptCoin

-- what a change leaves
abbrev pub changed : Change → MemoryState → MemoryState
changed (TakesUp coin) memory = record {
  noted = record memory.noted { accepted = memory.noted.accepted ++ coin_tip coin.coin coin.tip ∷ [] };
  kept = memory.kept ++ coin ∷ [];
}
changed (Leaves coin tip) memory = record memory {
  noted = record memory.noted { leaving = memory.noted.leaving ++ coin_tip coin tip ∷ [] };
}
changed (TakesBack coin tip q) memory = record memory {
  noted = record memory.noted { reclaimed = insert_key nat_cmp memory.noted.reclaimed q };
}

-- what a change leaves that is taken back
abbrev pub undone : Undo → MemoryState → MemoryState
undone Coin memory = record {
  noted = record memory.noted { accepted = take (length memory.noted.accepted - 1) memory.noted.accepted };
  kept = take (length memory.kept - 1) memory.kept;
}
undone LeavesAgain memory = record memory {
  noted = record memory.noted { leaving = take (length memory.noted.leaving - 1) memory.noted.leaving };
}
undone (Reclaimed numbers) memory = record memory { noted = record memory.noted { reclaimed = numbers } }

-- a kept coin is of this coin with this tip
abbrev pub is_kept_at : ℕ → ℕ → KeptCoin → Bool
is_kept_at coin tip kept = (kept.coin == coin) && (kept.tip == tip)

abbrev pub changed_by : Option Change → MemoryState → MemoryState
changed_by None memory = memory
changed_by (Some change) memory = changed change memory

-- what notes leave, the newest first, for an owner and a chain's tag
abbrev pub memory_of : Owner → List ℕ → List Note → MemoryState
memory_of me tag notes =
    record { noted = state_notes me notes; kept = map (kept_coin_of tag) (accepted_of notes) }

-- what the records of notes leave
abbrev pub memory_in : (List ℕ → List ℕ) → List (List ℕ) → MemoryState
memory_in dig records = memory_of (owner_of (who_is records)) (who_is records).tag (notes_of dig records)

-- a change takes back no leaf, or one that may be
abbrev pub is_bound_change : List LeafRecord → Change → Bool
is_bound_change bodies (TakesBack coin tip q) = option_map_or (may_reclaim coin tip) (slice_get bodies q) false
is_bound_change bodies change = true

-- what is due for a coin
abbrev pub due_of_coin : (List ℕ → List ℕ) → WalletRecords → List RootCall → ℕ → List RootCall
due_of_coin dig wallet log coin = due_in dig wallet log coin (coin_state dig wallet log coin)

-- the wallet holds the coin or leaves with it, by what it is to the wallet
abbrev pub is_watched : CoinState → Bool
is_watched (Held tip) = true
is_watched (Leaving tip) = true
is_watched _ = false

-- what a wallet keeps in memory beside its records
pub record IsKept (dig : List ℕ → List ℕ) (records : WalletRecords) (who : WalletIdentity) (secret : Secret)
    (public : List ℕ) (memory : MemoryState) (bodies : List LeafRecord) : Type 0 where
  pub is_who : who ≡ who_is records.notes
  pub is_secret : secret ≡ secret_of (who_is records.notes)
  pub is_public : public ≡ public_key_of (secret_of (who_is records.notes))
  pub is_memory : memory ≡ memory_in dig records.notes
  pub are_bodies : bodies ≡ leaves_in records.leaves
  pub count : leaves_of public ≡ leaf_count (who_is records.notes).types
  pub pass : MessagesPass is_body records.leaves
  pub bound : are_bound dig records ≡ true

-- a key of these types and this seed
pub record IsMade (secret : Secret) (types : LmsTypes) (seed : List ℕ) : Type 0 where
  pub types_are : types ≡ secret.types
  pub seed_is : seed ≡ secret.seed
  pub id_is : secret.id ≡ take 16 (sha256 seed)

-- the key is the wallet's, by its types and its seed
abbrev pub is_key_of : Secret → WalletIdentity → Bool
is_key_of secret who =
    (secret.types.lms == who.types.lms) && (secret.types.ots == who.types.ots) && bytes_eq secret.seed who.seed

-- the body that a message spells, where it is one
abbrev pub body_of : List ℕ → Option Body
body_of message = if is_body message then Some (body_at_start message) else None

-- why a node refuses a history: want of memory is the node's own
abbrev pub history_refusal : HistoryRefusal → WalletRefusal
history_refusal HistoryMemory = NoMemory
history_refusal why = History why

-- why a leaf wasn't bound, or the marker wasn't added, as a refusal of the node
abbrev pub bind_refusal : BindRefusal → WalletRefusal
bind_refusal (Spent count) = KeySpent count
bind_refusal BindFault = DeviceFault
bind_refusal BindClosed = Closed

abbrev pub migrate_refusal : MigrateRefusal → WalletRefusal
migrate_refusal IsNew = AlreadyNew
migrate_refusal MigrateFault = DeviceFault
migrate_refusal MigrateClosed = Closed

-- links behind a deposit block; who deposited the coin is left open
abbrev pub links_behind : ℕ → ℕ → List Link → Links
links_behind coin deposit spends = record { coin = coin; deposit = deposit; owner = nobody; spends = spends }

-- the links of a coin up to a tip that is kept; none where it isn't
abbrev pub spends_at : (List ℕ → List ℕ) → WalletRecords → ℕ → ℕ → List Link
spends_at dig records coin tip =
    links_in (chain_of (who_is records.notes).tag) coin (kept_at dig records coin tip).openings
