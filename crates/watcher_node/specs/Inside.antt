-- What a watcher keeps in memory of the coins that it guards.
use Rattle.std.specs.Prelude.{◌≡◌, ℕ, ◌==◌, ◌&&◌, ◌||◌, not, Bool, nat_lt, if◌then◌else◌, List, ◌∷◌, ◌++◌, map, filter, Option, None, Some}
use Rattle.std.specs.declared.cmp.Ordering.{Ordering}
use Rattle.std.specs.List.{list_any}
use Rattle.std.specs.Ordering.{nat_cmp, ordering_then}
use Rattle.coin_history.specs.declared.refusal.HistoryRefusal.{HistoryRefusal}
use Rattle.coin_history.specs.declared.refusal.HistoryRefusal.TheVariants.{NoMemory as HistoryMemory}
use Rattle.node_rules.specs.Watcher.{Note, Guarded, Released, who_is, notes_of, guards_of}
use Rattle.node_rules.specs.declared.refusal.WatcherRefusal.{WatcherRefusal}
use Rattle.node_rules.specs.declared.refusal.WatcherRefusal.TheVariants.{History, NoMemory}
use Rattle.node_rules.specs.declared.kept_coin.KeptCoin.{KeptCoin}
use Rattle.node_rules.specs.KeptCoins.{kept_coin_of}
use Rattle.watcher_node.specs.declared.watched.Change.{Change}
use Rattle.watcher_node.specs.declared.watched.Change.TheVariants.{Guards, Releases}

-- a note as it is read
abbrev pub change_of : List ℕ → Note → Change
change_of tag (Guarded kept) = Guards (kept_coin_of tag kept)
change_of tag (Released coin tip) = Releases coin tip

-- it is of this coin with this tip
abbrev pub is_watched_at : ℕ → ℕ → KeptCoin → Bool
is_watched_at coin tip watched = (watched.coin == coin) && (watched.tip == tip)

-- coin and tip come before those of another
abbrev pub comes_before : KeptCoin → KeptCoin → Bool
comes_before watched other =
    nat_lt watched.coin other.coin || (watched.coin == other.coin) && nat_lt watched.tip other.tip

-- one more at its place, where there is none of this coin and tip
abbrev pub with_watched : KeptCoin → List KeptCoin → List KeptCoin
with_watched watched all =
    if list_any (is_watched_at watched.coin watched.tip) all then all
    else filter (λ other. comes_before other watched) all
    ++ watched ∷ filter (λ other. not (comes_before other watched)) all

-- what a change leaves
abbrev pub changed : Change → List KeptCoin → List KeptCoin
changed (Guards watched) all = with_watched watched all
changed (Releases coin tip) all = filter (λ watched. not (is_watched_at coin tip watched)) all

-- what a record leaves that spells a change, or none
abbrev pub changed_by : Option Change → List KeptCoin → List KeptCoin
changed_by None all = all
changed_by (Some change) all = changed change all

-- what notes leave, the newest first
abbrev pub watched_in : List ℕ → List Note → List KeptCoin
watched_in tag notes = map (kept_coin_of tag) (guards_of notes)

-- coins with tips in the order in which a map has them: by the coin, and then by the tip
abbrev pub by_place : ℕ × ℕ → ℕ × ℕ → Ordering
by_place one other = ordering_then (nat_cmp one.0 other.0) (nat_cmp one.1 other.1)

-- a guard as an entry of a map
abbrev pub keyed : KeptCoin → (ℕ × ℕ) × KeptCoin
keyed watched = ((watched.coin, watched.tip), watched)

-- the entries of a map are these guards, by coin and tip
abbrev pub AreKeyed : List ((ℕ × ℕ) × KeptCoin) → List KeptCoin → Type 0
AreKeyed entries all = entries ≡ map keyed all

-- what a watcher keeps in memory beside its records
pub record IsKept (dig : List ℕ → List ℕ) (records : List (List ℕ)) (tag : List ℕ) (account : ℕ)
    (entries : List ((ℕ × ℕ) × KeptCoin)) : Type 0 where
  pub is_tag : tag ≡ (who_is records).tag
  pub is_account : account ≡ (who_is records).account
  pub are_all : AreKeyed entries (watched_in (who_is records).tag (notes_of dig records))

-- why a node refuses a history: want of memory is the node's own
abbrev pub history_refusal : HistoryRefusal → WatcherRefusal
history_refusal HistoryMemory = NoMemory
history_refusal why = History why
