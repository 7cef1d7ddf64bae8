-- What a log keeps beside its calls is what the views have.
use Rattle.std.specs.Prelude.{◌≡◌, ℕ, ◌-◌, ◌==◌, if◌then◌else◌, List, [], length, Option, None, unwrap_or, slice_get}
use Rattle.std.specs.Ordering.{nat_cmp}
use Rattle.std.specs.Cmp.Lexicographic.{slice_cmp}
use Rattle.std.specs.BTreeMap.{BTreeMap, get}
use Rattle.std.specs.BTreeSet.{BTreeSet, contains, IsOrdered}
use Rattle.plasma_tx.specs.{declared.call.RootCall.{RootCall}, declared.coin_states.States.{States}, declared.kept.Kept.{Kept}, Views.{now, blocks, coins, block_at, coin_at, has_exits, is_root_committed, deposits_of}}
use Rattle.plasma_tx.specs.Standing.{Standing, no_standing, standing_of}

-- item n, counted from 1
abbrev pub item_at : {X : Type 0} → List X → ℕ → Option X
item_at items n = if n == 0 then None else slice_get items (n - 1)

-- what a map has of a coin
abbrev pub other_in : BTreeMap ℕ Standing → ℕ → Standing
other_in others c = unwrap_or (get nat_cmp others c) no_standing

-- what is kept of a coin: at its place, or else by its number
abbrev pub standing_in : States → ℕ → Standing
standing_in states c = unwrap_or (item_at states.made.items c) (other_in states.others c)

-- the coins of which an exit is kept
abbrev pub AreExiting : States → BTreeSet ℕ → Type 0
AreExiting states exiting = (c : ℕ) → contains nat_cmp exiting c ≡ has_exits (standing_in states c).exits

-- the roots that a log commits
abbrev pub AreRoots : List RootCall → BTreeSet (List ℕ) → Type 0
AreRoots log roots = (root : List ℕ) → contains (slice_cmp nat_cmp) roots root ≡ is_root_committed log root

-- what a map has of an account
abbrev pub deposits_in : BTreeMap ℕ (List ℕ) → ℕ → List ℕ
deposits_in deposits a = unwrap_or (get nat_cmp deposits a) []

-- each part is what the view has of these calls
pub record Keeps (log : List RootCall) (kept : Kept) : Type 0 where
  pub clock : kept.clock ≡ now log
  pub block_count : length kept.blocks.items ≡ blocks log
  pub blocks_are : (n : ℕ) → item_at kept.blocks.items n ≡ block_at log n
  pub coin_count : length kept.coins.items ≡ coins log
  pub coins_are : (c : ℕ) → item_at kept.coins.items c ≡ coin_at log c
  pub states_are : (c : ℕ) → standing_in kept.states c ≡ standing_of log c
  pub exiting_are : AreExiting kept.states kept.exiting
  pub exiting_rise : IsOrdered nat_cmp kept.exiting
  pub roots_are : AreRoots log kept.roots
  pub deposits_are : (a : ℕ) → deposits_in kept.deposits a ≡ deposits_of log a
