-- What the notes of a watcher's commands change.
use Rattle.watcher_node.proofs.Words.{◌≡◌, ◌<◌, ◌^◌, ℕ, List, Some, ap, arith, option_map, common_steps, IsShown, Guarded, Released, note_text, note_in, guarded, change_of}
use Rattle.plasma_tx.specs.declared.links.Links.{Links}
use Rattle.plasma_tx.specs.Links.{tip_of}
use Rattle.node_rules.specs.Kept.{kept_of}
use Rattle.node_rules.proofs.WatcherTexts.{note_in-text}
use Rattle.watcher_node.specs.declared.watched.Change.TheVariants.{Guards, Releases}

guard-read : (dig : List ℕ → List ℕ) (tag : List ℕ) (links : Links) → IsShown dig tag links
    → note_in dig tag (note_text (Guarded (kept_of links))) ≡ Some (Guarded (kept_of links))
unfolding note_in note_text
guard-read dig tag links shown = ap guarded shown.read

-- a guard's note puts the coin in memory as it was handed in
pub guard-spells : (dig : List ℕ → List ℕ) (tag : List ℕ) (links : Links) (body : List ℕ) (tip : ℕ)
    → IsShown dig tag links → body ≡ note_text (Guarded (kept_of links)) → tip ≡ tip_of links
    → Some (Guards (record { coin = links.coin; tip = tip; spends = links.spends }))
    ≡ option_map (change_of tag) (note_in dig tag body)
guard-spells dig tag links body tip shown is tip_is = grind (arith, common_steps, guard-read) steps 20000

pub release-spells : (dig : List ℕ → List ℕ) (tag : List ℕ) (coin tip : ℕ) (body : List ℕ) → coin < 2 ^ 64
    → tip < 2 ^ 64 → body ≡ note_text (Released coin tip)
    → Some (Releases coin tip) ≡ option_map (change_of tag) (note_in dig tag body)
release-spells dig tag coin tip body coin_fits tip_fits is = grind (arith, common_steps, note_in-text) steps 20000
