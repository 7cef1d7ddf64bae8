-- A watcher's refused command adds nothing.
use Rattle.node_roles.proofs.Words.{◌≡◌, ℕ, true, List, [], ◌∷◌, ◌++◌, Some, None, Result, Ok, Err, refl, first_cause, are_of, RootCall, watcher_cause, on_guarded, on_released, watcher_does, watcher_outcome}
use Rattle.std.specs.List.{list_any}
use Rattle.plasma_tx.specs.declared.links.Links.{Links}
use Rattle.coin_history.specs.declared.bundle.Bundle.{Bundle}
use Rattle.coin_history.specs.declared.refusal.HistoryRefusal.{HistoryRefusal}
use Rattle.node_rules.specs.declared.refusal.WatcherRefusal.{WatcherRefusal}
use Rattle.node_rules.specs.Kept.{links_handed}
use Rattle.node_rules.specs.Watcher.{guard_causes, guard_taken, guard_by, guard_effect, release_effect, guards_in, is_of, who_is, note_text, Released, watcher_kinds}
use Rattle.node_replies.specs.declared.order.WatcherOrder.{WatcherOrder}
use Rattle.node_roles.proofs.Refusals.{AddsNothingRefused, refused-by, unless-quiet, first-quiet}

guard-quiet : (log : List RootCall) (guards : List Bundle) (links : Result Links HistoryRefusal) (why : WatcherRefusal)
    → (guard_by log guards links).answer ≡ Err why → (guard_by log guards links).note ≡ None
guard-quiet log guards (Err history) why is = refl
guard-quiet log guards (Ok links) why is =
    unless-quiet (first_cause (guard_causes log links)) (guard_taken guards links) _ why refl is

pub watcher-quiet : (dig : List ℕ → List ℕ) (log : List RootCall) (notes : List (List ℕ)) (order : WatcherOrder)
    → AddsNothingRefused (watcher_outcome dig log notes order)
unfolding watcher_outcome watcher_does guard_effect release_effect
watcher-quiet dig log notes (WatcherOrder.Guard bundle) cause is = (
  refl,
  refused-by watcher_cause on_guarded (guard_effect dig notes log bundle).answer
      ((guard_effect dig notes log bundle).note ≡ None) cause (λ a why wrong. cc)
      (guard-quiet log (guards_in dig notes) (links_handed dig (who_is notes).tag log bundle)) is,
)
watcher-quiet dig log notes (WatcherOrder.Release coin tip) cause is = (
  refl,
  refused-by watcher_cause on_released (release_effect dig notes coin tip).answer
      ((release_effect dig notes coin tip).note ≡ None) cause (λ a why wrong. cc)
      (λ why.
      first-quiet (list_any (is_of coin tip) (guards_in dig notes)) tt (Some (note_text (Released coin tip))) _ why)
      is,
)
watcher-quiet dig log notes WatcherOrder.Watch cause is = (refl, refl)

-- the tag is that of the first record
pub watcher-tag : (dig : List ℕ → List ℕ) (records : List (List ℕ)) → are_of (watcher_kinds dig) records ≡ true
    → (body : List ℕ) → (who_is (records ++ body ∷ [])).tag ≡ (who_is records).tag
unfolding who_is
watcher-tag dig [] role body = cc
watcher-tag dig (first ∷ records) role body = refl
