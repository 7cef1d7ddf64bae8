-- What a watcher's notes leave in memory, and the cases of its guards.
use Rattle.std.proofs.Common.{◌≡◌, ◌<◌, ◌+◌, ℕ, List, [], ◌∷◌, ◌++◌, length, take, get_or, map, reverse, Option, None, Some, refl, sym, ◌∙◌, ap, true}
use Rattle.std.specs.List.{filter_map, cons_option}
use Rattle.std.specs.Map.{values_of}
use Rattle.std.specs.Option.{option_map}
use Rattle.std.proofs.lemmas.List.{take_more}
use Rattle.plasma_tx.specs.declared.call.RootCall.{RootCall}
use Rattle.plasma_tx.specs.declared.views.CoinView.{CoinView}
use Rattle.plasma_tx.specs.Views.{coin_at}
use Rattle.coin_history.specs.declared.bundle.Bundle.{Bundle}
use Rattle.node_rules.specs.Watcher.{Note, Guarded, Released, note_in, guards_of, notes_of, who_is}
use Rattle.node_rules.specs.KeptCoins.{kept_coin_of}
use Rattle.node_rules.specs.declared.kept_coin.KeptCoin.{KeptCoin}
use Rattle.node_rules.proofs.OneMore.{reverse-grow}
use Rattle.watcher_node.specs.Inside.{watched_in, keyed, IsKept}
use Rattle.watcher_node.proofs.Order.{values-keyed}
use Rattle.watcher_node.proofs.Steps.{watched_in-more}
use Rattle.safe_runs.specs.declared.case.Case.{Case}
use Rattle.safe_runs.specs.Cases.{guard_case, guard_cases}
use Rattle.safe_runs.specs.Inside.{case_with, change_of, changed, changed_by}

more : (tag : List ℕ) (note : Note) (notes : List Note)
    → watched_in tag (note ∷ notes) ≡ changed (change_of tag note) (watched_in tag notes)
more tag (Guarded kept) notes = watched_in-more tag (Guarded kept) notes
more tag (Released coin tip) notes = watched_in-more tag (Released coin tip) notes

read-more : (tag : List ℕ) (note : Option Note) (notes : List Note)
    → watched_in tag (cons_option note notes) ≡ changed_by (option_map (change_of tag) note) (watched_in tag notes)
read-more tag None notes = refl
read-more tag (Some note) notes = more tag note notes

pub watched-take : (dig : List ℕ → List ℕ) (tag : List ℕ) (bodies : List (List ℕ)) (i : ℕ) (body : List ℕ)
    → i < length bodies → body ≡ get_or bodies i body
    → watched_in tag (reverse (filter_map (note_in dig tag) (take (i + 1) bodies)))
    ≡ changed_by (option_map (change_of tag) (note_in dig tag body))
    (watched_in tag (reverse (filter_map (note_in dig tag) (take i bodies))))
watched-take dig tag bodies i body less is =
    ap (λ (l : List (List ℕ)). watched_in tag (reverse (filter_map (note_in dig tag) l)))
    (take_more bodies i body less ∙ ap (λ (b : List ℕ). take i bodies ++ b ∷ []) (sym is))
    ∙ ap (watched_in tag) (reverse-grow (note_in dig tag) (take i bodies) body)
    ∙ read-more tag (note_in dig tag body) (reverse (filter_map (note_in dig tag) (take i bodies)))

-- ---- the cases

abbrev in_memory : List RootCall → List ℕ → KeptCoin → Case
in_memory log hidden guard = case_with log hidden guard.coin guard.spends None true

case-same : (tag : List ℕ) (log : List RootCall) (hidden : List ℕ) (guard : Bundle)
    → in_memory log hidden (kept_coin_of tag guard) ≡ guard_case tag log hidden guard
case-same tag log hidden guard = at (coin_at log guard.coin) refl
  where
    at : (made : Option CoinView) → coin_at log guard.coin ≡ made
        → in_memory log hidden (kept_coin_of tag guard) ≡ guard_case tag log hidden guard
    at None is = rw is refl
    at (Some made) is = rw is refl

cases-same : (tag : List ℕ) (log : List RootCall) (hidden : List ℕ) (guards : List Bundle)
    → map (in_memory log hidden) (map (kept_coin_of tag) guards) ≡ map (guard_case tag log hidden) guards
cases-same tag log hidden [] = refl
cases-same tag log hidden (guard ∷ guards) =
    ap (λ (case : Case). case ∷ map (in_memory log hidden) (map (kept_coin_of tag) guards))
    (case-same tag log hidden guard)
    ∙ ap (λ (cases : List Case). guard_case tag log hidden guard ∷ cases) (cases-same tag log hidden guards)

pub guards-said : (dig : List ℕ → List ℕ) (records : List (List ℕ)) (log : List RootCall) (hidden : List ℕ)
    (tag : List ℕ) (account : ℕ) (entries : List ((ℕ × ℕ) × KeptCoin)) → IsKept dig records tag account entries
    → map (in_memory log hidden) (values_of entries) ≡ guard_cases dig records log hidden
guards-said dig records log hidden tag account entries kept =
    ap (λ (all : List ((ℕ × ℕ) × KeptCoin)). map (in_memory log hidden) (values_of all)) kept.are_all
    ∙ ap (map (in_memory log hidden)) (values-keyed (watched_in (who_is records).tag (notes_of dig records)))
    ∙ cases-same (who_is records).tag log hidden (guards_of (notes_of dig records))
