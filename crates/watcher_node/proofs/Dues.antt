-- What is due for the guards in memory.
use Rattle.watcher_node.proofs.Words.{◌≡◌, ◌≢◌, ℕ, List, [], ◌∷◌, refl, ◌∙◌, ap, arith, flat_map, values_of, common_steps, Bundle, who_is, notes_of, guards_of, guards_in, due_for_kept, watch_answer, KeptCoin, watched_in, AreKeyed, kept_coin_of, due_for_coin}
use Rattle.std.proofs.lemmas.List.Folds.{flat_map-map}
use Rattle.plasma_tx.specs.declared.call.RootCall.{RootCall}
use Rattle.watcher_node.proofs.Order.{values-keyed}

-- a kept coin and its guard have the same dues
due-same : (tag : List ℕ) (log : List RootCall) (account : ℕ) (kept : Bundle)
    → due_for_coin log account (kept_coin_of tag kept) ≡ due_for_kept tag log account kept
due-same tag log account kept = grind (arith, common_steps) steps 20000

dues-same : (tag : List ℕ) (log : List RootCall) (account : ℕ) (guards : List Bundle)
    → flat_map (λ kept. due_for_coin log account (kept_coin_of tag kept)) guards
    ≡ flat_map (due_for_kept tag log account) guards
dues-same tag log account [] = refl
dues-same tag log account (kept ∷ guards) =
    grind (arith, common_steps, dues-same tag log account guards, due-same) steps 20000

-- what is due for the guards in memory is the answer
pub dues-answer : (dig : List ℕ → List ℕ) (records : List (List ℕ)) (log : List RootCall) (account : ℕ)
    (entries : List ((ℕ × ℕ) × KeptCoin)) → account ≡ (who_is records).account
    → AreKeyed entries (watched_in (who_is records).tag (notes_of dig records))
    → flat_map (due_for_coin log account) (values_of entries) ≡ watch_answer dig records log
unfolding watch_answer
dues-answer dig records log account entries is are =
    ap (flat_map (due_for_coin log account))
    (ap values_of are ∙ values-keyed (watched_in (who_is records).tag (notes_of dig records)))
    ∙ flat_map-map (due_for_coin log account) (kept_coin_of (who_is records).tag)
    (guards_of (notes_of dig records))
    ∙ dues-same (who_is records).tag log account (guards_of (notes_of dig records))
    ∙ ap (λ (n : ℕ). flat_map (due_for_kept (who_is records).tag log n) (guards_of (notes_of dig records))) is

-- where there are some in memory, there are guards
pub guards-some : (dig : List ℕ → List ℕ) (records : List (List ℕ)) (entries : List ((ℕ × ℕ) × KeptCoin))
    → AreKeyed entries (watched_in (who_is records).tag (notes_of dig records)) → values_of entries ≢ []
    → guards_in dig records ≢ []
guards-some dig records entries are some none = grind (arith, common_steps, values-keyed) steps 20000
