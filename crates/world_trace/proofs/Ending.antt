-- The exit that a log shows of a coin at a block is the standing exit there.
use Rattle.std.proofs.Common.{◌≡◌, ℕ, ◌==◌, ◌&&◌, Bool, true, false, if◌then◌else◌, List, [], ◌∷◌, map, Option, Some, None, refl, ap, sym, ◌∙◌, find, filter}
use Rattle.std.specs.Prelude.{option_map}
use Rattle.plasma_tx.specs.declared.call.RootCall.{RootCall}
use Rattle.plasma_tx.specs.declared.views.ExitView.{ExitView}
use Rattle.plasma_tx.specs.Views.{Exit, is_exit, exits, exit_at, exit_view, exits_of}
use Rattle.coin_verdicts.specs.declared.fact.Fact.{Fact}
use Rattle.plasma_tx.proofs.Each.{some_same}
use Rattle.coin_verdicts.specs.Facts.{ended}

found-view : (c e : ℕ) (xs : List Exit)
    → find (λ view. view.block == e) (map exit_view (filter (λ x. x.coin == c) xs))
    ≡ option_map exit_view (find (is_exit c e) xs)
found-view c e [] = refl
found-view c e (x ∷ xs) = at (x.coin == c) (found-view c e xs)
  where
    here : (d : Bool)
        → find (λ view. view.block == e) (map exit_view (filter (λ y. y.coin == c) xs))
        ≡ option_map exit_view (find (is_exit c e) xs)
        → (if d then Some (exit_view x)
        else find (λ view. view.block == e) (map exit_view (filter (λ y. y.coin == c) xs)))
        ≡ option_map exit_view (if d then Some x else find (is_exit c e) xs)
    here true rest = refl
    here false rest = rest

    at : (b : Bool)
        → find (λ view. view.block == e) (map exit_view (filter (λ y. y.coin == c) xs))
        ≡ option_map exit_view (find (is_exit c e) xs)
        → find (λ view. view.block == e)
        (map exit_view (if b then x ∷ filter (λ y. y.coin == c) xs else filter (λ y. y.coin == c) xs))
        ≡ option_map exit_view (if b && (x.block == e) then Some x else find (is_exit c e) xs)
    at false rest = rest
    at true rest = here (x.block == e) rest

shown-is : (log : List RootCall) (coin block : ℕ) (shown : Option ExitView)
    → find (λ view. view.block == block) (exits_of log coin) ≡ shown
    → shown ≡ option_map exit_view (exit_at log coin block)
unfolding exits_of exit_at
shown-is log coin block shown is = sym is ∙ found-view coin block (exits log)

none-ends : (found : Option Exit) (coin block : ℕ) → None ≡ option_map exit_view found
    → Fact.Joins ≡ ended found coin block false
none-ends None coin block is = refl
none-ends (Some exit) coin block is = absurd (cc is)

one-ends : (found : Option Exit) (coin block : ℕ) (view : ExitView) → Some view ≡ option_map exit_view found
    → Fact.Ends coin block view.account false ≡ ended found coin block false
one-ends None coin block view is = absurd (cc is)
one-ends (Some exit) coin block view is =
    ap (λ (v : ExitView). Fact.Ends coin block v.account false) (some_same view (exit_view exit) is)

-- where the log shows none, the call ends none
pub none_ends : (log : List RootCall) (coin block : ℕ)
    → find (λ view. view.block == block) (exits_of log coin) ≡ None
    → Fact.Joins ≡ ended (exit_at log coin block) coin block false
none_ends log coin block is = none-ends (exit_at log coin block) coin block (shown-is log coin block None is)

-- where it shows one, the call ends that
pub one_ends : (log : List RootCall) (coin block : ℕ) (view : ExitView)
    → find (λ shown. shown.block == block) (exits_of log coin) ≡ Some view
    → Fact.Ends coin block view.account false ≡ ended (exit_at log coin block) coin block false
one_ends log coin block view is =
    one-ends (exit_at log coin block) coin block view (shown-is log coin block (Some view) is)
