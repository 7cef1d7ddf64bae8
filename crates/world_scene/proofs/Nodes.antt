-- A node among the nodes of a world, and the world with it changed.
use Rattle.world_scene.proofs.Words.{◌≡◌, sym, ap, ◌∙◌, subst, true, ℕ, ◌<◌, List, length, slice_get, slice_set, slice_index_or, Some, All, All-set, slice_get-get_or, Outcome, RootCall, Given, NodeOrder, CutEnd, Cuts, fits, NodeView, Spells, Runs, Crashes, AllHash, FitsAt, RunsAt, CrashesAt, CutsAt}

-- the node that stands at n, of nodes that are seen
module _ {H : Type 0} (nodes seen : List (NodeView H)) (same : nodes ≡ seen) (n : ℕ) (before : NodeView H)
    (stands : before ≡ slice_index_or nodes n before) (inside : n < length seen) where
  within : n < length nodes
  within = subst (λ all. n < length all) (sym same) inside

  stood : slice_get seen n ≡ Some before
  stood = ap (λ all. slice_get all n) (sym same) ∙ slice_get-get_or nodes n before within ∙ ap Some (sym stands)

  pub spells_at : All Spells seen → Spells before
  spells_at all = subst Spells (sym stands) (subst (All Spells) (sym same) all n before within)

  pub fits_at : (order : NodeOrder) → FitsAt seen n order → fits before.node.role order ≡ true
  fits_at order fit = fit before stood

  -- and another node in its place
  module _ (after : NodeView H) where
    put : slice_set nodes n after ≡ slice_set seen n after
    put = ap (λ all. slice_set all n after) same

    pub spells_set : All Spells seen → Spells after → All Spells (slice_set nodes n after)
    spells_set all one = All-set Spells nodes n after one (subst (All Spells) (sym same) all)

    pub hash_set : after.hash ≡ before.hash → (hash : H) → AllHash hash seen → AllHash hash (slice_set nodes n after)
    hash_set kept hash all =
        let here = subst (AllHash hash) (sym same) all in
        All-set (λ (view : NodeView H). view.hash ≡ hash) nodes n after
        (kept ∙ ap (λ (view : NodeView H). view.hash) stands ∙ here n before within) here

    -- an order that was run on it
    pub runs_at : (digest : H → List ℕ → List ℕ) (log : List RootCall) (order : NodeOrder) (given : Given)
        → Runs (digest before.hash) log order before given after
        → RunsAt digest log n order seen given (slice_set nodes n after)
    runs_at digest log order given runs =
        record { before = before; after = after; stood = stood; is = put; runs = runs }

    -- it crashed
    pub crashes_at : (outcome : Outcome) → Crashes outcome before after
        → CrashesAt n outcome seen (slice_set nodes n after)
    crashes_at outcome crashes =
        record { before = before; after = after; stood = stood; is = put; crashes = crashes }

    -- an order of it was cut
    pub cuts_at : (digest : H → List ℕ → List ℕ) (log : List RootCall) (calls : ℕ) (outcome : Outcome)
        (order : NodeOrder) (end : CutEnd) → Cuts (digest before.hash) log calls outcome order before end after
        → CutsAt digest log n calls outcome order seen end (slice_set nodes n after)
    cuts_at digest log calls outcome order end cuts =
        record { before = before; after = after; stood = stood; is = put; cuts = cuts }
