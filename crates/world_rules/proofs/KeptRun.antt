-- Over every run of lines in the grammar, what events say of wallets and watchers is what their disks keep.
use Rattle.world_rules.proofs.Basics.{◌≡◌, ℕ, zero, suc, ◌^◌, ◌<◌, List, [], ◌∷◌, Some, None, refl, ◌∙◌, lit<, arith, slice_get, All, false≢true, common_steps}
use Rattle.world_rules.proofs.CoinWords.{some_same}
use Rattle.world_rules.proofs.NodeWords.{Small, small-nil, small-cons, small-append, small-number}
use Rattle.world_rules.proofs.OperatorWords.{operator_text}
use Rattle.world_rules.proofs.WorldWords.{Line, IsLine, Idle, log_of, Node, World, padded, new_chain, operator_node, Run, run_of, events_of, IsDigest, WalletsKeepWhatEventsSay, WatchersKeepWhatEventsSay}
use Rattle.world_rules.proofs.Said.{said, said-other, said-none}
use Rattle.world_rules.proofs.HeldSame.{are_kept}
use Rattle.world_rules.proofs.NewNodes.{small-padded}
use Rattle.world_rules.proofs.KeptNode.{KeptNode}
use Rattle.world_rules.proofs.KeptFrame.{first-frame}
use Rattle.world_rules.proofs.KeptWorld.{KeptWorld, world-feeds, act-kept}
use Rattle.world_rules.proofs.FitLines.{chain-fit}
use Rattle.world_rules.proofs.Fitting.{act-fits}
use Rattle.world_rules.proofs.Lives.{begun, good_runs_keep}

-- ---- the beginning

module _ (dig : List ℕ → List ℕ) (tag operator most : ℕ) (fits : most < 2 ^ 64) where
  operator-small : Small (operator_text (record { tag = padded tag; account = operator; key_seed = None }))
  unfolding operator_text
  operator-small =
      small-cons 33 (lit< tt) (small-append (small-append (small-padded tag) (small-number operator)) small-nil)

  -- the chain begins
  begins : KeptWorld dig (Idle ∷ []) (begun tag operator most).world
  unfolding log_of
  begins = record {
    frame = first-frame tag operator most fits;
    log_is = refl;
    nodes = at;
    fresh = λ n none. said-other Idle [] n refl ∙ said-none n;
  }
    where
      first : Node
      first = operator_node (new_chain tag operator most)

      at : (n : ℕ) (node : Node) → slice_get (first ∷ []) n ≡ Some node → KeptNode dig (said (Idle ∷ []) n) [] node
      at zero node is = grind (arith, common_steps, said, some_same, false≢true, operator-small)
      at (suc n) node is = absurd (cc is)

-- ---- runs

pub run-kept : (dig : List ℕ → List ℕ) → IsDigest dig → (lines : List Line) (run : Run) (world : World)
    → All IsLine lines → run_of dig lines ≡ Some run → run.world ≡ Some world
    → KeptWorld dig (events_of run.entries) world
unfolding events_of
run-kept dig is_digest lines run world fits is is_world =
    good_runs_keep dig IsLine (λ entries world. KeptWorld dig (events_of entries) world)
    (λ tag operator most good. begins dig tag operator most (chain-fit tag operator most good))
    (λ before so_far there line act come good act_is known kept.
    act-kept dig is_digest (events_of so_far.entries) there kept act known
    (act-fits there (world-feeds dig (events_of so_far.entries) there kept) line act good act_is))
    lines run world (record { lines_are = fits; run_is = is; world_is = is_world })

-- ---- the laws

pub wallets_keep : WalletsKeepWhatEventsSay
wallets_keep dig lines run world n node is_digest fits is is_world at role =
    let kept = run-kept dig is_digest lines run world fits is is_world in
    are_kept dig (events_of run.entries) world.chain.log n node kept.log_is ((kept.nodes n node at).wallet role)

pub watchers_keep : WatchersKeepWhatEventsSay
unfolding said
watchers_keep dig lines run world n node c e is_digest fits is is_world at role =
    let kept = run-kept dig is_digest lines run world fits is is_world in
    ((kept.nodes n node at).watcher role).guards c e
