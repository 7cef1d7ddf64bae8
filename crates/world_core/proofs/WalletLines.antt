-- The wallets of a run whose lines are in the grammar and made bytes have a wallet's records.
use Rattle.world_core.proofs.Words.{◌≡◌, ℕ, zero, suc, List, Some, inl, inr, sym, subst, All, false≢true, All-head, All-tail, Chain, Line, IsLine, owner_of, Declares, Node, World, wallet_of, Deed, with_records, entry_of, Run, run_of, NewWallet, NewWatcher, NewRogue, Act, Adds, Orders, Crashes, End, Lost, end_of, node_after, deed_at, done, told, nothing_said, wallet-longer, first-frame, frame-kept, frame-item, joined-wallet, order-at, change_of, EachNode, IsKeptOwn, each_node_keeps, IfThere, node-there, others-there, act-log, HasWallets, MadeBytes}
use Rattle.world_rules.specs.Evidence.{IsActIn}
use Rattle.world_rules.proofs.FitLines.{chain-fit}
use Rattle.world_rules.proofs.Fitting.{IsFitAct, act-fits}
use Rattle.world_rules.proofs.Lives.{begun, line_effect, good_runs_keep}
use Rattle.world_core.proofs.WalletRecords.{IsKept, KeepsWallets, feeds, order-keeps}

module _ (dig : List ℕ → List ℕ) (world : World) (kept : KeepsWallets dig world) where
  abbrev Old : ℕ → Node → Type 0
  Old = IsKept dig world.chain.log

  abbrev After : Act → ℕ → Node → Type 0
  After act = IsKept dig (done dig world act).world.chain.log

  -- ---- one act

  -- a log that may be longer
  later : (act : Act) (n : ℕ) (node : Node) → Old n node → After act n node
  later act n node has =
      elim (act-log dig world act) [
        | inl left ↦ subst (λ (c : Chain). IsKept dig c.log n node) (sym left.chain) has
        | inr more ↦
            subst (λ (c : Chain). IsKept dig c.log n node) (sym more.chain) (λ role.
            let it = has role in
            (it.0, wallet-longer dig it.0 world.chain.log more.call (wallet_of node) it.1))
      ]

  -- however an order ends
  ended : (n : ℕ) (node : Node) (deed : Deed) (end : End) → Old n node → Old n (with_records node deed)
      → Old n (node_after node deed end)
  ended n node deed Lost old new = old
  ended n node deed end old new = new

  own : (act : Act) → IsActIn world act → IsFitAct act
      → IsKeptOwn (IfThere Old) (IfThere (After act)) world.nodes (change_of dig world act)
  unfolding done
  own (Adds name (NewWallet who)) known fit = λ none role. (
    told (Declares 0 (owner_of who)) nothing_said,
    joined-wallet dig world kept.frame who known.0 fit world.chain.log 0,
  )
  own (Adds name (NewWatcher account)) known fit = λ none role. absurd (false≢true role)
  own (Adds name (NewRogue who)) known fit = tt
  own (Orders place order cut) known fit = λ old.
      let deed = deed_at dig world place order in
      ended place.number place.node deed (end_of cut place.node order deed) old
      (order-keeps dig world kept place.number place.node order (order-at place.node.role order known.role) fit old)
  own (Crashes place) known fit = λ old. old
  own act known fit = tt

  act-keeps : (act : Act) → IsActIn world act → IsFitAct act
      → EachNode (IfThere (After act)) (done dig world act).world.nodes
  act-keeps act known fit =
      each_node_keeps (IfThere Old) (IfThere (After act)) dig world act known kept.nodes (record {
        others = others-there Old (After act) world.nodes (change_of dig world act) (λ m other node has.
            later act m node has);
        own = own act known fit;
      })

-- ---- runs

module _ (dig : List ℕ → List ℕ) where
  -- the chain begins
  first-keeps : (tag operator most : ℕ) → IsLine (Line.Chain tag operator most)
      → KeepsWallets dig (begun tag operator most).world
  first-keeps tag operator most fits =
      record { frame = first-frame tag operator most (chain-fit tag operator most fits); nodes = each }
    where
      each : EachNode (IfThere (IsKept dig (begun tag operator most).world.chain.log))
          (begun tag operator most).world.nodes
      each zero = λ role. absurd (false≢true role)
      each (suc n) = tt

  keeps : (lines : List Line) (run : Run) (world : World) → All IsLine lines → run_of dig lines ≡ Some run
      → run.world ≡ Some world → All MadeBytes run.entries → KeepsWallets dig world
  keeps lines run world fits is world_is =
      good_runs_keep dig IsLine (λ entries world. All MadeBytes entries → KeepsWallets dig world)
      (λ tag operator most good made. first-keeps tag operator most good)
      (λ before so_far there line act come good act_is known holds made.
      let kept = holds (All-tail MadeBytes (entry_of line (line_effect dig there act)) so_far.entries made) in
      let fit = act-fits there (feeds dig there kept) line act good act_is in
      record {
        frame = frame-item (done dig there act).world (done dig there act).made
            (frame-kept dig there kept.frame act fit)
            (record { are = All-head MadeBytes (entry_of line (line_effect dig there act)) so_far.entries made });
        nodes = act-keeps dig there kept act known fit;
      })
      lines run world (record { lines_are = fits; run_is = is; world_is = world_is })

  -- each wallet of a run has a wallet's records
  pub has_wallets : (lines : List Line) (run : Run) (world : World) → All IsLine lines → All MadeBytes run.entries
      → run_of dig lines ≡ Some run → run.world ≡ Some world → HasWallets dig world
  has_wallets lines run world fits made is world_is n node at role =
      (node-there (IsKept dig world.chain.log) world.nodes (keeps lines run world fits is world_is made).nodes n node at
      role).1.is
