-- In every run the first node alone is the operator.
use Rattle.world_rules.proofs.Basics.{◌≡◌, ℕ, true, List, [], ◌∷◌, Option, Some, None, subst, arith, false≢true, common_steps}
use Rattle.world_rules.proofs.WorldWords.{Line, Node, World, is_operator_role, TraceEntry, Run, entry_of, Act}
use Rattle.world_rules.proofs.Nodes.{change_of, EachNode, IsKeptOwn, each_node_keeps}
use Rattle.world_rules.proofs.Same.{same-after}
use Rattle.world_rules.proofs.Told.{OperatorIsFirst}
use Rattle.world_rules.proofs.Lives.{begun, HasCome, runs_keep}

abbrev IsFirst : ℕ → Option Node → Type 0
IsFirst n None = Unit {0}
IsFirst n (Some node) = is_operator_role node.role ≡ true → n ≡ 0

own-first : (dig : List ℕ → List ℕ) (world : World) (act : Act)
    → IsKeptOwn IsFirst IsFirst world.nodes (change_of dig world act)
own-first dig world act = grind (arith, common_steps, false≢true, same-after)

abbrev AreFirst : List TraceEntry → World → Type 0
AreFirst entries world = EachNode IsFirst world.nodes

begins : (tag operator most : ℕ)
    → AreFirst (entry_of (Line.Chain tag operator most) (begun tag operator most) ∷ []) (begun tag operator most).world
begins tag operator most h3 = grind (arith, common_steps)

pub operator_is_first : (dig : List ℕ → List ℕ) (IsGood : Line → Type 0) (lines : List Line) (run : Run)
    (world : World) → HasCome dig IsGood lines run world → OperatorIsFirst world
operator_is_first dig IsGood lines run world come n node is = subst (IsFirst n) is (each n)
  where
    each : EachNode IsFirst world.nodes
    each = runs_keep dig IsGood AreFirst begins
        (λ lines run world line act come good act_is known each.
        each_node_keeps IsFirst IsFirst dig world act known each
        (record { others = λ m other found holds. holds; own = own-first dig world act })) lines run world come
