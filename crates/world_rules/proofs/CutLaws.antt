-- What a crash, a cut and a command of a node that is down do.
use Rattle.world_rules.proofs.Basics.{◌≡◌, ℕ, ◌&&◌, not, Bool, true, false, if◌then◌else◌, List, Option, Some, inl, inr, refl, sym, ap, ◌∙◌, subst, arith, slice_get, nat_lt, option_map, option_and_then, and_cases, or_parts, ltb-false, le-leb, common_steps}
use Rattle.world_rules.proofs.CoinWords.{some_same}
use Rattle.world_rules.proofs.NodeWords.{is_added, Reply}
use Rattle.world_rules.proofs.WorldWords.{OutcomeToken, Line, Command, node_of, Other, Role, Node, World, with_node, any_role, number_of, plays, Deed, adds_record, deed_of, order_of, LineEffect, says, without_offers, with_records, after_crash, with_mail, step, stopped, finished, cut, is_stopped, is_opening, answers_down, outcome_of, act_at, act_on, command_effect, cut_effect, down, crashed, effect_in, CrashesLeaveTheRecords, IsCommandIn, StaysDown, DownNodesStay, IsCutTo, CutsKeepAsAppendsDo, CutOpeningsLeaveTheRecords}
use Rattle.world_rules.proofs.Lines.{effects_are_of_acts}
use Rattle.world_rules.proofs.Lives.{stepped}

-- the effect of a step, by what its line does
step-is : (dig : List ℕ → List ℕ) (world : World) (line : Line) (effect bare : LineEffect)
    → effect_in dig world line ≡ Some bare → step dig (Some world) line ≡ Some effect → effect ≡ with_mail bare
step-is dig world line effect bare bare_is is =
    let made = stepped dig world line effect is in
    grind (arith, common_steps, some_same, effects_are_of_acts)

-- what is done with a node that has the name
acts : (world : World) (may : Role → Bool) (name : List ℕ) (act : ℕ → Node → Option LineEffect) (n : ℕ) (node : Node)
    → number_of may world name ≡ Some n → slice_get world.nodes n ≡ Some node
    → act_on may world name act ≡ act n node
acts world may name act n node number node_is =
    ap (option_and_then (act_at world act)) number ∙ ap (option_and_then (act n)) node_is

-- ---- crashes

crash-in : (dig : List ℕ → List ℕ) (world : World) (name : List ℕ) (outcome : OutcomeToken) (n : ℕ) (node : Node)
    → number_of any_role world name ≡ Some n → slice_get world.nodes n ≡ Some node
    → effect_in dig world (Line.Crash name outcome) ≡ Some (crashed world n node)
unfolding Rattle.world_rules.specs.Steps.effect_in
crash-in dig world name outcome n node number node_is =
    acts world any_role name (λ n found. Some (crashed world n found)) n node number node_is

pub crashes_leave_the_records : CrashesLeaveTheRecords
crashes_leave_the_records dig world name outcome n node effect number node_is is =
    ap (λ (e : LineEffect). e.world.nodes)
    (step-is dig world (Line.Crash name outcome) effect (crashed world n node)
    (crash-in dig world name outcome n node number node_is) is)

-- ---- nodes that are down

down-of : (world : World) (effect : LineEffect) → effect ≡ with_mail (down world) → StaysDown world effect
down-of world effect is = grind (arith, common_steps)

command-in : (dig : List ℕ → List ℕ) (world : World) (command : Command) (n : ℕ) (node : Node)
    → number_of (plays command) world (node_of command) ≡ Some n → slice_get world.nodes n ≡ Some node
    → effect_in dig world (Line.Command command) ≡ command_effect dig world command n node
unfolding Rattle.world_rules.specs.Steps.effect_in
command-in dig world command n node number node_is =
    acts world (plays command) (node_of command) (command_effect dig world command) n node number node_is

cut-in : (dig : List ℕ → List ℕ) (world : World) (name : List ℕ) (calls : ℕ) (outcome : OutcomeToken)
    (command : Command) (n : ℕ) (node : Node)
    → number_of (plays command) world (node_of command) ≡ Some n → slice_get world.nodes n ≡ Some node
    → effect_in dig world (Line.Cut name calls outcome command) ≡ cut_effect dig world calls outcome command n node
unfolding Rattle.world_rules.specs.Steps.effect_in
cut-in dig world name calls outcome command n node number node_is =
    acts world (plays command) (node_of command) (cut_effect dig world calls outcome command) n node number node_is

pub down_nodes_stay : DownNodesStay
down_nodes_stay dig world line command n node effect line_is number node_is is_down is =
    down-of world effect (step-is dig world line effect (down world) (by line_is) is)
  where
    commanded-down : command_effect dig world command n node ≡ Some (down world)
    commanded-down = grind (arith, common_steps)

    by : IsCommandIn line command → effect_in dig world line ≡ Some (down world)
    by (inl alone) =
        ap (effect_in dig world) alone ∙ command-in dig world command n node number node_is ∙ commanded-down
    by (inr in_cut) =
        ap (effect_in dig world) in_cut.3
        ∙ cut-in dig world in_cut.0 in_cut.1 in_cut.2 command n node number node_is
        ∙ ap (λ b. if b then Some (down world)
        else option_map (cut world n node in_cut.1 in_cut.2 command) (deed_of dig world n node command)) is_down

-- ---- cuts

-- the effect of a cut that isn't answered `down`
cut-is : (dig : List ℕ → List ℕ) (world : World) (name : List ℕ) (calls : ℕ) (outcome : OutcomeToken)
    (command : Command) (n : ℕ) (node : Node) (deed : Deed) (effect : LineEffect)
    → number_of (plays command) world (node_of command) ≡ Some n → slice_get world.nodes n ≡ Some node
    → answers_down node command ≡ false → deed_of dig world n node command ≡ Some deed
    → step dig (Some world) (Line.Cut name calls outcome command) ≡ Some effect
    → effect ≡ with_mail (cut world n node calls outcome command deed)
cut-is dig world name calls outcome command n node deed effect number node_is up deed_is is =
    step-is dig world (Line.Cut name calls outcome command) effect (cut world n node calls outcome command deed)
    (cut-in dig world name calls outcome command n node number node_is
    ∙ ap (λ b. if b then Some (down world)
    else option_map (cut world n node calls outcome command) (deed_of dig world n node command)) up
    ∙ ap (option_map (cut world n node calls outcome command)) deed_is) is

-- a deed that adds no record leaves the records
none-added : (node : Node) (deed : Deed) → adds_record deed ≡ false → with_records node deed ≡ node
none-added node deed none = grind (arith, common_steps, or_parts)

-- a command that isn't stopped leaves the records that the law of appends leaves
kept-so : (node : Node) (deed : Deed) (calls : ℕ) (outcome : OutcomeToken)
    → (adds_record deed && nat_lt calls 4) ≡ false
    → with_records node deed ≡ (if is_added calls (outcome_of outcome) then with_records node deed else node)
kept-so node deed calls outcome long = grind (arith, common_steps, and_cases, none-added, le-leb, ltb-false)

module _ (world : World) (n : ℕ) (node : Node) (calls : ℕ) (outcome : OutcomeToken) (command : Command)
    (deed : Deed) where
  -- one that is stopped, with its record kept or not
  stopped-to : (kept : Bool) (after : Node) → after ≡ (if kept then with_records node deed else node)
      → IsCutTo world n after true deed (with_mail
      (if kept
      then says Reply.Stopped (without_offers n deed.gives.event)
      (with_node world n (after_crash (with_records node deed)))
      else says Reply.Stopped (Other n) (with_node world n (after_crash node))))
  stopped-to kept after is = grind (arith, common_steps)

  -- the node that a stop leaves
  abbrev left : Node
  left = if not (is_opening command) && is_added calls (outcome_of outcome) then with_records node deed else node

  -- whether it is stopped, or ends first
  cut-to : (short : Bool) (after : Node) → is_stopped calls node command deed ≡ short
      → (short ≡ true
      → after ≡ left)
      → (short ≡ false → after ≡ with_records node deed)
      → IsCutTo world n after short deed (with_mail (cut world n node calls outcome command deed))
  cut-to short after short_is stops ends =
      subst (λ b. IsCutTo world n after short deed (with_mail
      (if b then stopped world n node calls outcome command deed else finished world n node deed))) (sym short_is)
      (by short stops ends)
    where
      by : (b : Bool)
          → (b ≡ true → after
          ≡ left)
          → (b ≡ false → after ≡ with_records node deed)
          → IsCutTo world n after b deed (with_mail
          (if b then stopped world n node calls outcome command deed else finished world n node deed))
      by true stops ends =
          stopped-to (not (is_opening command) && is_added calls (outcome_of outcome)) after (stops refl)
      by false stops ends = grind (arith, common_steps)

pub cuts_keep_as_appends_do : CutsKeepAsAppendsDo
cuts_keep_as_appends_do dig world name calls outcome command n node deed effect number node_is up other deed_is is =
    let short = adds_record deed && nat_lt calls 4 in
    let after = if is_added calls (outcome_of outcome) then with_records node deed else node in
    subst (λ e. IsCutTo world n after short deed e)
    (sym (cut-is dig world name calls outcome command n node deed effect number node_is up deed_is is))
    (cut-to world n node calls outcome command deed short after
    (ap (λ b. if b then not node.is_up && nat_lt calls 3 else short) other)
    (grind (arith, common_steps))
    (λ ends. sym (kept-so node deed calls outcome ends)))

-- an opening adds no record
opening-none : (dig : List ℕ → List ℕ) (world : World) (n : ℕ) (node : Node) (name : List ℕ) (deed : Deed)
    → deed_of dig world n node (Command.Open name) ≡ Some deed → with_records node deed ≡ node
unfolding deed_of order_of
opening-none dig world n node name deed is = subst (λ d. with_records node d ≡ node) (some_same _ deed is) refl

pub cut_openings_leave_the_records : CutOpeningsLeaveTheRecords
cut_openings_leave_the_records dig world name opened calls outcome n node deed effect number node_is deed_is is =
    subst (λ e. IsCutTo world n node (not node.is_up && nat_lt calls 3) deed e)
    (sym (cut-is dig world name calls outcome (Command.Open opened) n node deed effect number node_is
    (never node.is_up) deed_is is))
    (grind (arith, common_steps, cut-to, opening-none))
  where
    never : (b : Bool) → (not b && false) ≡ false
    never true = refl
    never false = refl
