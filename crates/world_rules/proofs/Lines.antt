-- What each line is: an act exactly where it keeps the rules of declarations. What is known of that act, of which line
-- it is, and that the line does what the act does. This file alone goes through all kinds of line.
use Rattle.world_rules.proofs.Basics.{◌≡◌, ℕ, ◌&&◌, not, Bool, true, false, if◌then◌else◌, List, Option, Some, None, is_some, inl, inr, refl, sym, ap, ◌∙◌, subst, arith, option_map, option_and_then, nat_lt, bytes_eq, not-true, ltb-true, false≢true, common_steps}
use Rattle.world_rules.proofs.CoinWords.{leaf_count, LmsTypes, Owner, some_same}
use Rattle.world_rules.proofs.NodeWords.{is_added, WalletIdentity, Reply, NodeOrder}
use Rattle.world_rules.proofs.WorldWords.{OutcomeToken, HexOrName, option_map_some, Line, Command, node_of, Role, Node, Rogue, World, is_wallet_role, any_role, rogue_named, new_owner_of, owner_of_node, call_of, plays, is_declared, has_declared_names, has_leaf_number, declared_wallet, is_wallet_account, keeps_rules, keeps_rules_in, order_of, Deed, adds_record, deed_of, LineEffect, deposit_by, offer_numbered, entered, is_opening, answers_down, down, outcome_of, finished, cut, act_at, act_on, command_effect, cut_effect, signed_body, effect_in, effect_of, with_mail, step, IsCommandIn, LinesThatKeepTheRulesStep, Place, NewWallet, NewWatcher, NewRogue, Deposits, Raw, Cut, Act, Rests, Signs, Adds, Enters, Orders, Crashes, only_where, place_named, opens, is_down_for, order_act, command_act, offer_act, act_of, Crashed, Kept, Lost, needs_more, end_of, end_effect, deed_at, done, IsThere, has_order, IsActIn}
use Rattle.schedule_text.specs.declared.call_form.CallForm.{CallForm}
use Rattle.world_rules.specs.ActLaws.{ActsKeepTheRules, EffectsAreOfActs, StepsAreOfActs, ActsAreKnown}
use Rattle.world_rules.proofs.OrderEnds.{IsOrderAt, order-role}
use Rattle.world_rules.proofs.Lookups.{is_some-where, is_some-rule, is_some-map, is_some-named, is_some-order, where-some, ruled, IsFound, found, owner-is, IsUnderstood, understood, signed}

-- ---- of which line an act is

-- the line that signs, declares or calls so, or that has the command of the order
abbrev pub IsLineOf : World → Line → Act → Type 0
IsLineOf world line (Signs leaf body rogue) =
    (name : List ℕ) × (coin : ℕ) × (parent : ℕ) × (to : HexOrName) × (last : Option ℕ)
    × (line ≡ Line.Sign name leaf coin parent to last) × (new_owner_of world to ≡ Some body.to)
IsLineOf world line (Adds name (NewWallet who)) =
    (account : ℕ) × (seed : ℕ) × (types : Option LmsTypes) × (line ≡ Line.Wallet name account seed types)
    × (declared_wallet world account seed types ≡ who)
IsLineOf world line (Adds name (NewWatcher account)) = line ≡ Line.Watcher name account
IsLineOf world line (Adds name (NewRogue who)) =
    (account : ℕ) × (seed : ℕ) × (types : Option LmsTypes) × (line ≡ Line.Rogue name account seed types)
    × (declared_wallet world account seed types ≡ who)
IsLineOf world line (Enters (Raw account) call) =
    (form : CallForm) × (line ≡ Line.Call account form) × (call_of world account form ≡ Some call)
IsLineOf world line (Orders place order cut) =
    (command : Command) × IsCommandIn line command × (order_of world place.node.role command ≡ Some order)
IsLineOf world line act = Unit {0}

-- what the act of a line is
pub record IsActOf (world : World) (line : Line) (act : Act) : Type 0 where
  pub known : IsActIn world act
  pub line_is : IsLineOf world line act
  pub effect : (dig : List ℕ → List ℕ) → effect_in dig world line ≡ Some (done dig world act)

-- the node has a role for the order
has-order : (role : Role) (order : NodeOrder) → IsOrderAt role order → has_order order role ≡ true
has-order role order h2 = grind (arith, common_steps)

pub order-at : (role : Role) (order : NodeOrder) → has_order order role ≡ true → IsOrderAt role order
order-at role order has = grind (arith, common_steps)

module _ (world : World) where
  -- ---- the rules

  command-rule : (cut : Option Cut) (command : Command)
      → is_some (command_act world cut command)
      ≡ (is_declared (plays command) world (node_of command) && has_declared_names world command)
  command-rule cut command = by (place_named (plays command) world (node_of command)) refl
    where
      by : (o : Option Place) → place_named (plays command) world (node_of command) ≡ o
          → is_some (option_and_then
          (λ (place : Place). option_map (order_act cut place) (order_of world place.node.role command)) o)
          ≡ (is_declared (plays command) world (node_of command) && has_declared_names world command)
      by None none = grind (arith, common_steps, is_some-named)
      by (Some place) some =
          is_some-map (order_act cut place) (order_of world place.node.role command)
          ∙ is_some-order world place.node.role command (found world (plays command) (node_of command) place some).role
          ∙ ap (λ b. b && has_declared_names world command)
          (sym (ap is_some some) ∙ is_some-named world (plays command) (node_of command))

  sign-rule : (leaf coin parent : ℕ) (last : Option ℕ) (rogue : Option Rogue) (to : Option Owner)
      → is_some (option_and_then
      (λ (signer : Rogue). option_map
      (λ (owner : Owner). Signs leaf (signed_body world coin parent last owner) signer) to)
      (option_and_then (λ (one : Rogue). only_where (nat_lt leaf (leaf_count one.secret.types)) (Some one)) rogue))
      ≡ (has_leaf_number leaf rogue && is_some to)
  sign-rule leaf coin parent last rogue to = grind (arith, common_steps, is_some-map)

  pub rule : (line : Line) → is_some (act_of world line) ≡ keeps_rules_in world line
  unfolding act_of
  rule (Line.Chain tag operator most) = refl
  rule (Line.Wallet name account seed types) =
      is_some-rule (keeps_rules_in world (Line.Wallet name account seed types)) _
  rule (Line.Watcher name account) = is_some-rule (keeps_rules_in world (Line.Watcher name account)) _
  rule (Line.Rogue name account seed types) = is_some-rule (keeps_rules_in world (Line.Rogue name account seed types)) _
  rule (Line.Fund account amount) = refl
  rule (Line.Tick time) = refl
  rule (Line.Money account) = refl
  rule (Line.Deposit wallet amount) =
      is_some-map _ (place_named is_wallet_role world wallet) ∙ is_some-named world is_wallet_role wallet
  rule (Line.Call account form) = grind (arith, common_steps, is_some-where, is_some-map)
  rule (Line.Enter node number) =
      is_some-map (offer_act number) (place_named any_role world node) ∙ is_some-named world any_role node
  rule (Line.Command command) = command-rule None command
  rule (Line.Sign rogue leaf coin parent to last) =
      sign-rule leaf coin parent last (rogue_named world rogue) (new_owner_of world to)
  rule (Line.Crash node outcome) =
      is_some-map Crashes (place_named any_role world node) ∙ is_some-named world any_role node
  rule (Line.Cut node calls outcome command) = grind (arith, common_steps, is_some-where, command-rule)

  -- ---- what a line does

  module _ (dig : List ℕ → List ℕ) where
    -- what is done with the node of a name is done at its place
    acted : (may : Role → Bool) (name : List ℕ) (place : Place) → IsFound world may name place
        → (act : ℕ → Node → Option LineEffect) → act_on may world name act ≡ act place.number place.node
    acted may name place at act =
        ap (option_and_then (act_at world act)) at.number ∙ ap (option_and_then (act place.number)) at.there

    opening : (role : Role) (command : Command) (order : NodeOrder) → order_of world role command ≡ Some order
        → is_opening command ≡ opens order
    unfolding order_of
    opening role command order is = grind (arith, common_steps, option_map_some, some_same)

    module _ (command : Command) (place : Place) (order : NodeOrder)
        (order_is : order_of world place.node.role command ≡ Some order) where
      abbrev node : Node
      node = place.node

      abbrev deed : Deed
      deed = deed_at dig world place order

      -- the node does the order's deed, by whatever it ends with, or is down for it
      given-effect : (end : Deed → LineEffect)
          → (if answers_down node command then Some (down world)
          else option_map end (deed_of dig world place.number node command))
          ≡ (if is_down_for order node then Some (down world) else Some (end deed))
      unfolding deed_of
      given-effect end = grind (arith, common_steps, opening)

      command-done : command_effect dig world command place.number node
          ≡ Some (done dig world (order_act None place order))
      unfolding done
      command-done = grind (arith, common_steps, given-effect)

      module _ (calls : ℕ) (outcome : OutcomeToken) where
        abbrev the_cut : Cut
        the_cut = record { calls = calls; outcome = outcome_of outcome }

        abbrev kept : LineEffect
        kept = end_effect world place deed Kept

        abbrev lost : LineEffect
        lost = end_effect world place deed Lost

        -- a cut, by whether its command opens the node
        abbrev cut_by : Bool → LineEffect
        cut_by is_open =
            if (if is_open then not node.is_up && nat_lt calls 3 else adds_record deed && nat_lt calls 4)
            then (if not is_open && is_added calls (outcome_of outcome) then kept else lost)
            else finished world place.number node deed

        cut-ends : cut world place.number node calls outcome command deed
            ≡ end_effect world place deed (end_of (Some the_cut) node order deed)
        cut-ends = ap cut_by (opening node.role command order order_is)
            ∙ by (needs_more the_cut node order deed) (not (opens order) && is_added calls (outcome_of outcome))
          where
            by : (more keeps : Bool)
                → (if more then (if keeps then kept else lost) else finished world place.number node deed)
                ≡ end_effect world place deed (if more then (if keeps then Kept else Lost) else Crashed)
            by true true = refl
            by true false = refl
            by false keeps = refl

        cut-done : cut_effect dig world calls outcome command place.number node
            ≡ Some (done dig world (order_act (Some the_cut) place order))
        unfolding done
        cut-done = grind (arith, common_steps, given-effect, cut-ends, by)
          where
            by : (b : Bool)
                → (if b then Some (down world)
                else Some (end_effect world place deed (end_of (Some the_cut) node order deed)))
                ≡ Some (done dig world (if b then Rests Reply.Down else Orders place order (Some the_cut)))
            by true = refl
            by false = refl

    offer-done : (number : ℕ) (place : Place)
        → Some (entered dig world (offer_numbered number place.node)) ≡ Some (done dig world (offer_act number place))
    unfolding done
    offer-done number place = grind (arith, common_steps)

  -- ---- each line

  -- by a command, alone or in a cut
  command-is : (line : Line) (cut : Option Cut) (command : Command) (act : Act) → IsCommandIn line command
      → (one : IsUnderstood world cut command act)
      → ((dig : List ℕ → List ℕ) → effect_in dig world line ≡ Some (done dig world (order_act cut one.place one.order)))
      → IsActOf world line act
  unfolding done
  command-is line cut command act in_line one effect =
      subst (IsActOf world line) one.act_is (by (is_down_for one.order one.place.node) refl effect)
    where
      by : (b : Bool) → is_down_for one.order one.place.node ≡ b
          → ((dig : List ℕ → List ℕ) → effect_in dig world line
          ≡ Some (done dig world (if b then Rests Reply.Down else Orders one.place one.order cut)))
          → IsActOf world line (if b then Rests Reply.Down else Orders one.place one.order cut)
      by true down effect = record { known = tt; line_is = tt; effect = effect }
      by false up effect = grind (arith, common_steps, has-order, order-role)

  -- by an offer
  offer-is : (line : Line) (number : ℕ) (place : Place) → IsThere world place
      → ((dig : List ℕ → List ℕ) → effect_in dig world line ≡ Some (done dig world (offer_act number place)))
      → IsActOf world line (offer_act number place)
  offer-is line number place there effect = grind (arith, common_steps)

  pub is-act : (line : Line) (act : Act) → act_of world line ≡ Some act → IsActOf world line act
  unfolding act_of effect_in done
  is-act (Line.Chain tag operator most) act is = absurd (cc is)
  is-act (Line.Wallet name account seed types) act is =
      let who : WalletIdentity = declared_wallet world account seed types in
      let may = ruled (keeps_rules_in world (Line.Wallet name account seed types)) (Adds name (NewWallet who)) act is in
      subst (IsActOf world (Line.Wallet name account seed types)) may.1 (record {
        known = (record { tag = refl; seed = seed; is_seed = refl }, may.0);
        line_is = (account, seed, types, refl, refl);
        effect = λ dig. refl;
      })
  is-act (Line.Watcher name account) act is =
      let may = ruled (keeps_rules_in world (Line.Watcher name account)) (Adds name (NewWatcher account)) act is in
      grind (arith, common_steps)
  is-act (Line.Rogue name account seed types) act is =
      let who : WalletIdentity = declared_wallet world account seed types in
      let may = ruled (keeps_rules_in world (Line.Rogue name account seed types)) (Adds name (NewRogue who)) act is in
      subst (IsActOf world (Line.Rogue name account seed types)) may.1 (record {
        known = (record { tag = refl; seed = seed; is_seed = refl }, may.0);
        line_is = (account, seed, types, refl, refl);
        effect = λ dig. refl;
      })
  is-act (Line.Fund account amount) act is = grind (arith, common_steps, some_same)
  is-act (Line.Tick time) act is = grind (arith, common_steps, some_same)
  is-act (Line.Money account) act is = grind (arith, common_steps, some_same)
  is-act (Line.Deposit wallet amount) act is =
      let place = option_map_some
      (λ (place : Place). Enters (Deposits place) (deposit_by amount (owner_of_node place.node)))
      (place_named is_wallet_role world wallet) act is in
      grind (arith, common_steps, found, owner-is)
  is-act (Line.Call account form) act is =
      let may = where-some (not (is_wallet_account world account))
      (option_map (Enters (Raw account)) (call_of world account form)) act is in
      let call = option_map_some (Enters (Raw account)) (call_of world account form) act may.1 in
      grind (arith, common_steps, not-true)
  is-act (Line.Enter node number) act is =
      let place = option_map_some (offer_act number) (place_named any_role world node) act is in
      let at = found world any_role node place.0 place.1 in
      subst (IsActOf world (Line.Enter node number)) place.2
      (offer-is (Line.Enter node number) number place.0 at.there (λ dig.
      acted dig any_role node place.0 at (λ n one. Some (entered dig world (offer_numbered number one)))
      ∙ offer-done dig number place.0))
  is-act (Line.Command command) act is =
      let one = understood world None command act is in
      command-is (Line.Command command) None command act (inl refl) one (λ dig.
      acted dig (plays command) (node_of command) one.place one.at (command_effect dig world command)
      ∙ command-done dig command one.place one.order one.order_is)
  is-act (Line.Sign rogue leaf coin parent to last) act is =
      let one = signed world rogue leaf coin parent to last act is in
      grind (arith, common_steps, ltb-true)
  is-act (Line.Crash node outcome) act is =
      let place = option_map_some Crashes (place_named any_role world node) act is in
      let at = found world any_role node place.0 place.1 in
      grind (arith, common_steps, acted)
  is-act (Line.Cut node calls outcome command) act is =
      let cut : Cut = record { calls = calls; outcome = outcome_of outcome } in
      let same = where-some (bytes_eq (node_of command) node) (command_act world (Some cut) command) act is in
      let one = understood world (Some cut) command act same.1 in
      command-is (Line.Cut node calls outcome command) (Some cut) command act (inr (node, calls, outcome, refl)) one
      (grind (arith, common_steps, acted, cut-done))

  module _ (dig : List ℕ → List ℕ) where
    -- the step of the line, by whether it has an act
    step-done : (o : Option Act) (line : Line) → act_of world line ≡ o
        → (if keeps_rules_in world line then option_map with_mail (effect_in dig world line) else None)
        ≡ option_map (λ (act : Act). with_mail (done dig world act)) o
    step-done None line none =
        ap (λ b. if b then option_map with_mail (effect_in dig world line) else None)
        (sym (rule line) ∙ ap is_some none)
    step-done (Some act) line some =
        ap (λ b. if b then option_map with_mail (effect_in dig world line) else None)
        (sym (rule line) ∙ ap is_some some)
        ∙ ap (option_map with_mail) ((is-act line act some).effect dig)

-- ---- the laws

pub acts_keep_the_rules : ActsKeepTheRules
unfolding keeps_rules
acts_keep_the_rules world line = rule world line

-- so one that keeps them is an act
pub act-kept : (world : World) (line : Line) → keeps_rules (Some world) line ≡ true
    → (act : Act) × (act_of world line ≡ Some act)
act-kept world line keeps = by (act_of world line) refl
  where
    by : (found : Option Act) → act_of world line ≡ found → (act : Act) × (act_of world line ≡ Some act)
    by (Some act) some = (act, some)
    by None none = absurd (false≢true (sym (ap is_some none) ∙ acts_keep_the_rules world line ∙ keeps))

pub acts_are_known : ActsAreKnown
acts_are_known world line act is = (is-act world line act is).known

pub effects_are_of_acts : EffectsAreOfActs
effects_are_of_acts dig world line act is = (is-act world line act is).effect dig

pub steps_are_of_acts : StepsAreOfActs
unfolding step effect_of keeps_rules
steps_are_of_acts dig world line = step-done world dig (act_of world line) line refl

-- so a line has a step exactly where it keeps the rules
pub lines_that_keep_the_rules_step : LinesThatKeepTheRulesStep
unfolding step effect_of keeps_rules
lines_that_keep_the_rules_step dig h1 line = grind (arith, common_steps, steps_are_of_acts, is_some-map, rule)
