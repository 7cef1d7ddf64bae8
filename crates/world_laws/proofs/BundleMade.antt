-- What a line makes that is answered with a bundle: the bytes of the bundle that the operator's notes and the log give.
use Rattle.world_laws.proofs.Basics.{◌≡◌, ℕ, Bool, true, false, if◌then◌else◌, List, Option, Some, Ok, sym, ap, ◌∙◌, slice_get, arith, Err, refl, Result, false≢true, eq-eqb, eqb-true, common_steps, some_same}
use Rattle.world_laws.proofs.CoinWords.{Bundle, bundle_text, RootCall, CoinView, coin_at, RawOpening, Entry}
use Rattle.world_laws.proofs.NodeWords.{Reply, prove_cause, NodeOrder, OperatorOrder, answered, on_bundled, operator_does}
use Rattle.world_laws.proofs.OperatorWords.{Place, present, as_bundle, bundle_to, bundle_of, bundle_answer, tip_asked}
use Rattle.world_laws.proofs.WorldWords.{Line, Command, OperatorCommand, node_of, Other, Node, World, is_operator_role, order_of, event_of, LineEffect, with_mail, IsCommandIn, NodePlace, Cut, Act, Rests, Orders, End, Whole, Crashed, Kept, Lost, act_of, end_of, end_effect, deed_at, done, line_effect, IsFound, understood-in}
use Rattle.operator_rules.specs.declared.refusal.ProveRefusal.{ProveRefusal}

-- ---- the bundle that is asked for

module _ (dig : List ℕ → List ℕ) (log : List RootCall) (sealed : List (List Entry)) (coin : ℕ) where
  as-is : (tip : ℕ) (openings : Result (List RawOpening) ProveRefusal) (bundle : Bundle)
      → as_bundle coin tip openings ≡ Ok bundle → (bundle.coin ≡ coin) × (bundle.tip ≡ tip)
  as-is tip openings bundle is = grind (arith, common_steps)

  pub to-is : (made : CoinView) (tip : ℕ) (bundle : Bundle) → bundle_to dig log sealed coin made tip ≡ Ok bundle
      → (bundle.coin ≡ coin) × (bundle.tip ≡ tip)
  to-is made tip bundle is = grind (arith, common_steps, as-is)

-- the tip that is answered is asked for by itself
asked-again : (asked tip : ℕ) (place : Place) → tip_asked asked place ≡ tip → tip_asked tip place ≡ tip
asked-again asked tip place is = grind (arith, common_steps, false≢true, eq-eqb, eqb-true)

-- a bundle that was asked for by another number is that for its tip
pub bundle-again : (dig : List ℕ → List ℕ) (tag : List ℕ) (log : List RootCall) (sealed : List (List Entry))
    (coin asked tip : ℕ) (made : CoinView) (bundle : Bundle) → coin_at log coin ≡ Some made
    → bundle_of dig tag log sealed coin asked (coin_at log coin) ≡ Ok bundle → bundle.tip ≡ tip
    → (bundle_of dig tag log sealed coin tip (coin_at log coin) ≡ Ok bundle) × (bundle.coin ≡ coin)
bundle-again dig tag log sealed coin asked tip made bundle coin_is is tip_is =
    let place = present dig tag log sealed coin made in
    let at : bundle_to dig log sealed coin made (tip_asked asked place) ≡ Ok bundle =
    ap (bundle_of dig tag log sealed coin asked) (sym coin_is) ∙ is in
    let parts = to-is dig log sealed coin made (tip_asked asked place) bundle at in
    grind (arith, common_steps, asked-again)

-- ---- the line

-- the line made the bytes of the bundle that the operator's notes and the log give
pub record IsMadeBundle (dig : List ℕ → List ℕ) (world : World) (coin asked tip : ℕ) (effect : LineEffect)
    : Type 0 where
  pub n : ℕ
  pub node : Node
  pub node_is : slice_get world.nodes n ≡ Some node
  pub role : is_operator_role node.role ≡ true
  pub bundle : Bundle
  pub answer_is : bundle_answer dig node.notes world.chain.log coin asked ≡ Ok bundle
  pub tip_is : bundle.tip ≡ tip
  pub made_is : effect.made ≡ bundle_text bundle
  pub event_is : effect.event ≡ Other n

module _ (dig : List ℕ → List ℕ) (world : World) (coin asked tip : ℕ) where
  abbrev command : Command
  command = Command.Operator (OperatorCommand.Bundle coin asked)

  abbrev order : NodeOrder
  order = NodeOrder.Operator (OperatorOrder.Bundle coin asked)

  -- what is answered with a bundle
  answered-bundle : (n : ℕ) (result : Result Bundle ProveRefusal)
      → (answered prove_cause on_bundled result).reply ≡ Reply.Bundled tip
      → (bundle : Bundle) × (result ≡ Ok bundle) × (bundle.tip ≡ tip)
      × ((answered prove_cause on_bundled result).made ≡ bundle_text bundle)
      × (event_of n order (answered prove_cause on_bundled result) ≡ Other n)
  unfolding event_of
  answered-bundle n (Ok bundle) is = (bundle, refl, cc is, refl, refl)
  answered-bundle n (Err why) is = absurd (cc is)

  abbrev Makes : Act → Type 0
  Makes act = (done dig world act).reply ≡ Reply.Bundled tip
      → IsMadeBundle dig world coin asked tip (line_effect dig world act)

  pub line-made : (line : Line) (act : Act) → IsCommandIn line command → act_of world line ≡ Some act → Makes act
  unfolding order_of done operator_does
  line-made line act is_command is =
      let (cut, by) = understood-in world line command act is is_command in
      grind (arith, common_steps, some_same, ordered)
    where
      ended : (place : NodePlace) → IsFound world is_operator_role (node_of command) place → (end : End)
          → (end_effect world place (deed_at dig world place order) end).reply ≡ Reply.Bundled tip
          → IsMadeBundle dig world coin asked tip
          (with_mail (end_effect world place (deed_at dig world place order) end))
      ended place at Whole reply =
          let found = answered-bundle place.number (bundle_answer dig place.node.notes world.chain.log coin asked)
          reply in
          grind (arith, common_steps)
      ended place at Crashed reply =
          let found = answered-bundle place.number (bundle_answer dig place.node.notes world.chain.log coin asked)
          reply in
          grind (arith, common_steps)
      ended place at Kept reply = absurd (cc reply)
      ended place at Lost reply = absurd (cc reply)

      ordered : (cut : Option Cut) (place : NodePlace) → IsFound world is_operator_role (node_of command) place
          → (b : Bool)
          → Makes (if b then Rests Reply.Down else Orders place order cut)
      ordered cut place at true reply = absurd (cc reply)
      ordered cut place at false reply =
          ended place at (end_of cut place.node order (deed_at dig world place order)) reply
