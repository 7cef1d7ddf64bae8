-- The act of a line in the grammar has numbers, owners and bytes that fit.
use Rattle.world_rules.proofs.Basics.{◌≡◌, ◌<◌, ◌^◌, true, Some, subst, arith, common_steps}
use Rattle.world_rules.proofs.CoinWords.{is_supported}
use Rattle.world_rules.proofs.WorldWords.{Line, Command, IsLine, World, IsCommandIn, Newcomer, NewWallet, NewWatcher, NewRogue, Act, Signs, Adds, Orders, act_of}
use Rattle.world_rules.proofs.KeptNode.{IsGoodOwner, Feeds, IsFit, IsFitOrder, order-fit}
use Rattle.world_rules.proofs.FitLines.{command-fit, cut-fit, wallet-fit, watcher-fit, rogue-fit, sign-fit}
use Rattle.world_rules.proofs.Lines.{IsLineOf, is-act}

-- who is declared has an account of the type, and a key of types that there are
abbrev pub IsFitNew : Newcomer → Type 0
IsFitNew (NewWallet who) = (who.account < 2 ^ 64) × (is_supported who.types ≡ true)
IsFitNew (NewWatcher account) = account < 2 ^ 64
IsFitNew (NewRogue who) = who.account < 2 ^ 64

-- what an act names fits
abbrev pub IsFitAct : Act → Type 0
IsFitAct (Signs leaf body rogue) = IsGoodOwner body.to
IsFitAct (Adds name newcomer) = IsFitNew newcomer
IsFitAct (Orders place order cut) = IsFitOrder order
IsFitAct act = Unit {0}

module _ (world : World) (feeds : Feeds world) (line : Line) (fits : IsLine line) where
  command-fits : (command : Command) → IsCommandIn line command → IsFit command
  command-fits command h1 = grind (arith, common_steps, command-fit, cut-fit)

  fit : (act : Act) → IsLineOf world line act → IsFitAct act
  fit (Signs leaf body rogue) (name, coin, parent, to, last, is, owner_is) =
      feeds.owners to body.to (sign-fit name leaf coin parent to last (subst IsLine is fits)) owner_is
  fit (Adds name (NewWallet who)) (account, seed, types, is, who_is) =
      subst (λ one. IsFitNew (NewWallet one)) who_is (wallet-fit name account seed types (subst IsLine is fits))
  fit (Adds name (NewWatcher account)) is = watcher-fit name account (subst IsLine is fits)
  fit (Adds name (NewRogue who)) (account, seed, types, is, who_is) =
      subst (λ one. IsFitNew (NewRogue one)) who_is (rogue-fit name account seed types (subst IsLine is fits))
  fit (Orders place order cut) (command, in_line, order_is) =
      order-fit world feeds place.node.role command order (command-fits command in_line) order_is
  fit act is = tt

pub act-fits : (world : World) → Feeds world → (line : Line) (act : Act) → IsLine line → act_of world line ≡ Some act
    → IsFitAct act
act-fits world feeds line act fits is = fit world feeds line fits act (is-act world line act is).line_is
