use Rattle.plasma_tx.proofs.Words.{◌≡◌, ◌+◌, ◌++◌, ◌∷◌, [], List, length, refl, ap, ◌∙◌, arith, BlockView, DepositOf, CoinView}
use Rattle.plasma_tx.proofs.Keeps.{keeps-Deposit}
use Rattle.plasma_tx.proofs.kept.Kept.deposit.Goals as goal

pub returns-clause-ok : goal.returns-clause-ok
returns-clause-ok c =
    let old = c.args.self.now in
    let number = c.len.result + 1 in
    let coin : CoinView = record { deposit = c.len-2.result + 1; amount = c.args.amount; owner = c.args.owner } in
    let counted : c.len-2.result ≡ length old.blocks.items =
    omega (arith, c.len-2.ensures, c.reserve.new.self.ok.0, ap length c.in_ok-reserve.ensures.items) in
    let coins_are : c.push_reserved.new.items.items ≡ old.coins.items ++ coin ∷ [] = c.push_reserved.ensures
    ∙ ap (λ (l : List CoinView). l ++ coin ∷ []) c.in_ok-reserve-2.ensures.items in
    let number_is : number ≡ length old.coins.items + 1 =
    omega (arith, c.len.ensures, c.reserve-2.new.self.ok.0, ap length c.in_ok-reserve-2.ensures.items) in
    λ log k. keeps-Deposit log c.args.owner.account c.args.amount c.args.owner.key old _ coin number
    refl c.add.ensures.same refl refl
    (λ i. record { deposit = counted i + 1; amount = c.args.amount; owner = c.args.owner }) number_is coins_are
    (c.push_reserved-2.ensures
    ∙ ap (λ (l : List BlockView). l ++ DepositOf number ∷ []) c.in_ok-reserve.ensures.items)
    c.in_ok-add_deposit.ensures.ok k
