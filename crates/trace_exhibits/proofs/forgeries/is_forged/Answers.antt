use Rattle.std.proofs.Common.{◌≡◌, ℕ, false, ap, sym, ◌∙◌}
use Rattle.std.proofs.lemmas.Bool.{true≢false}
use Rattle.trace_exhibits.specs.Wallets.{is_forged_in, is_forged_since}
use Rattle.trace_exhibits.proofs.KeptWallets.{declared-count}
use Rattle.trace_exhibits.proofs.TestedLaws.{found-stands, newer-say, none-newer, tested-more}
use Rattle.trace_exhibits.proofs.forgeries.is_forged.Goals as goal

pub returns-then-count : goal.returns-then-count
returns-then-count c events wallets tested =
    let stands = found-stands c.args.met.now c.find-place.result c.coin.result c.opening.result.now c.args.one.now
    c.find-place.ensures c.coin.ensures c.opening.ensures in (
      sym (none-newer c.args.tag.now events _ c.args.one.now (sym c.count-count.ensures ∙ c.if-count.true
          ∙ c.count.ensures ∙ declared-count events c.args.known.now wallets))
          ∙ newer-say c.args.tag.now events c.args.met.now c.args.tested.now c.find-place.result c.args.one.now tested
          stands,
      λ _. tested,
    )

pub returns-then-branch : goal.returns-then-branch
returns-then-branch c events wallets tested =
    let stands = found-stands c.args.met.now c.find-place.result c.coin.result c.opening.result.now c.args.one.now
    c.find-place.ensures c.coin.ensures c.opening.ensures in (
      sym c.if-branch.true ∙ c.in_ok-is_forged.ensures events wallets
          ∙ ap (λ (n : ℕ). is_forged_since c.args.tag.now n events c.args.one.now) c.count-count.ensures
          ∙ newer-say c.args.tag.now events c.args.met.now c.args.tested.now c.find-place.result c.args.one.now tested
          stands,
      λ wrong. absurd (true≢false wrong),
    )

pub returns : goal.returns
returns c events wallets tested =
    let stands = found-stands c.args.met.now c.find-place.result c.coin.result c.opening.result.now c.args.one.now
    c.find-place.ensures c.coin.ensures c.opening.ensures in
    let none : false ≡ is_forged_in c.args.tag.now events c.args.one.now =
    sym c.if-branch.false ∙ c.in_ok-is_forged.ensures events wallets
    ∙ ap (λ (n : ℕ). is_forged_since c.args.tag.now n events c.args.one.now) c.count-count.ensures
    ∙ newer-say c.args.tag.now events c.args.met.now c.args.tested.now c.find-place.result c.args.one.now tested
    stands in (
      none,
      λ _. tested-more c.args.tag.now events c.args.met.now c.args.tested.now c.add.new.self c.find-place.result
          c.count-2.result c.args.one.now tested stands
          (c.count-2.ensures ∙ declared-count events c.args.known.now wallets) (sym none) c.in_ok-add.ensures,
    )
