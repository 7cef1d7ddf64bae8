-- The answers on a coin, by its cell.
use Rattle.proof_archive.proofs.Words.{◌≡◌, ℕ, ◌==◌, Bool, true, false, if◌then◌else◌, List, [], ◌∷◌, ◌++◌, map, reverse, Some, None, Ok, Err, sym, ap, ◌∙◌, subst, arith, ◌||◌, list_any, eq-eqb, or_left, or_right, reverse-reverse, common_steps, RawOpening, Link, Links, RootCall, CoinView, Chain, tip_of, coin_at, Tests, Rules, tests_by, rules_of, Bundle, AreRising, IsHistory, links_with, tip_from, tip-is, histories_pass, history-rises, histories_stay, some_same, LinkEnd, NoCoin, NotTip, Scan, scan_in, tip_answer, broken_answer, is_tip, openings_up_to, links_up_to, bundle_answer, carried_by, CoinCell, end_of, tip_in, IsCell, IsCellOf, StaysAHistory}
use Rattle.proof_archive.proofs.Scans.{scan-carried, scan-broken, scan-begins}
use Rattle.proof_archive.proofs.CellLaws.{ends-tip, ends-any}

-- a history stays one as many calls come
stays-history : (tests : Tests) (rules : Rules) (log more : List RootCall) (bundle : Bundle) (links : Links)
    → IsHistory tests rules log bundle links → IsHistory tests rules (more ++ log) bundle links
stays-history tests rules log [] bundle links is = is
stays-history tests rules log (call ∷ more) bundle links is =
    histories_stay tests rules (more ++ log) call bundle links (stays-history tests rules log more bundle links is)

-- where the links lead is a tip
pub tip-is_tip : (deposit : ℕ) (links : List Link) (tip : ℕ) → tip_in deposit (map end_of links) ≡ tip
    → ((deposit == tip) || list_any (λ (end : LinkEnd). end.block == tip) (map end_of links)) ≡ true
tip-is_tip deposit links tip is = from deposit links (sym (ends-tip deposit links) ∙ is)
  where
    from : (d : ℕ) (ls : List Link) → tip_from d ls ≡ tip
        → ((d == tip) || list_any (λ (end : LinkEnd). end.block == tip) (map end_of ls)) ≡ true
    from d [] e = or_left (d == tip) false (eq-eqb d tip e)
    from d (x ∷ xs) e = or_right (d == tip)
        ((x.block == tip) || list_any (λ (end : LinkEnd). end.block == tip) (map end_of xs)) (from x.block xs e)

module _ (dig : List ℕ → List ℕ) (chain : Chain) (coin : ℕ) where
  -- of a coin that the log doesn't have
  pub tip-none : (kept : List RawOpening) → coin_at chain.log coin ≡ None → Err NoCoin ≡ tip_answer dig chain kept coin
  unfolding tip_answer
  tip-none kept none = grind (arith, common_steps) steps 20000

  pub bundle-none : (kept : List RawOpening) (tip : ℕ) → coin_at chain.log coin ≡ None
      → Err NoCoin ≡ bundle_answer dig chain kept coin tip
  unfolding bundle_answer
  bundle-none kept tip none = grind (arith, common_steps) steps 20000

  broken-none : (kept : List RawOpening) → coin_at chain.log coin ≡ None → broken_answer dig chain kept coin ≡ None
  unfolding broken_answer
  broken-none kept none = grind (arith, common_steps) steps 20000

  module _ (made : CoinView) (cell : CoinCell) (some : coin_at chain.log coin ≡ Some made)
      (is : IsCell (tests_by dig) (rules_of chain) chain.log coin made cell) where
    abbrev spends_of : List Link
    spends_of = (carried_by (tests_by dig) (rules_of chain) coin made (reverse cell.openings)).spends

    abbrev scan : Scan
    scan = scan_in dig chain cell.openings coin made

    found : scan.links ≡ links_with coin made spends_of
    found = grind (arith, common_steps, scan-carried, reverse-reverse) steps 20000

    tip-found : tip_of scan.links ≡ tip_in made.deposit cell.ends
    tip-found = grind (arith, common_steps, found, tip-is, ends-tip) steps 20000

    pub tip-some : Ok (tip_in made.deposit cell.ends) ≡ tip_answer dig chain cell.openings coin
    unfolding tip_answer
    tip-some = grind (arith, common_steps, tip-found) steps 20000

    broken-some : broken_answer dig chain cell.openings coin ≡ cell.broken
    unfolding broken_answer
    broken-some = grind (arith, common_steps, scan-broken, reverse-reverse) steps 20000

    tips-found : (tip : ℕ) → is_tip scan.links tip
        ≡ ((made.deposit == tip) || list_any (λ (end : LinkEnd). end.block == tip) cell.ends)
    tips-found tip = grind (arith, common_steps, found, ends-any) steps 20000

    abbrev bundle_up : ℕ → Bundle
    bundle_up tip = record { coin = coin; tip = tip; openings = openings_up_to tip cell.openings }

    bundle-is : (tip : ℕ) (b : Bool)
        → ((made.deposit == tip) || list_any (λ (end : LinkEnd). end.block == tip) cell.ends) ≡ b
        → bundle_answer dig chain cell.openings coin tip
        ≡ (if b then Ok (bundle_up tip) else Err (NotTip tip))
    unfolding bundle_answer
    bundle-is tip b at = grind (arith, common_steps, tips-found) steps 20000

    pub bundle-not : (tip : ℕ)
        → ((made.deposit == tip) || list_any (λ (end : LinkEnd). end.block == tip) cell.ends) ≡ false
        → Err (NotTip tip) ≡ bundle_answer dig chain cell.openings coin tip
    bundle-not tip at = sym (bundle-is tip false at)

    module _ (tip : ℕ)
        (at : ((made.deposit == tip) || list_any (λ (end : LinkEnd). end.block == tip) cell.ends) ≡ true) where
      abbrev bundle : Bundle
      bundle = bundle_up tip

      pub bundle-some : Ok bundle ≡ bundle_answer dig chain cell.openings coin tip
      bundle-some = sym (bundle-is tip true at)

      history : IsHistory (tests_by dig) (rules_of chain) chain.log bundle (links_up_to tip scan.links)
      history =
          subst (λ (l : Links). IsHistory (tests_by dig) (rules_of chain) chain.log bundle (links_up_to tip l))
          (sym found)
          (scan-begins (tests_by dig) (rules_of chain) coin made chain.log some cell.openings
          (reverse-reverse cell.openings) is.kept tip
          (ap (λ (l : Links). is_tip l tip) (sym found) ∙ tips-found tip ∙ at))

      pub bundle-stays : StaysAHistory dig chain cell.openings coin tip bundle
      bundle-stays more other same =
          let e : made ≡ other = some_same made other (sym some ∙ same) in
          histories_pass (tests_by dig) (rules_of chain) (more ++ chain.log) bundle
          (links_up_to tip (scan_in dig chain cell.openings coin other).links)
          (grind (arith, common_steps, stays-history, history) steps 20000)

      pub bundle-rises : AreRising (openings_up_to tip cell.openings)
      bundle-rises =
          history-rises (tests_by dig) (rules_of chain) chain.log bundle (links_up_to tip scan.links) history

  -- the broken block of any coin is the cell's
  pub broken-cell : (cell : CoinCell)
      → IsCellOf (tests_by dig) (rules_of chain) chain.log coin cell (coin_at chain.log coin)
      → cell.broken ≡ broken_answer dig chain cell.openings coin
  broken-cell cell is = grind (arith, common_steps, broken-none, broken-some) steps 20000
