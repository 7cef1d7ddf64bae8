use Rattle.merkle_pages.proofs.Words.{◌≡◌, ◌<◌, ◌*◌, ◌/◌, ◌^◌, refl, ◌∙◌, inl, inr, arith, rules, bit_xor, cases_lt, name_in, name_at}
use Rattle.merkle_pages.proofs.PageLaws.{name_at-above}
use Rattle.merkle_pages.proofs.PartLaws.{IsSibling-xor}
use Rattle.merkle_pages.proofs.pages.siblings.Goals as goal

pub loop-number-init : goal.loop-number-init
loop-number-init c = record {
  long = search rules;
  taken = λ level lt in_tree. absurd (omega arith);
  waiting = λ level from. refl;
}

pub loop-number-preserved : goal.loop-number-preserved
loop-number-preserved c =
    let number = c.loop-number.number in
    let coin = c.args.coin in
    let takes = c.take_siblings.ensures in
    record {
      long = takes.long ∙ c.loop-number.invariant.long;
      taken = λ level lt in_tree. elim (cases_lt level (15 * number)) [
        | inl below ↦ takes.stays level (λ from to. absurd (omega arith))
            ∙ c.loop-number.invariant.taken level below in_tree
        | inr from ↦
            let small : coin < 2 ^ 64 = omega arith in
            let other = bit_xor coin (2 ^ level) in
            let above : name_at level other ≡ name_at level coin =
            name_at-above level other coin (IsSibling-xor coin level small in_tree).above in
            let e : level / 15 ≡ number = omega arith in
            let name : name_at level other ≡ name_in number coin = above ∙ rw e refl in
            rw (name, ← c.loop-number.invariant.waiting level from) (takes.taken level from (omega arith))
      ];
      waiting = λ level from. takes.stays level (λ above below. absurd (omega arith))
          ∙ c.loop-number.invariant.waiting level (omega arith);
    }
