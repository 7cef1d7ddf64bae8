use Rattle.std.proofs.Common.{◌≡◌, ◌∙◌, [], arith, slice_index_or, inl, inr, sym}
use Rattle.std.proofs.lemmas.Bool.{cases_lt}
use Rattle.lms_sign.specs.Chains.{span_at}
use Rattle.lms_sign.proofs.ChainFacts.{taken-done, taken-end}
use Rattle.lms_sign.proofs.Lists.{chain_value-none}
use Rattle.lms_sign.proofs.chains.take_steps.Goals as goal

pub rounds-preserved : goal.rounds-preserved
rounds-preserved c =
    let spans = c.rounds.spans in
    let strings = c.rounds.strings in
    record {
      spans = c.advance.auto.spans ∙ c.rounds.invariant.spans;
      strings = c.advance.auto.strings ∙ c.rounds.invariant.strings;
      aims = λ n below. taken-end c.args.id.now c.args.q n _ (span_at spans n) _ (slice_index_or strings n []) _
          (c.advance.ensures.taken c.args.id.now c.args.q n c.told-id c.begin_steps-begun.ensures (omega arith))
          ∙ c.rounds.invariant.aims n below;
      done = λ n before. taken-done c.args.id.now c.args.q n _ (span_at spans n) _ (slice_index_or strings n []) _
          (c.advance.ensures.taken c.args.id.now c.args.q n c.told-id c.begin_steps-begun.ensures (omega arith))
          (c.rounds.invariant.done n before);
    }

pub chains-preserved : goal.chains-preserved
chains-preserved c = record {
  spans = c.rounds.invariant.spans;
  strings = c.rounds.invariant.strings;
  aims = c.rounds.invariant.aims;
  done = λ n below. elim (cases_lt n c.chains.first) [
    | inl before ↦ c.rounds.invariant.done n before
    | inr last ↦
        let same : n ≡ c.chains.first = omega arith in
        rw same (omega arith)
  ];
}

pub returns : goal.returns
returns c n below =
    sym (chain_value-none c.args.id.now c.args.q n _ _ (slice_index_or c.chains.strings n [])
    (c.chains.invariant.done n (omega arith)))
    ∙ c.chains.invariant.aims n below
