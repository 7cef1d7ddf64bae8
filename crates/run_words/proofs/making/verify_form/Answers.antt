use Rattle.run_words.proofs.Verifying.{verify-of}
use Rattle.run_words.proofs.making.verify_form.Goals as goal

pub returns-clause-found : goal.returns-clause-found
returns-clause-found c =
    verify-of c.args.words.now _ _ _ c.in_ok-byte_word.field-0 c.in_ok-byte_word-2.field-0 c.in_ok-byte_word-3.field-0
    c.in-len3.len_at_least c.in-len3.len_below c.in_ok-byte_word.ensures.found c.in_ok-byte_word-2.ensures.found
    c.in_ok-byte_word-3.ensures.found
