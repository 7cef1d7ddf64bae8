use Rattle.run_words.proofs.Basics.{◌≡◌, ◌∙◌, refl, sym, ap, [], codes, unwrap_or, IfOk-weaker, all_of, found_of, rows_of, texts}
use Rattle.run_words.proofs.Found.{form_found, rest_found}
use Rattle.run_words.proofs.form.matched_form.Goals as goal

pub returns : goal.returns
returns c =
    let inner = c.in-Some.inner.now in
    let rest : texts c.unwrap_or-rest.result.now ≡ unwrap_or (all_of (codes "rest") (rows_of (found_of inner))) [] =
    ap (λ words. texts words.now) c.unwrap_or-rest.ensures
    ∙ rest_found inner c.get_strs.result _ refl c.get_strs.ensures in
    let found = form_found c.args.found.now inner c.in-Some.name.now _ c.in-Some.ensures.name c.in-Some.ensures.rows
    rest in
    IfOk-weaker c.form_named.result _ _ (λ form is. is ∙ sym found) c.form_named.ensures
