use Rattle.run_words.proofs.Basics.{◌≡◌, ◌∙◌, ap, map, string_bytes, IfErr-weaker, IfOk-weaker, App, is_simple, subcommand_of, takes, app_of, matched_words, run_command}
use Rattle.run_words.proofs.Matching.{simple, form_matches, form_taken}
use Rattle.run_words.proofs.parsing.parse.Goals as goal

pub returns-clause-matches : goal.returns-clause-matches
returns-clause-matches c is =
    let words = map string_bytes c.args.words.now in
    let same : app_of c.in_ok-command.field-0 ≡ run_command = c.in_ok-command.ensures in
    IfOk-weaker c.try_get_matches_from.result _ _
    (λ found has. ap matched_words ((has (ap is_simple same ∙ simple)).1
    ∙ ap (λ (app : App). subcommand_of app words) same) ∙ form_matches words is)
    c.try_get_matches_from.ensures.matches

pub returns-clause-fails : goal.returns-clause-fails
returns-clause-fails c is =
    let words = map string_bytes c.args.words.now in
    let same : app_of c.in_ok-command.field-0 ≡ run_command = c.in_ok-command.ensures in
    IfErr-weaker c.try_get_matches_from.result _ _
    (λ error only. only (ap (λ (app : App). takes app words) same ∙ form_taken words is))
    c.try_get_matches_from.ensures.passes
