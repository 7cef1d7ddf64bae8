-- A log of accepted calls alone.
use Rattle.plasma_tx.proofs.Words.{List, [], ◌∷◌, arith, common_steps, RootCall, Tests, Rules, log_after, IsLegal, log_after_all, LogsAreLegal}

legal_after : (tests : Tests) (rules : Rules) (log : List RootCall) (call : RootCall) → IsLegal rules log
    → IsLegal rules (log_after tests rules log call)
unfolding log_after IsLegal
legal_after tests rules log call legal = grind (arith, common_steps) steps 20000

legal_after_all : (rules : Rules) (log : List RootCall) (calls : List (Tests × RootCall)) → IsLegal rules log
    → IsLegal rules (log_after_all rules log calls)
unfolding log_after_all
legal_after_all rules log [] legal = legal
legal_after_all rules log (call ∷ calls) legal =
    legal_after_all rules (log_after call.0 rules log call.1) calls (legal_after call.0 rules log call.1 legal)

pub logs_are_legal : LogsAreLegal
unfolding IsLegal
logs_are_legal rules calls = legal_after_all rules [] calls tt
