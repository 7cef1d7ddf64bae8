use Rattle.run_words.proofs.Basics.{◌≡◌, take, fold, app_of, with_subcommand, bare_command, subcommand_shape}
use Rattle.run_words.proofs.parsing.command.Given as goal

-- the names so far have their subcommands
abbrev pub invariant-loop-name : goal.invariant-loop-name
invariant-loop-name l =
    app_of l.command
    ≡ fold (λ app name. with_subcommand app (subcommand_shape name.now)) bare_command (take l.name-index l.name-items)
