-- The schedule that a seed and a count make: nine lines that say who takes part, and the lines of one round after
-- another. What a round does is chosen by its word, a number that SHA-256 gives of the seed and the round's number.
use Rattle.std.specs.Prelude.{ℕ, zero, suc, ◌+◌, ◌*◌, ◌/◌, ◌%◌, List, [], ◌∷◌, ◌++◌, length, take, codes, slice_index_or, None}
use Rattle.std.specs.Int.{w64, to_be_bytes, from_be_bytes}
use Rattle.std.specs.List.{flat_map}
use Rattle.sha2.specs.Sha256.{sha256}
use Rattle.line_forms.specs.declared.tokens.HexOrName.{HexOrName}
use Rattle.line_forms.specs.declared.tokens.HexOrItem.{HexOrItem}
use Rattle.line_forms.specs.declared.tokens.OutcomeToken.{OutcomeToken}
use Rattle.schedule_text.specs.declared.line.Line.{Line}
use Rattle.schedule_text.specs.declared.call_form.CallForm.{CallForm}
use Rattle.schedule_text.specs.declared.command.Command.{Command}
use Rattle.schedule_text.specs.declared.command.WalletCommand.{WalletCommand}
use Rattle.schedule_text.specs.declared.command.WatcherCommand.{WatcherCommand}
use Rattle.schedule_text.specs.declared.command.OperatorCommand.{OperatorCommand}
use Rattle.schedule_text.specs.Grammar.{line_text}
use Rattle.world_maker.specs.declared.round.Round.{Round}

-- ---- the lines of commands

-- `send <wallet> <coin> <payee>`
abbrev pub send : List ℕ → ℕ → List ℕ → Line
send wallet coin payee = Line.Command (Command.Wallet wallet (WalletCommand.Send coin (HexOrName.Name payee) None))

-- `accept <wallet> #<item>`
abbrev pub accept : List ℕ → ℕ → Line
accept wallet item = Line.Command (Command.Wallet wallet (WalletCommand.Accept (HexOrItem.Item item)))

-- `leave <wallet> <coin>`
abbrev pub leave : List ℕ → ℕ → Line
leave wallet coin = Line.Command (Command.Wallet wallet (WalletCommand.Leave coin))

-- `guard <watcher> #<item>`
abbrev pub guard : List ℕ → ℕ → Line
guard watcher item = Line.Command (Command.Watcher watcher (WatcherCommand.Guard (HexOrItem.Item item)))

-- `offer #<item>`
abbrev pub offer : ℕ → Line
offer item = Line.Command (Command.Operator (OperatorCommand.Offer (HexOrItem.Item item)))

-- `seal`
abbrev pub seal : Line
seal = Line.Command (Command.Operator OperatorCommand.Seal)

-- `bundle <coin> <tip>`
abbrev pub bundle : ℕ → ℕ → Line
bundle coin tip = Line.Command (Command.Operator (OperatorCommand.Bundle coin tip))

-- `watch <node>`
abbrev pub watch : List ℕ → Line
watch node = Line.Command (Command.Watch node)

-- `open <node>`
abbrev pub open_node : List ℕ → Line
open_node node = Line.Command (Command.Open node)

-- ---- who takes part

-- the wallets
abbrev pub wallets : List (List ℕ)
wallets = codes "a" ∷ codes "b" ∷ codes "c" ∷ []

-- the first lines: the chain, three wallets, a watcher, and money for each of them
abbrev pub first_lines : List Line
first_lines =
    Line.Chain 1 9 3000
    ∷ Line.Wallet (codes "a") 11 1 None
    ∷ Line.Wallet (codes "b") 12 2 None
    ∷ Line.Wallet (codes "c") 13 3 None
    ∷ Line.Watcher (codes "g") 14
    ∷ Line.Fund 11 1000000
    ∷ Line.Fund 12 1000000
    ∷ Line.Fund 13 1000000
    ∷ Line.Fund 14 1000000
    ∷ []

-- ---- a round

-- the word of a round: the first 8 bytes of the SHA-256 of the seed and the round's number, 8 bytes each
unfoldable pub word_of : ℕ → ℕ → ℕ
word_of seed number = from_be_bytes w64 (take 8 (sha256 (to_be_bytes w64 seed ++ to_be_bytes w64 number)))

-- the wallet of a round, and the wallet that it pays
abbrev pub wallet_of : Round → List ℕ
wallet_of round = slice_index_or wallets (round.word % 3) []

abbrev pub payee_of : Round → List ℕ
payee_of round = slice_index_or wallets (round.word / 3 % 3) []

-- the coin of a round, and the block of the exit that it finishes
abbrev pub coin_of : Round → ℕ
coin_of round = 1 + round.word / 9 % 40

abbrev pub exit_of : Round → ℕ
exit_of round = 1 + round.word / 2880 % 100

-- what a round does is one of eight things
abbrev pub kind_of : Round → ℕ
kind_of round = round.word / 360 % 8

-- the line of a round's first mail item: the first line of the round
abbrev pub item_of : Round → ℕ
item_of round = round.lines_before + 1

-- 0: the wallet deposits
abbrev pub deposit_lines : Round → List Line
deposit_lines round = Line.Deposit (wallet_of round) 10 ∷ []

-- 1: the wallet pays with the coin, and the operator commits the transfer
abbrev pub payment_lines : Round → List Line
payment_lines round =
    send (wallet_of round) (coin_of round) (payee_of round)
    ∷ offer (item_of round)
    ∷ seal
    ∷ Line.Enter (codes "op") 1
    ∷ []

-- 2: the wallet accepts the coin by its history
abbrev pub acceptance_lines : Round → List Line
acceptance_lines round = bundle (coin_of round) 0 ∷ accept (wallet_of round) (item_of round) ∷ []

-- 3: the watcher guards the coin
abbrev pub guard_lines : Round → List Line
guard_lines round = bundle (coin_of round) 0 ∷ guard (codes "g") (item_of round) ∷ []

-- 4: the wallet exits with the coin
abbrev pub exit_lines : Round → List Line
exit_lines round = leave (wallet_of round) (coin_of round) ∷ Line.Enter (wallet_of round) 1 ∷ []

-- 5: all wallets watch and enter their first offer, then watch again, and the clock goes on
abbrev pub watch_lines : Round → List Line
watch_lines round =
    watch (codes "a")
    ∷ Line.Enter (codes "a") 1
    ∷ watch (codes "b")
    ∷ Line.Enter (codes "b") 1
    ∷ watch (codes "c")
    ∷ Line.Enter (codes "c") 1
    ∷ watch (codes "a")
    ∷ watch (codes "b")
    ∷ watch (codes "c")
    ∷ Line.Tick (1000 * round.number)
    ∷ []

-- 6: the wallet crashes and is opened again
abbrev pub crash_lines : Round → List Line
crash_lines round = Line.Crash (wallet_of round) OutcomeToken.Old ∷ open_node (wallet_of round) ∷ []

-- 7: a stranger finishes an exit of the coin
abbrev pub finish_lines : Round → List Line
finish_lines round = Line.Call 10 (CallForm.Finish (coin_of round) (exit_of round)) ∷ []

-- the lines of a round, by what it does
abbrev pub lines_by_kind : Round → List (List Line)
lines_by_kind round =
    deposit_lines round
    ∷ payment_lines round
    ∷ acceptance_lines round
    ∷ guard_lines round
    ∷ exit_lines round
    ∷ watch_lines round
    ∷ crash_lines round
    ∷ finish_lines round
    ∷ []

-- the lines of a round
unfoldable pub round_lines : Round → List Line
round_lines round = slice_index_or (lines_by_kind round) (kind_of round) []

-- ---- the schedule

-- the round of a seed with this number, after so many lines
abbrev pub round_at : ℕ → ℕ → ℕ → Round
round_at seed number lines_before =
    record { number = number; word = word_of seed number; lines_before = lines_before }

-- the lines of the schedule with so many rounds: those with one round less, and those of the last round
unfoldable pub made_lines : ℕ → ℕ → List Line
made_lines seed zero = first_lines
made_lines seed (suc count) =
    made_lines seed count ++ round_lines (round_at seed (suc count) (length (made_lines seed count)))

-- the text of lines: a line feed, which is 10, ends each
abbrev pub text_of_lines : List Line → List ℕ
text_of_lines lines = flat_map (λ line. line_text line ++ 10 ∷ []) lines

-- the text of the schedule
abbrev pub made_text : ℕ → ℕ → List ℕ
made_text seed count = text_of_lines (made_lines seed count)
