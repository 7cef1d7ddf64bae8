-- What a look says of coins: a line for each, with its number, its amount and its word, and under it the calls to enter
-- and what the node itself is to be told.
use Rattle.std.specs.Prelude.{ℕ, Bool, true, false, if◌then◌else◌, List, [], ◌∷◌, ◌++◌, codes, Option, Some, None}
use Rattle.std.specs.List.{flat_map, list_all}
use Rattle.std.specs.Option.{option_and_then, option_map_or}
use Rattle.line_forms.specs.Tokens.{number_text}
use Rattle.plasma_tx.specs.declared.call.RootCall.{RootCall}
use Rattle.plasma_tx.specs.Money.{amount_of}
use Rattle.plasma_tx.specs.Views.{coin_at}
use Rattle.root_log.specs.Grammar.{call_text}
use Rattle.coin_safety.specs.declared.kept.Kept.{Kept}
use Rattle.coin_safety.specs.declared.word.Command.{Command}
use Rattle.coin_safety.specs.declared.word.Command.TheVariants.{Release, Reclaim}
use Rattle.coin_safety.specs.declared.word.Word.{Word}
use Rattle.coin_safety.specs.declared.word.Word.TheVariants.{Safe, Act, Sent, Leaving, Paid, Gone, Late, Frozen, Stale}
use Rattle.coin_safety.specs.Advice.{calls_of, tip}
use Rattle.coin_safety.specs.Commands.{command_of}
use Rattle.coin_safety.specs.Words.{word_of}
use Rattle.run_endings.specs.declared.status.Status.{Status}
use Rattle.run_endings.specs.declared.status.Status.TheVariants.{Done, Refused}
use Rattle.run_endings.specs.Outputs.{Output}
use Rattle.safe_runs.specs.declared.case.Case.{Case}

-- words, and numbers behind them, each after a blank; 32 is the blank
abbrev pub phrase : List ℕ → List ℕ → List ℕ
phrase words numbers = words ++ flat_map (λ n. 32 ∷ number_text n) numbers

-- a call as a line of a log; 10 is the line feed
abbrev pub call_line : RootCall → List ℕ
call_line call = call_text call ++ 10 ∷ []

-- a word, with its numbers behind it
abbrev pub word_text : Word → List ℕ
word_text (Safe until) = phrase (codes "safe") (until ∷ [])
word_text (Act by missing) = phrase (codes "act") (by ∷ missing ∷ [])
word_text (Sent leaf) = phrase (codes "sent") (leaf ∷ [])
word_text (Leaving opens) = phrase (codes "leaving") (opens ∷ [])
word_text Paid = codes "paid"
word_text (Gone account line) = phrase (codes "gone") (account ∷ line ∷ [])
word_text (Late since) = phrase (codes "late") (since ∷ [])
word_text Frozen = codes "frozen"
word_text Stale = codes "stale"

-- What the node is to be told as a line: the command by which its watcher lets the guard go; or the coin whose transfer
-- its wallet may take back, and the last block of that transfer, up to which its `reclaim` takes a bundle.
abbrev pub command_line : Kept → Command → List ℕ
command_line kept Release = phrase (codes "release") (kept.links.coin ∷ tip kept ∷ []) ++ 10 ∷ []
command_line kept (Reclaim last) = phrase (codes "reclaim") (kept.links.coin ∷ last ∷ []) ++ 10 ∷ []

-- nothing is to be done
abbrev pub is_good : Word → Bool
is_good (Safe until) = true
is_good (Sent leaf) = true
is_good (Leaving opens) = true
is_good Paid = true
is_good word = false

-- the line of a coin: its number, its amount and its word
abbrev pub coin_line : ℕ → ℕ → Word → List ℕ
coin_line coin amount word =
    number_text coin ++ 32 ∷ (number_text amount ++ 32 ∷ (word_text word ++ 10 ∷ []))

-- by the log, for the account that enters calls, at a time by the caller's clock
module _ (log : List RootCall) (account clock : ℕ) where
  -- the word of a coin; a log that doesn't have it is old
  abbrev pub case_word : Case → Word
  case_word case = option_map_or (word_of log account clock) case.kept Stale

  -- the calls to enter for it
  abbrev pub case_calls : Case → List RootCall
  case_calls case = option_map_or (calls_of log account) case.kept []

  -- what the node is told of it, if anything
  abbrev pub case_command : Case → Option Command
  case_command case = option_and_then (command_of log) case.kept

  -- that as a line
  abbrev pub told_text : Case → List ℕ
  told_text case = option_map_or (λ kept. option_map_or (command_line kept) (case_command case) []) case.kept []

  -- what is said of it
  abbrev pub case_text : Case → List ℕ
  case_text case =
      coin_line case.coin (amount_of (coin_at log case.coin)) (case_word case)
      ++ flat_map call_line (case_calls case)
      ++ told_text case

  abbrev pub is_case_good : Case → Bool
  is_case_good case = is_good (case_word case)

  -- what is said of all; the run is done where nothing is to be done for any
  abbrev pub cases_output : List Case → Output
  cases_output cases = record {
    status = if list_all is_case_good cases then Done else Refused;
    answers = flat_map case_text cases;
    last = [];
  }
