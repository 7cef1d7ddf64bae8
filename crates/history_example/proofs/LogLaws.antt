-- What a text's log is, line by line.
use Rattle.std.proofs.Common.{◌≡◌, ◌∙◌, ℕ, ◌+◌, ◌<◌, List, [], ◌∷◌, length, take, get_or, Option, Some, None, Result, Err, Bor, ap, sym, refl, arith}
use Rattle.std.specs.Prelude.{fold, option_map}
use Rattle.std.specs.Str.Lines.{lines}
use Rattle.std.proofs.lemmas.List.Sums.{fold_more}
use Rattle.std.proofs.lemmas.List.Folds.{fold-map, fold_stays, fold_stuck}
use Rattle.plasma_tx.specs.declared.call.RootCall.{RootCall}
use Rattle.plasma_tx.specs.Chain.{Chain, with_log}
use Rattle.root_log.specs.declared.refusal.LogRefusal.{LogRefusal}
use Rattle.root_log.specs.Grammar.{appended, call_in, chain_in}
use Rattle.history_example.specs.Logs.{texts, and_call, and_calls, log_in, log_of}

-- what a line does to a chain
abbrev step : Option Chain → Bor (List ℕ) → Option Chain
step chain call = and_call chain call.now

-- a refusal that is answered is the one that came
pub same_refusal : {A : Type 0} (why other : LogRefusal)
    → ◌≡◌ {A = Result A LogRefusal} (Err why) (Err other) → why ≡ other
same_refusal why other is = cc

-- one more line, with its call
pub one_more : (first before after : Chain) (calls : List (Bor (List ℕ))) (i : ℕ) (call : Bor (List ℕ))
    → i < length calls → and_calls (Some first) (take i calls) ≡ Some before
    → appended before (get_or calls i call).now ≡ Some after
    → and_calls (Some first) (take (i + 1) calls) ≡ Some after
one_more first before after calls i call lt so is =
    fold_more step (Some first) calls i call lt
    ∙ ap (λ (chain : Option Chain). step chain (get_or calls i call)) so ∙ is

-- one line that is no call, and the lines behind it
pub one_bad : (first before : Chain) (calls : List (Bor (List ℕ))) (i : ℕ) (call : Bor (List ℕ))
    → i < length calls → and_calls (Some first) (take i calls) ≡ Some before
    → call_in (get_or calls i call).now ≡ None → and_calls (Some first) calls ≡ None
one_bad first before calls i call lt so bad =
    sym (fold_stuck step None (λ (line : Bor (List ℕ)). refl) (Some first) calls i call lt
    (ap (λ (chain : Option Chain). step chain (get_or calls i call)) so
    ∙ ap (option_map (λ (new : RootCall). with_log before (new ∷ before.log))) bad))

-- the log of a text whose first line is this, and of one without a chain
pub log_in-lines : (text : List ℕ) (items calls : List (Bor (List ℕ))) (first : Bor (List ℕ)) (chain : Option Chain)
    → texts items ≡ lines text → items ≡ first ∷ calls → chain_in first.now ≡ chain
    → log_in text ≡ and_calls chain calls
log_in-lines text items calls first chain are is named =
    ap log_of (sym are ∙ ap texts is)
    ∙ ap (λ (begun : Option Chain). fold and_call begun (texts calls)) named
    ∙ fold-map and_call (λ (line : Bor (List ℕ)). line.now) chain calls

pub log_in-none : (text : List ℕ) (items : List (Bor (List ℕ))) → texts items ≡ lines text → length items ≡ 0
    → log_in text ≡ None
log_in-none text [] are none = ap log_of (sym are)
log_in-none text (item ∷ items) are none = absurd (omega (arith, none))

pub and_calls-none : (calls : List (Bor (List ℕ))) → and_calls None calls ≡ None
and_calls-none calls = fold_stays step None (λ (line : Bor (List ℕ)). refl) calls
