-- A run of a node whose records are what events say: its events are legal behind them, and what its next run finds is
-- what they say then.
use Rattle.std.proofs.Common.{◌≡◌, ◌⊎◌, ℕ, ◌^◌, ◌<◌, ◌+◌, Bool, true, false, if◌then◌else◌, List, [], ◌∷◌, length, Option, Some, None, refl, sym, ap, ◌∙◌, subst, inl, inr, arith, length-append}
use Rattle.std.specs.Prelude.{option_map, nat_lt}
use Rattle.std.specs.Option.{option_map_or}
use Rattle.std.specs.List.{AllByRecursion, filter_map}
use Rattle.std.proofs.lemmas.Bool.Decides.{nat_tests}
use Rattle.std.proofs.lemmas.Grind.{common_steps}
use Rattle.plasma_tx.specs.declared.call.RootCall.{RootCall}
use Rattle.plasma_tx.specs.Chain.{Chain}
use Rattle.plasma_tx.specs.Views.{blocks}
use Rattle.plasma_tx.specs.Shown.{Rules, tests_by, rules_of}
use Rattle.node_rules.specs.Wallet.{WalletRecords}
use Rattle.node_replies.specs.Orders.{with_record}
use Rattle.node_answers.specs.Answers.{Outcome}
use Rattle.node_roles.specs.Notes.{NotesAt}
use Rattle.node_roles.specs.Nodes.{NodeAt}
use Rattle.streamed_lines.specs.Reading.{next_text}
use Rattle.node_runs.specs.Sessions.{Outside}
use Rattle.node_lives.specs.Answered.{Lines}
use Rattle.world_rules.specs.Events.{Event, log_of}
use Rattle.world_rules.specs.Steps.{without_offers}
use Rattle.world_laws.specs.Legal.{IsLegal}
use Rattle.chain_lives.specs.Steps.{Deed, Visit, left_by, answered_events, is_found, run_events}
use Rattle.chain_lives.specs.Acts.{with_outcome, deeds_of, commands_in, next_in, log_in, ended_log, visit_of}
use Rattle.chain_lives.proofs.Log.{IsQuiet}
use Rattle.chain_lives.proofs.Following.{Follows, Behind, answered-behind, late-behind}
use Rattle.chain_lives.proofs.Visiting.{Comes}
use Rattle.chain_lives.proofs.SessionDisks.{FoundBehind}

-- ---- what is found

less-none : (n : ℕ) → nat_lt n n ≡ false
less-none n = grind (arith, nat_tests)

more-less : (a b c d : ℕ) → a + b < c + d → nat_lt (a + b) (c + d) ≡ true
more-less a b c d less = grind (arith, nat_tests)

-- the same records aren't more
none-found : (records : WalletRecords) → is_found records (Some records) ≡ false
none-found records = less-none (length records.notes + length records.leaves)

grown : (records : List (List ℕ)) (added : Option (List ℕ)) → (with_record records added ≡ records)
    ⊎ (length (with_record records added) ≡ length records + 1)
grown records None = inl refl
grown records (Some body) = inr (length-append records (body ∷ []))

-- what a command leaves is what there was, or it is found
pub left-or-found : (records : WalletRecords) (outcome : Outcome) → (with_outcome records outcome ≡ records)
    ⊎ (is_found records (Some (with_outcome records outcome)) ≡ true)
left-or-found records outcome = grind (arith, common_steps, grown, more-less) steps 20000

-- ---- a run

-- the commands of texts are good where those that a text spells are
good-commands : {L : Type 0} (command_in : List ℕ → Option L) (Good : L → Type 0)
    → ((text : List ℕ) (command : L) → command_in text ≡ Some command → Good command) → (texts : List (List ℕ))
    → AllByRecursion Good (filter_map command_in texts)
good-commands command_in Good each [] = tt
good-commands {L} command_in Good each (text ∷ texts) =
    grind (arith, common_steps, good-commands command_in Good each texts) steps 20000

-- what a run leaves behind events, where the next one finds this: they are legal, and say what the records are, which
-- are found then
pub record RanTo (dig : List ℕ → List ℕ) (rules : Rules) (Tells : List Event → WalletRecords → Type 0)
    (found : Option WalletRecords) (events : List Event) : Type 0 where
  pub legal : IsLegal (tests_by dig) rules events
  pub records : WalletRecords
  pub found_is : (r : WalletRecords) → found ≡ Some r → r ≡ records
  pub tells : Tells events records

module _ (dig : List ℕ → List ℕ) (rules : Rules) (n : ℕ) {L : Type 0} (command_in : List ℕ → Option L)
    (does : List RootCall → WalletRecords → L → Deed) (Good : L → Type 0) (Q : NodeAt NotesAt → Type 0)
    (Tells : List Event → WalletRecords → Type 0)
    (spelled : (text : List ℕ) (command : L) → command_in text ≡ Some command → Good command)
    (quiet : (log : List RootCall) (records : WalletRecords) (line : L) → IsQuiet n (does log records line).event)
    (grows : (log : List RootCall) (records : WalletRecords) (line : L)
    → ((does log records line).left ≡ records) ⊎ (is_found records (Some (does log records line).left) ≡ true))
    (tag : List ℕ) (outside : Outside) (found : WalletRecords) (lines : Lines (NodeAt NotesAt))
    (comes : Comes tag command_in does Q found lines)
    (each : rules.tag ≡ tag → (events : List Event) (records : WalletRecords) (line : L)
    → blocks (log_of events) < 2 ^ 64 → Tells events records → Good line
    → Follows dig rules n Tells events (does (log_of events) records line))
    (log : List RootCall)
    (handed : (chain : Chain) → ended_log lines ≡ Some chain → (rules_of chain ≡ rules) × (chain.log ≡ log)) where
  abbrev visit : Visit
  visit = visit_of command_in does outside found lines

  abbrev left : WalletRecords
  left = left_by found visit.deeds

  -- where a log was handed that ended
  record Over : Type 0 where
    tag_is : rules.tag ≡ tag
    log_is : log_in lines ≡ log

  over-by : (over : Bool) (found : Option Chain) → lines.stream.run.is_over ≡ over → lines.stream.run.log ≡ found
      → over ≡ true → Over
  over-by over found is there on = grind (arith, common_steps) steps 20000

  module _ (start : List Event) (legal : IsLegal (tests_by dig) rules start) (log_is : log_of start ≡ log)
      (tells : Tells start found) where
    abbrev after : List Event
    after = answered_events n visit.written visit.deeds start

    -- commands behind the log
    module _ (over : Over) where
      few : (events : List Event) → log_of events ≡ log_in lines → blocks (log_of events) < 2 ^ 64
      few events same = subst (λ (l : List RootCall). blocks l < 2 ^ 64) (sym same) comes.few

      each-here : (events : List Event) (records : WalletRecords) (line : L) → log_of events ≡ log_in lines
          → Tells events records → Good line → Follows dig rules n Tells events (does (log_in lines) records line)
      each-here events records line same here good =
          subst (λ (l : List RootCall). Follows dig rules n Tells events (does l records line)) same
          (each over.tag_is events records line (few events same) here good)

      answered-here : Behind dig rules n Tells (log_in lines) after left
      answered-here =
          answered-behind dig rules n (does (log_in lines)) Good Tells (log_in lines) (quiet (log_in lines)) each-here
          (commands_in command_in lines) visit.written start found
          (record { legal = legal; log_is = log_is ∙ sym over.log_is; tells = tells })
          (good-commands command_in Good spelled _)

      late-here : (line : L) → Good line
          → Behind dig rules n Tells (log_in lines) (without_offers n (does (log_in lines) left line).event ∷ after)
          (does (log_in lines) left line).left
      late-here line good =
          late-behind dig rules n (does (log_in lines)) Good Tells (log_in lines) (quiet (log_in lines)) each-here line
          after left answered-here good

      next-good : (command : L) → next_in command_in lines ≡ Some command → Good command
      next-good command is = by lines.stream.run.is_over is
        where
          by : (b : Bool) → (if b then command_in (next_text lines.bytes lines.stream) else None) ≡ Some command
              → Good command
          by true is = spelled (next_text lines.bytes lines.stream) command is
          by false is = absurd (cc is)

      -- what is found decides whether it came late
      late-ran : (next : Option L) → next_in command_in lines ≡ next → (now : Option WalletRecords)
          → ((r : WalletRecords) → now ≡ Some r
          → FoundBehind left (option_map (does (log_in lines) left) next) r)
          → RanTo dig rules Tells now (if is_found left now then option_map_or
          (λ (deed : Deed). without_offers n deed.event ∷ after) (option_map (does (log_in lines) left) next) after
          else after)
      late-ran next is None fits = record {
        legal = answered-here.legal;
        records = left;
        found_is = λ r wrong. absurd (cc wrong);
        tells = answered-here.tells;
      }
      late-ran next is (Some r) fits = by next is (fits r refl)
        where
          Late : Bool → Option L → Type 0
          Late b option = RanTo dig rules Tells (Some r) (if b then option_map_or
              (λ (deed : Deed). without_offers n deed.event ∷ after) (option_map (does (log_in lines) left) option)
              after else after)

          none-late : (option : Option L) → r ≡ left → Late false option
          none-late option same = record {
            legal = answered-here.legal;
            records = left;
            found_is = λ other some. (let one : r ≡ other = cc some in sym one ∙ same);
            tells = answered-here.tells;
          }

          same-late : (option : Option L) → r ≡ left → Late (is_found left (Some r)) option
          same-late option same =
              subst (λ (b : Bool). Late b option)
              (sym (ap (λ (x : WalletRecords). is_found left (Some x)) same ∙ none-found left)) (none-late option same)

          more-late : (command : L) → Good command → r ≡ (does (log_in lines) left command).left
              → Late true (Some command)
          more-late command good same = record {
            legal = (late-here command good).legal;
            records = (does (log_in lines) left command).left;
            found_is = λ other some. (let one : r ≡ other = cc some in sym one ∙ same);
            tells = (late-here command good).tells;
          }

          by : (option : Option L) → next_in command_in lines ≡ option
              → FoundBehind left (option_map (does (log_in lines) left) option) r
              → Late (is_found left (Some r)) option
          by option spells (inl same) = same-late option same
          by None spells (inr (deed, some, same)) = absurd (cc some)
          by (Some command) spells (inr (deed, some, same)) =
              (let deed_is : does (log_in lines) left command ≡ deed = cc some in
              let leaves : r ≡ (does (log_in lines) left command).left =
              same ∙ ap (λ (d : Deed). d.left) (sym deed_is) in
              elim (grows (log_in lines) left command) [
                | inl still ↦ same-late (Some command) (leaves ∙ still)
                | inr more ↦
                    subst (λ (b : Bool). Late b (Some command))
                    (sym (ap (λ (x : WalletRecords). is_found left (Some x)) leaves ∙ more))
                    (more-late command (next-good command spells) leaves)
              ])

    -- no commands in a log
    module _ (off : lines.stream.run.is_over ≡ false) where
      none-deeds : visit.deeds ≡ []
      none-deeds = ap (deeds_of (does (log_in lines)) found) (comes.none off)

      none-next : visit.next ≡ None
      none-next =
          ap (λ (b : Bool). option_map (does (log_in lines) left)
          (if b then command_in (next_text lines.bytes lines.stream) else None)) off

      off-ran : (now : Option WalletRecords) → ((r : WalletRecords) → now ≡ Some r → FoundBehind left visit.next r)
          → RanTo dig rules Tells now (run_events n now visit start)
      unfolding answered_events
      off-ran now fits =
          subst (λ (deeds : List Deed). RanTo dig rules Tells now
          (if is_found (left_by found deeds) now then option_map_or
          (λ (deed : Deed). without_offers n deed.event ∷ answered_events n visit.written deeds start) visit.next
          (answered_events n visit.written deeds start)
          else answered_events n visit.written deeds start)) (sym none-deeds)
          (subst (λ (next : Option Deed). RanTo dig rules Tells now
          (if is_found found now then option_map_or (λ (deed : Deed). without_offers n deed.event ∷ start) next start
          else start)) (sym none-next) (by (is_found found now)))
        where
          found-is : (r : WalletRecords) → now ≡ Some r → r ≡ found
          found-is r some =
              elim (fits r some) [
                | inl same ↦ same ∙ ap (left_by found) none-deeds
                | inr more ↦ absurd (cc (more.1, none-next))
              ]

          by : (b : Bool) → RanTo dig rules Tells now (if b then start else start)
          by true = record { legal = legal; records = found; found_is = found-is; tells = tells }
          by false = record { legal = legal; records = found; found_is = found-is; tells = tells }

    -- so a run leaves the events
    pub ran : (now : Option WalletRecords) → ((r : WalletRecords) → now ≡ Some r → FoundBehind left visit.next r)
        → RanTo dig rules Tells now (run_events n now visit start)
    ran now fits = by lines.stream.run.is_over refl
      where
        by : (over : Bool) → lines.stream.run.is_over ≡ over → RanTo dig rules Tells now (run_events n now visit start)
        by true is =
            late-ran (over-by true lines.stream.run.log is refl refl) (next_in command_in lines) refl now fits
        by false is = off-ran is now fits
