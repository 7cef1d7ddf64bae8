-- Who leaves first is paid, though nobody challenged the exits that began later.
use Rattle.std.specs.Prelude.{◌≡◌, ℕ, ◌+◌, ◌≤◌, ◌==◌, ◌&&◌, ◌||◌, not, Bool, true, false, if◌then◌else◌, nat_le, List, [], ◌∷◌, Some}
use Rattle.std.specs.List.{list_any}
use Rattle.plasma_tx.specs.declared.rules.TheConstants.{RESPONSE_WINDOW, EXIT_PERIOD}
use Rattle.plasma_tx.specs.declared.call.RootCall.{RootCall}
use Rattle.plasma_tx.specs.declared.call.RootCall.TheVariants.{Finish}
use Rattle.plasma_tx.specs.declared.answer.Answer.TheVariants.{Paid}
use Rattle.plasma_tx.specs.Laws.{is_start}
use Rattle.plasma_tx.specs.Views.{now, Challenge, Exit, exits, exit_at}
use Rattle.plasma_tx.specs.Shown.{Tests, Rules}
use Rattle.plasma_tx.specs.Table.{answer_to, IsLegal}

-- the exit may be finished: the clock has reached its end
abbrev pub is_ripe : ℕ → Exit → Bool
is_ripe time exit = nat_le (exit.start + EXIT_PERIOD) time

-- the challenge is open, and the time to answer it is over
abbrev pub is_missed : ℕ → Challenge → Bool
is_missed time challenge = not challenge.answered && nat_le (challenge.at + RESPONSE_WINDOW) time

-- The exit takes the lead from that at block e: it is another one, and ripe; or it is that one, and a challenge of it
-- wasn't answered in time.
abbrev pub ends_lead : ℕ → ℕ → Exit → Bool
ends_lead time e exit = if exit.block == e then list_any (is_missed time) exit.challenges else is_ripe time exit

-- the exit of coin c at e leads: no other standing exit of the coin is ripe, and its own challenges were answered in
-- time
abbrev pub leads : List RootCall → ℕ → ℕ → Bool
leads log c e = not (list_any (λ exit. (exit.coin == c) && ends_lead (now log) e exit) (exits log))

-- it has led since it began
unfoldable pub has_led : List RootCall → ℕ → ℕ → Bool
has_led [] c e = false
has_led (call ∷ log) c e = leads (call ∷ log) c e && (is_start c e call || has_led log c e)

-- An exit that has led since it began, and has reached its end, is paid by whoever finishes it. Whether anybody
-- challenged the others doesn't matter.
abbrev pub LeadersArePaid : Type 0
LeadersArePaid = (tests : Tests) (rules : Rules) (log : List RootCall) (account c e : ℕ) (exit : Exit)
    → IsLegal rules log → exit_at log c e ≡ Some exit → has_led log c e ≡ true → exit.start + EXIT_PERIOD ≤ now log
    → answer_to tests rules log (Finish account c e) ≡ Paid

-- An exit leads until its end, where it started no later than every other standing exit of the coin and its own
-- challenges were answered in time.
abbrev pub FirstsLead : Type 0
FirstsLead = (log : List RootCall) (c e : ℕ) (exit : Exit) → exit_at log c e ≡ Some exit
    → list_any (λ other. (other.coin == c) && nat_le (other.start + 1) exit.start) (exits log) ≡ false
    → list_any (is_missed (now log)) exit.challenges ≡ false → now log + 1 ≤ exit.start + EXIT_PERIOD
    → leads log c e ≡ true

-- The exit at e ends first: at no time since it began another exit of the coin stood whose end is at this time or
-- before it.
unfoldable pub ends_first : ℕ → List RootCall → ℕ → ℕ → Bool
ends_first time [] c e = false
ends_first time (call ∷ log) c e =
    not (list_any (λ exit. (exit.coin == c) && not (exit.block == e) && is_ripe time exit) (exits (call ∷ log)))
    && (is_start c e call || ends_first time log c e)

-- An exit is paid by whoever finishes it at its end, where its own challenges were answered in time, and the clock
-- hasn't reached the end of any other exit of the coin that stood since it began; so it began no later than each of
-- these. Whether anybody entered a Before doesn't matter.
abbrev pub FirstsArePaid : Type 0
FirstsArePaid = (tests : Tests) (rules : Rules) (log : List RootCall) (account c e : ℕ) (exit : Exit)
    → IsLegal rules log → exit_at log c e ≡ Some exit → exit.start + EXIT_PERIOD ≤ now log
    → ends_first (now log) log c e ≡ true → list_any (is_missed (now log)) exit.challenges ≡ false
    → answer_to tests rules log (Finish account c e) ≡ Paid
