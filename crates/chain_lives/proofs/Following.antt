-- Commands, one after another, of a node whose records are what events say: each is a legal event, and behind all of
-- them the records are so still.
use Rattle.std.proofs.Common.{◌≡◌, ℕ, ◌-◌, List, [], ◌∷◌, length, ◌∙◌, arith}
use Rattle.std.specs.List.{AllByRecursion}
use Rattle.std.proofs.lemmas.Grind.{common_steps}
use Rattle.plasma_tx.specs.declared.call.RootCall.{RootCall}
use Rattle.plasma_tx.specs.Shown.{Rules, tests_by}
use Rattle.node_rules.specs.Wallet.{WalletRecords}
use Rattle.world_rules.specs.Events.{Event, log_of}
use Rattle.world_rules.specs.Steps.{without_offers}
use Rattle.world_laws.specs.Legal.{IsLegalEvent, IsLegal}
use Rattle.chain_lives.specs.Steps.{Deed, left_by, event_where, answered_events}
use Rattle.chain_lives.specs.Acts.{deeds_of}
use Rattle.chain_lives.proofs.Log.{IsQuiet, quiet_step, without_quiet, where_quiet}

-- a command of node n is a legal event behind these; with it, and with it without offers, events tell of what it leaves
pub record Follows (dig : List ℕ → List ℕ) (rules : Rules) (n : ℕ) (Tells : List Event → WalletRecords → Type 0)
    (events : List Event) (deed : Deed) : Type 0 where
  pub legal : IsLegalEvent (tests_by dig) rules events deed.event
  pub tells : Tells (deed.event ∷ events) deed.left
  pub silent : Tells (without_offers n deed.event ∷ events) deed.left

module _ (dig : List ℕ → List ℕ) (rules : Rules) (n : ℕ) where
  -- without offers it is legal too
  pub legal-without : (events : List Event) (event : Event) → IsLegalEvent (tests_by dig) rules events event
      → IsLegalEvent (tests_by dig) rules events (without_offers n event)
  legal-without events event legal = grind (arith, common_steps) steps 20000

  module _ (Tells : List Event → WalletRecords → Type 0) (events : List Event) (deed : Deed)
      (follows : Follows dig rules n Tells events deed) where
    -- wherever its answer was written
    pub where-legal : (written : ℕ) → IsLegalEvent (tests_by dig) rules events (event_where n written deed)
    where-legal written = grind (arith, common_steps, legal-without) steps 20000

    pub where-tells : (written : ℕ) → Tells (event_where n written deed ∷ events) deed.left
    where-tells written = grind (arith, common_steps) steps 20000

  -- what holds behind events of records
  pub record Behind (Tells : List Event → WalletRecords → Type 0) (log : List RootCall) (events : List Event)
      (records : WalletRecords) : Type 0 where
    pub legal : IsLegal (tests_by dig) rules events
    pub log_is : log_of events ≡ log
    pub tells : Tells events records

  module _ {L : Type 0} (does : WalletRecords → L → Deed) (Good : L → Type 0)
      (Tells : List Event → WalletRecords → Type 0) (log : List RootCall)
      (quiet : (records : WalletRecords) (line : L) → IsQuiet n (does records line).event)
      (each : (events : List Event) (records : WalletRecords) (line : L) → log_of events ≡ log → Tells events records
      → Good line → Follows dig rules n Tells events (does records line)) where
    one-more : (written : ℕ) (events : List Event) (records : WalletRecords) (line : L)
        → Behind Tells log events records → Good line
        → Behind Tells log (event_where n written (does records line) ∷ events) (does records line).left
    unfolding IsLegal
    one-more written events records line behind good =
        let deed = does records line in
        let follows = each events records line behind.log_is behind.tells good in
        record {
          legal = (where-legal Tells events deed follows written, behind.legal);
          log_is =
              quiet_step n (event_where n written deed) events (where_quiet n written deed (quiet records line))
              ∙ behind.log_is;
          tells = where-tells Tells events deed follows written;
        }

    -- behind commands that were answered
    pub answered-behind : (lines : List L) (written : ℕ) (events : List Event) (records : WalletRecords)
        → Behind Tells log events records → AllByRecursion Good lines
        → Behind Tells log (answered_events n written (deeds_of does records lines) events)
        (left_by records (deeds_of does records lines))
    unfolding answered_events
    answered-behind [] written events records behind good = behind
    answered-behind (line ∷ lines) written events records behind good =
        let deed = does records line in
        answered-behind lines (written - length deed.text) (event_where n written deed ∷ events) deed.left
        (one-more written events records line behind good.0) good.1

    -- and one that came late
    pub late-behind : (line : L) (events : List Event) (records : WalletRecords) → Behind Tells log events records
        → Good line
        → Behind Tells log (without_offers n (does records line).event ∷ events) (does records line).left
    unfolding IsLegal
    late-behind line events records behind good =
        let deed = does records line in
        let follows = each events records line behind.log_is behind.tells good in
        record {
          legal = (legal-without events deed.event follows.legal, behind.legal);
          log_is =
              quiet_step n (without_offers n deed.event) events (without_quiet n deed.event (quiet records line))
              ∙ behind.log_is;
          tells = follows.silent;
        }
