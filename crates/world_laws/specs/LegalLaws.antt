-- What is promised of every list of legal events.
use Rattle.std.specs.Prelude.{◌≡◌, ◌≢◌, ℕ, true, false, List, ◌∷◌, Some, ◌+◌, ◌==◌, Bool, if◌then◌else◌, [], is_some}
use Rattle.std.specs.List.{Contains}
use Rattle.plasma_tx.specs.{declared.owner.Owner.{Owner}, declared.call.RootCall.{RootCall}, Shown.{Rules, tests_by}, Table.{answer_to, is_accepted}, Views.{coins}}
use Rattle.world_rules.specs.{declared.verdict.VerdictKind.{VerdictKind}, declared.verdict.Exhibit.{Exhibit}, Events.{Event, log_of, coin_of_call, wallet_owner, offers_of, Joins, is_command_of, offered}}
use Rattle.node_replies.specs.Orders.{exit_block}
use Rattle.world_rules.specs.{Exhibits.{collides, is_forged, exhibit_of}, Safety.{holds, is_safe, is_watch, is_joined}, Verdicts.{verdict_at}, Laws.{IsDigest}}
use Rattle.world_laws.specs.{Headline.{lacks_bond, starter, IsTaken}, Legal.{IsLegal}, Looked.{is_looked_after}}

-- the wallet was declared before the deposit of the coin
unfoldable pub was_declared_before : List Event → ℕ → ℕ → Bool
was_declared_before [] w c = false
was_declared_before (Joins (RootCall.Deposit account amount key) ∷ events) w c =
    if c == coins (log_of events) + 1 then is_some (wallet_owner events w) else was_declared_before events w c
was_declared_before (event ∷ events) w c = was_declared_before events w c

-- the calls that a node's watch offers, where it was the node's last command and no call was accepted since
unfoldable pub fresh_offers : List Event → ℕ → List RootCall
fresh_offers [] n = []
fresh_offers (event ∷ events) n =
    if is_command_of n event then (if is_watch event then offered event else [])
    else if is_joined event then []
    else fresh_offers events n

-- The coin that a wallet holds is safe at each event. Unless the events up to it show, at this coin, two byte strings
-- with one digest, or a signature that is valid under the wallet's key and that the wallet never made, no exit of
-- another account was paid while the wallet held the coin at e, and its own exit at e wasn't cancelled or dropped, and
-- paid where it was finished at its end; where the coin was looked after at each tick before the event.
abbrev pub LegalCoinsAreSafe : Type 0
LegalCoinsAreSafe = (dig : List ℕ → List ℕ) (rules : Rules) (event : Event) (events : List Event) (w c e : ℕ)
    → IsDigest dig → IsLegal (tests_by dig) rules (event ∷ events)
    → is_looked_after events w c e ≡ true
    → collides dig (event ∷ events) c ≡ false
    → is_forged rules.tag (event ∷ events) w c ≡ false
    → is_safe (tests_by dig) rules (event ∷ events) w c e ≡ true

-- Two wallets that were declared before its deposit don't both hold a coin, unless the events exhibit.
abbrev pub OneWalletHoldsLegally : Type 0
OneWalletHoldsLegally = (dig : List ℕ → List ℕ) (rules : Rules) (events : List Event) (v w c d e : ℕ)
    → IsDigest dig → IsLegal (tests_by dig) rules events → v ≢ w
    → was_declared_before events v c ≡ true → was_declared_before events w c ≡ true
    → collides dig events c ≡ false
    → is_forged rules.tag events v c ≡ false
    → is_forged rules.tag events w c ≡ false
    → holds events v c d ≡ true → holds events w c e ≡ true → ⊥

-- A call that a watch offers is accepted where no call was accepted since, unless it is a Before for which its account
-- doesn't have the money; where the events show no clash at its coin.
abbrev pub LegalDueCallsAreTaken : Type 0
LegalDueCallsAreTaken = (dig : List ℕ → List ℕ) (rules : Rules) (events : List Event) (n : ℕ) (call : RootCall)
    → IsDigest dig → IsLegal (tests_by dig) rules events → Contains (fresh_offers events n) call
    → collides dig events (coin_of_call call) ≡ false
    → lacks_bond (log_of events) call ≡ false
    → is_accepted (answer_to (tests_by dig) rules (log_of events) call) ≡ true

-- A verdict `lost` on a declared wallet stands only above an exhibit.
abbrev pub LegalLostIsExhibited : Type 0
LegalLostIsExhibited = (dig : List ℕ → List ℕ) (rules : Rules) (events : List Event) (w c e : ℕ) (me : Owner)
    → IsDigest dig → IsLegal (tests_by dig) rules events → wallet_owner events w ≡ Some me
    → verdict_at (tests_by dig) rules events me w c e ≡ VerdictKind.Lost
    → exhibit_of dig rules.tag events ≢ Exhibit.Nothing

-- A start that a wallet offers is taken while the wallet holds the coin at the exit's block, but where the exit stands
-- or the money is missing.
abbrev pub LegalStartsAreTaken : Type 0
LegalStartsAreTaken = (dig : List ℕ → List ℕ) (rules : Rules) (events : List Event) (w account : ℕ)
    (call : RootCall)
    → IsLegal (tests_by dig) rules events → Contains (offers_of events w) call → starter call ≡ Some account
    → holds events w (coin_of_call call) (exit_block call) ≡ true
    → IsTaken (log_of events) account call (answer_to (tests_by dig) rules (log_of events) call)
