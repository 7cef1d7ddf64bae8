-- A call that may be entered is legal: what a node's next run finds changes neither the log, nor who the wallets are,
-- nor what their leaves offered.
use Rattle.std.proofs.Common.{◌≡◌, ℕ, ◌-◌, ◌==◌, if◌then◌else◌, List, [], ◌∷◌, length, Option, Some, None, refl, sym, ap, ◌∙◌, subst, arith}
use Rattle.std.specs.List.{Contains}
use Rattle.std.proofs.lemmas.Grind.{common_steps}
use Rattle.crash_disk.specs.Disk.{History, FaultPlan}
use Rattle.plasma_tx.specs.declared.call.RootCall.{RootCall}
use Rattle.plasma_tx.specs.Shown.{Rules, tests_by}
use Rattle.plasma_tx.specs.Table.{answer_to, is_accepted}
use Rattle.node_rules.specs.Wallet.{WalletRecords}
use Rattle.node_lives.specs.Calls.{Call}
use Rattle.world_rules.specs.Events.{Event, Leaves, wallet_owner}
use Rattle.world_rules.specs.Steps.{without_offers}
use Rattle.world_laws.specs.Legal.{left_by}
use Rattle.chain_lives.specs.Steps.{Deed, Visit, Act, Begins, Runs, Rests, Step, Enters, Refuses, Does, Found, event_where, answered_events, late_events, act_events, found_by, none_found, events_behind}
use Rattle.chain_lives.specs.Acts.{act_of, acts_of}
use Rattle.chain_lives.specs.Entered.{EntriesAreLegal}
use Rattle.chain_lives.proofs.Log.{IsQuiet, AreQuiet, MayBeQuiet, IsQuietVisit, IsQuietAct, where_quiet, without_quiet, by_call, behind}

-- ---- what leaves offered

left_more : (w : ℕ) (event : Event) (xs ys : List Event) → left_by xs w ≡ left_by ys w
    → left_by (event ∷ xs) w ≡ left_by (event ∷ ys) w
unfolding left_by
left_more w (Leaves v call) xs ys same = ap (λ calls. if v == w then call ∷ calls else calls) same
left_more w event xs ys same = same

left_without : (w n : ℕ) (event : Event) (events : List Event)
    → left_by (without_offers n event ∷ events) w ≡ left_by events w
unfolding left_by
left_without w n event events = grind (arith, common_steps) steps 20000

left_answered : (w n written : ℕ) (deeds : List Deed) (xs ys : List Event) → left_by xs w ≡ left_by ys w
    → left_by (answered_events n written deeds xs) w ≡ left_by (answered_events n written deeds ys) w
unfolding answered_events
left_answered w n written [] xs ys same = same
left_answered w n written (deed ∷ deeds) xs ys same =
    left_answered w n (written - length deed.text) deeds (event_where n written deed ∷ xs)
    (event_where n written deed ∷ ys) (left_more w (event_where n written deed) xs ys same)

-- what comes late adds nothing to what holds of events with what it adds
pub late_same : {A : Type 0} (of : List Event → A) (n : ℕ) (found : Option WalletRecords) (visit : Visit)
    (events : List Event)
    → ((deed : Deed) → visit.next ≡ Some deed → of (without_offers n deed.event ∷ events) ≡ of events)
    → of (late_events n found visit events) ≡ of events
late_same of n found visit events each = grind (arith, common_steps) steps 20000

left_act : (w n : ℕ) (f g : Option WalletRecords) (act : Act) (xs ys : List Event) → left_by xs w ≡ left_by ys w
    → left_by (act_events n f act xs) w ≡ left_by (act_events n g act ys) w
unfolding left_by
left_act w n f g (Begins (Some me)) xs ys same = same
left_act w n f g (Begins None) xs ys same = same
left_act w n f g (Runs visit) xs ys same =
    late_same (λ events. left_by events w) n f visit (answered_events n visit.written visit.deeds xs)
    (λ deed is. left_without w n deed.event (answered_events n visit.written visit.deeds xs))
    ∙ left_answered w n visit.written visit.deeds xs ys same
    ∙ sym (late_same (λ events. left_by events w) n g visit (answered_events n visit.written visit.deeds ys)
    (λ deed is. left_without w n deed.event (answered_events n visit.written visit.deeds ys)))
left_act w n f g Rests xs ys same = same

left_behind : (w : ℕ) (f g : Found) (steps : List (Step Act))
    → left_by (events_behind f steps) w ≡ left_by (events_behind g steps) w
unfolding left_by events_behind
left_behind w f g [] = refl
left_behind w f g (Enters call ∷ steps) = left_behind w f g steps
left_behind w f g (Refuses call ∷ steps) = left_behind w f g steps
left_behind w f g (Does n act ∷ steps) =
    left_act w n (f n) (g n) act (events_behind (found_by n act f) steps) (events_behind (found_by n act g) steps)
    (left_behind w (found_by n act f) (found_by n act g) steps)

-- ---- who the wallets are

pub owner_more : (w n : ℕ) (event : Event) (events : List Event) → IsQuiet n event
    → wallet_owner (event ∷ events) w ≡ wallet_owner events w
unfolding wallet_owner
owner_more w n event events quiet = grind (arith, common_steps) steps 20000

pub owner_answered : (w n written : ℕ) (deeds : List Deed) (events : List Event) → AreQuiet n deeds
    → wallet_owner (answered_events n written deeds events) w ≡ wallet_owner events w
unfolding answered_events
owner_answered w n written [] events quiet = refl
owner_answered w n written (deed ∷ deeds) events quiet =
    owner_answered w n (written - length deed.text) deeds (event_where n written deed ∷ events) quiet.1
    ∙ owner_more w n (event_where n written deed) events (where_quiet n written deed quiet.0)

pub owner_ran : (w n : ℕ) (found : Option WalletRecords) (visit : Visit) (events : List Event) → IsQuietVisit n visit
    → wallet_owner (act_events n found (Runs visit) events) w ≡ wallet_owner events w
owner_ran w n found visit events quiet =
    late_same (λ late. wallet_owner late w) n found visit (answered_events n visit.written visit.deeds events)
    (λ deed is. owner_more w n (without_offers n deed.event) (answered_events n visit.written visit.deeds events)
    (without_quiet n deed.event (subst (MayBeQuiet n) is quiet.1)))
    ∙ owner_answered w n visit.written visit.deeds events quiet.0

pub owner_act : (w n : ℕ) (f g : Option WalletRecords) (act : Act) (xs ys : List Event) → IsQuietAct n act
    → wallet_owner xs w ≡ wallet_owner ys w
    → wallet_owner (act_events n f act xs) w ≡ wallet_owner (act_events n g act ys) w
unfolding wallet_owner
owner_act w n f g act xs ys quiet same = grind (arith, common_steps, owner_ran) steps 20000

-- ---- entries

module _ {D : Type 0} (told : D → Option History) (plan : D → Option FaultPlan) (faults : D → ℕ)
    (dig : List ℕ → List ℕ) where
  pub owner_behind : (w : ℕ) (f g : Found) (steps : List (Step (Call told plan faults dig)))
      → wallet_owner (events_behind f (acts_of told plan faults dig steps)) w
      ≡ wallet_owner (events_behind g (acts_of told plan faults dig steps)) w
  unfolding wallet_owner events_behind acts_of
  owner_behind w f g [] = refl
  owner_behind w f g (Enters call ∷ steps) = owner_behind w f g steps
  owner_behind w f g (Refuses call ∷ steps) = owner_behind w f g steps
  owner_behind w f g (Does n call ∷ steps) =
      let act = act_of told plan faults dig n call in
      owner_act w n (f n) (g n) act (events_behind (found_by n act f) (acts_of told plan faults dig steps))
      (events_behind (found_by n act g) (acts_of told plan faults dig steps))
      (by_call told plan faults dig n call.asked call.old call.new call.outside call.status call.did)
      (owner_behind w (found_by n act f) (found_by n act g) steps)

  pub entries_are_legal : (rules : Rules) → EntriesAreLegal told plan faults dig rules
  entries_are_legal rules steps found call may =
      let acts = acts_of told plan faults dig steps in
      record {
        accepted =
            ap (λ log. is_accepted (answer_to (tests_by dig) rules log call)) (behind told plan faults dig found steps)
            ∙ may.accepted;
        offered = λ w me owner starts.
            subst (λ (calls : List RootCall). Contains calls call) (left_behind w none_found found acts)
            (may.offered w me (owner_behind w none_found found steps ∙ owner) starts);
      }
