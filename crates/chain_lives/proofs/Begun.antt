-- Where a wallet is begun, it did nothing before: only the first call of a node's life says `made`.
use Rattle.std.proofs.Common.{◌≡◌, ◌≢◌, ℕ, ◌-◌, ◌⊎◌, false, List, [], ◌∷◌, ◌++◌, length, Option, Some, None, refl, sym, ap, ◌∙◌, subst, inl, inr, arith}
use Rattle.std.specs.List.{All, list_any}
use Rattle.std.proofs.lemmas.Bool.{eq-eqb, ne_eqb, cases_eq}
use Rattle.std.proofs.lemmas.List.Elements.{All-head, All-tail}
use Rattle.std.proofs.lemmas.Grind.{common_steps}
use Rattle.crash_disk.specs.Disk.{History, FaultPlan}
use Rattle.plasma_tx.specs.declared.owner.Owner.{Owner}
use Rattle.plasma_tx.specs.Shown.{Rules}
use Rattle.node_rules.specs.Wallet.{WalletRecords}
use Rattle.node_replies.specs.Roles.{Wallet, Watcher}
use Rattle.run_endings.specs.declared.status.Status.{Status}
use Rattle.run_endings.specs.declared.status.Status.TheVariants.{Done}
use Rattle.node_runs.specs.Sessions.{Outside}
use Rattle.node_lives.specs.Disks.{Pair}
use Rattle.node_lives.specs.Calls.{Begun, Asked, ToBegin, ToRun, DoesAsked, Starves, Call}
use Rattle.node_lives.specs.Lives.{IsLife}
use Rattle.node_lives.specs.Laws.{FindsTheNode}
use Rattle.node_lives.proofs.Life.{begun_nodes_stay}
use Rattle.world_rules.specs.Events.{Event, wallet_owner, is_command_of}
use Rattle.world_laws.specs.Legal.{starts_by, deposits_by}
use Rattle.chain_lives.specs.Steps.{Deed, Visit, Act, Begins, Enters, Refuses, Does, Found, event_where, answered_events, act_events, found_by, none_found, events_behind}
use Rattle.chain_lives.specs.Acts.{ran_or, act_by, act_of, acts_of}
use Rattle.chain_lives.specs.Chains.{Steps, calls_by, KeepsTo, IsFresh, MayDo}
use Rattle.chain_lives.specs.Begun.{BeginningsAreLegal}
use Rattle.chain_lives.proofs.Log.{IsQuiet, AreQuiet, IsQuietAct, where_quiet, without_quiet, by_call, behind}
use Rattle.chain_lives.proofs.Entered.{late_same, owner_ran, owner_behind}

-- ---- commands of others

other_more : (w n : ℕ) (event : Event) (events : List Event) → IsQuiet n event → n ≢ w
    → list_any (is_command_of w) (event ∷ events) ≡ list_any (is_command_of w) events
other_more w n event events quiet other = simp (quiet.own, ne_eqb n w other) refl

other_answered : (w n written : ℕ) (deeds : List Deed) (events : List Event) → AreQuiet n deeds → n ≢ w
    → list_any (is_command_of w) (answered_events n written deeds events) ≡ list_any (is_command_of w) events
unfolding answered_events
other_answered w n written [] events quiet other = refl
other_answered w n written (deed ∷ deeds) events quiet other =
    other_answered w n (written - length deed.text) deeds (event_where n written deed ∷ events) quiet.1 other
    ∙ other_more w n (event_where n written deed) events (where_quiet n written deed quiet.0) other

other_act : (w n : ℕ) (found : Option WalletRecords) (act : Act) (events : List Event) → IsQuietAct n act → n ≢ w
    → list_any (is_command_of w) (act_events n found act events) ≡ list_any (is_command_of w) events
other_act w n found act events quiet other =
    grind (arith, common_steps, late_same, other_more, without_quiet, other_answered) steps 20000

other_owner : (w n : ℕ) (found : Option WalletRecords) (act : Act) (events : List Event) → IsQuietAct n act → n ≢ w
    → wallet_owner (act_events n found act events) w ≡ wallet_owner events w
unfolding wallet_owner
other_owner w n found act events quiet other = grind (arith, common_steps, ne_eqb, owner_ran) steps 20000

-- ---- one element of a list with another last

last_or_among : {A : Type 0} (P : A → Type 0) (xs ys zs : List A) (one last : A)
    → xs ++ one ∷ ys ≡ zs ++ last ∷ [] → All P zs → (ys ≡ []) ⊎ P one
last_or_among P [] ys [] one last same each = inl (cc same)
last_or_among P [] ys (z ∷ zs) one last same each =
    inr (let is : z ≡ one = cc same in subst P is (All-head P z zs each))
last_or_among P (x ∷ xs) ys [] one last same each = absurd (none xs (cc same))
  where
    none : (zs : List _) → zs ++ one ∷ ys ≡ [] → ⊥
    none [] wrong = cc wrong
    none (z ∷ zs) wrong = cc wrong
last_or_among P (x ∷ xs) ys (z ∷ zs) one last same each =
    last_or_among P xs ys zs one last (cc same) (All-tail P z zs each)

none_behind : {A : Type 0} (xs ys : List A) (one : A) → xs ++ one ∷ ys ≢ []
none_behind [] ys one wrong = cc wrong
none_behind (x ∷ xs) ys one wrong = cc wrong

-- ---- calls

module _ {D : Type 0} (told : D → Option History) (plan : D → Option FaultPlan) (faults : D → ℕ)
    (dig : List ℕ → List ℕ) (rules : Rules) where
  abbrev Calls : Type 0
  Calls = List (Call told plan faults dig)

  -- what began a node was asked to, and was done
  record Began (asked : Asked) (status : Status) : Type 0 where
    disks : Begun
    identity : List ℕ
    asked_is : asked ≡ ToBegin disks identity
    done : status ≡ Done

  not_ran : (visit : Option Visit) (who : Option Owner) → ran_or visit ≢ Begins who
  not_ran None who wrong = cc wrong
  not_ran (Some visit) who wrong = cc wrong

  began : (n : ℕ) (asked : Asked) (old new : Pair D) (outside : Outside) (status : Status)
      (did : DoesAsked told plan faults dig asked old new outside status ⊎ Starves old new status) (who : Option Owner)
      → act_by told plan faults dig n asked old new outside status did ≡ Begins who → Began asked status
  unfolding act_by
  began n (ToBegin disks identity) old new outside Done did who is =
      record { disks = disks; identity = identity; asked_is = refl; done = refl }
  began n (ToRun Wallet) old new outside status (inl did) who is = absurd (not_ran _ who is)
  began n (ToRun Watcher) old new outside status (inl did) who is = absurd (not_ran _ who is)
  began n asked old new outside status did who is = absurd (cc is)

  -- the node's calls, up to one of them
  calls_at : (later earlier : Steps told plan faults dig rules) (n : ℕ) (call : Call told plan faults dig)
      → calls_by told plan faults dig rules n (later ++ Does n call ∷ earlier)
      ≡ calls_by told plan faults dig rules n later ++ call ∷ calls_by told plan faults dig rules n earlier
  unfolding calls_by
  calls_at [] earlier n call = simp (eq-eqb n n refl) refl
  calls_at (Enters entry ∷ later) earlier n call = calls_at later earlier n call
  calls_at (Refuses entry ∷ later) earlier n call = calls_at later earlier n call
  calls_at (Does m one ∷ later) earlier n call = grind (arith, common_steps, calls_at later earlier n call) steps 20000

  keeps_at : (later earlier : Steps told plan faults dig rules) (n : ℕ) (call : Call told plan faults dig)
      → KeepsTo told plan faults dig rules (later ++ Does n call ∷ earlier)
      → MayDo told plan faults dig rules earlier (act_of told plan faults dig n call)
  unfolding KeepsTo
  keeps_at [] earlier n call keeps = keeps.0
  keeps_at (Enters entry ∷ later) earlier n call keeps = keeps_at later earlier n call keeps.1
  keeps_at (Refuses entry ∷ later) earlier n call keeps = keeps_at later earlier n call keeps.1
  keeps_at (Does m one ∷ later) earlier n call keeps = keeps_at later earlier n call keeps.1

  -- a node that made no call did nothing
  record DidNothing (events : List Event) (w : ℕ) : Type 0 where
    owner : wallet_owner events w ≡ None
    commands : list_any (is_command_of w) events ≡ false

  nothing : (w : ℕ) (found : Found) (steps : Steps told plan faults dig rules)
      → calls_by told plan faults dig rules w steps ≡ []
      → DidNothing (events_behind found (acts_of told plan faults dig steps)) w
  unfolding calls_by events_behind acts_of wallet_owner
  nothing w found [] none = record { owner = refl; commands = refl }
  nothing w found (Enters call ∷ steps) none =
      let so = nothing w found steps none in record { owner = so.owner; commands = so.commands }
  nothing w found (Refuses call ∷ steps) none =
      let so = nothing w found steps none in record { owner = so.owner; commands = so.commands }
  nothing w found (Does n call ∷ steps) none =
      grind (
        arith,
        common_steps,
        nothing w (found_by n (act_of told plan faults dig n call) found) steps,
        cases_eq,
        eq-eqb,
        ne_eqb,
        by_call,
        other_owner,
        other_act,
      ) steps 20000

  pub beginnings_are_legal : BeginningsAreLegal told plan faults dig rules
  beginnings_are_legal later earlier n call me found chain begins =
      let calls = calls_by told plan faults dig rules n in
      let all = calls_at later earlier n call in
      let node =
      chain.nodes n (λ wrong. none_behind (calls later) (calls earlier) call (sym all ∙ wrong)) in
      let stays =
      begun_nodes_stay told plan faults dig node.role node.later [] node.first
      (subst (IsLife told plan faults dig) node.are node.life) node.begins in
      let made = began n call.asked call.old call.new call.outside call.status call.did (Some me) begins in
      let first : calls earlier ≡ [] =
      elim (last_or_among (FindsTheNode told plan faults dig node.role node.begins.identity) (calls later)
      (calls earlier) node.later call node.first (sym all ∙ node.are) stays) [
        | inl is ↦ is
        | inr finds ↦ absurd (finds.begins made.disks made.identity made.asked_is made.done)
      ] in
      let so = nothing n found earlier first in
      let fresh : IsFresh told plan faults dig rules earlier me =
      subst (MayDo told plan faults dig rules earlier) begins (keeps_at later earlier n call chain.keeps) in
      record {
        new = so.owner;
        unused = so.commands;
        no_deposit = ap (list_any (deposits_by me.account)) (behind told plan faults dig found earlier)
            ∙ fresh.no_deposit;
        no_start = ap (list_any (starts_by me.account)) (behind told plan faults dig found earlier) ∙ fresh.no_start;
        own_account = λ v other is.
            fresh.own_account v other (owner_behind told plan faults dig v none_found found earlier ∙ is);
      }
