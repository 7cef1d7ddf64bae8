-- No leaf of a wallet's key gives out two messages, in one run or in two.
use Rattle.std.proofs.Common.{◌≡◌, ◌<◌, ◌⊎◌, ◌++◌, ◌∷◌, ℕ, zero, suc, List, [], Option, Some, sym, ap, ◌∙◌, subst, inl, inr, arith}
use Rattle.std.specs.List.{Contains}
use Rattle.std.proofs.lemmas.List.Elements.{All-head}
use Rattle.crash_disk.specs.Disk.{History, FaultPlan}
use Rattle.node_rules.specs.Wallet.{WalletRecords}
use Rattle.node_replies.specs.Roles.{Wallet, Watcher, Operator}
use Rattle.run_endings.specs.declared.status.Status.{Status}
use Rattle.node_replies.specs.declared.reply.Reply.{Reply}
use Rattle.node_replies.specs.declared.order.WalletOrder.{WalletOrder}
use Rattle.node_lines.specs.declared.wallet_line.WalletLine.{WalletLine}
use Rattle.node_lines.specs.Grammar.{wallet_line_in}
use Rattle.node_roles.specs.Notes.{NotesAt}
use Rattle.node_roles.specs.Nodes.{NodeAt}
use Rattle.node_roles.specs.Roles.{wallet_parts, wallet_commands}
use Rattle.node_sessions.specs.Sessions.{SessionState, begun, commanded}
use Rattle.streamed_lines.specs.Streams.{Stream}
use Rattle.streamed_lines.specs.Reading.{next_text}
use Rattle.node_runs.specs.Sessions.{Outside, Begins as BeginsLines}
use Rattle.node_runs.specs.Runs.{RunsWallet, node_rules, node_found}
use Rattle.node_lives.specs.Disks.{Pair, BothTell}
use Rattle.node_lives.specs.Calls.{Asked, ToBegin, ToRun, ToSign, ToUseNoDisk, RunsAs, DoesAsked, Starves, Call}
use Rattle.node_lives.specs.Lives.{IsLife}
use Rattle.node_lives.specs.Standing.{identity_alone, GoOn, Stand}
use Rattle.node_lives.specs.Answered.{WalletRan, ran_of, lines_answered, wallet_ran, wallet_ran_by, wallet_ran_in, gives_at, GivesOut}
use Rattle.node_lives.specs.Laws.{Begins, LeavesGiveOutOneMessage}
use Rattle.node_lives.proofs.WalletOrders.{IsGood}
use Rattle.node_lives.proofs.OwnWallet.{wallet-leaves, opened-own}
use Rattle.node_lives.proofs.LeafTexts.{IsOfLeaf, leaf-stays, leaf-one}
use Rattle.node_lives.proofs.GivenOut.{same-who, session-gives}
use Rattle.node_lives.proofs.Begun.{begun-stands}
use Rattle.node_lives.proofs.Opens.{tells-some}
use Rattle.node_lives.proofs.Life.{StandsAt, stands-on, newest, lies-stand, lie-behind, call-keeps}

pub contains-cons : {X : Type 0} (x : X) (xs : List X) (y : X) → Contains (x ∷ xs) y → (x ≡ y) ⊎ Contains xs y
contains-cons x xs y (zero, within, is) = inl is
contains-cons x xs y (suc k, within, is) = inr (k, omega (arith, within), is)

module _ {D : Type 0} (told : D → Option History) (plan : D → Option FaultPlan) (faults : D → ℕ)
    (dig : List ℕ → List ℕ) where
  -- what a run gave out, as `GivesOut`
  record GivesIn (ran : WalletRan D) (q : ℕ) (made : List ℕ) : Type 0 where
    before : Stream (SessionState (NodeAt NotesAt))
    lines : BeginsLines (node_rules told plan faults dig wallet_commands (wallet_parts ran.opened))
        (begun (node_found told plan faults dig (wallet_parts ran.opened))) ran.lines.bytes before
    answered : before.count < ran.lines.stream.count
    order : WalletOrder
    spelled : commanded wallet_line_in before.run (next_text ran.lines.bytes before) ≡ Some (WalletLine.Order order)
    reply : (gives_at told plan faults dig before.run order).reply ≡ Reply.Sent q
    made_is : (gives_at told plan faults dig before.run order).made ≡ made

  gives-in : (call : Call told plan faults dig) (q : ℕ) (made : List ℕ)
      (out : GivesOut told plan faults dig call q made) → GivesIn out.ran q made
  gives-in call q made out = record {
    before = out.before;
    lines = out.lines;
    answered = out.answered;
    order = out.order;
    spelled = out.spelled;
    reply = out.reply;
    made_is = out.made_is;
  }

  -- What a run found on disks on which these records stood, and left.
  record LeafRun (first : WalletRecords) (new : Pair D) (ran : WalletRan D) : Type 0 where
    on : GoOn first (ran_of ran).left
    left : Stand dig told Wallet (ran_of ran).left new
    good : IsGood dig (ran_of ran).left
    gives : (q : ℕ) (made : List ℕ) → GivesIn ran q made → IsOfLeaf (ran_of ran).left q made

  abbrev Runs : WalletRecords → Pair D → Option (WalletRan D) → Type 0
  Runs first new ran = (one : WalletRan D) → ran ≡ Some one → LeafRun first new one

  run-leaves : (first : WalletRecords) (old new : Pair D) (outside : Outside) (status : Status) → BothTell told old
      → Stand dig told Wallet first old → (runs : RunsAs told plan faults dig Wallet old new outside status)
      → Runs first new (wallet_ran told plan faults dig old.notes old.leaves new.notes new.leaves outside status runs)
  unfolding RunsWallet wallet_ran
  run-leaves first old new outside status tells stand (inl (opened, opens, session)) one is =
      let n = tells-some (told old.notes) tells.0 in
      let l = tells-some (told old.leaves) tells.1 in
      let own = opened-own dig told plan faults first old.notes old.leaves n.0 l.0 n.1 l.1 (stand n.0 n.1 l.0 l.1)
      opened opens in
      let leaves = wallet-leaves dig told faults new.notes new.leaves plan opened outside (Unit {0}) status first own
      session in
      let ran : WalletRan D = record { opened = opened; lines = lines_answered session } in
      let same : ran ≡ one = cc is in
      subst (LeafRun first new) same (record {
        on = leaves.own.on;
        left = leaves.stays;
        good = leaves.own.good;
        gives =
            λ q made g. subst (IsOfLeaf (ran_of ran).left q) g.made_is
            (session-gives told plan faults dig new.notes new.leaves outside (Unit {0}) status opened first own session
            g.before g.lines g.answered g.order g.spelled q g.reply);
      })
  run-leaves first old new outside status tells stand (inr refused) one is = absurd (cc is)

  by-leaves : (first : WalletRecords) (asked : Asked) (old new : Pair D) (outside : Outside) (status : Status)
      → BothTell told old → Stand dig told Wallet first old
      → (did : DoesAsked told plan faults dig asked old new outside status ⊎ Starves old new status)
      → Runs first new (wallet_ran_by told plan faults dig asked old new outside status did)
  unfolding wallet_ran_by
  by-leaves first (ToRun Wallet) old new outside status tells stand (inl did) =
      run-leaves first old new outside status tells stand did
  by-leaves first (ToRun Wallet) old new outside status tells stand (inr starves) = λ one is. absurd (cc is)
  by-leaves first (ToRun Watcher) old new outside status tells stand did = λ one is. absurd (cc is)
  by-leaves first (ToRun Operator) old new outside status tells stand did = λ one is. absurd (cc is)
  by-leaves first (ToBegin other identity) old new outside status tells stand did = λ one is. absurd (cc is)
  by-leaves first (ToSign message) old new outside status tells stand did = λ one is. absurd (cc is)
  by-leaves first ToUseNoDisk old new outside status tells stand did = λ one is. absurd (cc is)

  call-leaves : (first : WalletRecords) (call : Call told plan faults dig) → BothTell told call.old
      → Stand dig told Wallet first call.old → Runs first call.new (wallet_ran_in told plan faults dig call)
  call-leaves first call tells stand =
      by-leaves first call.asked call.old call.new call.outside call.status tells stand call.did

  -- ---- a life

  -- what a run left stands on the disks
  record LeftBy (pair : Pair D) (call : Call told plan faults dig) (ran : WalletRan D) : Type 0 where
    left : Stand dig told Wallet (ran_of ran).left pair
    good : IsGood dig (ran_of ran).left
    gives : (q : ℕ) (made : List ℕ) → GivesIn ran q made → IsOfLeaf (ran_of ran).left q made

  abbrev IsLeft : Pair D → Call told plan faults dig → Type 0
  IsLeft pair call = (ran : WalletRan D) → wallet_ran_in told plan faults dig call ≡ Some ran → LeftBy pair call ran

  module _ (earlier : List (Call told plan faults dig)) (first : Call told plan faults dig)
      (begins : Begins told plan faults dig Wallet first) where
    abbrev alone : WalletRecords
    alone = identity_alone begins.identity

    abbrev Life : List (Call told plan faults dig) → Type 0
    Life later = IsLife told plan faults dig (later ++ first ∷ earlier)

    abbrev last : List (Call told plan faults dig) → Call told plan faults dig
    last later = newest told plan faults dig later first

    -- one more call, which is handed disks as the last one left them
    module _ (call : Call told plan faults dig) (later : List (Call told plan faults dig)) (life : Life (call ∷ later))
      where
        tells : BothTell told call.old
        unfolding IsLife
        tells = life.0

        rest : Life later
        unfolding IsLife
        rest = life.2

        handed : (records : WalletRecords) → Stand dig told Wallet records (last later).new
            → Stand dig told Wallet records call.old
        unfolding IsLife
        handed records stand =
            lies-stand told plan faults dig Wallet records (last later).new call.old
            (lie-behind told plan faults dig later earlier first call.old life.1) stand

        handed-alone : Stand dig told Wallet alone call.old
        handed-alone =
            (All-head (StandsAt told plan faults dig Wallet alone tt) call later
            (stands-on told plan faults dig Wallet alone tt (call ∷ later) earlier first life
            (begun-stands told plan faults dig Wallet first begins))).handed

        left-on : (records : WalletRecords) → Stand dig told Wallet records (last later).new
            → Stand dig told Wallet records call.new
        left-on records stand =
            (call-keeps told plan faults dig Wallet records tt call tells (handed records stand)).stands

    each-left : (later : List (Call told plan faults dig)) → Life later → (call : Call told plan faults dig)
        → Contains later call → IsLeft (last later).new call
    each-left [] life call (k, within, named) ran is = absurd (omega (arith, within))
    each-left (new ∷ later) life call among ran is = elim (contains-cons new later call among) [
      | inl same ↦
          let run = call-leaves alone new (tells new later life) (handed-alone new later life) ran
          (ap (wallet_ran_in told plan faults dig) same ∙ is) in
          record { left = run.left; good = run.good; gives = run.gives }
      | inr before ↦
          let by = each-left later (rest new later life) call before ran is in
          record { left = left-on new later life (ran_of ran).left by.left; good = by.good; gives = by.gives }
    ]

    -- of two calls, the newest and an earlier one
    cross : (new : Call told plan faults dig) (later : List (Call told plan faults dig)) (life : Life (new ∷ later))
        (old : Call told plan faults dig) → Contains later old → (q : ℕ) (made also : List ℕ)
        → GivesOut told plan faults dig new q made → GivesOut told plan faults dig old q also → made ≡ also
    cross new later life old before q made also one other =
        let by = each-left later (rest new later life) old before other.ran other.is in
        let run = call-leaves (ran_of other.ran).left new (tells new later life)
        (handed new later life (ran_of other.ran).left by.left) one.ran one.is in
        leaf-one (ran_of one.ran).left q made also (run.gives q made (gives-in new q made one))
        (leaf-stays (ran_of other.ran).left (ran_of one.ran).left q also run.on
        (same-who dig (ran_of other.ran).left (ran_of one.ran).left by.good run.on)
        (by.gives q also (gives-in old q also other)))

    -- of the newest alone
    alike : (new : Call told plan faults dig) (later : List (Call told plan faults dig)) (life : Life (new ∷ later))
        (q : ℕ) (made also : List ℕ) → GivesOut told plan faults dig new q made
        → GivesOut told plan faults dig new q also → made ≡ also
    alike new later life q made also one other =
        let run = call-leaves alone new (tells new later life) (handed-alone new later life) one.ran one.is in
        let same : other.ran ≡ one.ran = (let a = one.is in let b = other.is in cc (a, b)) in
        leaf-one (ran_of one.ran).left q made also (run.gives q made (gives-in new q made one))
        (run.gives q also
        (subst (λ (r : WalletRan D). GivesIn r q also) same (gives-in new q also other)))

    agree : (later : List (Call told plan faults dig)) → Life later → (one other : Call told plan faults dig) (q : ℕ)
        (made also : List ℕ) → Contains later one → Contains later other → GivesOut told plan faults dig one q made
        → GivesOut told plan faults dig other q also → made ≡ also
    agree [] life one other q made also (k, within, is) there first' second = absurd (omega (arith, within))
    agree (new ∷ later) life one other q made also here there first' second =
        elim (contains-cons new later one here) [
          | inl is ↦ (elim (contains-cons new later other there) [
            | inl also' ↦
                alike new later life q made also
                (subst (λ (c : Call told plan faults dig). GivesOut told plan faults dig c q made) (sym is) first')
                (subst (λ (c : Call told plan faults dig). GivesOut told plan faults dig c q also) (sym also') second)
            | inr before ↦
                cross new later life other before q made also
                (subst (λ (c : Call told plan faults dig). GivesOut told plan faults dig c q made) (sym is) first')
                second
          ])
          | inr before ↦ (elim (contains-cons new later other there) [
            | inl also' ↦
                sym (cross new later life one before q also made
                (subst (λ (c : Call told plan faults dig). GivesOut told plan faults dig c q also) (sym also') second)
                first')
            | inr earlier' ↦ agree later (rest new later life) one other q made also before earlier' first' second
          ])
        ]

  pub leaves_give_out_one_message : LeavesGiveOutOneMessage told plan faults dig
  leaves_give_out_one_message later earlier first one other q made also life begins here there first' second =
      agree earlier first begins later life one other q made also here there first' second
