-- No leaf of an operator's key gives out two promises, in one run or in two.
use Rattle.std.proofs.Common.{◌≡◌, ◌++◌, ◌∷◌, ℕ, List, [], Option, Some, refl, sym, subst, inl, inr, arith}
use Rattle.std.specs.List.{Contains}
use Rattle.crash_disk.specs.Disk.{History, FaultPlan}
use Rattle.node_rules.specs.Wallet.{WalletRecords}
use Rattle.node_replies.specs.Roles.{Operator}
use Rattle.node_lives.specs.Disks.{Pair, BothTell}
use Rattle.node_lives.specs.Calls.{Call}
use Rattle.node_lives.specs.Lives.{IsLife}
use Rattle.node_lives.specs.Standing.{identity_alone, Stand}
use Rattle.node_lives.specs.Laws.{Begins}
use Rattle.node_lives.proofs.Seeds.{IsSeeded, alone-seeded}
use Rattle.node_lives.proofs.Begun.{begun-stands}
use Rattle.node_lives.proofs.Life.{newest, lies-stand, call-keeps}
use Rattle.node_lives.proofs.Leaves.{contains-cons}
use Rattle.key_lives.specs.Desks.{DeskRan, desk_left, GivesReceipt}
use Rattle.key_lives.specs.DeskLaws.{DesksPromiseOnce}
use Rattle.key_lives.proofs.Calls.{tells, lies, before}
use Rattle.key_lives.proofs.DeskTexts.{IsOfDesk, receipt-stays, receipt-one}
use Rattle.key_lives.proofs.DeskRuns.{GivesIn, gives-in, DeskRun, call-runs}

module _ {D : Type 0} (told : D → Option History) (plan : D → Option FaultPlan) (faults : D → ℕ)
    (dig : List ℕ → List ℕ) (earlier : List (Call told plan faults dig)) (first : Call told plan faults dig)
    (begins : Begins told plan faults dig Operator first) where
  abbrev alone : WalletRecords
  alone = identity_alone begins.identity

  alone_is : IsSeeded dig alone
  alone_is = alone-seeded dig Operator begins.identity begins.is.digests

  abbrev Life : List (Call told plan faults dig) → Type 0
  Life later = IsLife told plan faults dig (later ++ first ∷ earlier)

  abbrev last : List (Call told plan faults dig) → Call told plan faults dig
  last later = newest told plan faults dig later first

  abbrev Stands : WalletRecords → Pair D → Type 0
  Stands records pair = Stand dig told Operator records pair

  -- one more call, which is handed disks as the last one left them
  module _ (call : Call told plan faults dig) (later : List (Call told plan faults dig)) (life : Life (call ∷ later))
    where
      tell : BothTell told call.old
      tell = tells told plan faults dig call first later earlier life

      rest : Life later
      rest = before told plan faults dig call first later earlier life

      handed : (records : WalletRecords) → Stands records (last later).new → Stands records call.old
      handed records stand =
          lies-stand told plan faults dig Operator records (last later).new call.old
          (lies told plan faults dig call first later earlier life) stand

      left-on : (records : WalletRecords) → IsSeeded dig records → Stands records (last later).new
          → Stands records call.new
      left-on records seeded stand =
          (call-keeps told plan faults dig Operator records seeded call tell (handed records stand)).stands

  alone-last : (later : List (Call told plan faults dig)) → Life later → Stands alone (last later).new
  alone-last [] life = begun-stands told plan faults dig Operator first begins
  alone-last (call ∷ later) life =
      left-on call later life alone alone_is (alone-last later (rest call later life))

  -- a receipt was given out by a leaf, and stands on the disks
  record LeftBy (pair : Pair D) (q : ℕ) (receipt : List ℕ) : Type 0 where
    records : WalletRecords
    seeded : IsSeeded dig records
    same : seeded.seed ≡ alone_is.seed
    stands : Stands records pair
    seed : List ℕ
    seed_is : alone_is.seed ≡ Some seed
    of : IsOfDesk seed records.leaves q receipt

  -- what a run behind some records left has their seed
  left-seeded : (records : WalletRecords) (seeded : IsSeeded dig records) (new : Pair D) (ran : DeskRan D)
      → (run : DeskRun told plan faults dig records seeded new ran) → IsSeeded dig (desk_left ran)
  left-seeded records seeded new ran run = record {
    seed = seeded.seed;
    has = run.has;
    digests = seeded.digests;
    none = λ keyless. absurd (let keyed = run.seed_is in cc (keyed, keyless));
  }

  newest-runs : (call : Call told plan faults dig) (later : List (Call told plan faults dig)) → Life (call ∷ later)
      → (q : ℕ) (receipt : List ℕ) → (out : GivesReceipt told plan faults dig call q receipt)
      → DeskRun told plan faults dig alone alone_is call.new out.ran
  newest-runs call later life q receipt out =
      call-runs told plan faults dig alone alone_is call (tell call later life)
      (handed call later life alone (alone-last later (rest call later life))) out.ran out.is

  each-left : (later : List (Call told plan faults dig)) → Life later → (call : Call told plan faults dig)
      → Contains later call → (q : ℕ) (receipt : List ℕ) → GivesReceipt told plan faults dig call q receipt
      → LeftBy (last later).new q receipt
  unfolding alone_is left-seeded
  each-left [] life call (k, within, named) q receipt out = absurd (omega (arith, within))
  each-left (new ∷ later) life call among q receipt out = elim (contains-cons new later call among) [
    | inl is ↦
        (let here = subst (λ (c : Call told plan faults dig). GivesReceipt told plan faults dig c q receipt) (sym is)
        out in
        let run = newest-runs new later life q receipt here in
        record {
          records = desk_left here.ran;
          seeded = left-seeded alone alone_is new.new here.ran run;
          same = refl;
          stands = run.left;
          seed = run.seed;
          seed_is = run.seed_is;
          of = run.gives q receipt (gives-in told plan faults dig new q receipt here);
        })
    | inr older ↦
        (let by = each-left later (rest new later life) call older q receipt out in
        record {
          records = by.records;
          seeded = by.seeded;
          same = by.same;
          stands = left-on new later life by.records by.seeded by.stands;
          seed = by.seed;
          seed_is = by.seed_is;
          of = by.of;
        })
  ]

  -- of two calls, the newest and an earlier one
  cross : (new : Call told plan faults dig) (later : List (Call told plan faults dig)) → Life (new ∷ later)
      → (old : Call told plan faults dig) → Contains later old → (q : ℕ) (made also : List ℕ)
      → GivesReceipt told plan faults dig new q made → GivesReceipt told plan faults dig old q also → made ≡ also
  cross new later life old older q made also one other =
      let by = each-left later (rest new later life) old older q also other in
      let run = call-runs told plan faults dig by.records by.seeded new (tell new later life)
      (handed new later life by.records by.stands) one.ran one.is in
      let keys : by.seed ≡ run.seed =
      (let a = by.seed_is in let b = run.seed_is in let c = by.same in cc (a, b, c)) in
      receipt-one run.seed (desk_left one.ran).leaves q made also
      (run.gives q made (gives-in told plan faults dig new q made one))
      (receipt-stays run.seed by.records.leaves (desk_left one.ran).leaves q also run.on.leaves
      (subst (λ (s : List ℕ). IsOfDesk s by.records.leaves q also) keys by.of))

  -- of the newest alone
  alike : (new : Call told plan faults dig) (later : List (Call told plan faults dig)) → Life (new ∷ later)
      → (q : ℕ) (made also : List ℕ) → GivesReceipt told plan faults dig new q made
      → GivesReceipt told plan faults dig new q also → made ≡ also
  alike new later life q made also one other =
      let run = newest-runs new later life q made one in
      let same : other.ran ≡ one.ran = (let a = one.is in let b = other.is in cc (a, b)) in
      receipt-one run.seed (desk_left one.ran).leaves q made also
      (run.gives q made (gives-in told plan faults dig new q made one))
      (run.gives q also
      (subst (λ (r : DeskRan D). GivesIn told plan faults dig r q also) same
      (gives-in told plan faults dig new q also other)))

  pub agree : (later : List (Call told plan faults dig)) → Life later → (one other : Call told plan faults dig) (q : ℕ)
      (made also : List ℕ) → Contains later one → Contains later other → GivesReceipt told plan faults dig one q made
      → GivesReceipt told plan faults dig other q also → made ≡ also
  agree [] life one other q made also (k, within, is) there first' second = absurd (omega (arith, within))
  agree (new ∷ later) life one other q made also here there first' second =
      elim (contains-cons new later one here) [
        | inl is ↦ (elim (contains-cons new later other there) [
          | inl also' ↦
              alike new later life q made also
              (subst (λ (c : Call told plan faults dig). GivesReceipt told plan faults dig c q made) (sym is) first')
              (subst (λ (c : Call told plan faults dig). GivesReceipt told plan faults dig c q also) (sym also') second)
          | inr older ↦
              cross new later life other older q made also
              (subst (λ (c : Call told plan faults dig). GivesReceipt told plan faults dig c q made) (sym is) first')
              second
        ])
        | inr older ↦ (elim (contains-cons new later other there) [
          | inl also' ↦
              sym (cross new later life one older q also made
              (subst (λ (c : Call told plan faults dig). GivesReceipt told plan faults dig c q also) (sym also') second)
              first')
          | inr older' ↦ agree later (rest new later life) one other q made also older older' first' second
        ])
      ]

pub desks_promise_once : {D : Type 0} (told : D → Option History) (plan : D → Option FaultPlan) (faults : D → ℕ)
    (dig : List ℕ → List ℕ) → DesksPromiseOnce told plan faults dig
desks_promise_once told plan faults dig later earlier first one other q made also life begins here there first'
    second =
    agree told plan faults dig earlier first begins later life one other q made also here there first' second
