-- The records of the lines that a run answered stand in every later call.
use Rattle.std.proofs.Common.{◌≡◌, ◌⊎◌, ℕ, List, [], ◌∷◌, ◌++◌, Option, Some, None, sym, subst, inl, inr}
use Rattle.std.specs.List.{All, AllByRecursion}
use Rattle.std.proofs.lemmas.List.Elements.{All-head, All-from_recursion, recursion_from_All}
use Rattle.crash_disk.specs.Disk.{History, FaultPlan}
use Rattle.node_rules.specs.Wallet.{WalletRecords}
use Rattle.node_replies.specs.Roles.{Role}
use Rattle.run_endings.specs.declared.status.Status.{Status}
use Rattle.node_runs.specs.Sessions.{Outside}
use Rattle.node_lives.specs.Disks.{Pair, BothTell}
use Rattle.node_lives.specs.Calls.{Asked, ToBegin, ToRun, ToSign, ToUseNoDisk, DoesAsked, Starves, Call}
use Rattle.node_lives.specs.Lives.{IsLife}
use Rattle.node_lives.specs.Standing.{identity_alone, Stand}
use Rattle.node_lives.specs.Answered.{Ran, ran_as, ran_by, ran_in}
use Rattle.node_lives.specs.Laws.{Begins, StandIn, AnsweredRecordsStand}
use Rattle.node_lives.proofs.Seeds.{Seeded, alone-seeded}
use Rattle.node_lives.proofs.OwnRuns.{RanOn, run-on}
use Rattle.node_lives.proofs.Begun.{begun-stands}
use Rattle.node_lives.proofs.Life.{StandsAt, stands-on}

module _ {D : Type 0} (told : D → Option History) (plan : D → Option FaultPlan) (faults : D → ℕ)
    (dig : List ℕ → List ℕ) where
  abbrev Goes : Role → WalletRecords → Pair D → Option Ran → Type 0
  Goes role first new ran = (one : Ran) → ran ≡ Some one → RanOn told plan faults dig role first new one

  none-goes : (role : Role) (first : WalletRecords) (new : Pair D) → Goes role first new None
  none-goes role first new one is = absurd (cc is)

  call-goes : (role : Role) (first : WalletRecords) (asked : Asked) (old new : Pair D) (outside : Outside)
      (status : Status) → BothTell told old → Stand dig told role first old → Seeded dig role first
      → asked ≡ ToRun role
      → (did : DoesAsked told plan faults dig asked old new outside status ⊎ Starves old new status)
      → Goes role first new (ran_by told plan faults dig asked old new outside status did)
  unfolding ran_by
  call-goes role first (ToRun other) old new outside status tells stand seeded own (inl did) =
      (let same : role ≡ other = cc own in
      subst (λ (r : Role). Goes r first new (ran_as told plan faults dig other old new outside status did)) (sym same)
      (run-on told plan faults dig other first old new outside status
      (subst (λ (r : Role). Seeded dig r first) same seeded) tells
      (subst (λ (r : Role). Stand dig told r first old) same stand) did).goes)
  call-goes role first (ToRun other) old new outside status tells stand seeded own (inr starves) =
      none-goes role first new
  call-goes role first (ToBegin disks identity) old new outside status tells stand seeded own did = absurd (cc own)
  call-goes role first (ToSign message) old new outside status tells stand seeded own did = absurd (cc own)
  call-goes role first ToUseNoDisk old new outside status tells stand seeded own did = absurd (cc own)

  -- what a call of a life found and left that was a run of the role
  pub call-ran : (role : Role) (first : WalletRecords) (call : Call told plan faults dig) → BothTell told call.old
      → Stand dig told role first call.old → Seeded dig role first → call.asked ≡ ToRun role
      → Goes role first call.new (ran_in told plan faults dig call)
  call-ran role first call tells stand seeded own =
      call-goes role first call.asked call.old call.new call.outside call.status tells stand seeded own call.did

  -- each of some calls of a life is handed disks that tell
  each-tells : (calls : List (Call told plan faults dig)) → IsLife told plan faults dig calls
      → AllByRecursion (λ (call : Call told plan faults dig). BothTell told call.old) calls
  unfolding IsLife
  each-tells [] life = tt
  each-tells (call ∷ calls) (tells, lie, life) = (tells, each-tells calls life)

  front-each : {X : Type 0} (P : X → Type 0) (xs ys : List X) → AllByRecursion P (xs ++ ys) → AllByRecursion P xs
  front-each P [] ys all = tt
  front-each P (x ∷ xs) ys all = (all.0, front-each P xs ys all.1)

  both-each : {X : Type 0} (P Q R : X → Type 0) → ((x : X) → P x → Q x → R x) → (xs : List X) → AllByRecursion P xs
      → AllByRecursion Q xs → AllByRecursion R xs
  both-each P Q R each [] ps qs = tt
  both-each P Q R each (x ∷ xs) ps qs = (each x ps.0 qs.0, both-each P Q R each xs ps.1 qs.1)

  -- records stand in each call behind one that left them
  pub stand-in-each : (role : Role) (records : WalletRecords) → Seeded dig role records
      → (later earlier : List (Call told plan faults dig)) (start : Call told plan faults dig)
      → IsLife told plan faults dig (later ++ start ∷ earlier) → Stand dig told role records start.new
      → All (StandIn told plan faults dig role records) later
  stand-in-each role records seeded later earlier start life stand =
      let at = stands-on told plan faults dig role records seeded later earlier start life stand in
      let Stands = StandsAt told plan faults dig role records seeded in
      All-from_recursion (StandIn told plan faults dig role records) later
      (both-each (λ (call : Call told plan faults dig). BothTell told call.old) Stands
      (StandIn told plan faults dig role records)
      (λ call tells there. record {
        handed = there.handed;
        found = λ ran own is. (call-ran role records call tells there.handed seeded own ran is).found;
      })
      later
      (front-each (λ (call : Call told plan faults dig). BothTell told call.old) later (start ∷ earlier)
      (each-tells (later ++ start ∷ earlier) life))
      (recursion_from_All Stands later at))

  behind : (later calls : List (Call told plan faults dig)) → IsLife told plan faults dig (later ++ calls)
      → IsLife told plan faults dig calls
  unfolding IsLife
  behind [] calls life = life
  behind (call ∷ later) calls (tells, lie, life) = behind later calls life

  stands-from-here : (role : Role) (later between earlier : List (Call told plan faults dig))
      (call first : Call told plan faults dig)
      → IsLife told plan faults dig (later ++ call ∷ (between ++ first ∷ earlier))
      → (begins : Begins told plan faults dig role first)
      → BothTell told call.old × Stand dig told role (identity_alone begins.identity) call.old
  stands-from-here role later between earlier call first life begins =
      let here = behind later (call ∷ (between ++ first ∷ earlier)) life in
      let alone = identity_alone begins.identity in
      let seeded = alone-seeded dig role begins.identity begins.is.digests in
      let at = stands-on told plan faults dig role alone seeded (call ∷ between) earlier first here
      (begun-stands told plan faults dig role first begins) in (
        (each-tells (call ∷ (between ++ first ∷ earlier)) here).0,
        (All-head (StandsAt told plan faults dig role alone seeded) call between at).handed,
      )

  pub answered_records_stand : AnsweredRecordsStand told plan faults dig
  answered_records_stand role later between earlier call first ran life begins own is =
      let alone = identity_alone begins.identity in
      let at = stands-from-here role later between earlier call first life begins in
      let on = call-ran role alone call at.0 at.1 (alone-seeded dig role begins.identity begins.is.digests) own ran is
      in
      stand-in-each role ran.left on.seeded later (between ++ first ∷ earlier) call life on.left
