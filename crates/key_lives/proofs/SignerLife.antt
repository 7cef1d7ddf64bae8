-- The laws of a two-level signer's life.
use Rattle.std.proofs.Common.{◌≡◌, ◌⊎◌, ℕ, true, if◌then◌else◌, List, [], ◌∷◌, ◌++◌, length, map, Option, Some, is_some, sym, ap, ◌∙◌, subst, inl, inr, arith}
use Rattle.std.specs.List.{All, Contains}
use Rattle.std.specs.Result.{is_ok}
use Rattle.std.proofs.lemmas.List.Elements.{All-head, All-weaker}
use Rattle.std.proofs.lemmas.Option.{same_Some}
use Rattle.std.proofs.lemmas.Grind.{common_steps}
use Rattle.crash_disk.specs.Disk.{History, FaultPlan}
use Rattle.gate_journal.proofs.Lives.{itself}
use Rattle.node_journal.specs.Role.{are_of}
use Rattle.run_endings.specs.declared.status.Status.{Status}
use Rattle.run_endings.specs.declared.status.Status.TheVariants.{Done}
use Rattle.node_runs.specs.Sessions.{Outside}
use Rattle.hss_keys.specs.declared.seed.HssSeed.{HssSeed}
use Rattle.hss_keys.specs.declared.entry.Entry.{Entry}
use Rattle.hss_keys.specs.Entries.{entries_of, entry_text}
use Rattle.hss_keys.specs.Form.{are_level_records}
use Rattle.hss_keys.specs.Levels.{HssBoundState, KeepsBound, bound_of}
use Rattle.hss_keys.proofs.Form.{none_are}
use Rattle.hss_keys.proofs.Lives.{kept_bounds_stay}
use Rattle.hss_runs.specs.Identity.{identity_text, signer_kinds, signer_seed}
use Rattle.hss_runs.specs.Signing.{Signing, signing, next_leaf, entries_added}
use Rattle.node_lives.specs.Disks.{Pair, BothLie, BothTell}
use Rattle.node_lives.specs.Calls.{Asked, BothDisks, BeginsAs, DoesAsked, Starves, Call}
use Rattle.node_lives.specs.Lives.{IsLife}
use Rattle.node_lives.proofs.Stays.{settled-stays}
use Rattle.node_lives.proofs.Begun.{alone-are, answered-ok, ok-holds}
use Rattle.node_lives.proofs.Life.{newest, lies-no-more}
use Rattle.node_lives.proofs.Leaves.{contains-cons}
use Rattle.key_lives.specs.Signers.{left_by, SignerStands, signer_run_in, SignsBy}
use Rattle.key_lives.specs.SignerLaws.{BeginsSigner, FindsTheSigner, BegunSignersStay, SignedStandIn, SignedRecordsStand, SignersSignOnce}
use Rattle.key_lives.proofs.Growth.{grown, signing-next}
use Rattle.key_lives.proofs.Calls.{tells, lies, before, behind, all-are}
use Rattle.key_lives.proofs.SignerRuns.{identity-seed, RunGoes, CallGoes, call-goes}

module _ {D : Type 0} (told : D → Option History) (plan : D → Option FaultPlan) (faults : D → ℕ)
    (dig : List ℕ → List ℕ) where
  -- ---- the beginning

  begun-stands : (seed : List ℕ) (old new : Pair D) (outside : Outside) (status : Status) → length seed ≡ 32
      → BeginsAs told plan faults dig BothDisks (identity_text seed) old new outside status → status ≡ Done
      → SignerStands told plan faults dig seed [] new
  begun-stands seed old new outside status long inits made =
      let ok = answered-ok inits.answer status outside.taken outside.after inits.ends made in
      let identity = identity_text seed in
      let is : signer_kinds.is_identity identity ≡ true =
      ap (λ (o : Option (List ℕ)). is_some o) (identity-seed seed long) in (
        λ now has. settled-stays (are_of signer_kinds) (identity ∷ []) (identity ∷ []) now
            (ok-holds inits.answer ok inits.begun now has) (alone-are signer_kinds identity is)
            (itself (identity ∷ [])),
        λ now has. settled-stays (are_level_records (signer_seed seed)) [] [] now
            (ok-holds inits.answer ok inits.empty now has) (ap is_ok (none_are (signer_seed seed))) (itself []),
      )

  begins-stand : (call : Call told plan faults dig) (begins : BeginsSigner told plan faults dig call)
      → SignerStands told plan faults dig begins.seed [] call.new
  begins-stand call begins = by call.did
    where
      by : DoesAsked told plan faults dig call.asked call.old call.new call.outside call.status
          ⊎ Starves call.old call.new call.status
          → SignerStands told plan faults dig begins.seed [] call.new
      by (inl did) =
          begun-stands begins.seed call.old call.new call.outside call.status begins.long
          (subst (λ (a : Asked). DoesAsked told plan faults dig a call.old call.new call.outside call.status)
          begins.asked
          did) begins.made
      by (inr starves) = absurd (let none = starves.0 in let made = begins.made in cc (none, made))

  module _ (seed : List ℕ) (long : length seed ≡ 32) where
    abbrev Stands : List (List ℕ) → Pair D → Type 0
    Stands records pair = SignerStands told plan faults dig seed records pair

    -- ---- between two calls

    signer-lies : (records : List (List ℕ)) (left next : Pair D) → BothLie told left next → Stands records left
        → Stands records next
    signer-lies records left next lie stand = (
      λ now is image may.
          (let there = lies-no-more told plan faults dig left.notes next.notes lie.0 now is in
          stand.0 there.0 there.1 image (there.2 image may)),
      λ now is image may.
          (let there = lies-no-more told plan faults dig left.leaves next.leaves lie.1 now is in
          stand.1 there.0 there.1 image (there.2 image may)),
    )

    -- ---- calls

    abbrev Goes : List (List ℕ) → Call told plan faults dig → Type 0
    Goes first call =
        CallGoes told plan faults dig seed long first call.asked call.status call.new
        (signer_run_in told plan faults dig call)

    record GoesAt (first : List (List ℕ)) (call : Call told plan faults dig) : Type 0 where
      handed : Stands first call.old
      goes : Goes first call

    each-goes : (first : List (List ℕ)) (call : Call told plan faults dig) → BothTell told call.old
        → Stands first call.old → Stands first call.new × GoesAt first call
    each-goes first call tell stand =
        let goes = call-goes told plan faults dig seed long first call tell stand in
        (goes.stands, record { handed = stand; goes = goes })

    all-go : (first : List (List ℕ)) (later earlier : List (Call told plan faults dig))
        (start : Call told plan faults dig) → IsLife told plan faults dig (later ++ start ∷ earlier)
        → Stands first start.new → All (GoesAt first) later
    all-go first =
        all-are told plan faults dig (Stands first) (GoesAt first) (signer-lies first) (each-goes first)

    -- what a run that is this signer's signed is kept by what it left
    run-keeps : (first : List (List ℕ)) (new : Pair D) (call : Call told plan faults dig) (bound : HssBoundState)
        (signs : SignsBy told plan faults dig call bound)
        → RunGoes told plan faults dig seed long first new signs.run → KeepsBound (left_by signs.run) bound
    run-keeps first new call bound signs goes =
        let run = signs.run in
        let same = goes.seed_is in
        let next_is : next_leaf (signer_seed seed) (entries_of run.found) ≡ Some signs.next =
        ap (λ (s : HssSeed). next_leaf s (entries_of run.found)) (sym same) ∙ signs.next_is in
        let grows = grown seed run.found goes.are run.message signs.signable signs.next next_is in
        let texts : (signing run.seed run.found run.message).adds
        ≡ entries_added (signer_seed seed) signs.next run.message =
        ap (λ (s : HssSeed). (signing s run.found run.message).adds) same
        ∙ ap (λ (w : Signing). w.adds)
        (signing-next (signer_seed seed) run.found run.message signs.next signs.signable next_is) in
        let left : left_by run ≡ run.found ++ map entry_text (entries_added (signer_seed seed) signs.next run.message) =
        ap (λ b. if b then run.found ++ map entry_text (signing run.seed run.found run.message).adds else run.found)
        signs.added
        ∙ ap (λ (l : List Entry). run.found ++ map entry_text l) texts in
        let made : bound ≡ bound_of (signer_seed seed) signs.next.top_leaf signs.next.leaf run.message =
        signs.bound_is
        ∙ ap (λ (s : HssSeed). bound_of s signs.next.top_leaf signs.next.leaf run.message) same in
        subst (λ (b : HssBoundState). KeepsBound (left_by run) b) (sym made)
        (subst (λ (l : List (List ℕ)). KeepsBound l (bound_of (signer_seed seed) signs.next.top_leaf signs.next.leaf
        run.message)) (sym left) grows.keeps)

  -- one bottom key and one message, of two bounds that records keep
  both-kept : (records : List (List ℕ)) (one other : HssBoundState) → KeepsBound records one → KeepsBound records other
      → one.top_leaf ≡ other.top_leaf
      → (one.bottom ≡ other.bottom) × (one.leaf ≡ other.leaf → one.message ≡ other.message)
  both-kept records one other first second same = grind (arith, common_steps, same_Some) steps 20000

  -- ---- the laws

  pub begun_signers_stay : BegunSignersStay told plan faults dig
  begun_signers_stay later earlier first life begins =
      All-weaker (GoesAt begins.seed begins.long []) (FindsTheSigner told plan faults dig begins.seed)
      (λ call at. record {
        signs = at.goes.signs;
        begins = at.goes.begins;
        handed = at.handed;
        left = at.goes.stands;
      })
      later
      (all-go begins.seed begins.long [] later earlier first life (begins-stand first begins))

  -- what stands when a call of the life comes
  handed-here : (between earlier : List (Call told plan faults dig)) (call first : Call told plan faults dig)
      → IsLife told plan faults dig (call ∷ (between ++ first ∷ earlier))
      → (begins : BeginsSigner told plan faults dig first) → GoesAt begins.seed begins.long [] call
  handed-here between earlier call first life begins =
      All-head (GoesAt begins.seed begins.long []) call between
      (all-go begins.seed begins.long [] (call ∷ between) earlier first life (begins-stand first begins))

  pub signed_records_stand : SignedRecordsStand told plan faults dig
  signed_records_stand = record {
    stand = λ later between earlier call first run life begins is.
        let here = handed-here between earlier call first (behind told plan faults dig later _ life) begins in
        let left = (here.goes.goes run is).left in
        All-weaker (GoesAt begins.seed begins.long (left_by run)) (SignedStandIn told plan faults dig begins.seed
        (left_by run))
        (λ one at. record { handed = at.handed; found = λ found named. (at.goes.goes found named).found })
        later
        (all-go begins.seed begins.long (left_by run) later (between ++ first ∷ earlier) call life left);
    kept = λ between earlier call first bound life begins signs.
        let here = handed-here between earlier call first life begins in
        run-keeps begins.seed begins.long [] call.new call bound signs (here.goes.goes signs.run signs.is);
  }

  module _ (earlier : List (Call told plan faults dig)) (first : Call told plan faults dig)
      (begins : BeginsSigner told plan faults dig first) where
    abbrev Life : List (Call told plan faults dig) → Type 0
    Life later = IsLife told plan faults dig (later ++ first ∷ earlier)

    abbrev last : List (Call told plan faults dig) → Call told plan faults dig
    last later = newest told plan faults dig later first

    -- what a call of the life signed stands behind it, and is kept by what it left
    record LeftBehind (pair : Pair D) (bound : HssBoundState) : Type 0 where
      records : List (List ℕ)
      stands : Stands begins.seed begins.long records pair
      keeps : KeepsBound records bound

    newest-keeps : (call : Call told plan faults dig) (later : List (Call told plan faults dig)) → Life (call ∷ later)
        → (bound : HssBoundState) → (signs : SignsBy told plan faults dig call bound)
        → KeepsBound (left_by signs.run) bound
    newest-keeps call later life bound signs =
        run-keeps begins.seed begins.long [] call.new call bound signs
        ((handed-here later earlier call first life begins).goes.goes signs.run signs.is)

    of-newest : (call : Call told plan faults dig) (later : List (Call told plan faults dig)) → Life (call ∷ later)
        → (bound : HssBoundState) → SignsBy told plan faults dig call bound → LeftBehind call.new bound
    of-newest call later life bound signs =
        record {
          records = left_by signs.run;
          stands = ((handed-here later earlier call first life begins).goes.goes signs.run signs.is).left;
          keeps = newest-keeps call later life bound signs;
        }

    -- records that stood before a call stand when it is handed its disks, and when it is done
    goes-over : (call : Call told plan faults dig) (later : List (Call told plan faults dig)) → Life (call ∷ later)
        → (records : List (List ℕ)) → Stands begins.seed begins.long records (last later).new
        → GoesAt begins.seed begins.long records call
    goes-over call later life records stand =
        (each-goes begins.seed begins.long records call (tells told plan faults dig call first later earlier life)
        (signer-lies begins.seed begins.long records (last later).new call.old
        (lies told plan faults dig call first later earlier life) stand)).1

    each-left : (later : List (Call told plan faults dig)) → Life later → (call : Call told plan faults dig)
        → Contains later call → (bound : HssBoundState) → SignsBy told plan faults dig call bound
        → LeftBehind (last later).new bound
    each-left [] life call (k, within, named) bound signs = absurd (omega (arith, within))
    each-left (new ∷ later) life call among bound signs = elim (contains-cons new later call among) [
      | inl same ↦
          of-newest new later life bound
          (subst (λ (c : Call told plan faults dig). SignsBy told plan faults dig c bound) (sym same) signs)
      | inr older ↦
          (let left = each-left later (before told plan faults dig new first later earlier life) call older bound signs
          in
          record {
            records = left.records;
            stands = (goes-over new later life left.records left.stands).goes.stands;
            keeps = left.keeps;
          })
    ]

    abbrev Agree : HssBoundState → HssBoundState → Type 0
    Agree one other =
        one.top_leaf ≡ other.top_leaf
        → (one.bottom ≡ other.bottom) × (one.leaf ≡ other.leaf → one.message ≡ other.message)

    turned : (one other : HssBoundState) → Agree one other → Agree other one
    turned one other agree same =
        (let parts = agree (sym same) in (sym parts.0, λ leaf. sym (parts.1 (sym leaf))))

    -- of the newest call and an earlier one
    cross : (new : Call told plan faults dig) (later : List (Call told plan faults dig)) → Life (new ∷ later)
        → (old : Call told plan faults dig) → Contains later old → (made also : HssBoundState)
        → SignsBy told plan faults dig new made → SignsBy told plan faults dig old also → Agree made also
    cross new later life old older made also one other =
        let left = each-left later (before told plan faults dig new first later earlier life) old older also other in
        let goes = (goes-over new later life left.records left.stands).goes.goes one.run one.is in
        both-kept (left_by one.run) made also
        (run-keeps begins.seed begins.long left.records new.new new made one goes)
        (kept_bounds_stay left.records (left_by one.run) also goes.on left.keeps)

    -- of the newest alone
    alike : (new : Call told plan faults dig) (later : List (Call told plan faults dig)) → Life (new ∷ later)
        → (made also : HssBoundState) → SignsBy told plan faults dig new made → SignsBy told plan faults dig new also
        → Agree made also
    alike new later life made also one other = grind (arith, common_steps, both-kept, newest-keeps) steps 20000

    agree : (later : List (Call told plan faults dig)) → Life later → (one other : Call told plan faults dig)
        (made also : HssBoundState) → Contains later one → Contains later other
        → SignsBy told plan faults dig one made → SignsBy told plan faults dig other also → Agree made also
    agree [] life one other made also (k, within, is) there first' second = absurd (omega (arith, within))
    agree (new ∷ later) life one other made also here there first' second =
        elim (contains-cons new later one here) [
          | inl is ↦ (elim (contains-cons new later other there) [
            | inl also' ↦
                grind (arith, common_steps, alike) steps 20000
            | inr older ↦
                cross new later life other older made also
                (subst (λ (c : Call told plan faults dig). SignsBy told plan faults dig c made) (sym is) first') second
          ])
          | inr older ↦ (elim (contains-cons new later other there) [
            | inl also' ↦
                turned also made
                (cross new later life one older also made
                (subst (λ (c : Call told plan faults dig). SignsBy told plan faults dig c also) (sym also') second)
                first')
            | inr older' ↦
                agree later (before told plan faults dig new first later earlier life) one other made also older older'
                first' second
          ])
        ]

  pub signers_sign_once : SignersSignOnce told plan faults dig
  signers_sign_once later earlier first one other made also life begins here there first' second =
      agree earlier first begins later life one other made also here there first' second
