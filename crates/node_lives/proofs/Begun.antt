-- What a node's disks are behind an init that began it.
use Rattle.std.proofs.Common.{◌≡◌, ◌&&◌, ℕ, true, List, [], ◌∷◌, Option, Some, None, Result, Ok, Err, refl, ap, arith}
use Rattle.std.specs.Prelude.{OnOk}
use Rattle.std.proofs.lemmas.List.Elements.{All-nil, All-cons}
use Rattle.std.proofs.lemmas.Grind.{common_steps}
use Rattle.crash_disk.specs.Disk.{History, FaultPlan}
use Rattle.crash_disk.specs.Calls.{WhereTold}
use Rattle.plasma_tx.specs.Spelling.{AreBytes}
use Rattle.gate_journal.specs.Life.{Stay}
use Rattle.node_journal.specs.Role.{Kinds, are_of}
use Rattle.gate_journal.specs.declared.refusal.InitRefusal.{InitRefusal}
use Rattle.gate_journal.proofs.Lives.{itself}
use Rattle.leaf_journal.specs.Records.{records_behind_of}
use Rattle.node_rules.specs.WalletRecords.{wallet_kinds, notes_of}
use Rattle.node_rules.specs.WalletOpening.{is_wallet}
use Rattle.node_rules.proofs.WalletGrow.{wallet-from}
use Rattle.operator_rules.specs.Records.{who_is}
use Rattle.node_replies.specs.Roles.{Role, Wallet, Watcher, Operator}
use Rattle.run_endings.specs.declared.status.Status.{Status}
use Rattle.run_endings.specs.declared.status.Status.TheVariants.{Done}
use Rattle.run_endings.specs.Outputs.{EndsAs}
use Rattle.node_runs.specs.Endings.{init_output}
use Rattle.node_runs.specs.Sessions.{Outside}
use Rattle.node_lives.specs.Disks.{Pair}
use Rattle.node_lives.specs.Calls.{BeginsAs, Call}
use Rattle.node_lives.specs.Standing.{identity_alone, are_promised, IsIdentityOf, kinds_of, LeavesStay, Stand}
use Rattle.node_lives.specs.Laws.{by_key, begun_of, Begins}
use Rattle.node_lives.proofs.Stays.{settled-stays}
use Rattle.node_lives.proofs.Statuses.{ends-by, init-done}

pub alone-are : (kinds : Kinds) (identity : List ℕ) → kinds.is_identity identity ≡ true
    → are_of kinds (identity ∷ []) ≡ true
alone-are kinds identity is = ap (λ b. b && true) is

alone-wallet : (dig : List ℕ → List ℕ) (identity : List ℕ) → (wallet_kinds dig).is_identity identity ≡ true
    → is_wallet dig (identity_alone identity) ≡ true
unfolding records_behind_of notes_of
alone-wallet dig identity is = grind (arith, common_steps, wallet-from, alone-are) steps 20000

-- an init that is done was answered Ok
pub answered-ok : (answer : Result Unit InitRefusal) (status : Status) (before after : Option (List ℕ))
    → EndsAs (init_output answer) status before after ⊥ → status ≡ Done → answer ≡ Ok tt
answered-ok answer status before after ends made = grind (arith, common_steps, ends-by, init-done) steps 20000

pub ok-holds : {P : Type 0} (answer : Result Unit InitRefusal) → answer ≡ Ok tt → OnOk answer P → P
ok-holds (Ok done) is holds = holds
ok-holds (Err why) is holds = absurd (cc is)

module _ {D : Type 0} (told : D → Option History) (plan : D → Option FaultPlan) (faults : D → ℕ)
    (dig : List ℕ → List ℕ) where
  -- of an operator by the seed of its key
  operator-stands : (identity : List ℕ) (old new : Pair D) (outside : Outside) (status : Status)
      → IsIdentityOf dig Operator identity → (seed : Option (List ℕ))
      → BeginsAs told plan faults dig (by_key seed) identity old new outside status → status ≡ Done
      → WhereTold (told new.notes) (Stay (are_of (kinds_of dig Operator)) (identity ∷ []))
      × LeavesStay dig told seed [] new.leaves
  unfolding records_behind_of
  operator-stands identity old new outside status is None (inits, same) made =
      let ok = answered-ok inits.answer status outside.taken outside.after inits.ends made in (
        λ now has. settled-stays (are_of (kinds_of dig Operator)) (identity ∷ []) (identity ∷ []) now
            (ok-holds inits.answer ok inits.begun now has) (alone-are (kinds_of dig Operator) identity is.is)
            (itself (identity ∷ [])),
        tt,
      )
  operator-stands identity old new outside status is (Some seed) inits made =
      let ok = answered-ok inits.answer status outside.taken outside.after inits.ends made in (
        λ now has. settled-stays (are_of (kinds_of dig Operator)) (identity ∷ []) (identity ∷ []) now
            (ok-holds inits.answer ok inits.begun now has) (alone-are (kinds_of dig Operator) identity is.is)
            (itself (identity ∷ [])),
        λ now has. settled-stays (are_promised seed) [] [] now (ok-holds inits.answer ok inits.empty now has) refl
            (itself []),
      )

  begins-stand : (role : Role) (identity : List ℕ) (old new : Pair D) (outside : Outside) (status : Status)
      → IsIdentityOf dig role identity
      → BeginsAs told plan faults dig (begun_of role identity) identity old new outside status → status ≡ Done
      → Stand dig told role (identity_alone identity) new
  begins-stand Wallet identity old new outside status is inits made = λ n has l also one other may left.
      let ok = answered-ok inits.answer status outside.taken outside.after inits.ends made in
      record {
        kept = identity_alone identity;
        keeps_notes = (ok-holds inits.answer ok inits.begun n has).images one may;
        keeps_leaves = (ok-holds inits.answer ok inits.empty l also).images other left;
        is = alone-wallet dig identity is.is;
        bytes = All-cons AreBytes identity [] is.bytes (All-nil AreBytes);
        goes_on = record { notes = itself (identity ∷ []); leaves = itself [] };
      }
  begins-stand Watcher identity old new outside status is (inits, same) made = λ now has.
      let ok = answered-ok inits.answer status outside.taken outside.after inits.ends made in
      settled-stays (are_of (kinds_of dig Watcher)) (identity ∷ []) (identity ∷ []) now
      (ok-holds inits.answer ok inits.begun now has) (alone-are (kinds_of dig Watcher) identity is.is)
      (itself (identity ∷ []))
  begins-stand Operator identity old new outside status is inits made =
      operator-stands identity old new outside status is (who_is (identity ∷ [])).key_seed inits made

  pub begun-stands : (role : Role) (call : Call told plan faults dig) (begins : Begins told plan faults dig role call)
      → Stand dig told role (identity_alone begins.identity) call.new
  begun-stands role call begins = grind (arith, common_steps, begins-stand) steps 20000
