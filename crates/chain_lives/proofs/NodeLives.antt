-- A node's calls of the program, as acts: which they are, and which records its next run may find.
use Rattle.std.proofs.Common.{◌≡◌, ◌⊎◌, ℕ, List, [], ◌∷◌, ◌++◌, Option, Some, None, refl, sym, ap, subst, inl, inr, arith}
use Rattle.std.specs.Prelude.{option_map}
use Rattle.std.proofs.lemmas.List.Elements.{All-head}
use Rattle.std.proofs.lemmas.Grind.{common_steps}
use Rattle.crash_disk.specs.Disk.{History, FaultPlan}
use Rattle.node_journal.specs.Parts.{alone, both}
use Rattle.node_rules.specs.declared.identity.WalletIdentity.{WalletIdentity}
use Rattle.node_rules.specs.WalletRecords.{identity_in}
use Rattle.node_rules.specs.Wallet.{WalletRecords, who}
use Rattle.node_rules.specs.Watcher.{who_is as watcher_is}
use Rattle.wallet_node.specs.State.{notes_part}
use Rattle.node_lines.specs.Grammar.{wallet_line_in, watcher_line_in}
use Rattle.node_replies.specs.Roles.{Role, Wallet, Watcher, Operator}
use Rattle.node_roles.specs.Notes.{NotesAt}
use Rattle.node_roles.specs.Nodes.{NodeAt}
use Rattle.node_roles.specs.Roles.{watcher_commands, wallet_commands, wallet_parts}
use Rattle.run_endings.specs.declared.status.Status.{Status}
use Rattle.run_endings.specs.declared.status.Status.TheVariants.{Done}
use Rattle.node_runs.specs.Sessions.{Outside}
use Rattle.node_runs.specs.Runs.{RunsWatcher, RunsWallet}
use Rattle.node_lives.specs.Disks.{Pair, BothTell}
use Rattle.node_lives.specs.Calls.{Begun, Asked, ToBegin, ToRun, ToSign, ToUseNoDisk, BeginsAs, DoesAsked, Starves, Call}
use Rattle.node_lives.specs.Lives.{IsLife}
use Rattle.node_lives.specs.Standing.{identity_alone, Stand}
use Rattle.node_lives.specs.Answered.{Lines, lines_answered}
use Rattle.node_lives.specs.Laws.{begun_of, Begins as BeginsNode, FindsTheNode}
use Rattle.node_lives.proofs.Begun.{answered-ok, ok-holds}
use Rattle.node_lives.proofs.Life.{begun_nodes_stay}
use Rattle.chain_lives.specs.Steps.{Act, Begins, Runs, Rests, left_by}
use Rattle.chain_lives.specs.Acts.{wallet_deed, watcher_deed, next_in, log_in, visit_of, begun_by, ran_or, wallet_visit, watcher_visit, act_by, act_of}
use Rattle.chain_lives.proofs.Visiting.{IsWalletAt, IsWatcherAt, wallet-step, watcher-step, Comes, session-came}
use Rattle.chain_lives.proofs.Disks.{notes_alone, BothOnly, NotesOnly, Only, only-weaker, only-lies, notes-quiet, none-opened, foreign-only, wallet-found, wallet-refused, watcher-found}
use Rattle.chain_lives.proofs.SessionDisks.{FoundBehind, wallet-session, watcher-session}
use Rattle.node_lives.proofs.Opens.{refused-quiet}
use Rattle.node_journal.specs.Role.{role_in}
use Rattle.node_lives.specs.Standing.{kinds_of}

-- the records of a node that was begun with an identity
abbrev pub BegunAs : Asked → WalletRecords → Type 0
BegunAs asked records =
    (disks : Begun) × ((identity : List ℕ) × (asked ≡ ToBegin disks identity) × (records ≡ identity_alone identity))

-- what may be found behind an act, by what could be before it
abbrev pub FindsWith : Act → Asked → (WalletRecords → Type 0) → WalletRecords → Type 0
FindsWith (Runs visit) asked before records = FoundBehind (left_by visit.found visit.deeds) visit.next records
FindsWith (Begins who) asked before records = BegunAs asked records
FindsWith Rests asked before records = before records

module _ {D : Type 0} (told : D → Option History) (plan : D → Option FaultPlan) (faults : D → ℕ)
    (dig : List ℕ → List ℕ) where
  abbrev TheCall : Type 0
  TheCall = Call told plan faults dig

  -- what a run of node n may find behind these calls
  unfoldable pub MayFind : ℕ → List TheCall → WalletRecords → Type 0
  MayFind n [] records = Unit {0}
  MayFind n (call ∷ calls) records =
      FindsWith (act_of told plan faults dig n call) call.asked (MayFind n calls) records

  -- ---- which act a call is

  -- An act of a node of this role that was begun: it did nothing that counts, or ran, found such records, and answered
  -- such lines.
  pub data IsAct (role : Role) (n : ℕ) (before : WalletRecords → Type 0) : Act → Type 0 where
    Rested : IsAct role n before Rests
    WalletRan : role ≡ Wallet → (outside : Outside) (found : WalletRecords) (lines : Lines (NodeAt NotesAt))
        → Comes (who found).tag wallet_line_in (wallet_deed n dig) (IsWalletAt dig) found lines → before found
        → IsAct role n before (Runs (visit_of wallet_line_in (wallet_deed n dig) outside found lines))
    WatcherRan : role ≡ Watcher → (outside : Outside) (notes : List (List ℕ)) (lines : Lines (NodeAt NotesAt))
        → Comes (watcher_is notes).tag watcher_line_in (watcher_deed n dig) (IsWatcherAt dig) (notes_alone notes) lines
        → before (notes_alone notes)
        → IsAct role n before (Runs (visit_of watcher_line_in (watcher_deed n dig) outside (notes_alone notes) lines))

  pub record Acts (role : Role) (n : ℕ) (before : WalletRecords → Type 0) (asked : Asked) (new : Pair D) (act : Act)
      : Type 0 where
    pub is : IsAct role n before act
    pub only : Only told role (FindsWith act asked before) new

  rested : (role : Role) (n : ℕ) (before : WalletRecords → Type 0) (asked : Asked) (new : Pair D) (act : Act)
      → act ≡ Rests → Only told role before new → Acts role n before asked new act
  rested role n before asked new act is only =
      subst (Acts role n before asked new) (sym is) (record { is = Rested; only = only })

  -- an init that isn't done
  not-begun : (n : ℕ) (disks : Begun) (identity : List ℕ) (old new : Pair D) (outside : Outside) (status : Status)
      (did : DoesAsked told plan faults dig (ToBegin disks identity) old new outside status ⊎ Starves old new status)
      → (status ≡ Done → ⊥)
      → act_by told plan faults dig n (ToBegin disks identity) old new outside status did ≡ Rests
  unfolding act_by
  not-begun n disks identity old new outside Done did never = absurd (never refl)
  not-begun n disks identity old new outside status did never = refl

  module _ (n : ℕ) (before : WalletRecords → Type 0) (first : WalletRecords) (old new : Pair D) (outside : Outside)
      (status : Status) (tells : BothTell told old) where
    -- a wallet's run
    wallet-acts : Stand dig told Wallet first old → Only told Wallet before old
        → (did : RunsWallet told plan faults dig old.notes old.leaves new.notes new.leaves outside (Unit {0}) status)
        → Acts Wallet n before (ToRun Wallet) new
        (ran_or (wallet_visit told plan faults dig n old new outside status did))
    unfolding RunsWallet wallet_visit
    wallet-acts stand only (inl (opened, opens, session)) =
        let came = session-came told plan faults dig wallet_commands (wallet_parts opened)
        (both new.notes new.leaves) outside (Unit {0}) status (wallet_deed n dig) (IsWalletAt dig) (wallet-step dig n)
        (record { dig_is = refl; leaves = refl }) session in
        let lines = lines_answered session in
        record {
          is =
              WalletRan refl outside opened.records lines came
              (wallet-found told plan faults dig before first old tells stand only opened opens);
          only =
              subst (λ (left : WalletRecords). BothOnly told
              (FoundBehind left (option_map (wallet_deed n dig (log_in lines) left) (next_in wallet_line_in lines)))
              new.notes new.leaves) came.kept
              (wallet-session told plan faults dig n (wallet_parts opened) new.notes new.leaves outside (Unit {0})
              status session came.node);
        }
    wallet-acts stand only (inr (why, refuses, refused)) =
        record { is = Rested; only = wallet-refused told plan faults dig before old new tells why refuses only }

    -- a watcher's
    watcher-acts : Only told Watcher before old
        → (did : RunsWatcher told plan faults dig old.notes new.notes outside (Unit {0}) status)
        → Acts Watcher n before (ToRun Watcher) new
        (ran_or (watcher_visit told plan faults dig n old.notes new.notes outside status did))
    unfolding RunsWatcher watcher_visit
    watcher-acts only (inl (opened, opens, session)) =
        let came = session-came told plan faults dig watcher_commands (alone opened) (alone new.notes) outside
        (Unit {0}) status (watcher_deed n dig) (IsWatcherAt dig) (watcher-step dig n)
        (record { dig_is = refl; leaves = refl }) session in
        let lines = lines_answered session in
        record {
          is =
              WatcherRan refl outside opened.records lines came
              (watcher-found told plan faults dig before old tells opened opens only);
          only =
              subst (λ (left : WalletRecords). NotesOnly told
              (FoundBehind left (option_map (watcher_deed n dig (log_in lines) left) (next_in watcher_line_in lines)))
              new.notes) came.kept
              (watcher-session told plan faults dig n (alone opened) new.notes outside (Unit {0}) status session
              came.node);
        }
    watcher-acts only (inr (why, refuses, refused)) = record {
      is = Rested;
      only =
          notes-quiet told before old new tells
          (refused-quiet told plan (role_in (kinds_of dig Watcher)) old.notes new.notes why refuses.refused) only;
    }

    -- a run of another role opens nothing
    wallet-none : (role : Role) → (role ≡ Wallet → ⊥) → Stand dig told role first old
        → (did : RunsWallet told plan faults dig old.notes old.leaves new.notes new.leaves outside (Unit {0}) status)
        → ran_or (wallet_visit told plan faults dig n old new outside status did) ≡ Rests
    unfolding RunsWallet wallet_visit
    wallet-none role apart stand (inl (opened, opens, session)) =
        absurd (none-opened told plan faults dig role first old tells stand Wallet apart (notes_part opened)
        opens.opens_notes)
    wallet-none role apart stand (inr refused) = refl

    watcher-none : (role : Role) → (role ≡ Watcher → ⊥) → Stand dig told role first old
        → (did : RunsWatcher told plan faults dig old.notes new.notes outside (Unit {0}) status)
        → ran_or (watcher_visit told plan faults dig n old.notes new.notes outside status did) ≡ Rests
    unfolding RunsWatcher watcher_visit
    watcher-none role apart stand (inl (opened, opens, session)) =
        absurd (none-opened told plan faults dig role first old tells stand Watcher apart opened opens)
    watcher-none role apart stand (inr refused) = refl

    -- any call but a first one
    abbrev ActsAs : Role → (asked : Asked)
        → DoesAsked told plan faults dig asked old new outside status ⊎ Starves old new status → Type 0
    ActsAs role asked did =
        Acts role n before asked new (act_by told plan faults dig n asked old new outside status did)

    foreign : (role : Role) → Stand dig told role first old → Only told role before old → (asked : Asked)
        → (asked ≡ ToRun role → ⊥) → (did : DoesAsked told plan faults dig asked old new outside status)
        → act_by told plan faults dig n asked old new outside status (inl did) ≡ Rests → ActsAs role asked (inl did)
    foreign role stand only asked apart did is =
        rested role n before asked new _ is
        (foreign-only told plan faults dig role first old tells stand before asked new outside status apart did only)

    did-acts : (role : Role) → Stand dig told role first old → Only told role before old → (asked : Asked)
        → ((disks : Begun) (identity : List ℕ) → asked ≡ ToBegin disks identity → status ≡ Done → ⊥)
        → (did : DoesAsked told plan faults dig asked old new outside status) → ActsAs role asked (inl did)
    unfolding act_by
    did-acts role stand only (ToBegin disks identity) never did =
        foreign role stand only (ToBegin disks identity) (λ wrong. cc wrong) did
        (not-begun n disks identity old new outside status (inl did) (never disks identity refl))
    did-acts role stand only (ToSign message) never did =
        foreign role stand only (ToSign message) (λ wrong. cc wrong) did refl
    did-acts role stand only ToUseNoDisk never did = foreign role stand only ToUseNoDisk (λ wrong. cc wrong) did refl
    did-acts Wallet stand only (ToRun Wallet) never did = wallet-acts stand only did
    did-acts Wallet stand only (ToRun Watcher) never did =
        foreign Wallet stand only (ToRun Watcher) (λ wrong. cc wrong) did
        (watcher-none Wallet (λ wrong. cc wrong) stand did.0)
    did-acts Wallet stand only (ToRun Operator) never did =
        foreign Wallet stand only (ToRun Operator) (λ wrong. cc wrong) did refl
    did-acts Watcher stand only (ToRun Wallet) never did =
        foreign Watcher stand only (ToRun Wallet) (λ wrong. cc wrong) did
        (wallet-none Watcher (λ wrong. cc wrong) stand did)
    did-acts Watcher stand only (ToRun Watcher) never did = watcher-acts only did.0
    did-acts Watcher stand only (ToRun Operator) never did =
        foreign Watcher stand only (ToRun Operator) (λ wrong. cc wrong) did refl
    did-acts Operator stand only (ToRun Wallet) never did =
        foreign Operator stand only (ToRun Wallet) (λ wrong. cc wrong) did
        (wallet-none Operator (λ wrong. cc wrong) stand did)
    did-acts Operator stand only (ToRun Watcher) never did =
        foreign Operator stand only (ToRun Watcher) (λ wrong. cc wrong) did
        (watcher-none Operator (λ wrong. cc wrong) stand did.0)
    did-acts Operator stand only (ToRun Operator) never did = record { is = Rested; only = tt }

    starve-rests : (asked : Asked) (starves : Starves old new status)
        → act_by told plan faults dig n asked old new outside status (inr starves) ≡ Rests
    unfolding act_by
    starve-rests (ToBegin disks identity) starves =
        not-begun n disks identity old new outside status (inr starves)
        (λ done. let none = starves.0 in cc (none, done))
    starve-rests (ToRun Wallet) starves = refl
    starve-rests (ToRun Watcher) starves = refl
    starve-rests (ToRun Operator) starves = refl
    starve-rests (ToSign message) starves = refl
    starve-rests ToUseNoDisk starves = refl

    pub asked-acts : (role : Role) → Stand dig told role first old → Only told role before old → (asked : Asked)
        → ((disks : Begun) (identity : List ℕ) → asked ≡ ToBegin disks identity → status ≡ Done → ⊥)
        → (did : DoesAsked told plan faults dig asked old new outside status ⊎ Starves old new status)
        → ActsAs role asked did
    asked-acts role stand only asked never (inl did) = did-acts role stand only asked never did
    asked-acts role stand only asked never (inr starves) =
        rested role n before asked new _ (starve-rests asked starves)
        (subst (Only told role before) (sym starves.1) only)

  -- ---- the first call

  first-is : (n : ℕ) (disks : Begun) (identity : List ℕ) (asked : Asked) (old new : Pair D) (outside : Outside)
      (status : Status) (did : DoesAsked told plan faults dig asked old new outside status ⊎ Starves old new status)
      → asked ≡ ToBegin disks identity → status ≡ Done
      → act_by told plan faults dig n asked old new outside status did ≡ begun_by (identity_in identity)
  unfolding act_by
  first-is n disks identity asked old new outside status did same made = grind (arith, common_steps) steps 20000

  -- a node that was begun did that, and no more
  pub first-act : (role : Role) (n : ℕ) (call : TheCall) (begins : BeginsNode told plan faults dig role call)
      → act_of told plan faults dig n call ≡ begun_by (identity_in begins.identity)
  first-act role n call begins =
      first-is n (begun_of role begins.identity) begins.identity call.asked call.old call.new call.outside call.status
      call.did begins.asked begins.made

  first-only : (role : Role) (identity : List ℕ) (old new : Pair D) (outside : Outside) (status : Status)
      → BeginsAs told plan faults dig (begun_of role identity) identity old new outside status → status ≡ Done
      → Only told role (λ r. r ≡ identity_alone identity) new
  first-only Wallet identity old new outside status inits made = λ n has l also one other may left.
      (let ok = answered-ok inits.answer status outside.taken outside.after inits.ends made in
      record {
        kept = identity_alone identity;
        keeps_notes = (ok-holds inits.answer ok inits.begun n has).images one may;
        keeps_leaves = (ok-holds inits.answer ok inits.empty l also).images other left;
        is = refl;
      })
  first-only Watcher identity old new outside status (inits, same) made = λ n has image may.
      (let ok = answered-ok inits.answer status outside.taken outside.after inits.ends made in
      record {
        kept = identity ∷ [];
        keeps = (ok-holds inits.answer ok inits.begun n has).images image may;
        is = refl;
      })
  first-only Operator identity old new outside status inits made = tt

  finds-begun : (found : Option WalletIdentity) (asked : Asked) (before : WalletRecords → Type 0) (r : WalletRecords)
      → BegunAs asked r → FindsWith (begun_by found) asked before r
  finds-begun None asked before r is = is
  finds-begun (Some me) asked before r is = is

  pub begun-only : (role : Role) (n : ℕ) (call : TheCall) (begins : BeginsNode told plan faults dig role call)
      → Only told role (MayFind n (call ∷ [])) call.new
  unfolding MayFind
  begun-only role n call begins =
      only-weaker told role (λ r. r ≡ identity_alone begins.identity) (MayFind n (call ∷ [])) call.new
      (λ r is.
      subst (λ (act : Act). FindsWith act call.asked (MayFind n []) r) (sym (first-act role n call begins))
      (finds-begun (identity_in begins.identity) call.asked (MayFind n []) r
      (begun_of role begins.identity, (begins.identity, begins.asked, is)))) (by call.did)
    where
      by : DoesAsked told plan faults dig call.asked call.old call.new call.outside call.status
          ⊎ Starves call.old call.new call.status
          → Only told role (λ r. r ≡ identity_alone begins.identity) call.new
      by (inl did) = grind (arith, common_steps, first-only) steps 20000
      by (inr starves) = absurd (let none = starves.0 in let made = begins.made in cc (none, made))

  -- ---- the calls behind it

  -- the calls up to the last one are those of a node of this role, from its beginning on
  pub record Life (role : Role) (n : ℕ) (last : TheCall) (calls : List TheCall) : Type 0 where
    pub later : List TheCall
    pub first : TheCall
    pub are : last ∷ calls ≡ later ++ first ∷ []
    pub begins : BeginsNode told plan faults dig role first
    pub only : Only told role (MayFind n (last ∷ calls)) last.new

  -- with one more call
  pub record Further (role : Role) (n : ℕ) (call last : TheCall) (calls : List TheCall) : Type 0 where
    pub life : Life role n call (last ∷ calls)
    pub act : IsAct role n (MayFind n (last ∷ calls)) (act_of told plan faults dig n call)

  pub life-goes-on : (role : Role) (n : ℕ) (call last : TheCall) (calls : List TheCall) → Life role n last calls
      → IsLife told plan faults dig (call ∷ last ∷ calls) → Further role n call last calls
  unfolding IsLife MayFind
  life-goes-on role n call last calls life (tells, lie, behind) =
      let all : call ∷ last ∷ calls ≡ (call ∷ life.later) ++ life.first ∷ [] =
      ap (λ (cs : List TheCall). call ∷ cs) life.are in
      let finds = All-head (FindsTheNode told plan faults dig role life.begins.identity) call life.later
      (begun_nodes_stay told plan faults dig role (call ∷ life.later) [] life.first
      (subst (IsLife told plan faults dig) all (tells, lie, behind)) life.begins) in
      let acts = asked-acts n (MayFind n (last ∷ calls)) (identity_alone life.begins.identity) call.old call.new
      call.outside call.status tells role finds.handed
      (only-lies told plan faults dig role (MayFind n (last ∷ calls)) last.new call.old lie life.only) call.asked
      finds.begins call.did in
      record {
        life = record {
          later = call ∷ life.later;
          first = life.first;
          are = all;
          begins = life.begins;
          only = acts.only;
        };
        act = acts.is;
      }
