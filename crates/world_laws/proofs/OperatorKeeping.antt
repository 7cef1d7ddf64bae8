-- An operator that keeps to the rules: what its notes and the log are as acts, that these are honest, and that one
-- more event leaves it so.
use Rattle.world_laws.proofs.Basics.{◌≡◌, ℕ, suc, ◌+◌, ◌<◌, ◌≤◌, Bool, true, false, List, [], ◌∷◌, ◌++◌, Some, Ok, refl, sym, ap, ◌∙◌, subst, slice_get, arith, true≢false, false≢true, bytes_eq-Decides, common_steps, option_and_then}
use Rattle.world_laws.proofs.CoinWords.{Entry, leaf_of, SignedTx, RootCall, Chain, with_log, signed_in, may_stand_in, blocks, root_at-grown, Has, root_at}
use Rattle.world_laws.proofs.NodeWords.{are_of}
use Rattle.world_laws.proofs.OperatorWords.{Identity, Note, Offered, Laid, Sealed, operator_kinds, who_is, notes_of, Forest, after_note, forest_of, tree_at, tree_of, forest_in, Act, Called, Kept, log_of, kept_notes, sealed_in, times_committed, times_sealed, IsInTime, IsHonestNote, IsHonestCall, IsHonest, root_at-le, root_at-new, tree_of-grow, count-push}
use Rattle.world_laws.proofs.WorldWords.{and_then_some, Event, Joins, is_command_of, Operator, Node, is_commit, commits_since}
use Rattle.world_laws.proofs.OperatorActs.{commits_root}

-- ---- what is kept

-- no tree is committed at a block after the last block of a transfer in it
abbrev pub AreInTime : (List ℕ → List ℕ) → List ℕ → List RootCall → List (List Entry) → Type 0
AreInTime dig tag log sealed = (n coin : ℕ) (tree : List Entry) (tx : SignedTx)
    → tree_at dig log sealed n ≡ Some tree → signed_in tag (leaf_of tree coin) ≡ Ok tx
    → may_stand_in n tx.body.last ≡ true

pub record IsKeeping (dig : List ℕ → List ℕ) (events : List Event) (chain : Chain) (op : Node) : Type 0 where
  pub role : op.role ≡ Operator
  pub kinds : are_of operator_kinds op.notes ≡ true
  pub tag : (who_is op.notes).tag ≡ chain.tag
  pub few : chain.most_blocks ≤ 3000
  pub acts : List Act
  pub log_is : log_of acts ≡ chain.log
  pub notes_is : kept_notes acts ≡ notes_of op.notes
  pub counted : (root : List ℕ)
      → times_committed chain.log root ≤ times_sealed dig (forest_in op.notes).sealed root
  pub waiting : (account : ℕ) (root : List ℕ) → Has op.offers (RootCall.Commit account root)
      → commits_since events ≡ 0
      → times_committed chain.log root < times_sealed dig (forest_in op.notes).sealed root
  pub honest : AreInTime dig chain.tag chain.log (forest_in op.notes).sealed → IsHonest dig chain.tag acts

-- so does the first node
pub record HasKeeping (dig : List ℕ → List ℕ) (events : List Event) (chain : Chain) (nodes : List Node) : Type 0 where
  pub op : Node
  pub op_is : slice_get nodes 0 ≡ Some op
  pub is : IsKeeping dig events chain op

-- ---- what is in time

module _ (dig : List ℕ → List ℕ) (tag : List ℕ) where
  in-time-earlier : (log : List RootCall) (call : RootCall) (sealed : List (List Entry))
      → AreInTime dig tag (call ∷ log) sealed → AreInTime dig tag log sealed
  in-time-earlier log call sealed in_time n coin tree tx is signed =
      grind (arith, common_steps, and_then_some, root_at-grown, root_at-le)

  in-time-sealed : (log : List RootCall) (sealed : List (List Entry)) (t : List Entry)
      → AreInTime dig tag log (sealed ++ t ∷ []) → AreInTime dig tag log sealed
  in-time-sealed log sealed t in_time n coin tree tx is signed =
      grind (arith, common_steps, and_then_some, tree_of-grow)

  in-time-note : (log : List RootCall) (note : Note) (forest : Forest)
      → AreInTime dig tag log (after_note note forest).sealed → AreInTime dig tag log forest.sealed
  in-time-note log (Offered bytes) forest in_time = in_time
  in-time-note log (Laid coin bytes) forest in_time = in_time
  in-time-note log Sealed forest in_time = in-time-sealed log forest.sealed forest.pool in_time

  -- a commit is in time
  in-time-now : (account : ℕ) (root : List ℕ) (log : List RootCall) (sealed : List (List Entry))
      → AreInTime dig tag (RootCall.Commit account root ∷ log) sealed → IsInTime dig tag sealed root (blocks log + 1)
  in-time-now account root log sealed in_time tree coin tx is signed =
      let next : suc (blocks log) ≡ blocks log + 1 = omega arith in
      let new : root_at (RootCall.Commit account root ∷ log) (blocks log + 1) ≡ Some root =
      ap (root_at (RootCall.Commit account root ∷ log)) (sym next) ∙ root_at-new account root log in
      in_time (blocks log + 1) coin tree tx (ap (option_and_then (tree_of dig sealed)) new ∙ is) signed

-- one more note makes no root rarer among the sealed trees
sealed-more : (dig : List ℕ → List ℕ) (note : Note) (forest : Forest) (root : List ℕ)
    → times_sealed dig forest.sealed root ≤ times_sealed dig (after_note note forest).sealed root
sealed-more dig note forest root = grind (arith, common_steps, count-push)

-- ---- commits

is-commit : (call : RootCall) → is_commit (Joins call) ≡ commits_root call
is-commit call = grind (arith, common_steps)

not-committed : (call : RootCall) (log : List RootCall) (root : List ℕ) → commits_root call ≡ false
    → times_committed (call ∷ log) root ≡ times_committed log root
not-committed (RootCall.Commit account committed) log root none = absurd (true≢false none)
not-committed call log root none = refl

no-commit-honest : (dig : List ℕ → List ℕ) (tag : List ℕ) (acts : List Act) (call : RootCall)
    → commits_root call ≡ false → IsHonestCall dig tag acts call
no-commit-honest dig tag acts (RootCall.Commit account root) none = absurd (true≢false none)
no-commit-honest dig tag acts call none = tt

-- what is committed is a root
root-of-commit : (call : RootCall) → commits_root call ≡ true
    → (account : ℕ) × (root : List ℕ) × (call ≡ RootCall.Commit account root)
root-of-commit (RootCall.Commit account root) is = (account, root, refl)
root-of-commit call is = absurd (false≢true is)

since-same : (event : Event) (events : List Event) → is_command_of 0 event ≡ false → is_commit event ≡ false
    → commits_since (event ∷ events) ≡ commits_since events
unfolding commits_since
since-same event events other none = grind (arith, common_steps)

since-commit : (account : ℕ) (root : List ℕ) (events : List Event)
    → commits_since (Joins (RootCall.Commit account root) ∷ events) ≡ 1 + commits_since events
unfolding commits_since
since-commit account root events = refl

-- ---- one more event

module _ (dig : List ℕ → List ℕ) (events : List Event) (chain : Chain) (op : Node)
    (keeping : IsKeeping dig events chain op) where
  -- of another node, or of none
  pub keeps-still : (event : Event) → is_command_of 0 event ≡ false → is_commit event ≡ false
      → IsKeeping dig (event ∷ events) chain op
  keeps-still event other none = grind (arith, common_steps, since-same)

  -- a call that is no commit
  joins-other : (call : RootCall) → commits_root call ≡ false
      → IsKeeping dig (Joins call ∷ events) (with_log chain (call ∷ chain.log)) op
  unfolding log_of kept_notes IsHonest
  joins-other call none = record {
    role = keeping.role;
    kinds = keeping.kinds;
    tag = keeping.tag;
    few = keeping.few;
    acts = Called call ∷ keeping.acts;
    log_is = ap (λ (log : List RootCall). call ∷ log) keeping.log_is;
    notes_is = keeping.notes_is;
    counted = λ root.
        subst (λ (n : ℕ). n ≤ times_sealed dig (forest_in op.notes).sealed root)
        (sym (not-committed call chain.log root none)) (keeping.counted root);
    waiting = grind (arith, not-committed, since-same, is-commit);
    honest = λ in_time. (
      no-commit-honest dig chain.tag keeping.acts call none,
      keeping.honest (in-time-earlier dig chain.tag chain.log call (forest_in op.notes).sealed in_time),
    );
  }

  -- a commit that the operator offers, the first since its last command
  joins-commit : (account : ℕ) (root : List ℕ) → Has op.offers (RootCall.Commit account root)
      → commits_since events ≡ 0
      → IsKeeping dig (Joins (RootCall.Commit account root) ∷ events)
      (with_log chain (RootCall.Commit account root ∷ chain.log)) op
  unfolding log_of kept_notes IsHonest
  joins-commit account root has zero_is = record {
    role = keeping.role;
    kinds = keeping.kinds;
    tag = keeping.tag;
    few = keeping.few;
    acts = Called (RootCall.Commit account root) ∷ keeping.acts;
    log_is = ap (λ (log : List RootCall). RootCall.Commit account root ∷ log) keeping.log_is;
    notes_is = keeping.notes_is;
    counted = more;
    waiting = λ other committed offered since.
        absurd (omega (arith, since, since-commit account root events));
    honest = λ in_time. (
      now in_time,
      keeping.honest (in-time-earlier dig chain.tag chain.log (RootCall.Commit account root) sealed
          in_time),
    );
  }
    where
      sealed : List (List Entry)
      sealed = (forest_in op.notes).sealed

      strict : times_committed chain.log root < times_sealed dig (forest_in op.notes).sealed root
      strict = keeping.waiting account root has zero_is

      more : (other : List ℕ) → times_committed (RootCall.Commit account root ∷ chain.log) other
          ≤ times_sealed dig (forest_in op.notes).sealed other
      more other = grind (arith, common_steps, bytes_eq-Decides)

      now : AreInTime dig chain.tag (RootCall.Commit account root ∷ chain.log) (forest_in op.notes).sealed
          → (times_committed (log_of keeping.acts) root < times_sealed dig (sealed_in keeping.acts) root)
          × IsInTime dig chain.tag (sealed_in keeping.acts) root (blocks (log_of keeping.acts) + 1)
      now in_time =
          subst (λ (log : List RootCall).
          (times_committed log root < times_sealed dig (sealed_in keeping.acts) root)
          × IsInTime dig chain.tag (sealed_in keeping.acts) root (blocks log + 1)) (sym keeping.log_is)
          (subst (λ (notes : List Note).
          (times_committed chain.log root < times_sealed dig (forest_of notes).sealed root)
          × IsInTime dig chain.tag (forest_of notes).sealed root (blocks chain.log + 1)) (sym keeping.notes_is)
          (strict, in-time-now dig chain.tag account root chain.log (forest_in op.notes).sealed in_time))

  -- a call that joins the log
  pub keeps-joins : (call : RootCall) → commits_since (Joins call ∷ events) ≤ 1
      → (commits_root call ≡ true → Has op.offers call)
      → IsKeeping dig (Joins call ∷ events) (with_log chain (call ∷ chain.log)) op
  keeps-joins call once offered = by (commits_root call) refl
    where
      by : (b : Bool) → commits_root call ≡ b
          → IsKeeping dig (Joins call ∷ events) (with_log chain (call ∷ chain.log)) op
      by false none = joins-other call none
      by true some =
          let root = root-of-commit call some in
          let first = subst (λ (c : RootCall). commits_since (Joins c ∷ events) ≤ 1) root.2 once in
          subst (λ (c : RootCall). IsKeeping dig (Joins c ∷ events) (with_log chain (c ∷ chain.log)) op)
          (sym root.2)
          (joins-commit root.0 root.1 (subst (λ (c : RootCall). Has op.offers c) root.2 (offered some))
          (omega (arith, first, since-commit root.0 root.1 events)))

  -- the operator's own command or crash that adds no note, after which it offers nothing
  pub keeps-own : (event : Event) (after : Node) → after.role ≡ op.role → after.notes ≡ op.notes
      → after.offers ≡ [] → IsKeeping dig (event ∷ events) chain after
  keeps-own event after role notes none = grind (arith, common_steps)

  -- a command that adds a note
  pub keeps-note : (event : Event) (note : Note) (after : Node) → after.role ≡ op.role
      → are_of operator_kinds after.notes ≡ true → who_is after.notes ≡ who_is op.notes
      → notes_of after.notes ≡ note ∷ notes_of op.notes → IsHonestNote dig chain.tag keeping.acts note
      → ((account : ℕ) (root : List ℕ) → Has after.offers (RootCall.Commit account root)
      → times_committed chain.log root < times_sealed dig (after_note note (forest_in op.notes)).sealed root)
      → IsKeeping dig (event ∷ events) chain after
  unfolding log_of kept_notes IsHonest forest_of
  keeps-note event note after role kinds who added fine waits = record {
    role = role ∙ keeping.role;
    kinds = kinds;
    tag = ap (λ (i : Identity). i.tag) who ∙ keeping.tag;
    few = keeping.few;
    acts = Kept note ∷ keeping.acts;
    log_is = keeping.log_is;
    notes_is = ap (λ (notes : List Note). note ∷ notes) keeping.notes_is ∙ sym added;
    counted = grind (arith, sealed-more);
    waiting = λ account root has since.
        subst (λ (notes : List Note). times_committed chain.log root
        < times_sealed dig (forest_of notes).sealed root) (sym added) (waits account root has);
    honest = λ in_time. (
      fine,
      keeping.honest (in-time-note dig chain.tag chain.log note (forest_in op.notes)
          (subst (λ (notes : List Note). AreInTime dig chain.tag chain.log (forest_of notes).sealed) added in_time)),
    );
  }
