-- The commands of an operator with a key keep the role of its notes, and its leaves those of its key.
use Rattle.std.proofs.Common.{◌≡◌, ◌<◌, ◌++◌, ℕ, Bool, true, if◌then◌else◌, List, [], ◌∷◌, length, take, Option, Some, None, Result, Ok, Err, refl, sym, ap, ◌∙◌, subst, arith, length-append}
use Rattle.std.specs.Prelude.{◌==◌, nat_le, unwrap_or}
use Rattle.std.specs.Str.{bytes_eq}
use Rattle.std.specs.Result.{is_ok}
use Rattle.std.proofs.lemmas.Bool.{and_from}
use Rattle.std.proofs.lemmas.List.{length-take}
use Rattle.std.proofs.lemmas.Grind.{common_steps}
use Rattle.sha2.specs.Sha256.{sha256}
use Rattle.sha2.proofs.Facts256.{length-sha256}
use Rattle.lms_sign.specs.declared.secret.Secret.{Secret}
use Rattle.lms_sign.specs.Types.{leaf_count}
use Rattle.lms_sign.proofs.Laws.{key-types}
use Rattle.plasma_tx.specs.declared.call.RootCall.{RootCall}
use Rattle.plasma_tx.specs.Spelling.{number_text}
use Rattle.plasma_tx.specs.Views.{blocks}
use Rattle.plasma_tx.proofs.Parts.{length-range}
use Rattle.node_journal.specs.Effect.{first_cause}
use Rattle.node_journal.specs.Role.{are_of}
use Rattle.gate_journal.proofs.Lives.{itself}
use Rattle.leaf_journal.specs.Records.{leaf_records_of, may_follow_of, binding_record, is_marked, marker, messages_of}
use Rattle.leaf_journal.proofs.Binding.{binding_follows}
use Rattle.leaf_journal.proofs.Form.{all_same, one_more}
use Rattle.node_rules.specs.Wallet.{WalletRecords}
use Rattle.node_rules.proofs.WalletGrow.{kind-follows, marker-kind}
use Rattle.operator_rules.specs.declared.refusal.OfferRefusal.{OfferRefusal}
use Rattle.operator_rules.specs.Records.{operator_kinds, who_is}
use Rattle.operator_rules.specs.Commands.{offer_effect}
use Rattle.node_deeds.proofs.OperatorOrderLaws.{orders_keep_the_role, orders_add_no_leaf}
use Rattle.receipt_audit.specs.Promises.{promise_mark, promise_text, begins_promise, is_promise}
use Rattle.receipt_audit.specs.Desk.{IssueEffect, desk_secret, issue_causes, issue_effect, promise_for, record_or}
use Rattle.receipt_audit.specs.declared.promise.Promise.{Promise}
use Rattle.receipt_audit.specs.declared.refusal.IssueRefusal.{IssueRefusal}
use Rattle.receipt_audit.proofs.Issues.{promise-binds, effect-refused, effect-issued, causes-none, offered-fits, offered-long}
use Rattle.node_replies.specs.declared.order.OperatorOrder.{OperatorOrder}
use Rattle.node_replies.specs.Orders.{with_record, operator_does}
use Rattle.node_lines.specs.declared.operator_line.OperatorLine.{OperatorLine}
use Rattle.node_answers.specs.Desks.{desk_records, secret_of, desk_outcome}
use Rattle.node_roles.specs.Roles.{wallet_records, records_of_desk, desk_commands}
use Rattle.node_lives.specs.Standing.{desk_leaves, are_promised}
use Rattle.node_lives.proofs.Seeds.{HasSeed, seed-on, seed-is}
use Rattle.node_lives.proofs.Own.{more-on, Growing}

-- ---- the leaves of the key

-- where they are those of the key, they are all that is read
pub promised-all : (seed : List ℕ) (records : List (List ℕ)) → are_promised seed records ≡ true
    → leaf_records_of is_promise (desk_leaves seed) records ≡ Ok records
promised-all seed records is = grind (arith, common_steps, all_same) steps 20000

desk-count : (seed : List ℕ) → desk_leaves seed ≡ leaf_count (desk_secret seed).types
desk-count seed =
    ap leaf_count
    (key-types (desk_secret seed) refl (omega (arith, length-take 16 (sha256 seed), length-sha256 seed)))

-- ---- promises

-- a promise with a tag and a digest of 32 bytes is one
promise-is : (promise : Promise) → length promise.tag ≡ 32 → length promise.digest ≡ 32
    → is_promise (promise_text promise) ≡ true
unfolding promise_text
promise-is promise tag digest =
    let text = promise_text promise in
    and_from (length text == 100) (begins_promise text) (ap (λ (n : ℕ). n == 100) long)
    (and_from (nat_le 100 (length text)) (bytes_eq (take 4 text) promise_mark) (ap (nat_le 100) long) refl)
  where
    parts : (a b c d e f : List ℕ) → length a ≡ 32 → length b ≡ 8 → length c ≡ 8 → length d ≡ 32 → length e ≡ 8
        → length f ≡ 8 → length (promise_mark ++ a ++ b ++ c ++ d ++ e ++ f) ≡ 100
    parts a b c d e f la lb lc ld le lf =
        omega (
          arith,
          length-append promise_mark a,
          length-append (promise_mark ++ a) b,
          length-append (promise_mark ++ a ++ b) c,
          length-append (promise_mark ++ a ++ b ++ c) d,
          length-append (promise_mark ++ a ++ b ++ c ++ d) e,
          length-append (promise_mark ++ a ++ b ++ c ++ d ++ e) f,
          la,
          lb,
          lc,
          ld,
          le,
          lf,
        )

    long : length (promise_text promise) ≡ 100
    long =
        parts promise.tag (number_text promise.coin) (number_text promise.parent) promise.digest
        (number_text promise.issued) (number_text promise.due) tag refl refl digest refl refl

-- ---- what a command adds

-- the notes are an operator's with this seed, and the leaves those of its key
pub record IsDesk (seed : List ℕ) (desk : WalletRecords) : Type 0 where
  pub notes : are_of operator_kinds desk.notes ≡ true
  pub has : HasSeed (Some seed) desk.notes
  pub leaves : are_promised seed desk.leaves ≡ true

-- with what a command adds both are so still
record GrowsBy (seed : List ℕ) (desk : WalletRecords) (note leaf : Option (List ℕ)) : Type 0 where
  notes : are_of operator_kinds (with_record desk.notes note) ≡ true
  leaves : are_promised seed (with_record desk.leaves leaf) ≡ true

module _ (seed : List ℕ) (dig : List ℕ → List ℕ) (digests : (bytes : List ℕ) → length (dig bytes) ≡ 32)
    (log : List RootCall) (desk : WalletRecords) (is : IsDesk seed desk) where
  -- a command that adds no leaf
  leafless : (note leaf : Option (List ℕ)) → are_of operator_kinds (with_record desk.notes note) ≡ true
      → leaf ≡ None → GrowsBy seed desk note leaf
  leafless added leaf notes none = grind (arith, common_steps) steps 20000

  -- the leaves with a record that may follow
  followed : (body : List ℕ) → may_follow_of is_promise (desk_leaves seed) desk.leaves body ≡ true
      → are_promised seed (desk.leaves ++ body ∷ []) ≡ true
  followed body may =
      ap is_ok (one_more is_promise (desk_leaves seed) desk.leaves body (promised-all seed desk.leaves is.leaves) may)

  migration-grows : (marked : Bool) → is_marked desk.leaves ≡ marked
      → GrowsBy seed desk None (if marked then None else Some marker)
  migration-grows marked there = grind (arith, common_steps, leafless, followed, marker-kind) steps 20000

  -- an issue
  module _ (secret : Secret) (same : secret ≡ desk_secret seed) (bytes : List ℕ) (due : ℕ) where
    abbrev promise : Promise
    promise = promise_for dig (who_is desk.notes).tag (blocks log) bytes due

    abbrev effect : IssueEffect
    effect = issue_effect dig dig secret desk.notes desk.leaves log bytes due

    abbrev causes : List (Bool × IssueRefusal)
    causes = issue_causes (leaf_count secret.types) desk.leaves (blocks log) due

    offer-keeps : are_of operator_kinds (with_record desk.notes (offer_effect dig desk.notes log bytes).note) ≡ true
    unfolding operator_does
    offer-keeps = orders_keep_the_role dig log desk.notes (OperatorOrder.Offer bytes) is.notes

    leaf-bound : first_cause causes ≡ None → (coin : ℕ)
        → Ok coin ≡ (offer_effect dig desk.notes log bytes).answer
        → are_promised seed (desk.leaves ++ binding_record desk.leaves (promise_text promise) ∷ []) ≡ true
    leaf-bound none coin offered =
        let fine = causes-none (leaf_count secret.types) desk.leaves (blocks log) due none in
        let read = offered-fits dig desk.notes log bytes coin offered in
        let long = offered-long dig desk.notes log bytes coin offered in
        let tag : length (who_is desk.notes).tag ≡ 32 =
        ap length (sym read.tagged) ∙ length-range bytes 4 36 (omega arith) (omega (arith, long)) in
        let fits = promise-is promise tag (digests bytes) in
        let left : length (messages_of desk.leaves) < desk_leaves seed =
        subst (λ (n : ℕ). length (messages_of desk.leaves) < n)
        (ap (λ (s : Secret). leaf_count s.types) same ∙ sym (desk-count seed)) fine.2 in
        followed (binding_record desk.leaves (promise_text promise))
        (kind-follows is_promise (desk_leaves seed) desk.leaves (promise_text promise)
        (binding_follows desk.leaves (promise_text promise) (desk_leaves seed)
        (promise-binds desk.leaves (promise_text promise) fits fine.1) left) fits)

    bound-or : first_cause causes ≡ None → (answer : Result ℕ OfferRefusal)
        → (offer_effect dig desk.notes log bytes).answer ≡ answer
        → are_promised seed (with_record desk.leaves (record_or desk.leaves (promise_text promise) answer)) ≡ true
    bound-or none (Err why) answered = is.leaves
    bound-or none (Ok coin) answered = leaf-bound none coin (sym answered)

    issue-grows : GrowsBy seed desk effect.note effect.leaf
    issue-grows = by (first_cause causes) refl
      where
        by : (cause : Option IssueRefusal) → first_cause causes ≡ cause → GrowsBy seed desk effect.note effect.leaf
        by (Some why) found =
            subst (λ (e : IssueEffect). GrowsBy seed desk e.note e.leaf)
            (sym (effect-refused dig dig secret desk.notes desk.leaves log bytes due why found))
            (leafless None None is.notes refl)
        by None none =
            subst (λ (e : IssueEffect). GrowsBy seed desk e.note e.leaf)
            (sym (effect-issued dig dig secret desk.notes desk.leaves log bytes due none))
            (record {
              notes = offer-keeps;
              leaves = bound-or none (offer_effect dig desk.notes log bytes).answer refl;
            })

  pub secret-same : secret_of desk.notes ≡ desk_secret seed
  secret-same =
      ap (λ (s : Option (List ℕ)). desk_secret (unwrap_or s [])) (seed-is (Some seed) desk.notes is.has)

  outcome-grows : (command : OperatorLine)
      → GrowsBy seed desk (desk_outcome dig log (desk_records desk.notes desk.leaves) command).note
      (desk_outcome dig log (desk_records desk.notes desk.leaves) command).leaf
  unfolding desk_outcome
  outcome-grows (OperatorLine.Order order) =
      leafless (operator_does dig log desk.notes order).note (operator_does dig log desk.notes order).leaf
      (orders_keep_the_role dig log desk.notes order is.notes) (orders_add_no_leaf dig log desk.notes order)
  outcome-grows (OperatorLine.Receipt transfer due) =
      issue-grows (secret_of desk.notes) secret-same transfer due
  outcome-grows OperatorLine.Migrate = migration-grows (is_marked desk.leaves) refl

pub desk-grows : (seed : List ℕ) (dig : List ℕ → List ℕ) → ((bytes : List ℕ) → length (dig bytes) ≡ 32)
    → Growing dig (IsDesk seed) desk_commands
desk-grows seed dig digests log parts line command few spells is =
    let desk = wallet_records parts in
    let outcome = desk_outcome dig log (records_of_desk parts) command in
    let grows = outcome-grows seed dig digests log desk is command in
    let has = seed-on (Some seed) desk.notes (with_record desk.notes outcome.note) is.has
    (more-on desk.notes desk.notes outcome.note (itself desk.notes)) in
    record {
      noted = record { notes = grows.notes; has = has; leaves = is.leaves };
      both = record { notes = grows.notes; has = has; leaves = grows.leaves };
    }
