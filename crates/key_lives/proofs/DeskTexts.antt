-- A receipt that an issue gives by a leaf is the promise that the leaf binds in the records that it leaves, with its
-- signature.
use Rattle.std.proofs.Common.{◌≡◌, ◌<◌, ◌^◌, ◌++◌, ◌∷◌, ℕ, List, [], length, take, Option, Some, Ok, refl, sym, ap, ◌∙◌, subst, arith}
use Rattle.std.specs.Prelude.{slice_get}
use Rattle.std.proofs.lemmas.List.{length-take, take-append-drop}
use Rattle.std.proofs.lemmas.Grind.{common_steps}
use Rattle.sha2.specs.Sha256.{sha256}
use Rattle.sha2.proofs.Facts256.{length-sha256}
use Rattle.lms_sign.specs.declared.secret.Secret.{Secret}
use Rattle.lms_sign.specs.Tree.{signature_of}
use Rattle.plasma_tx.specs.Spelling.{AreBytes}
use Rattle.plasma_tx.specs.declared.call.RootCall.{RootCall}
use Rattle.leaf_journal.specs.Records.{messages_of}
use Rattle.gate_journal.specs.Life.{Continue}
use Rattle.node_rules.specs.Wallet.{WalletRecords}
use Rattle.receipt_audit.specs.Desk.{desk_secret, issue_effect, IssueEffect}
use Rattle.receipt_audit.specs.Laws.{MayIssue}
use Rattle.receipt_audit.proofs.Given.{issues_give_receipts}
use Rattle.node_replies.specs.Orders.{with_record}
use Rattle.node_lines.specs.declared.operator_line.OperatorLine.{OperatorLine}
use Rattle.node_lines.specs.Grammar.{IsOperatorLine}
use Rattle.node_answers.specs.Desks.{secret_of}
use Rattle.node_lives.proofs.DeskOrders.{IsDesk, secret-same}
use Rattle.node_lives.proofs.LeafTexts.{got-behind, got-last, messages-on}

-- the receipt is the promise that leaf q binds, with its signature under the key that is made of this seed
pub record IsOfDesk (seed : List ℕ) (leaves : List (List ℕ)) (q : ℕ) (receipt : List ℕ) : Type 0 where
  pub promise : List ℕ
  pub bound : slice_get (messages_of leaves) q ≡ Some promise
  pub is : receipt ≡ promise ++ signature_of (desk_secret seed) q promise

-- it stays the same with more records
pub receipt-stays : (seed : List ℕ) (leaves later : List (List ℕ)) (q : ℕ) (receipt : List ℕ) → Continue leaves later
    → IsOfDesk seed leaves q receipt → IsOfDesk seed later q receipt
receipt-stays seed leaves later q receipt on of =
    let more = messages-on leaves later on in
    record {
      promise = of.promise;
      bound =
          ap (λ (l : List (List ℕ)). slice_get l q) more.1
          ∙ got-behind (messages_of leaves) more.0 q of.promise of.bound;
      is = of.is;
    }

-- and is one
pub receipt-one : (seed : List ℕ) (leaves : List (List ℕ)) (q : ℕ) (made also : List ℕ)
    → IsOfDesk seed leaves q made → IsOfDesk seed leaves q also → made ≡ also
receipt-one seed leaves q made also one other =
    let same : one.promise ≡ other.promise = (let a = one.bound in let b = other.bound in cc (a, b)) in
    one.is ∙ ap (λ (p : List ℕ). p ++ signature_of (desk_secret seed) q p) same ∙ sym other.is

-- what a line asks for is bytes, and a number of 64 bits
abbrev pub IsSaneLine : OperatorLine → Type 0
IsSaneLine (OperatorLine.Receipt transfer due) = AreBytes transfer × (due < 2 ^ 64)
IsSaneLine line = Unit {0}

pub sane-line : (line : OperatorLine) → IsOperatorLine line → IsSaneLine line
sane-line line is = grind (arith, common_steps) steps 20000

module _ (seed : List ℕ) (dig : List ℕ → List ℕ) (digests : (bytes : List ℕ) → length (dig bytes) ≡ 32)
    (log : List RootCall) (desk : WalletRecords) (is : IsDesk seed desk) (transfer : List ℕ) (due : ℕ)
    (sane : IsSaneLine (OperatorLine.Receipt transfer due)) where
  abbrev secret : Secret
  secret = secret_of desk.notes

  abbrev pub effect : IssueEffect
  effect = issue_effect dig dig secret desk.notes desk.leaves log transfer due

  may : MayIssue dig secret transfer due
  may = record {
    long = digests;
    supported = refl;
    id = omega (arith, length-take 16 (sha256 secret.seed), length-sha256 secret.seed);
    small = sane.0;
    narrow = sane.1;
  }

  pub issue-gives : (q : ℕ) (receipt : List ℕ) → length (messages_of desk.leaves) ≡ q
      → effect.answer ≡ Ok (record { bytes = receipt })
      → IsOfDesk seed (with_record desk.leaves effect.leaf) q receipt
  issue-gives q receipt count gives =
      let given = issues_give_receipts dig dig secret desk.notes desk.leaves log transfer due
      (record { bytes = receipt }) may gives in
      let promise = take 100 receipt in
      let of : IsOfDesk seed (desk.leaves ++ given.0 ∷ []) q receipt = record {
        promise = promise;
        bound =
            ap (λ (l : List (List ℕ)). slice_get l q) given.2.bound
            ∙ ap (slice_get (messages_of desk.leaves ++ promise ∷ [])) (sym count)
            ∙ got-last (messages_of desk.leaves) promise;
        is =
            sym (take-append-drop 100 receipt)
            ∙ ap (λ (s : List ℕ). promise ++ s)
            (given.2.leaf
            ∙ ap (λ (n : ℕ). signature_of secret n promise) count
            ∙ ap (λ (s : Secret). signature_of s q promise) (secret-same seed dig digests log desk is));
      } in
      subst (λ (o : Option (List ℕ)). IsOfDesk seed (with_record desk.leaves o) q receipt) (sym given.1) of
