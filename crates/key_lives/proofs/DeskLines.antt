-- The lines of the sample operator's run, and what they come to.
use Rattle.std.proofs.Common.{◌≡◌, ◌≢◌, ◌≤◌, ◌<◌, ◌-◌, ◌*◌, ◌/◌, ◌%◌, ◌^◌, ◌==◌, ◌&&◌, not, ℕ, zero, suc, Bool, true, false, if◌then◌else◌, List, [], ◌∷◌, ◌++◌, length, take, replicate, codes, slice_index, Some, Result, Ok, refl, sym, ap, ◌∙◌, subst, arith, length-append, lit<}
use Rattle.std.specs.List.{list_all}
use Rattle.std.proofs.lemmas.Bool.{and_parts, and_from, le-ltb}
use Rattle.std.proofs.lemmas.List.Elements.{All-nil}
use Rattle.std.proofs.lemmas.List.Folds.{list_all-append}
use Rattle.std.proofs.lemmas.Grind.{common_steps}
use Rattle.hex.specs.Hex.{encode_with, lower_digits}
use Rattle.plasma_base.specs.HexText.{hex_text}
use Rattle.line_forms.specs.Forms.{text_of}
use Rattle.line_forms.specs.Tokens.{number_text, number_in}
use Rattle.line_forms.proofs.NumberLaws.{number_text-in}
use Rattle.lms_sign.specs.Tree.{signature_of}
use Rattle.lms_sign.specs.Types.{height}
use Rattle.lms_sign.proofs.Laws.{signatures_are_valid, key-types}
use Rattle.plasma_tx.specs.declared.call.RootCall.{RootCall}
use Rattle.plasma_tx.specs.declared.signed_tx.SignedTx.{SignedTx}
use Rattle.plasma_tx.specs.Spelling.{AreBytes, IsOwner, IsBody, body_text, signed_text, signed_in}
use Rattle.plasma_tx.specs.Transfer.{is_signed_by}
use Rattle.plasma_tx.proofs.Spellings.{signed_in-text, signed_in-ok}
use Rattle.root_log.specs.Grammar.{call_text, call_in}
use Rattle.root_log.specs.EndOfLog.{is_end_of_log}
use Rattle.root_log.proofs.GrammarLaws.{call_in-call_text}
use Rattle.schedule_text.specs.Grammar.{line_text}
use Rattle.node_lines.specs.declared.operator_line.OperatorLine.{OperatorLine}
use Rattle.node_lines.specs.Grammar.{operator_line_text, operator_line_in}
use Rattle.node_lines.proofs.GrammarLaws.{operator_line_in-text}
use Rattle.operator_rules.proofs.Openings.{leaf-short}
use Rattle.node_replies.proofs.ByteTexts.{small-append, small-body, small-signature, small-key, small-zeros, length-key}
use Rattle.streamed_lines.specs.Lines.{is_whole, is_too_long, HasNoFeed, text_of as line_text_of}
use Rattle.streamed_lines.specs.Streams.{Rules, Stream, next_number, with_answer, line_stream}
use Rattle.streamed_lines.specs.Reading.{RunsTo, DoesLine}
use Rattle.streamed_lines.proofs.StreamLaws.{runs-on}
use Rattle.sparse_merkle.specs.TreeDigest.{leaf_of}
use Rattle.gate_journal.specs.Image.{most}
use Rattle.node_journal.specs.Effect.{Effect, first_cause, unless}
use Rattle.leaf_journal.specs.Records.{marker, with_number}
use Rattle.plasma_tx.specs.declared.body.Body.{Body}
use Rattle.plasma_tx.specs.Spelling.{body_at_start}
use Rattle.plasma_tx.specs.Views.{blocks, coins, coin_at}
use Rattle.operator_rules.specs.declared.refusal.OfferRefusal.{OfferRefusal}
use Rattle.operator_rules.specs.declared.refusal.OfferRefusal.TheVariants.{BadSignature}
use Rattle.operator_rules.specs.Records.{Offered, note_text, who_is, identity_in, notes_of}
use Rattle.operator_rules.specs.Commands.{forest_in, offer_of, offer_effect}
use Rattle.operator_rules.specs.Trees.{forest_of}
use Rattle.operator_rules.specs.Walk.{place_at}
use Rattle.receipt_audit.specs.declared.promise.Promise.{Promise}
use Rattle.receipt_audit.specs.Promises.{promise_text, IsPromise}
use Rattle.receipt_audit.specs.Desk.{desk_secret, promise_for, receipt_or, record_or, IssueEffect, issue_effect}
use Rattle.receipt_audit.proofs.PromiseTexts.{promise-long}
use Rattle.node_answers.specs.Desks.{secret_of}
use Rattle.key_lives.specs.DeskSample.{identity, owner_secret, owner, body, transfer, deposit_line, receipt_line}

-- ---- bytes without a line feed

abbrev pub plain : List ℕ → Bool
plain bytes = list_all (λ byte. not (byte == 10)) bytes

pub no-feed : (bytes : List ℕ) → plain bytes ≡ true → HasNoFeed bytes
no-feed [] is = All-nil (λ byte. byte ≢ 10)
no-feed (byte ∷ bytes) is = grind (arith, common_steps, and_parts) steps 20000

plain-both : (one other : List ℕ) → plain one ≡ true → plain other ≡ true → plain (one ++ other) ≡ true
plain-both one other first second =
    list_all-append (λ byte. not (byte == 10)) one other ∙ and_from (plain one) (plain other) first second

index-plain : (digits : List ℕ) (i : ℕ) → plain digits ≡ true → not (slice_index digits i == 10) ≡ true
index-plain [] i is = refl
index-plain (digit ∷ digits) zero is = (and_parts (not (digit == 10)) (plain digits) is).0
index-plain (digit ∷ digits) (suc i) is =
    index-plain digits i (and_parts (not (digit == 10)) (plain digits) is).1

encoded-plain : (bytes : List ℕ) → plain (encode_with lower_digits bytes) ≡ true
unfolding encode_with
encoded-plain [] = refl
encoded-plain (byte ∷ bytes) =
    and_from (not (slice_index lower_digits (byte / 16) == 10))
    (not (slice_index lower_digits (byte % 16) == 10) && plain (encode_with lower_digits bytes))
    (index-plain lower_digits (byte / 16) refl)
    (and_from (not (slice_index lower_digits (byte % 16) == 10)) (plain (encode_with lower_digits bytes))
    (index-plain lower_digits (byte % 16) refl) (encoded-plain bytes))

length-encoded : (bytes : List ℕ) → length (encode_with lower_digits bytes) ≡ 2 * length bytes
unfolding encode_with
length-encoded [] = refl
length-encoded (byte ∷ bytes) = omega (arith, length-encoded bytes)

-- ---- a line that is answered

whole-last : (text : List ℕ) → slice_index (text ++ 10 ∷ []) (length text) ≡ 10
whole-last [] = refl
whole-last (byte ∷ text) = whole-last text

take-front : (text more : List ℕ) → take (length text) (text ++ more) ≡ text
take-front [] more = refl
take-front (byte ∷ text) more = ap (λ (l : List ℕ). byte ∷ l) (take-front text more)

module _ (text : List ℕ) where
  abbrev line : List ℕ
  line = text ++ 10 ∷ []

  last-place : length line - 1 ≡ length text
  last-place = omega (arith, length-append text (10 ∷ []))

  line-whole : is_whole line ≡ true
  line-whole =
      ap (λ (n : ℕ). slice_index line n == 10) last-place ∙ ap (λ (b : ℕ). b == 10) (whole-last text)

  pub line-text : line_text_of line ≡ text
  line-text =
      ap (λ (w : Bool). if w then take (length line - 1) line else line) line-whole
      ∙ ap (λ (n : ℕ). take n line) last-place ∙ take-front text (10 ∷ [])

whole-waits : (ended : Bool) → (not ended && not true) ≡ false
whole-waits true = refl
whole-waits false = refl

module _ {R C : Type 0} (rules : Rules R C) (first : R) where
  line-does : (start : ℕ) (text : List ℕ) (stream : Stream R) (answered : R × List ℕ)
      → is_too_long (next_number stream) start (text ++ 10 ∷ []) ≡ false → rules.next stream.run text ≡ Ok answered
      → DoesLine rules start stream (text ++ 10 ∷ []) (Ok (with_answer stream answered))
  unfolding line_stream
  line-does start text stream answered fits does ended may =
      grind (arith, common_steps, line-whole, whole-waits, line-text) steps 20000

  pub answered-line : (front text : List ℕ) (stream : Stream R) (answered : R × List ℕ)
      → RunsTo rules first front stream
      → plain text ≡ true → is_too_long (next_number stream) (length front) (text ++ 10 ∷ []) ≡ false
      → rules.next stream.run text ≡ Ok answered
      → RunsTo rules first (front ++ (text ++ 10 ∷ [])) (with_answer stream answered)
  answered-line front text stream answered runs is fits does =
      runs-on rules first front (text ++ 10 ∷ []) stream (with_answer stream answered) runs
      (text, refl, no-feed text is) (line-does (length front) text stream answered fits does) refl

-- few lines, and few bytes
pub fits-limits : (n start : ℕ) (text : List ℕ) → n ≤ 100 → start ≤ 100000 → length text ≤ 10000
    → is_too_long n start (text ++ 10 ∷ []) ≡ false
fits-limits n start text few early short = grind (arith, common_steps, line-text, le-ltb) steps 20000

-- ---- the key, and the transfer

length-own : length owner.key ≡ 56
length-own = length-key owner_secret refl

key-bytes : AreBytes owner.key
key-bytes = (small-key owner_secret (small-zeros 16)).are

pub transfer-bytes : AreBytes transfer
unfolding signed_text
transfer-bytes =
    (small-append (small-body body (small-zeros 32) (small-key owner_secret (small-zeros 16)))
    (small-signature owner_secret 0 (body_text body))).are

abbrev owned : IsOwner owner
owned = record { account = lit< tt; key = length-own }

is-body : IsBody body
is-body = record { tag = refl; coin = lit< tt; parent = lit< tt; to = owned; last = tt }

abbrev pub tx : SignedTx
tx = record { body = body; signature = signature_of owner_secret 0 (body_text body) }

pub signed-read : signed_in (replicate 32 0) transfer ≡ Ok tx
signed-read = signed_in-text tx is-body

pub owner-signed : is_signed_by tx owner ≡ true
unfolding is_signed_by height
owner-signed = grind (arith, common_steps, key-types, signatures_are_valid) steps 20000

pub transfer-short : length transfer ≤ 2632
transfer-short = leaf-short (replicate 32 0) transfer tx owner signed-read owner-signed

-- ---- the lines

pub deposit-read : call_in deposit_line ≡ Some (RootCall.Deposit 0 1 owner.key)
deposit-read =
    call_in-call_text (RootCall.Deposit 0 1 owner.key) (lit< tt, ((lit< tt, ((key-bytes, length-own), tt)), tt))

pub receipt-read : operator_line_in receipt_line ≡ Some (OperatorLine.Receipt transfer 2)
receipt-read = operator_line_in-text (OperatorLine.Receipt transfer 2) (transfer-bytes, (lit< tt, tt))

pub not-end : is_end_of_log deposit_line ≡ false
unfolding call_text line_text text_of
not-end = refl

-- both as words
zero-text : number_text 0 ≡ codes "0"
unfolding number_in
zero-text = sym (number_text-in (codes "0") 0 refl).0

one-text : number_text 1 ≡ codes "1"
unfolding number_in
one-text = sym (number_text-in (codes "1") 1 refl).0

two-text : number_text 2 ≡ codes "2"
unfolding number_in
two-text = sym (number_text-in (codes "2") 2 refl).0

deposit-words : deposit_line ≡ codes "call " ++ (number_text 0 ++ (codes " deposit " ++ (number_text 1
    ++ (codes " 0x" ++ encode_with lower_digits owner.key))))
unfolding call_text line_text text_of hex_text
deposit-words = refl

deposit-is : deposit_line ≡ codes "call 0 deposit 1 0x" ++ encode_with lower_digits owner.key
deposit-is = grind (arith, common_steps, deposit-words, zero-text, one-text) steps 20000

receipt-words : receipt_line ≡ codes "receipt 0x" ++ (encode_with lower_digits transfer ++ (codes " " ++ number_text 2))
unfolding operator_line_text text_of hex_text
receipt-words = refl

receipt-is : receipt_line ≡ codes "receipt 0x" ++ (encode_with lower_digits transfer ++ codes " 2")
receipt-is =
    receipt-words
    ∙ (λ i. codes "receipt 0x" ++ (encode_with lower_digits transfer ++ (codes " " ++ two-text i)))

pub deposit-plain : plain deposit_line ≡ true
deposit-plain = ap plain deposit-is ∙ plain-both (codes "call 0 deposit 1 0x") (encode_with lower_digits owner.key) refl
    (encoded-plain owner.key)

pub receipt-plain : plain receipt_line ≡ true
receipt-plain = grind (arith, common_steps, receipt-is, plain-both, encoded-plain) steps 20000

pub deposit-short : length deposit_line ≤ 200
deposit-short = grind (arith, common_steps, deposit-is, length-encoded, length-own) steps 20000

pub receipt-short : length receipt_line ≤ 6000
receipt-short = grind (arith, common_steps, receipt-is, length-encoded, transfer-short) steps 20000

-- ---- what the commands come to

module _ (dig : List ℕ → List ℕ) (long : (bytes : List ℕ) → length (dig bytes) ≡ 32) where
  abbrev pub log : List RootCall
  log = RootCall.Deposit 0 1 owner.key ∷ []

  abbrev pub promise : Promise
  promise = promise_for dig (replicate 32 0) 1 transfer 2

  abbrev pub promised : List ℕ
  promised = promise_text promise

  abbrev taken : Effect (Result ℕ OfferRefusal)
  taken = record { answer = Ok 1; note = Some (note_text (Offered transfer)) }

  -- all its causes but one don't hold
  signed-is : offer_of dig (replicate 32 0) log (forest_in (identity ∷ [])) transfer (Ok tx)
      ≡ unless (first_cause ((not (is_signed_by tx owner), BadSignature) ∷ [])) taken
  unfolding who_is identity_in notes_of forest_of coin_at coins blocks place_at leaf_of
  signed-is = refl

  offered-is : offer_effect dig (identity ∷ []) log transfer ≡ taken
  unfolding offer_effect who_is identity_in
  offered-is = grind (arith, common_steps, signed-read, signed-is, owner-signed) steps 20000

  -- the receipt, the note and the leaf's record
  abbrev pub receipt : List ℕ
  receipt = promised ++ signature_of (desk_secret (replicate 32 0)) 0 promised

  abbrev pub note : List ℕ
  note = note_text (Offered transfer)

  abbrev pub leaf : List ℕ
  leaf = with_number 0 promised

  abbrev pub issue : IssueEffect
  issue = record { answer = Ok (record { bytes = receipt }); is_offered = true; note = Some note; leaf = Some leaf }

  pub issue-is : issue_effect dig dig (secret_of (identity ∷ [])) (identity ∷ []) (marker ∷ []) log transfer 2 ≡ issue
  unfolding issue_effect who_is identity_in blocks height
  issue-is =
      ap (λ (offered : Effect (Result ℕ OfferRefusal)). record {
        answer = receipt_or (desk_secret (replicate 32 0)) (marker ∷ []) promised offered.answer;
        is_offered = true;
        note = offered.note;
        leaf = record_or (marker ∷ []) promised offered.answer;
      }) offered-is

  -- they fit
  promise-is : IsPromise promise
  promise-is = record {
    tag = refl;
    digest = long transfer;
    coin = coin-is;
    parent = parent-is;
    issued = lit< tt;
    due = lit< tt;
  }
    where
      same : body ≡ body_at_start transfer
      same = ap (λ (t : SignedTx). t.body) (signed_in-ok (replicate 32 0) transfer tx signed-read).1

      coin-is : (body_at_start transfer).coin < 2 ^ 64
      coin-is = subst (λ (b : Body). b.coin < 2 ^ 64) same (lit< tt)

      parent-is : (body_at_start transfer).parent < 2 ^ 64
      parent-is = subst (λ (b : Body). b.parent < 2 ^ 64) same (lit< tt)

  pub note-fits : length note ≤ most
  unfolding note_text
  note-fits = omega (arith, transfer-short)

  pub leaf-fits : length leaf ≤ most
  leaf-fits = omega (arith, promise-long promise promise-is)
