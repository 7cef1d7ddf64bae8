-- Names that the proofs of this crate share.
pub use Rattle.std.proofs.Common.{◌≤◌, arith, ◌≡◌, ◌≢◌, ℕ, ◌<◌, List, [], length, ◌∙◌, ap, ◌+◌, Bool, true, false, if◌then◌else◌, get_or, drop, Some, None, Ok, Err, refl, sym, subst, ◌==◌, ◌∷◌, not, ◌++◌, Option, ◌^◌, inl, inr, take, lit<, ◌-◌, ◌&&◌}
pub use Rattle.std.proofs.lemmas.Bool.{eqb-true, eq-eqb, true≢false, false_from_ne_true, not-false, cases_Bool, both_ways, and_from, leb-false, and_parts, lt-ltb, le-ltb, le-leb, leb-true}
pub use Rattle.std.proofs.lemmas.Grind.{common_steps}
pub use Rattle.std.proofs.lemmas.List.{take_rest, length-append}
pub use Rattle.std.proofs.lemmas.List.Elements.{recursion_from_All, All-contains_itself, All-push}
pub use Rattle.std.proofs.lemmas.Slice.Eq.{bytes_eq-Decides}
pub use Rattle.std.specs.List.{AllByRecursion, All, Contains, slice_range}
pub use Rattle.std.specs.Prelude.{Result, ◌⊎◌, nat_lt, is_some, OnOk, nat_le}
pub use Rattle.std.specs.Str.{bytes_eq}
pub use Rattle.coin_history.proofs.HistoryOpenings.{lowest-none, lowest-none_from, up-rising, each-found, found-each, above-block, found-below, asked-parts, AreAsked, are-asked, blocks-from_asked, asked-from_blocks, found-block, lowest-some, asked-from}
pub use Rattle.coin_history.proofs.HistoryRefusals.{readers_refusals}
pub use Rattle.coin_history.specs.Bundles.{AreRising, bundle_in}
pub use Rattle.coin_history.specs.Checking.{first_cause, is_asked, opening_at, lowest_failure, above, unless_failed, opening_causes, missing, Cause}
pub use Rattle.coin_history.specs.History.{leaf_of_opening, opens_block, is_empty}
pub use Rattle.coin_history.specs.declared.bundle.Bundle.{Bundle}
pub use Rattle.coin_history.specs.declared.refusal.HistoryRefusal.{HistoryRefusal}
pub use Rattle.coin_history.specs.declared.refusal.HistoryRefusal.TheVariants.{MissingBlock, NotAbsent, UnknownBlock, NoCoin, NotLink, BadSignature, NoMemory}
pub use Rattle.leaf_journal.proofs.Binding.{bind-did, bind-fails, binding-messages}
pub use Rattle.leaf_journal.specs.Records.{binding_record, is_marked, messages_of, MayBind, MessagesPass}
pub use Rattle.lms_sign.specs.Tree.{signature_of, public_key_of}
pub use Rattle.lms_sign.specs.Types.{signature_length, is_supported, leaf_count}
unfoldable pub use Rattle.lms_sign.specs.Types.{chains, height}
pub use Rattle.lms_sign.specs.Valid.{types_of, is_valid, IsValid}
pub use Rattle.lms_sign.specs.declared.secret.Secret.{Secret}
pub use Rattle.operator_rules.specs.Commands.{forest_in}
unfoldable pub use Rattle.operator_rules.specs.Commands.{offer_effect}
pub use Rattle.operator_rules.specs.Records.{Note, Offered, note_text, notes_of as notes_in, operator_kinds, who_is}
pub use Rattle.operator_rules.specs.declared.refusal.OfferRefusal.{OfferRefusal}
pub use Rattle.plasma_tx.proofs.Names.{some_same}
pub use Rattle.plasma_tx.proofs.Parts.{bytes-range, length-range, number-below, range-front, range-back, range-join, number-bytes, number-in}
pub use Rattle.plasma_tx.specs.Chain.{Chain}
pub use Rattle.plasma_tx.specs.Shown.{Tests, tests_by, root_at, opens_root}
pub use Rattle.plasma_tx.specs.Spelling.{AreBytes, has_second_mark, body_at_start, number_text, number_at}
pub use Rattle.plasma_tx.specs.Views.{blocks}
pub use Rattle.plasma_tx.specs.declared.call.RootCall.{RootCall}
pub use Rattle.plasma_tx.specs.declared.opening.RawOpening.{RawOpening}
pub use Rattle.receipt_audit.specs.Audit.{is_kept, failure_of_breach, audit_refusal, convicted, shown_by, audited, ClashesAt, ShowsBreach, is_of_audit, IsBroken}
unfoldable pub use Rattle.receipt_audit.specs.Audit.{breach_of, conviction_answer}
pub use Rattle.receipt_audit.specs.Desk.{DidIssue, IssueEffect, AtDesk, issue_causes, issue_stop, promise_for, receipt_or, record_or, unoffered}
unfoldable pub use Rattle.receipt_audit.specs.Desk.{issue_effect}
pub use Rattle.receipt_audit.specs.Laws.{OnlyBreachesPass, BreachesPass, AuditsHaveTheirCauses, ConvictionsShowBrokenPromises, KeptPromisesAreNotConvicted, MayIssue, IsGiven, IssuesGiveReceipts, GivenReceiptsAreTaken, KeptReceiptsDoNotConvict}
pub use Rattle.receipt_audit.specs.Promises.{promised_part, signature_part, Honours, begins_promise, is_promise, IsPromise, promise_mark, promise_at_start, PromisesAreReadBack, PromisesHaveOneSpelling}
unfoldable pub use Rattle.receipt_audit.specs.Promises.{promise_in, promise_text}
pub use Rattle.receipt_audit.specs.declared.audit.Conviction.{Conviction}
pub use Rattle.receipt_audit.specs.declared.issuing.Receipt.{Receipt}
pub use Rattle.receipt_audit.specs.declared.promise.Promise.{Promise}
pub use Rattle.receipt_audit.specs.declared.refusal.AuditRefusal.{AuditRefusal}
pub use Rattle.receipt_audit.specs.declared.refusal.AuditRefusal.TheVariants.{BadReceipt, BadKey, NoMemory as NoRoom, NotSigned, NotYet}
pub use Rattle.receipt_audit.specs.declared.refusal.IssueRefusal.{IssueRefusal}
pub use Rattle.sparse_merkle.proofs.TreeLaws.{is_opening-path_to, leaf_of-with_leaf}
pub use Rattle.sparse_merkle.specs.TreeDigest.{leaf_of, root_of, path_to}
