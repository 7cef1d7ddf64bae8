-- What the files beside this one say of the world: lines and acts, events, the trace, and the words of the promise.
pub use Rattle.line_forms.proofs.FormLaws.{option_map_some, and_then_some}
pub use Rattle.schedule_text.specs.declared.line.Line.{Line}
pub use Rattle.schedule_text.specs.Grammar.{IsLine, node_of}
pub use Rattle.schedule_text.specs.declared.command.Command.{Command}
pub use Rattle.schedule_text.specs.declared.command.OperatorCommand.{OperatorCommand}
pub use Rattle.schedule_text.specs.declared.command.WalletCommand.{WalletCommand}
pub use Rattle.schedule_text.specs.declared.call_form.CallForm.{CallForm}
pub use Rattle.world_rules.specs.Events.{Event, Joins, TakesBack, is_taken, signed_away_by, is_sent_from, Accepts, Idle, is_bundle, Bounces, Guards, Releases, Binds, Watches, Other, is_command_of, offered, Declares, coin_of_call, node_in, Leaves, Seals}
unfoldable pub use Rattle.world_rules.specs.Events.{log_of, bound_by, leaf_at, taken_back, not_taken, accepted, wallet_owner, guarded_by, watchers, wallets, offers_of}
pub use Rattle.world_rules.specs.Exhibits.{forges_one, strings_in, is_same_body, do_clash, strings_shown, clash_with, shows_forgery, forges_some}
unfoldable pub use Rattle.world_rules.specs.Exhibits.{openings_of, seen, strings_of, has_clash, is_forged, collides, coin_of, all_strings, first_clash, first_forgery, exhibit_of}
pub use Rattle.world_rules.specs.World.{Node, World, Wallet, wallet_of, is_wallet_role, is_operator_role, number_of, owner_of_node, bytes_of, is_watcher_role, Role, Watcher, Operator, call_of, padded, owner_named, is_named}
pub use Rattle.world_rules.specs.Deeds.{Deed, as_deed}
pub use Rattle.world_rules.specs.Orders.{node_does, wallet_order}
unfoldable pub use Rattle.world_rules.specs.Orders.{order_of}
pub use Rattle.world_rules.specs.OrderEvents.{bundle_read}
unfoldable pub use Rattle.world_rules.specs.OrderEvents.{event_of}
pub use Rattle.world_rules.specs.Evidence.{has_order, IsActIn, MayOrder, IsOfChain, IsThere, is_plain, IsFrom}
pub use Rattle.world_rules.specs.Steps.{TraceEntry, entry_of, Run, LineEffect, with_mail, step, without_offers, new_node, offer_numbered, event_of_call, with_records, after_crash, new_chain, operator_node, no_lines, step_run, with_line, after_command}
unfoldable pub use Rattle.world_rules.specs.Steps.{events_of, run_of}
pub use Rattle.world_rules.specs.Acts.{Act, Place as NodePlace, Cut, Rests, Orders, End, Whole, Crashed, Kept, Lost, end_of, end_effect, deed_at, Place, order_act, NewWallet, Adds, Enters, event_after, NewWatcher, NewRogue, Origin, Plain, Deposits, Raw, Offered, Crashes, callers_after, node_after, Offered as OnOffer, Signs}
unfoldable pub use Rattle.world_rules.specs.Acts.{act_of, done}
pub use Rattle.world_rules.specs.Safety.{was_deposited, meets_deadline, offers_none, is_watch, is_joined, needs_guardian, goes_unattended, is_mine, is_own, finish_harms, harms, is_harmed, holds_with, is_met, meets_challenge}
unfoldable pub use Rattle.world_rules.specs.Safety.{holds, is_quiet, is_guarded, is_attended, call_harms, is_safe}
pub use Rattle.world_rules.specs.Laws.{AreKept, IsDigest, IsCommandIn, IsOfHeld, GrowsAtMost}
pub use Rattle.world_rules.specs.declared.verdict.Exhibit.{Exhibit}
pub use Rattle.world_rules.specs.Declarations.{is_wallet_account, is_declared_account, is_caller, may_be_wallet}
pub use Rattle.world_rules.specs.Verdicts.{is_finish_paid, pays_own, pays_other, ends_own, takes_from, verdict_of, GivenOut, wallet_of_line, leaf_sent, given_by, lost_or, is_others}
unfoldable pub use Rattle.world_rules.specs.Verdicts.{before_taking, exit_was_paid, verdict_at, first_unattended, exhibit_of_run, held_tip, ever_held, given_out}
pub use Rattle.world_rules.specs.declared.verdict.VerdictKind.{VerdictKind}
pub use Rattle.world_rules.proofs.OrderEnds.{OrderEnds, Accepting, wallet_told, order-ends, Binding, TakingBack, Leaving, Watching, GuardWatching, Sealing, watcher_told, Leaving as LeavingEnds, Guarding, each-answer}
pub use Rattle.world_rules.proofs.Said.{Said, told, is_said_of, said-other}
unfoldable pub use Rattle.world_rules.proofs.Said.{said}
pub use Rattle.world_rules.proofs.WalletSends.{words, body-signed, sent-is}
pub use Rattle.world_rules.proofs.KeptWallet.{KeptWallet, state-me, with_note}
pub use Rattle.world_rules.proofs.KeptNode.{Feeds, IsFitOrder, wallet-alone, watcher-alone, IsGoodOwner}
pub use Rattle.world_rules.proofs.KeptRun.{run-kept}
pub use Rattle.world_rules.proofs.KeptWorld.{KeptWorld, world-feeds, few-blocks}
pub use Rattle.world_rules.proofs.Lives.{begun, HasCome, line_effect, good_runs_keep, stepped}
pub use Rattle.world_rules.proofs.Lines.{acts_are_known, IsActOf, is-act, steps_are_of_acts}
pub use Rattle.world_rules.proofs.Fitting.{IsFitAct, act-fits, IsFitNew}
pub use Rattle.world_rules.proofs.Told.{OperatorIsFirst, by-end, commands-others, said-others, rules-stay, order-told}
pub use Rattle.world_rules.proofs.HeldSame.{are_kept}
pub use Rattle.world_rules.proofs.Lookups.{IsFound, understood-in, understood}
pub use Rattle.world_rules.proofs.Runs.{push-same, push-other, set-same, set-other}
pub use Rattle.world_rules.proofs.Nodes.{change_of, EachNode, IsOther, IsKeptOwn, each_node_keeps, IfThere, node-there, others-there}
pub use Rattle.world_rules.proofs.RunLaws.{logs_are_of_events}
pub use Rattle.world_rules.proofs.VerdictLaws.{coin_at-positive, verdicts_are_of_held_coins}
pub use Rattle.world_rules.proofs.HeldTips.{accepted-stay, deposited-stays, coin-stays}
pub use Rattle.world_rules.proofs.Existence.{position-is, position-parts}
pub use Rattle.world_rules.proofs.NodeLaws.{NodesGrow, records_grow}
pub use Rattle.world_laws.specs.Legal.{LegalReclaim, is_tip, IsAtTop, ShowsTip, Bare, deposits_by, starts_by, Taken, ShowsGuard, IsGuarding, is_left, LegalDeclaration, IsLegalEvent, LegalAccept, LegalBinding, LegalGuard, LegalWatch, LegalLeave, LegalCall}
unfoldable pub use Rattle.world_laws.specs.Legal.{IsLegal, left_by}
pub use Rattle.world_laws.specs.Headline.{IsRun, lacks_bond, is_start, HeldCoinsAreSafe, OneWalletHolds, DueCallsAreTaken, HarmsAreTakings, LostIsExhibited, StartsAreTaken, IsTaken, GivenOutIsBound, LeavesSignOneMessage, starter, IsTakenAt, AttendedIsNoneUnattended, ExhibitsAreShown}
pub use Rattle.world_laws.specs.Looked.{is_on_exit, is_on_coin, fulfils, are_fulfilled, is_guardian, goes_unseen, AttendedCoinsAreLookedAfter, is_before, exit_has_look, challenge_has_look, passes_unseen, is_exited, LookedAfterCoinsAreSafe, LookingOftenIsEnough, is_taken_kind, WentUnseen, TakenCoinsWentUnseen}
unfoldable pub use Rattle.world_laws.specs.Looked.{has_look, is_looked_after, has_recent_look, is_looked_often}
pub use Rattle.world_laws.specs.Bundles.{IsTakenBundle, IsHonestSoFar, WasBundled, HonestBundlesAreTaken, is_barred, lays, is_commit}
unfoldable pub use Rattle.world_laws.specs.Bundles.{CommitsOnce, commits_since}
pub use Rattle.world_laws.specs.LegalLaws.{LegalDueCallsAreTaken, OneWalletHoldsLegally, LegalCoinsAreSafe, LegalStartsAreTaken, LegalLostIsExhibited}
unfoldable pub use Rattle.world_laws.specs.LegalLaws.{fresh_offers, was_declared_before}
pub use Rattle.world_laws.specs.Invariant.{IsWatched, AllWatched, IfOf, ExitsAreWatched, HoldersBeginWithNoExit, LinesKeepExitsWatched, WatchedExitsDoNoHarm, HeldCoinsAreWatched}
