-- What the files beside this one say of the world: lines and acts, events, the trace, and the words of the promise.
pub use Rattle.line_forms.specs.declared.tokens.OutcomeToken.{OutcomeToken}
pub use Rattle.line_forms.specs.declared.tokens.HexOrName.{HexOrName}
pub use Rattle.line_forms.specs.declared.tokens.TheConstants.{OWNER_BYTES}
pub use Rattle.line_forms.specs.Tokens.{IsHexOrName, IsHexOrItem}
pub use Rattle.line_forms.proofs.FormLaws.{option_map_some, and_then_some}
pub use Rattle.schedule_text.specs.declared.line.Line.{Line}
pub use Rattle.schedule_text.specs.declared.command.Command.{Command}
pub use Rattle.schedule_text.specs.Grammar.{node_of, IsLine}
pub use Rattle.schedule_text.specs.declared.command.WalletCommand.{WalletCommand}
pub use Rattle.world_rules.specs.Events.{Other, Event, is_taken, signed_away_by, is_sent_from, is_bundle, Declares, Joins, Accepts, Idle, Guards, Releases, Bounces, is_command_of, offered, Binds, TakesBack, Watches, Leaves, Seals, node_in}
unfoldable pub use Rattle.world_rules.specs.Events.{log_of, wallet_owner, accepted, not_taken, offers_of, bound_by, taken_back, guarded_by}
pub use Rattle.world_rules.specs.World.{Role, Node, World, with_node, any_role, number_of, wallet_of, Rogue, owner_of_node, owner_of_rogue, is_named, is_wallet_role, rogue_named, owner_named, new_owner_of, Wallet, is_watcher_role, is_operator_role, bytes_of, padded, Watcher, call_of}
pub use Rattle.world_rules.specs.Declarations.{plays, types_or_first, is_declared, has_declared_names, has_leaf_number, declared_wallet, is_wallet_account, keeps_rules_in, is_sendable, is_new_name}
unfoldable pub use Rattle.world_rules.specs.Declarations.{keeps_rules}
pub use Rattle.world_rules.specs.Deeds.{Deed, adds_record, as_deed}
unfoldable pub use Rattle.world_rules.specs.Deeds.{deed_of}
pub use Rattle.world_rules.specs.Orders.{wallet_order, node_does, on_open}
unfoldable pub use Rattle.world_rules.specs.Orders.{order_of}
pub use Rattle.world_rules.specs.Steps.{LineEffect, says, without_offers, with_records, after_crash, with_mail, stopped, finished, cut, is_stopped, is_opening, answers_down, outcome_of, act_at, act_on, command_effect, cut_effect, down, crashed, new_chain, operator_node, Run, new_node, deposit_by, offer_numbered, entered, signed_body, new_world, TraceEntry, entry_of, no_lines, with_line, step_run, called}
unfoldable pub use Rattle.world_rules.specs.Steps.{step, effect_in, run_of, events_of, effect_of}
pub use Rattle.world_rules.specs.Laws.{CrashesLeaveTheRecords, IsCommandIn, StaysDown, DownNodesStay, IsCutTo, CutsKeepAsAppendsDo, CutOpeningsLeaveTheRecords, AreKept, IsDigest, WalletsKeepWhatEventsSay, WatchersKeepWhatEventsSay, LinesThatKeepTheRulesStep, GrowsByOne, GrowsAtMost, ChangesOneNode, DeclaresOneNode, RecordsGrow, OffersAreOfEvents, DownNodesOfferNothing, LogsAreOfEvents, ItemsAreMade, LeavesTheLog, AppendsOneCall, StepsKeepTheLog, is_on, HeldCoinsHaveOneVerdict, IsOfHeld, VerdictsAreOfHeldCoins}
pub use Rattle.world_rules.specs.Acts.{Newcomer, NewWallet, NewWatcher, NewRogue, Act, Signs, Adds, Orders, Place, Crashes, End, end_of, node_after, deed_at, Deposits, Raw, Cut, Rests, Enters, only_where, place_named, opens, is_down_for, order_act, command_act, offer_act, Crashed, Kept, Lost, needs_more, end_effect, Whole, event_after, callers_after}
unfoldable pub use Rattle.world_rules.specs.Acts.{act_of, done}
pub use Rattle.world_rules.specs.OrderEvents.{bundle_read}
unfoldable pub use Rattle.world_rules.specs.OrderEvents.{event_of}
pub use Rattle.world_rules.specs.Safety.{was_deposited, holds_with}
unfoldable pub use Rattle.world_rules.specs.Safety.{holds}
pub use Rattle.world_rules.specs.Verdicts.{own_deposit_of, possible_tips, Named, verdict_at, verdict_of, verdicts_on}
unfoldable pub use Rattle.world_rules.specs.Verdicts.{ever_held, held_tip, wallets_from, verdicts_in, verdicts_of}
pub use Rattle.world_rules.specs.Evidence.{IsOfChain, MayOrder, IsActIn, IsThere, has_order}
pub use Rattle.world_rules.specs.declared.verdict.Verdict.{Verdict}
