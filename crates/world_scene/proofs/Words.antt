-- Names that the proofs of this crate share.
pub use Rattle.std.proofs.Common.{◌≡◌, refl, sym, ap, ◌∙◌, ℕ, ◌+◌, if◌then◌else◌, Bool, not, cond, ◌&&◌, ◌||◌, List, [], ◌∷◌, map, filter, length, reverse, find, ◌==◌, Option, Some, None, arith, suc, ◌<◌, true, false, nat_lt, ◌++◌, take, get_or, subst, zero, set, slice_set, slice_index_or, inl, inr, ⊎_elim}
pub use Rattle.std.proofs.Math.Seq.{take-append_seam, map-set_same}
pub use Rattle.std.proofs.lemmas.Bool.{and_parts, false≢true, ltb-true, ltb-false}
pub use Rattle.std.proofs.lemmas.List.{length-map, take_more, map-set, map-append, reverse-append}
pub use Rattle.std.proofs.lemmas.List.Elements.{All-set, filter-append}
pub use Rattle.std.proofs.lemmas.List.Folds.{list_any-append, find_at, list_any-from_Any}
pub use Rattle.std.proofs.lemmas.Option.{same_Some, slice_get-map, get_or_from_slice_get, slice_get_within, slice_get-get_or, none-some, slice_get_past, slice_get_read}
pub use Rattle.std.proofs.lemmas.Slice.Eq.{bytes_eq-Decides}
pub use Rattle.std.specs.List.{list_any, count_by, position, prefix_len, position_or_len, All}
pub use Rattle.std.specs.Prelude.{option_map, IfSome, is_some, slice_get, option_and_then, MatchBool, ◌⊎◌, Vec}
pub use Rattle.std.specs.Str.{bytes_eq}
pub use Rattle.crash_disk.specs.declared.outcome.Outcome.{Outcome}
pub use Rattle.line_forms.specs.declared.tokens.OutcomeToken.{OutcomeToken}
pub use Rattle.node_replies.specs.Orders.{Doing}
pub use Rattle.node_replies.specs.declared.given.Given.{Given}
pub use Rattle.node_replies.specs.declared.order.NodeOrder.{NodeOrder}
pub use Rattle.node_replies.specs.declared.order.WalletOrder.{WalletOrder}
pub use Rattle.node_replies.specs.declared.reply.Reply.{Reply}
pub use Rattle.node_rules.specs.WalletRecords.{who_is, owner_of}
pub use Rattle.plasma_tx.specs.Chain.{Chain, with_log}
pub use Rattle.plasma_tx.specs.Shown.{tests_by, rules_of}
pub use Rattle.plasma_tx.specs.declared.call.RootCall.{RootCall}
pub use Rattle.plasma_tx.specs.declared.owner.Owner.{Owner}
pub use Rattle.schedule_text.specs.Grammar.{node_of}
pub use Rattle.schedule_text.specs.declared.command.Command.{Command}
pub use Rattle.schedule_text.specs.declared.line.Line.{Line}
pub use Rattle.world_nodes.specs.Cuts.{Cuts, is_stopped, Ends, IsStopped, IsFinished}
pub use Rattle.world_nodes.specs.Nodes.{NodeView, answers_down, after_order, Runs, IsDown, IsDone, Spells, Crashes, new_watcher, Declared, declared_as}
pub use Rattle.world_nodes.specs.Orders.{fits, is_opening_order}
pub use Rattle.world_nodes.specs.declared.order.CutEnd.{CutEnd}
pub use Rattle.world_rules.proofs.Existence.{position-is, position-parts}
pub use Rattle.world_rules.specs.Declarations.{wallet_nodes, is_wallet_account, is_wallet_key, is_wallet_seed, is_declared_account, is_declared, plays, is_sendable, has_declared_names, may_command, may_be_wallet, may_be_other, is_used, is_new_name, is_caller}
pub use Rattle.world_rules.specs.Deeds.{as_deed, Deed, adds_record}
unfoldable pub use Rattle.world_rules.specs.Deeds.{deed_of}
pub use Rattle.world_rules.specs.Events.{Joins, Bounces, Event, Other}
pub use Rattle.world_rules.specs.Orders.{wallet_order, watcher_order, operator_order, node_does, watch_order}
unfoldable pub use Rattle.world_rules.specs.Orders.{order_of}
pub use Rattle.world_rules.specs.Steps.{LineEffect, act_at, act_on, command_effect, commanded, down, is_opening, answers_down as is_down, crashed, entered, offer_numbered, with_new_node, declares_watcher, operator_node, new_world, called, reply_to, says, without_offers, cut_effect, cut, stopped, finished, is_stopped as is_cut_short, outcome_of, with_records, after_crash}
unfoldable pub use Rattle.world_rules.specs.Steps.{effect_in}
pub use Rattle.world_rules.specs.World.{owner_of_node, owner_of_rogue, owner_named, is_named, is_wallet_role, number_of, Role, Wallet, Watcher, Operator, Node, World, is_watcher_role, is_operator_role, does_watch, new_owner_of, with_node, any_role, Rogue, rogue_named}
pub use Rattle.world_scene.specs.Events.{TellsEffect, Tells, TellsInRuns, HasWallets, EndTells}
pub use Rattle.world_scene.specs.Names.{passes, is_named_view, is_named_rogue, owner_in_view, is_wallet_view, is_wallet_with, has_wallet_key, has_wallet_seed, is_view_with, is_rogue_with, is_same_account}
pub use Rattle.world_scene.specs.Orders.{OrderAt}
pub use Rattle.world_scene.specs.Places.{key_cmp, place_in, PutsPlace, FindsEach}
pub use Rattle.world_scene.specs.Scenes.{SceneState, world_of, node_in, Shown, shown_of, shows}
pub use Rattle.world_scene.specs.Steps.{shown_by, with_nodes, AllHash, RunsAt, CrashesAt, FitsAt, OfferAt, CutsAt, may_begin, NodesStay, NodesGrow, AllSpell, answered, shown_at_end}
pub use Rattle.world_scene.specs.declared.names.Roles.{Roles}
pub use Rattle.world_scene.specs.declared.places.Places.{Places}
pub use Rattle.world_trace.specs.Events.{IsEvent, event_of_call}
pub use Rattle.world_trace.specs.Orders.{TellsGiven, HasRecords, event_stopped}
pub use Rattle.world_trace.specs.declared.event.LineEvent.{LineEvent}
