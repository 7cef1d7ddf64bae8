-- Names that the proofs of this crate share.
pub use Rattle.std.proofs.Common.{◌≡◌, ℕ, suc, ◌+◌, List, [], ◌∷◌, length, map, reverse, Option, Some, None, inl, inr, refl, sym, ap, ◌∙◌, subst, arith, zero, true, false, ◌^◌, ◌<◌, ◌≤◌, Bool, nat_lt, if◌then◌else◌, ◌++◌, ◌-◌, cond, set, slice_get}
pub use Rattle.std.proofs.lemmas.Bool.{false≢true, lt-ltb, le-ltb}
pub use Rattle.std.proofs.lemmas.List.{length-reverse, map-append, append-nil}
pub use Rattle.std.proofs.lemmas.List.Elements.{All-head, All-tail, All-nil, All-cons}
pub use Rattle.std.proofs.lemmas.List.Sums.{sum_by-append, sum_by-cons, count_by-le-length}
pub use Rattle.std.specs.List.{count_by, All, flat_map}
pub use Rattle.std.specs.Option.{option_map_or}
pub use Rattle.std.specs.Prelude.{sum_by, option_map, Result, Vec, IfOk, option_and_then, min}
pub use Rattle.coin_verdicts.specs.Wallets.{named_of}
pub use Rattle.line_forms.proofs.FormLaws.{option_map_some}
pub use Rattle.node_rules.specs.WalletRecords.{identity_text as wallet_text}
unfoldable pub use Rattle.node_rules.specs.WalletRecords.{owner_of}
pub use Rattle.plasma_tx.proofs.Names.{some_same}
pub use Rattle.plasma_tx.specs.Chain.{Chain}
pub use Rattle.plasma_tx.specs.Shown.{Tests, Rules, tests_by, rules_of}
pub use Rattle.plasma_tx.specs.Table.{answer_to, is_accepted}
unfoldable pub use Rattle.plasma_tx.specs.Table.{IsLegal}
pub use Rattle.plasma_tx.specs.declared.call.RootCall.{RootCall}
pub use Rattle.schedule_text.specs.Grammar.{IsLine}
pub use Rattle.schedule_text.specs.declared.line.Line.{Line}
pub use Rattle.world_core.specs.Counting.{verdict_counts, with_log, with_answer}
pub use Rattle.world_core.specs.Lines.{MovesIn, name_in, IsStep, WouldFill}
pub use Rattle.world_core.specs.Taking.{shows_in, TellsLine, Takes, scene_with, with_item}
pub use Rattle.world_core.specs.Worlds.{RunningState, IsAfter, MadeBytes, NodesSpell, world_in, TellsIn, wallets_in, before_all}
pub use Rattle.world_rules.proofs.KeptFrame.{first-frame, frame-kept, frame-item, joined-wallet, HasFrame, few-in, frame-feeds}
pub use Rattle.world_rules.proofs.KeptWallet.{wallet-longer, KeptWallet}
pub use Rattle.world_rules.proofs.Lines.{order-at, IsActOf, is-act, act-kept}
pub use Rattle.world_rules.proofs.NamedSteps.{run-kept, card-after}
pub use Rattle.world_rules.proofs.Nodes.{change_of, EachNode, IsKeptOwn, each_node_keeps, IfThere, node-there, others-there}
pub use Rattle.world_rules.proofs.RunLaws.{logs_are_of_events, items_are_made}
pub use Rattle.world_rules.proofs.Said.{told, nothing_said, Said}
pub use Rattle.world_rules.proofs.StepLaws.{steps_keep_the_log, act-log}
pub use Rattle.world_rules.specs.Acts.{NewWallet, NewWatcher, NewRogue, Act, Adds, Orders, Crashes, End, Lost, end_of, node_after, deed_at, Enters, callers_after}
unfoldable pub use Rattle.world_rules.specs.Acts.{done}
pub use Rattle.world_rules.specs.Declarations.{keeps_rules_in}
unfoldable pub use Rattle.world_rules.specs.Declarations.{keeps_rules}
pub use Rattle.world_rules.specs.Deeds.{Deed, as_deed}
pub use Rattle.world_rules.specs.Events.{Declares, Event, Joins, Bounces, Watches}
unfoldable pub use Rattle.world_rules.specs.Events.{log_of, wallets}
pub use Rattle.world_rules.specs.Steps.{LineEffect, mail_size, TraceEntry, entry_of, Run, with_records, new_chain, new_world, effect_in, with_mail, no_lines, with_line, step_run, new_node, declares_wallet, declares_watcher, called, after_crash}
unfoldable pub use Rattle.world_rules.specs.Steps.{step, run_of, events_of, effect_of, is_mail_full}
pub use Rattle.world_rules.specs.Verdicts.{is_refused, verdicts_on, Named}
unfoldable pub use Rattle.world_rules.specs.Verdicts.{verdicts_of, counts_of, wallets_from, verdicts_in, exhibit_of_run}
pub use Rattle.world_rules.specs.World.{World, Node, wallet_of, Wallet, Watcher, is_wallet_role}
pub use Rattle.world_rules.specs.declared.verdict.Verdict.{Verdict}
pub use Rattle.world_scene.specs.Events.{HasWallets, TellsInRuns, TellsEffect}
pub use Rattle.world_scene.specs.Scenes.{SceneState, shows, world_of, shown_of}
pub use Rattle.world_scene.specs.Steps.{answered, AllSpell}
pub use Rattle.world_scene.specs.declared.answer.LineAnswer.{LineAnswer}
pub use Rattle.world_trace.specs.Events.{IsEvent, IsJoin, IsWatch}
pub use Rattle.world_trace.specs.Read.{declared_by}
pub use Rattle.world_trace.specs.Traces.{TraceState, no_trace, Tells}
pub use Rattle.world_trace.specs.declared.event.LineEvent.{LineEvent}
