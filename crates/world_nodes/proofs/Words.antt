-- Names that many files beside this one use: lists and numbers, disks and orders, and the nodes of a world.
pub use Rattle.std.proofs.Common.{◌≡◌, ◌⊎◌, ◌-◌, [], ℕ, min, Bool, true, false, cond, nat_lt, List, Option, Some, None, inl, inr, refl, sym, ◌∙◌, ap, subst, arith, rules, ◌∷◌, ◌++◌, not, length, length-append, ◌<◌, ◌≤◌, Result, Ok, Err, ◌^◌, ◌+◌, zero, suc, if◌then◌else◌, w32, nat_le}
pub use Rattle.std.specs.Prelude.{◌&&◌, ◌||◌}
pub use Rattle.std.proofs.lemmas.Bool.{false≢true, true≢false, ltb-true}
pub use Rattle.std.proofs.lemmas.Grind.{common_steps}
pub use Rattle.std.specs.Option.{ForSome, option_map, option_map_or, is_some, IfSome, option_or, unwrap_or}
pub use Rattle.std.specs.List.{slice_get, All, AllByRecursion}
pub use Rattle.std.specs.Result.{result_ok, OnOk, IfOk}
pub use Rattle.std.proofs.lemmas.Bool.Decides.{nat_tests}
pub use Rattle.crash_disk.specs.Disk.{content, passing, History, MayLeave, FaultPlan, Step, asks_length, with_call, is_spent, fails_first}
unfoldable pub use Rattle.crash_disk.specs.Disk.{after_calls}
pub use Rattle.crash_disk.specs.Memory.{MemState, with_fuse, plan_of}
pub use Rattle.crash_disk.proofs.Plans.{fuse-after_calls, passing-fuse, passing-no_fuse, passing-by_fuse, listed-after_calls, none_listed}
pub use Rattle.node_journal.specs.Begin.{init_steps, journal_steps, InitsOver, Inits, IsAsked, BeginsPair, is_taken, IsNotTold, RefusesPair}
pub use Rattle.gate_journal.specs.declared.refusal.InitRefusal.{InitRefusal}
pub use Rattle.world_nodes.specs.Inside.{IsBegun as IsLeft, mem_told, mem_plan, mem_faults, NoneListed, Half, Halves, kept_of, kept_half, crashed, NoneListedOf, leaves_of, down_kind, down_halves, with_disks, up_kind, up_halves, taken_down, Opens, UpDid, IsDownOf, stop_in, member_kind, halves_of, view_in, IsOf, IsWhole, half_of, bare_node, up_hash, up_closed, RunsOn, IsCutShort, IsCutOpening, opening_gives, counts_of, kept_behind, end_in, is_up, view_of, HasNoFuse, HasJournal, OfDisks, NoFuses, HaveJournals, records_in, RefusesDown, MayOpen, IsToStop, IsThere, IsReady, IsEntry, IsDeclared, first_note, IsIdentityOf, no_half, IsWho, empty_disk, IsBegun, AreBegun, notes_told, leaves_told}
pub use Rattle.crash_disk.specs.Outcomes.{HasPattern, image_after}
pub use Rattle.crash_disk.specs.declared.outcome.Outcome.{Outcome}
pub use Rattle.gate_journal.specs.Journal.{RefusesOpen, Keeps, IsSettled}
pub use Rattle.node_journal.specs.Notes.{NotesState, Did, Opened}
pub use Rattle.node_journal.specs.Role.{role_in, Kinds, are_of, read_of_kinds}
pub use Rattle.gate_journal.specs.declared.refusal.JournalRefusal.TheVariants.{DeviceFault as JournalFault, NoMemory as JournalNoMemory}
pub use Rattle.leaf_journal.specs.Records.{leaf_records_in_of, leaf_records_of, leaf_records_read_of}
unfoldable pub use Rattle.leaf_journal.specs.Records.{records_behind_of}
pub use Rattle.plasma_tx.specs.declared.call.RootCall.{RootCall}
pub use Rattle.node_rules.specs.WalletRecords.{wallet_kinds, is_body, leaves_in, are_bound_notes, identity_text, secret_of, identity_in}
unfoldable pub use Rattle.node_rules.specs.WalletRecords.{notes_of, who_is, owner_of}
pub use Rattle.node_rules.specs.Watcher.{watcher_kinds, WatcherIdentity, identity_text as watcher_text}
pub use Rattle.node_rules.specs.WalletOpening.{leaves_of as key_leaves}
unfoldable pub use Rattle.node_rules.specs.WalletOpening.{is_wallet}
pub use Rattle.operator_rules.specs.Records.{operator_kinds, Identity, identity_text as operator_text}
pub use Rattle.wallet_node.specs.State.{WalletState, notes_part, leaves_part}
pub use Rattle.world_rules.specs.World.{Role, Node, is_wallet_role, wallet_of, owner_of_node}
pub use Rattle.node_replies.specs.Orders.{Doing, adds_record, with_record}
pub use Rattle.node_replies.specs.declared.given.Given.{Given}
pub use Rattle.node_deeds.specs.WalletOrders.{DidEither}
pub use Rattle.node_replies.specs.declared.order.NodeOrder.{NodeOrder}
pub use Rattle.node_replies.specs.declared.order.NodeOrder.TheVariants.{Open, Wallet as WalletOrdered, Watcher as WatcherOrdered, Operator as OperatorOrdered}
pub use Rattle.world_nodes.specs.declared.down.DownNode.{DownNode}
pub use Rattle.world_nodes.specs.declared.down.DownNode.TheVariants.{Wallet as WalletDown, Watcher as WatcherDown, Operator as OperatorDown, Wallet}
pub use Rattle.world_nodes.specs.declared.up.UpNode.{UpNode}
pub use Rattle.world_nodes.specs.declared.up.UpNode.TheVariants.{Wallet as WalletUp, Watcher as WatcherUp, Operator as OperatorUp}
pub use Rattle.world_nodes.specs.Orders.{fits, is_opening_order, IsFit}
pub use Rattle.world_nodes.specs.Nodes.{EachKeeps, Crashes, crashed_disk, role_of, Spells, with_append, with_opening, IsDone, with_records, NodeView, AreOf, IsOfRole, with_beginning, begun_alone, begun_beside_leaves, begun_leaves, DiskBegan, DisksBegan}
pub use Rattle.world_nodes.specs.Cuts.{is_kept, DisksCrash, Ends, Cuts, with_cut_append, with_cut_opening}
pub use Rattle.crash_disk.specs.Calls.{failed_after, after_course, with_made, WhereTold}
pub use Rattle.gate_journal.specs.Steps.{open_steps, append_steps}
pub use Rattle.crash_disk.proofs.Left.{content_may_be_left, fresh_disk_leaves_itself}
pub use Rattle.gate_journal.specs.Laws.{is_added}
pub use Rattle.node_journal.specs.declared.stop.Stop.{Stop}
pub use Rattle.world_rules.specs.Steps.{after_crash, new_node}
pub use Rattle.world_nodes.specs.declared.entry.Site.{Site}
pub use Rattle.world_nodes.specs.declared.entry.Site.TheVariants.{Down, Up, Gone}
pub use Rattle.world_nodes.specs.declared.entry.Member.{Member}
pub use Rattle.lms_sign.specs.Tree.{public_key_of}
pub use Rattle.plasma_tx.specs.declared.owner.Owner.{Owner}
pub use Rattle.node_rules.specs.declared.identity.WalletIdentity.{WalletIdentity}
pub use Rattle.node_replies.specs.Given.{IsGiven}
pub use Rattle.world_nodes.specs.declared.order.CutEnd.{CutEnd}
pub use Rattle.world_nodes.specs.declared.order.CutEnd.TheVariants.{Down as CutDown, Stopped as CutStopped, Done as CutDone}
pub use Rattle.world_nodes.specs.declared.kept.Counts.{Counts}
pub use Rattle.world_rules.specs.Orders.{node_does}
pub use Rattle.gate_journal.specs.Image.{journal_in, mark, spelled, spelled_record, spelled_records, kept_records, most}
pub use Rattle.node_journal.specs.declared.stop.Stop.TheVariants.{Closed, NoMemory, DeviceFault}
pub use Rattle.plasma_tx.specs.Spelling.{AreBytes}
pub use Rattle.node_rules.specs.WalletCommandLaws.{FitWords}
pub use Rattle.node_rules.proofs.WalletTexts.{identity_in-text}
pub use Rattle.node_deeds.proofs.WalletOrderLaws.{orders_add_one_record, orders_keep_the_role as wallet_orders_keep}
pub use Rattle.node_deeds.proofs.WatcherOrderLaws.{orders_add_no_leaf as watchers_add_no_leaf, orders_keep_the_role as watcher_orders_keep}
pub use Rattle.node_deeds.proofs.OperatorOrderLaws.{orders_add_no_leaf as operators_add_no_leaf, orders_keep_the_role as operator_orders_keep}
pub use Rattle.node_replies.specs.declared.reply.Reply.{Reply}
