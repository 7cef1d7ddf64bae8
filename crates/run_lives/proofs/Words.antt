-- Names that the proofs of this crate share.
pub use Rattle.std.proofs.Common.{◌≡◌, ℕ, false, List, Option, Some, None, refl, ap, ◌∙◌, inl, inr, ◌<◌, ◌^◌, Bool, true, if◌then◌else◌, [], ◌∷◌, length, codes, option_map, subst}
pub use Rattle.crash_disk.specs.Disk.{History, FaultPlan}
pub use Rattle.node_runs.specs.Sessions.{Outside, RunsSession}
pub use Rattle.run_endings.specs.declared.status.Status.{Status}
pub use Rattle.run_lives.specs.Calls.{asked_of, RunsAreCalls, InitsAreOfTheirRoles}
pub use Rattle.run_words.specs.declared.form.Form.{Form}
pub use Rattle.run_words.specs.declared.form.Form.TheVariants.{Replay, Brief, Wallet, Operator, Watcher, InitWallet, InitOperator, InitWatcher, Make, Verify, HssInit, HssSign, HssVerify, Audit, Archive}
