-- Names that the proofs of this crate share.
pub use Rattle.std.proofs.Common.{◌≡◌, ℕ, Bool, true, false, List, [], ◌++◌, Option, Ok, refl, subst, arith, Result, Err, OnOk, sym, ap, ◌∙◌, append_assoc}
pub use Rattle.std.proofs.lemmas.Grind.{common_steps}
pub use Rattle.std.specs.Prelude.{OnErr, ◌≢◌}
pub use Rattle.run_endings.specs.Outputs.{Output, EndsAs, Stops}
pub use Rattle.run_endings.specs.Statuses.{FaultsBy, status_of_refusal, IsDoneUnlessFailed}
pub use Rattle.run_endings.specs.declared.status.Status.{Status}
pub use Rattle.run_endings.specs.declared.status.Status.TheVariants.{DeviceFault, ReadFault, WriteFault, NoMemory}
pub use Rattle.streamed_lines.specs.Outside.{WroteFront, Wrote}
