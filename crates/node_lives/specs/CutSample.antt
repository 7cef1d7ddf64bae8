-- A small life of a wallet with a cut: power is lost as the gate of a record is written. The record is lost, or it is
-- kept, and the next run finds which. So the laws of lives with cuts don't hold for want of one.
use Rattle.std.specs.Prelude.{ℕ, List, [], ◌∷◌, ◌++◌, codes}
use Rattle.node_replies.specs.Roles.{Wallet}
use Rattle.run_endings.specs.{Texts.{refused_text}, declared.status.Status.TheVariants.{Done, Refused, WriteFault}}
use Rattle.node_lives.specs.{Calls.{BothDisks, ToBegin, ToRun}, Cuts.{Cut, Ended, CutOff, IsLifeWithCuts}, Samples.{told, foretold, met, identity, DriveCall, Went}}

-- Under a digest: the cut run answered no command and wrote nothing. Behind it the same command is done once more,
-- where the crash took its record, and refused, where the crash left it.
pub record SmallLifeWithCut (dig : List ℕ → List ℕ) : Type 0 where
  pub begun : DriveCall dig
  pub cut : Cut told foretold met dig
  pub answered : DriveCall dig
  pub refused : DriveCall dig
  pub lost : IsLifeWithCuts told foretold met dig (Ended answered ∷ CutOff cut ∷ Ended begun ∷ [])
  pub kept : IsLifeWithCuts told foretold met dig (Ended refused ∷ CutOff cut ∷ Ended begun ∷ [])
  pub begun_is : Went dig (ToBegin BothDisks identity) Done (codes "made" ++ 10 ∷ []) begun
  pub cut_is : Went dig (ToRun Wallet) WriteFault [] cut.call
  pub answered_is : Went dig (ToRun Wallet) Done (codes "migrated" ++ 10 ∷ []) answered
  pub refused_is : Went dig (ToRun Wallet) Refused (refused_text (codes "already-new")) refused
