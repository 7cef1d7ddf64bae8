use Rattle.std.proofs.Common.{ap, sym, ◌∙◌}
use Rattle.lms_sign.specs.Tree.{public_key_of}
use Rattle.operator_rules.specs.Records.{who_is}
use Rattle.node_answers.specs.Desks.{desk_records, secret_of}
use Rattle.node_journal.specs.Parts.{both}
use Rattle.node_roles.specs.Roles.{desk_commands}
use Rattle.node_roles.proofs.NodeLaws.{done-at, stopped-at}
use Rattle.node_roles.proofs.DeskLaws.{desk-goes, desk-open, each-keeps, stops-one}
use Rattle.node_roles.proofs.DeskRefusals.{desk-quiet, secret-stays}
use Rattle.node_roles.proofs.OperatorRefusals.{operator-tag}
use Rattle.node_roles.proofs.desk.DeskRunCommanded.answer.Goals as goal

pub returns-clause-said : goal.returns-clause-said
returns-clause-said g c =
    let old = c.args.self.now.keyed in
    let new = c.answer_keyed.new.keyed in
    λ at is.
    done-at g.D.Disk.told g.D.Disk.faults desk_commands c.args.log.now.log c.args.command
    (g.H.Hash32.digest_of old.node.hash) at (both old.node.notes old.desk.notes)
    (both new.node.notes new.desk.notes) is.0 is.1 _
    (desk-goes g.D.Disk.told g.D.Disk.plan g.D.Disk.faults _ at.kept old.node.notes old.desk.notes
    new.node.notes new.desk.notes is.1)
    c.answer_keyed.result c.answer_keyed.ensures.did _ _
    (λ left there. (ap g.H.Hash32.digest_of c.answer_keyed.ensures.digest_stays ∙ is.0, there))
    (desk-quiet (g.H.Hash32.digest_of old.node.hash) c.args.log.now.log
    (desk_records old.node.notes.records old.desk.notes.records) c.args.command)
    _ _ c.answer_keyed.ensures.said

pub returns-clause-stopped : goal.returns-clause-stopped
returns-clause-stopped g c =
    let old = c.args.self.now.keyed in
    let new = c.answer_keyed.new.keyed in
    λ at is.
    stops-one g.D.Disk.told g.D.Disk.plan g.D.Disk.faults _ _ _ old.node.notes old.desk.notes new.node.notes
    new.desk.notes c.answer_keyed.result c.requires.0 c.requires.1 c.answer_keyed.ensures.did
    (stopped-at g.D.Disk.told g.D.Disk.faults desk_commands c.args.log.now.log c.args.command
    (g.H.Hash32.digest_of old.node.hash) at (both old.node.notes old.desk.notes)
    (both new.node.notes new.desk.notes) is.0 is.1 _
    (desk-goes g.D.Disk.told g.D.Disk.plan g.D.Disk.faults _ at.kept old.node.notes old.desk.notes
    new.node.notes new.desk.notes is.1)
    c.answer_keyed.result c.answer_keyed.ensures.did)

pub returns-clause-open : goal.returns-clause-open
returns-clause-open g c =
    let old = c.args.self.now.keyed in
    let new = c.answer_keyed.new.keyed in
    let stays = c.answer_keyed.ensures in
    desk-open g.D.Disk.told g.D.Disk.plan g.D.Disk.faults _ _ old.node.notes old.desk.notes new.node.notes
    new.desk.notes c.answer_keyed.result stays.did
    (λ notes_open leaves_open. (
      notes_open,
      leaves_open,
      stays.key_stays ∙ c.requires.2
          ∙ sym (each-keeps g.D.Disk.told g.D.Disk.plan g.D.Disk.faults secret_of _ _ old.node.notes old.desk.notes
          new.node.notes new.desk.notes stays.did.0
          (secret-stays old.node.notes.records c.is_whole.ensures.role) stays.did.1),
      ap public_key_of stays.key_stays ∙ c.requires.3 ∙ sym stays.desk_stays,
      stays.hash_stays ∙ c.requires.4 ∙ sym stays.digest_stays,
    ))

pub returns-clause-same_tag : goal.returns-clause-same_tag
returns-clause-same_tag g c =
    let old = c.args.self.now.keyed in
    let new = c.answer_keyed.new.keyed in
    each-keeps g.D.Disk.told g.D.Disk.plan g.D.Disk.faults (λ records. (who_is records).tag) _ _ old.node.notes
    old.desk.notes new.node.notes new.desk.notes c.answer_keyed.ensures.did.0
    (operator-tag old.node.notes.records c.is_whole.ensures.role) c.answer_keyed.ensures.did.1
