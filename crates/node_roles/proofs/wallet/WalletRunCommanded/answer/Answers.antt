use Rattle.std.proofs.Common.{ap, ◌∙◌}
use Rattle.node_rules.proofs.WalletGrow.{wallet-parts}
use Rattle.node_answers.specs.Answers.{wallet_outcome}
use Rattle.node_roles.specs.Roles.{wallet_parts, wallet_commands}
use Rattle.node_roles.proofs.NodeLaws.{done-at, stopped-at}
use Rattle.node_roles.proofs.WalletLaws.{wallet-goes, either-hash, either-tag}
use Rattle.node_roles.proofs.WalletRefusals.{wallet-quiet, wallet-adds-one, wallet-tag}
use Rattle.node_roles.proofs.wallet.WalletRunCommanded.answer.Goals as goal

pub returns-clause-said : goal.returns-clause-said
returns-clause-said g c =
    let old = c.args.self.now.node in
    let new = c.answer_wallet.new.node in
    let dig = g.H.Hash32.digest_of old.hash in
    λ at is.
    done-at g.D.Disk.told g.D.Disk.faults wallet_commands c.args.log.now.log c.args.command dig at (wallet_parts old)
    (wallet_parts new) is.0 is.1 _
    (wallet-goes g.D.Disk.told g.D.Disk.plan g.D.Disk.faults
    (wallet_outcome dig c.args.log.now.log old.records c.args.command)
    (wallet-adds-one dig c.args.log.now.log old.records c.args.command) at.kept old new is.1)
    c.answer_wallet.result c.answer_wallet.ensures.did _ _
    (λ left there. (
      ap g.H.Hash32.digest_of
          (either-hash g.D.Disk.told g.D.Disk.plan g.D.Disk.faults _ _ old new c.answer_wallet.ensures.did.0
          c.answer_wallet.ensures.did.1)
          ∙ is.0,
      there,
    ))
    (wallet-quiet dig c.args.log.now.log old.records c.args.command) _ _ c.answer_wallet.ensures.said

pub returns-clause-stopped : goal.returns-clause-stopped
returns-clause-stopped g c =
    let old = c.args.self.now.node in
    let new = c.answer_wallet.new.node in
    let dig = g.H.Hash32.digest_of old.hash in
    λ at is.
    stopped-at g.D.Disk.told g.D.Disk.faults wallet_commands c.args.log.now.log c.args.command dig at (wallet_parts old)
    (wallet_parts new) is.0 is.1 _
    (wallet-goes g.D.Disk.told g.D.Disk.plan g.D.Disk.faults
    (wallet_outcome dig c.args.log.now.log old.records c.args.command)
    (wallet-adds-one dig c.args.log.now.log old.records c.args.command) at.kept old new is.1)
    c.answer_wallet.result c.answer_wallet.ensures.did

pub returns-clause-same_tag : goal.returns-clause-same_tag
returns-clause-same_tag g c =
    either-tag g.D.Disk.told g.D.Disk.plan g.D.Disk.faults _ _ c.args.self.now.node c.answer_wallet.new.node
    c.answer_wallet.ensures.did.0
    (wallet-tag (g.H.Hash32.digest_of c.args.self.now.node.hash) c.args.self.now.node.records.notes
    (wallet-parts (g.H.Hash32.digest_of c.args.self.now.node.hash) c.args.self.now.node.records
    c.is_whole.ensures.role).role)
    c.answer_wallet.ensures.did.1
