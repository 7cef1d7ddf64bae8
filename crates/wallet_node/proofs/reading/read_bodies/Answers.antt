use Rattle.std.proofs.Common.{ℕ, ◌++◌, ◌∷◌, [], List, ◌∙◌, ap, arith}
use Rattle.std.proofs.lemmas.List.{take_all, length-map}
use Rattle.plasma_tx.specs.Spelling.{body_at_start}
use Rattle.leaf_journal.specs.Records.{messages_of}
use Rattle.wallet_core.specs.declared.notes.LeafRecord.{LeafRecord}
use Rattle.node_rules.specs.WalletRecords.{leaves_in}
use Rattle.wallet_node.proofs.LeafBodies.{never-past, never-unread, leaf-more}
use Rattle.wallet_node.proofs.reading.read_bodies.Goals as goal

pub loop-q-init : goal.loop-q-init
loop-q-init g c = c.in_ok-bodies.ensures.items

pub unreachable-requires : goal.unreachable-requires
unreachable-requires g c =
    never-past (messages_of c.args.leaves.now.notes.records) c.loop-q.q c.used-used.result c.used-used.ensures.value
    c.loop-q-test.true c.in_default.ensures

pub unreachable-requires-in_default-body_of : goal.unreachable-requires-in_default-body_of
unreachable-requires-in_default-body_of g c =
    never-unread c.args.leaves.now.notes.records c.loop-q.q c.in-Some.message.now c.requires c.in-Some.ensures
    c.in_default-body_of.ensures

pub loop-q-preserved : goal.loop-q-preserved
loop-q-preserved g c =
    c.in_ok-push.ensures.items
    ∙ ap (λ (l : List LeafRecord). l ++ record { body = c.in-Some-body_of.body } ∷ []) c.loop-q.invariant
    ∙ leaf-more c.args.leaves.now.notes.records c.loop-q.q c.in-Some.message.now c.requires c.in-Some.ensures
    c.in-Some-body_of.body c.in-Some-body_of.ensures

pub returns : goal.returns
returns g c =
    let records = c.args.leaves.now.notes.records in
    let read : List ℕ → LeafRecord = λ message. record { body = body_at_start message } in
    c.loop-q.invariant ∙ take_all c.loop-q.q (leaves_in records)
    (omega (
      arith,
      c.loop-q-test.false,
      c.used-used.ensures.value,
      length-map (messages_of records) read,
    ))
