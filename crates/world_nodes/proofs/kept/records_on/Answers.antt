use Rattle.world_nodes.proofs.Words.{◌∙◌, ap, content, MemState}
use Rattle.world_nodes.proofs.Ready.{copy-opens}
use Rattle.world_nodes.proofs.kept.records_on.Goals as goal

pub no_memory-requires : goal.no_memory-requires
no_memory-requires c =
    copy-opens c.args.disk.now c.make-copy.result c.in-Err.returned.disk c.in-Err.returned.why c.requires
    (ap (λ (d : MemState). content d.history) c.make-copy.ensures
    ∙ (c.in_ok-to_vec.ensures.items_if_clones_equal (λ x y e. e) ∙ c.bytes.ensures))
    (ap (λ (d : MemState). d.fails) c.make-copy.ensures ∙ c.new.ensures.items)
    (ap (λ (d : MemState). d.fuse) c.make-copy.ensures) c.in-Err.ensures.refused
