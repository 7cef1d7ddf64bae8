use Rattle.std.proofs.Common.{◌∙◌}
use Rattle.world_maker.proofs.MadeLines.{word-is}
use Rattle.world_maker.proofs.round.word_of.Goals as goal

pub returns : goal.returns
returns c =
    c.from_be_bytes.ensures
    ∙ word-is c.args.seed c.args.number c.to_be_bytes.result c.to_be_bytes-2.result c.digest_two-digest.result
    c.to_be_bytes.ensures c.to_be_bytes-2.ensures c.digest_two-digest.ensures
