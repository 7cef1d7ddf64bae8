use Rattle.std.proofs.Common.{◌≡◌, ◌<◌, ◌+◌, ◌-◌, [], ◌∙◌, ap, slice_index_or, sym, arith}
use Rattle.sparse_merkle.specs.Opening.{hashed_string}
use Rattle.sparse_merkle.specs.TreeDigest.{leaf_string}
use Rattle.sparse_merkle.proofs.OpeningLaws.{hashed_string-zero, hashed_string-step}
use Rattle.trace_exhibits.proofs.way.string_at.Goals as goal

pub returns-then-level-eq0-clause-bytes : goal.returns-then-level-eq0-clause-bytes
returns-then-level-eq0-clause-bytes g c met leaf =
    let dig = g.H.Hash32.digest_of c.args.h.now in
    let way = c.args.way.now in
    let e : c.args.level ≡ 0 = omega arith in
    ap leaf_string leaf ∙ sym (hashed_string-zero dig way.coin way.leaf.now way.path)
    ∙ ap (hashed_string dig way.coin way.leaf.now way.path) (sym e)

pub returns-clause-bytes : goal.returns-clause-bytes
returns-clause-bytes g c met leaf =
    let way = c.args.way.now in
    let below = c.args.level - 1 in
    let up : below + 1 ≡ c.args.level = omega arith in
    let less : below < 65 = omega arith in
    rw up at (hashed_string-step (g.H.Hash32.digest_of c.args.h.now) way.coin way.leaf.now way.path below
    (slice_index_or way.digests below []) c.parent_bytes.result c.bit.result (c.requires.digests below less)
    c.bit.ensures c.parent_bytes.ensures)
