use Rattle.std.proofs.Common.{◌≡◌, ◌+◌, ℕ, List, drop, sym, ap, ◌∙◌, subst}
use Rattle.sparse_merkle.specs.MaskedPath.{proof_path, masked_path_in}
use Rattle.plasma_tx.specs.declared.opening.RawOpening.{RawOpening}
use Rattle.plasma_tx.specs.Openings.{leaf_length, leaf_in}
use Rattle.world_rules.specs.Exhibits.{strings_up}
use Rattle.trace_exhibits.specs.Ways.{AreDigestsUp}
use Rattle.trace_exhibits.proofs.Paths.{is-read, not-ended}
use Rattle.trace_exhibits.proofs.way.way_of.Goals as goal

pub unreachable-requires : goal.unreachable-requires
unreachable-requires g c =
    let dig = g.H.Hash32.digest_of c.args.h.now in
    let raw = c.args.one.now.opening in
    let told = rw c.opening.ensures at (c.in-Ok.ensures.read (λ e. cc e)) in
    not-ended raw c.in-Ok.opening (is-read dig raw c.in-Ok.opening (sym told))
    (rw (c.as_slice-bytes.ensures, c.opening-in-Ok.ensures) at c.in_default.ensures)

pub path_in-path-requires-clause-long : goal.path_in-path-requires-clause-long
path_in-path-requires-clause-long g c =
    let dig = g.H.Hash32.digest_of c.args.h.now in
    let raw = c.args.one.now.opening in
    let told = rw c.opening.ensures at (c.in-Ok.ensures.read (λ e. cc e)) in
    let text : c.in-Some.text.now ≡ drop (4 + leaf_length raw.bytes) raw.bytes =
    rw (c.as_slice-bytes.ensures, c.opening-in-Ok.ensures) at c.in-Some.ensures in
    rw text (is-read dig raw c.in-Ok.opening (sym told)).long

pub returns-in-Some : goal.returns-in-Some
returns-in-Some g c =
    let dig = g.H.Hash32.digest_of c.args.h.now in
    let one = c.args.one.now in
    let raw = one.opening in
    let told = rw c.opening.ensures at (c.in-Ok.ensures.read (λ e. cc e)) in
    let read = is-read dig raw c.in-Ok.opening (sym told) in
    let text : c.in-Some.text.now ≡ drop (4 + leaf_length raw.bytes) raw.bytes =
    rw (c.as_slice-bytes.ensures, c.opening-in-Ok.ensures) at c.in-Some.ensures in
    let leaf : c.leaf_in-leaf.result.now ≡ c.in-Ok.opening.leaf =
    c.leaf_in-leaf.ensures
    ∙ ap leaf_in (c.as_slice-bytes.ensures ∙ ap (λ (o : RawOpening). o.bytes) c.opening-in-Ok.ensures) ∙ read.leaf in
    let path : c.path_in-path.result ≡ proof_path dig c.in-Ok.opening.proof =
    c.path_in-path.ensures ∙ ap (λ t. proof_path dig (masked_path_in t)) text ∙ ap (proof_path dig) read.proof in (
      rw (c.coin-coin.ensures, leaf, path) (ap (strings_up dig one.coin) (sym told)),
      subst (λ (l : List ℕ). AreDigestsUp dig c.coin-coin.result l c.path_in-path.result c.digests_up-digests.result)
          (c.as_slice.ensures ∙ sym leaf) c.digests_up-digests.ensures,
      c.leaf_in-leaf.ensures
          ∙ ap leaf_in (c.as_slice-bytes.ensures ∙ ap (λ (o : RawOpening). o.bytes) c.opening-in-Ok.ensures),
    )
