use Rattle.merkle_pages.proofs.Words.{rules, not, sym, ◌∙◌, bit_of, filter-front, filter-back}
use Rattle.std.proofs.lemmas.List.Sorted.{IsPartitionPoint-from_clause}
use Rattle.merkle_pages.proofs.PartLaws.{not_not}
use Rattle.merkle_pages.proofs.nodes.split.Goals as goal

pub returns : goal.returns
returns c =
    let coins = c.args.coins.now in
    let level = c.args.level in
    let place = c.partition_point.result in
    let point = IsPartitionPoint-from_clause (λ coin. not (bit_of coin level)) coins _
    c.partition_point.ensures.partitioned c.requires.parted (λ a r q k. search rules) in
    record {
      left = c.split_at.ensures.front
          ∙ sym (filter-front (λ coin. not (bit_of coin level)) coins place point c.partition_point.ensures.bound);
      right = c.split_at.ensures.back
          ∙ sym (filter-back (λ coin. not (bit_of coin level)) (λ coin. bit_of coin level)
          (λ coin. not_not (bit_of coin level)) coins place point c.partition_point.ensures.bound);
    }
