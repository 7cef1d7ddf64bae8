use Rattle.std.proofs.Common.{rules, ◌≡◌, ℕ, ◌+◌, ◌*◌, ◌%◌, ◌<◌, ◌∙◌, [], ap, arith, inl, inr, length, length-set, refl, slice_index, slice_index_or}
use Rattle.std.proofs.lemmas.Bool.{cases_lt}
use Rattle.std.proofs.lemmas.List.{get_or-set_other, get_or-set_same}
use Rattle.lms_sign.specs.declared.chains.Span.{Span}
use Rattle.lms_sign.specs.OneTime.{chain_value}
use Rattle.lms_sign.specs.Chains.{span_at}
use Rattle.lms_sign.proofs.Lists.{set_next}
use Rattle.lms_sign.proofs.chains.advance.Goals as goal

pub overflow_add-marks : goal.overflow_add-marks
overflow_add-marks c =
    let k = c.starts.k in
    omega (arith, c.from.ensures, c.requires.fits k (omega arith), c.requires.within k (omega arith), c.requires.small)

pub starts-preserved : goal.starts-preserved
starts-preserved c =
    let k = c.starts.k in
    let numbers = c.args.numbers.now in
    let spans = c.args.spans.now in
    record {
      marks = search rules;
      starts = search rules;
      mark = set_next (λ n. slice_index numbers n * 256 + (span_at spans (slice_index numbers n)).from) c.starts.marks k
          (slice_index numbers k * 256 + c.from.result) 0 (omega arith)
          (ap (λ (f : ℕ). slice_index numbers k * 256 + f) c.from.ensures) c.starts.invariant.mark;
      start = set_next (λ n. slice_index_or c.args.strings.now (slice_index numbers n) []) c.starts.starts k _ []
          (omega arith) refl c.starts.invariant.start;
    }

pub strings_after-ends-requires : goal.strings_after-ends-requires
strings_after-ends-requires c = λ k below.
    omega (
      arith,
      c.starts.invariant.mark k (omega arith),
      c.requires.fits k below,
      c.requires.within k below,
      c.requires.small,
    )

pub ends-init : goal.ends-init
ends-init c = record {
  spans = refl;
  strings = refl;
  taken = λ id q n of_id begun below. (refl, inl (refl, refl));
  first = λ none. absurd (omega arith);
}

pub ends-preserved : goal.ends-preserved
ends-preserved c =
    let k = c.ends.k in
    let in_lanes : k < 8 = omega arith in
    let numbers = c.args.numbers.now in
    let m = slice_index numbers k in
    let old = span_at c.args.spans.now m in
    let none : Span = record { from = 0; to = 0 } in
    let put : Span =
    record { from = slice_index c.starts.marks k % 256 + c.args.count; to = (span_at c.ends.spans m).to } in
    let end = slice_index_or c.strings_after-ends.result k [] in
    let fits = c.requires.fits k in_lanes in
    let mark = c.starts.invariant.mark k (omega arith) in
    let within = c.requires.within k in_lanes in
    let span_room : m < length c.ends.spans = omega (arith, within, c.ends.invariant.spans) in
    let string_room : m < length c.ends.strings = omega (arith, within, c.ends.invariant.strings, c.requires.room) in
    let from : slice_index c.starts.marks k % 256 + c.args.count ≡ old.from + c.args.count =
    omega (arith, mark, fits) in
    record {
      spans = length-set c.ends.spans m put ∙ c.ends.invariant.spans;
      strings = length-set c.ends.strings m end ∙ c.ends.invariant.strings;
      taken = λ id q n of_id begun below. elim (cases_lt n m) [
        | inl less ↦
            rw (
              get_or-set_other c.ends.spans m n put none (omega arith),
              get_or-set_other c.ends.strings m n end [] (omega arith),
            )
            (c.ends.invariant.taken id q n of_id begun below)
        | inr rest ↦ elim (cases_lt m n) [
          | inl more ↦
              rw (
                get_or-set_other c.ends.spans m n put none (omega arith),
                get_or-set_other c.ends.strings m n end [] (omega arith),
              )
              (c.ends.invariant.taken id q n of_id begun below)
          | inr last ↦
              let same : n ≡ m = omega arith in
              rw (
                same,
                get_or-set_same c.ends.spans m put none span_room,
                get_or-set_same c.ends.strings m end [] string_room,
              ) (
                (c.ends.invariant.taken id q m of_id begun within).0,
                inr (
                  from,
                  c.requires.steps k in_lanes,
                  c.strings_after-ends.ensures id q k m old.from of_id begun in_lanes mark
                      (omega (arith, within, c.requires.small)) (omega (arith, fits))
                      ∙ ap (chain_value id q m old.from c.args.count) (c.starts.invariant.start k (omega arith)),
                ),
              )
        ]
      ];
      first = λ some. elim (cases_lt 0 k) [
        | inl later ↦ elim (cases_lt (slice_index numbers 0) m) [
          | inl less ↦
              rw (get_or-set_other c.ends.spans m (slice_index numbers 0) put none (omega arith))
              (c.ends.invariant.first later)
          | inr rest ↦ elim (cases_lt m (slice_index numbers 0)) [
            | inl more ↦
                rw (get_or-set_other c.ends.spans m (slice_index numbers 0) put none (omega arith))
                (c.ends.invariant.first later)
            | inr last ↦
                let same : slice_index numbers 0 ≡ m = omega arith in
                rw (same, get_or-set_same c.ends.spans m put none span_room) from
          ]
        ]
        | inr now ↦
            let same : slice_index numbers 0 ≡ m = ap (slice_index numbers) (omega arith) in
            rw (same, get_or-set_same c.ends.spans m put none span_room) from
      ];
    }
