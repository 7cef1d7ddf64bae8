-- A replay ends for the first cause that its lines have, and the lines before that one are a run.
use Rattle.std.proofs.Common.{◌≡◌, ℕ, suc, ◌+◌, ◌&&◌, ◌||◌, not, Bool, true, false, if◌then◌else◌, List, [], ◌∷◌, ◌++◌, length, take, reverse, Option, Some, None, Result, Ok, Err, inl, inr, refl, sym, ap, ◌∙◌, subst, arith, append_assoc}
use Rattle.std.specs.Prelude.{option_and_then}
use Rattle.std.specs.List.{filter_map, cons_option}
use Rattle.std.proofs.lemmas.Bool.{and_parts, not-true, true≢false}
use Rattle.std.proofs.lemmas.List.{append-nil, reverse-append}
use Rattle.schedule_text.specs.declared.line.Line.{Line}
use Rattle.schedule_text.specs.Grammar.{line_in}
use Rattle.world_rules.specs.Steps.{TraceEntry, Run, step_run, run_of, step as world_step}
use Rattle.world_rules.specs.Texts.{entries_text}
use Rattle.world_core.specs.Lines.{is_full}
use Rattle.streamed_lines.specs.declared.ending.Ending.{Ending}
use Rattle.streamed_lines.specs.declared.ending.Ending.TheVariants.{ReadFault, TooLong}
use Rattle.streamed_lines.specs.declared.ending.Stop.TheVariants.{TooLong as TooLongStop}
use Rattle.streamed_lines.specs.Lines.{lines_in, is_whole, text_of, is_too_long}
use Rattle.streamed_lines.specs.Streams.{Stream, Streamed, no_lines, next_number, stream_or, goes_on, line_stream, stream_from, stream_of}
use Rattle.replay_run.specs.declared.ending.NoCause.{NoCause}
use Rattle.replay_run.specs.Replays.{JudgedRun, begun, newest_text, run_or, text_run, replay_rules, replay_of}
use Rattle.replay_run.specs.Laws.{lines_spelled, AnsweredLinesAreARun}
use Rattle.replay_run.specs.Endings.{MayBeAnswered, IsAnswered, EndsAt, EndsBy, EndingsHaveTheirCause}
use Rattle.replay_run.proofs.ReplayLaws.{one-entry}

-- a stream's answers are the trace of its run, which this digest judges
pub record IsReplayed (dig : List ℕ → List ℕ) (stream : Stream JudgedRun) : Type 0 where
  pub digest : stream.run.digest ≡ dig
  pub count : stream.count ≡ length stream.run.run.entries
  pub text : stream.text ≡ entries_text stream.run.run.entries

text-more : (entries earlier : List TraceEntry) (entry : TraceEntry) → entries ≡ entry ∷ earlier
    → entries_text entries ≡ entries_text earlier ++ newest_text entries
unfolding entries_text
text-more entries earlier entry is =
    ap entries_text is ∙ ap (λ newest. entries_text earlier ++ newest_text newest) (sym is)

-- ---- one line, under a digest and behind earlier ones

module _ (dig : List ℕ → List ℕ) (earlier : List Line) (ended : Bool) (start : ℕ) (stream : Stream JudgedRun)
    (line : List ℕ) where
  -- a line that is answered, and the stream with it
  record AnsweredAs (next : Stream JudgedRun) : Type 0 where
    may : MayBeAnswered ended (next_number stream) start line
    spelled : Line
    answered : IsAnswered dig earlier line spelled
    ran : run_of dig (spelled ∷ earlier) ≡ Some next.run.run
    count : next.count ≡ stream.count + 1
    replayed : IsReplayed dig next

  -- what one line does: it ends the replay for its cause, or it is answered
  abbrev LineDoes : Result (Stream JudgedRun) (Ending NoCause) → Type 0
  LineDoes (Ok next) = AnsweredAs next
  LineDoes (Err ending) = EndsAt dig earlier ended (next_number stream) start line ending

  by-step : IsReplayed dig stream → MayBeAnswered ended (next_number stream) start line → (spelled : Line)
      → line_in (text_of line) ≡ Some spelled → (o : Option Run) → step_run dig spelled stream.run.run ≡ o
      → run_of dig (spelled ∷ earlier) ≡ o → LineDoes (stream_or stream (run_or stream.run.digest o))
  by-step replayed may spelled spells None is ran = (refl, may, inr (spelled, spells, ran))
  by-step replayed may spelled spells (Some next) is ran =
      let answer : List ℕ = newest_text next.entries in
      let judged : JudgedRun = record { digest = stream.run.digest; run = next } in
      let one = one-entry stream.run.run next spelled (world_step dig stream.run.run.world spelled) is in
      (elim (is_full next) as (λ t. is_full next ≡ t
      → LineDoes (stream_or stream (if t then Err TooLongStop else Ok (judged, answer)))) [
        | true ↦ λ full. (refl, inr (may, (spelled, spells, (next, ran, full))))
        | false ↦ λ fits. record {
          may = may;
          spelled = spelled;
          answered = record { spells = spells; run = next; ran = ran; fits = fits };
          ran = ran;
          count = refl;
          replayed = record {
            digest = replayed.digest;
            count = omega (arith, ap length one.1, replayed.count);
            text =
                ap (λ told. told ++ answer) replayed.text
                ∙ sym (text-more next.entries stream.run.run.entries one.0 one.1);
          };
        }
      ]) refl

  by-text : IsReplayed dig stream → run_of dig earlier ≡ Some stream.run.run
      → MayBeAnswered ended (next_number stream) start line → (o : Option Line) → line_in (text_of line) ≡ o
      → LineDoes (stream_or stream
      (run_or stream.run.digest (option_and_then (λ l. step_run dig l stream.run.run) o)))
  unfolding run_of
  by-text replayed ran may None is = (refl, may, inl is)
  by-text replayed ran may (Some spelled) is =
      by-step replayed may spelled is (step_run dig spelled stream.run.run) refl
      (ap (option_and_then (step_run dig spelled)) ran)

  may-of : (ended whole : Bool) → (not ended && not whole) ≡ false → (ended || whole) ≡ true
  may-of true whole is = refl
  may-of false true is = refl
  may-of false false wrong = absurd (true≢false wrong)

  line-does : IsReplayed dig stream → run_of dig earlier ≡ Some stream.run.run
      → LineDoes (line_stream replay_rules ended start stream line)
  unfolding line_stream
  line-does replayed ran =
      let n = next_number stream in
      let next = stream_or stream (replay_rules.next stream.run (text_of line)) in
      (elim (is_too_long n start line) as (λ t. is_too_long n start line ≡ t → LineDoes
      (if t then Err (TooLong n) else (if not ended && not (is_whole line) then Err ReadFault else next))) [
        | true ↦ λ long. (refl, inl long)
        | false ↦ λ fits. (elim (not ended && not (is_whole line)) as
            (λ t. (not ended && not (is_whole line)) ≡ t → LineDoes (if t then Err ReadFault else next)) [
              | true ↦ λ dropped. let parts = and_parts (not ended) (not (is_whole line)) dropped
                  in (fits, not-true ended parts.0, not-true (is_whole line) parts.1)
              | false ↦ λ kept.
                  subst (λ (d : List ℕ → List ℕ). LineDoes (stream_or stream
                  (run_or stream.run.digest (text_run d stream.run.run (text_of line))))) (sym replayed.digest)
                  (by-text replayed ran (record { fits = fits; seen = may-of ended (is_whole line) kept })
                  (line_in (text_of line)) refl)
            ]) refl
      ]) refl

-- ---- many lines

-- a replay that goes on behind a stream: it answers so many lines more, which are a run with the earlier ones
record EndsSo (dig : List ℕ → List ℕ) (earlier : List Line) (ended : Bool) (start : ℕ) (stream : Stream JudgedRun)
    (lines : List (List ℕ)) (streamed : Streamed JudgedRun NoCause) : Type 0 where
  more : ℕ
  count : streamed.stream.count ≡ stream.count + more
  ends : EndsBy dig ended earlier (next_number stream) start lines more streamed.ending
  ran : run_of dig (reverse (filter_map (λ line. line_in (text_of line)) (take more lines)) ++ earlier)
      ≡ Some streamed.stream.run.run
  replayed : IsReplayed dig streamed.stream

replay-ends : (dig : List ℕ → List ℕ) (earlier : List Line) (ended : Bool) (start : ℕ) (stream : Stream JudgedRun)
    (lines : List (List ℕ)) → IsReplayed dig stream → run_of dig earlier ≡ Some stream.run.run
    → EndsSo dig earlier ended start stream lines (stream_from replay_rules ended start stream lines)
unfolding stream_from EndsBy
replay-ends dig earlier ended start stream [] replayed ran =
    record { more = 0; count = omega arith; ends = refl; ran = ran; replayed = replayed }
replay-ends dig earlier ended start stream (line ∷ lines) replayed ran =
    (elim (line_stream replay_rules ended start stream line) as (λ o. LineDoes dig earlier ended start stream line o
    → EndsSo dig earlier ended start stream (line ∷ lines)
    (goes_on stream o (λ next. stream_from replay_rules ended (start + length line) next lines))) [
      | Err ending ↦ λ does. record { more = 0; count = omega arith; ends = does; ran = ran; replayed = replayed }
      | Ok next ↦ λ does.
          let rest =
          replay-ends dig (does.spelled ∷ earlier) ended (start + length line) next lines does.replayed does.ran in
          let number : next_number next ≡ next_number stream + 1 = omega (arith, does.count) in
          let spelled = filter_map (λ l. line_in (text_of l)) (take rest.more lines) in
          record {
            more = suc rest.more;
            count = omega (arith, rest.count, does.count);
            ends = (
              does.may,
              (
                does.spelled,
                does.answered,
                subst (λ m. EndsBy dig ended (does.spelled ∷ earlier) m (start + length line) lines rest.more
                    (stream_from replay_rules ended (start + length line) next lines).ending) number rest.ends,
              ),
            );
            ran =
                ap (λ o. run_of dig (reverse (cons_option o spelled) ++ earlier)) does.answered.spells
                ∙ ap (λ ls. run_of dig (ls ++ earlier)) (reverse-append (does.spelled ∷ []) spelled)
                ∙ ap (run_of dig) (append_assoc (reverse spelled) (does.spelled ∷ []) earlier) ∙ rest.ran;
            replayed = rest.replayed;
          }
    ]) (line-does dig earlier ended start stream line replayed ran)

module _ (dig : List ℕ → List ℕ) (bytes : List ℕ) (ended : Bool) where
  whole : EndsSo dig [] ended 0 (no_lines (begun dig)) (lines_in bytes)
      (stream_of replay_rules (begun dig) bytes ended)
  unfolding stream_of run_of entries_text
  whole =
      replay-ends dig [] ended 0 (no_lines (begun dig)) (lines_in bytes)
      (record { digest = refl; count = refl; text = refl }) refl

  -- the answers of a replay are the trace of its run
  pub is-replayed : IsReplayed dig (stream_of replay_rules (begun dig) bytes ended).stream
  is-replayed = whole.replayed

  -- it answered as many lines as its run has entries
  as-many : whole.more ≡ length (replay_of dig bytes ended).run.entries
  unfolding replay_of
  as-many = omega (arith, whole.count, whole.replayed.count)

pub endings-have_causes : EndingsHaveTheirCause
unfolding replay_of
endings-have_causes dig bytes ended =
    subst (λ n. EndsBy dig ended [] 1 0 (lines_in bytes) n (replay_of dig bytes ended).ending)
    (as-many dig bytes ended) (whole dig bytes ended).ends

pub answered-are_a_run : AnsweredLinesAreARun
unfolding replay_of
answered-are_a_run dig bytes ended =
    let all = whole dig bytes ended in
    subst (λ n. run_of dig (lines_spelled bytes n) ≡ Some (replay_of dig bytes ended).run)
    (as-many dig bytes ended)
    (ap (run_of dig) (sym (append-nil (lines_spelled bytes all.more))) ∙ all.ran)
