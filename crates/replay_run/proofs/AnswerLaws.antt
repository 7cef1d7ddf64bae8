-- A schedule whose lines were answered, or broken off, as a replay.
use Rattle.std.proofs.Common.{◌≡◌, ℕ, ◌+◌, ◌&&◌, not, Bool, true, false, if◌then◌else◌, List, [], ◌∷◌, ◌++◌, length, Option, Result, Ok, Err, refl, sym, ap, ◌∙◌, subst, append_assoc}
use Rattle.std.proofs.lemmas.List.{append-nil}
use Rattle.world_rules.specs.Steps.{run_of}
use Rattle.world_core.specs.Worlds.{RunningState, IsAfter, before_all}
use Rattle.streamed_lines.specs.declared.ending.Ending.{Ending}
use Rattle.streamed_lines.specs.declared.ending.Ending.TheVariants.{ReadFault, TooLong}
use Rattle.streamed_lines.specs.declared.ending.Stop.{Stop}
use Rattle.streamed_lines.specs.declared.ending.Halt.{Halt}
use Rattle.streamed_lines.specs.declared.ending.Break.{Break}
use Rattle.streamed_lines.specs.declared.ending.Break.TheVariants.{WriteFault, Failed, NoMemory}
use Rattle.streamed_lines.specs.Lines.{lines_in, is_whole, text_of, is_too_long}
use Rattle.streamed_lines.specs.Streams.{Rules, Stream, Streamed, no_lines, next_number, stream_or, goes_on, line_stream, stream_from, stream_of}
use Rattle.streamed_lines.specs.Reading.{RunsTo, IsPut, BrokeOff, Answers as StreamAnswers}
use Rattle.replay_run.specs.declared.ending.NoCause.{NoCause}
use Rattle.replay_run.specs.Replays.{JudgedRun, begun, replay_rules, replay_in, replay_of}
use Rattle.streamed_lines.specs.Prompt.{answers_so_far}
use Rattle.replay_run.specs.Prompt.{replay_answers}
use Rattle.replay_run.specs.Reading.{Ran, Answers, StopsEarly}
use Rattle.replay_run.proofs.EndingLaws.{IsReplayed, is-replayed}

-- ---- the text of a stream grows

module _ {R C : Type 0} (rules : Rules R C) where
  -- a line adds a text to the stream, or ends it
  abbrev Grows : Stream R → Result (Stream R) (Ending C) → Type 0
  Grows stream (Ok next) = (more : List ℕ) × (next.text ≡ stream.text ++ more)
  Grows stream (Err ending) = Unit {0}

  or-grows : (stream : Stream R) (o : Result (R × List ℕ) (Stop C)) → Grows stream (stream_or stream o)
  or-grows stream (Ok answered) = (answered.1, refl)
  or-grows stream (Err stop) = tt

  line-grows : (ended : Bool) (start : ℕ) (stream : Stream R) (line : List ℕ)
      → Grows stream (line_stream rules ended start stream line)
  unfolding line_stream
  line-grows ended start stream line =
      let next = stream_or stream (rules.next stream.run (text_of line)) in
      elim (is_too_long (next_number stream) start line) as (λ t. Grows stream
      (if t then Err (TooLong (next_number stream))
      else if not ended && not (is_whole line) then Err ReadFault else next)) [
        | true ↦ tt
        | false ↦ elim (not ended && not (is_whole line)) as
            (λ t. Grows stream (if t then Err ReadFault else next)) [
              | true ↦ tt
              | false ↦ or-grows stream (rules.next stream.run (text_of line))
            ]
      ]

  stream-grows : (ended : Bool) (start : ℕ) (stream : Stream R) (lines : List (List ℕ))
      → (more : List ℕ) × ((stream_from rules ended start stream lines).stream.text ≡ stream.text ++ more)
  unfolding stream_from
  stream-grows ended start stream [] = ([], sym (append-nil stream.text))
  stream-grows ended start stream (line ∷ lines) =
      (elim (line_stream rules ended start stream line) as (λ o. Grows stream o → (more : List ℕ)
      × ((goes_on stream o (λ next. stream_from rules ended (start + length line) next lines)).stream.text
      ≡ stream.text ++ more)) [
        | Err ending ↦ λ grows. ([], sym (append-nil stream.text))
        | Ok next ↦ λ grows.
            let later = stream-grows ended (start + length line) next lines in (
              grows.0 ++ later.0,
              later.1 ∙ ap (λ text. text ++ later.0) grows.1 ∙ append_assoc stream.text grows.0 later.0,
            )
      ]) (line-grows ended start stream line)

  -- what lines with which an input begins have answered is a beginning of the text of its stream
  front-grows : (first : R) (front rest : List ℕ) (ended : Bool) (stream : Stream R)
      → RunsTo rules first front stream
      → (more : List ℕ) × ((stream_of rules first (front ++ rest) ended).stream.text ≡ stream.text ++ more)
  unfolding stream_of
  front-grows first front rest ended stream runs =
      let grown = stream-grows ended (length front) stream (lines_in rest) in
      let same =
      ap (stream_from rules ended 0 (no_lines first)) (runs.cuts rest) ∙ runs.streams ended (lines_in rest) in
      (grown.0, ap (λ (streamed : Streamed R C). streamed.stream.text) same ∙ grown.1)

-- ---- a replay

-- the answers of a stream to what it has read are those of a replay
pub answers-are : (dig : List ℕ → List ℕ) (bytes : List ℕ)
    → answers_so_far replay_rules (begun dig) bytes ≡ replay_answers dig bytes
unfolding replay_of
answers-are dig bytes = (is-replayed dig bytes false).text

-- a world before its first line
pub ran-none : {H : Type 0} (digest_of : H → List ℕ → List ℕ) (hash : H) (world : RunningState H)
    → world ≡ before_all hash → IsAfter (digest_of hash) [] world
    → Ran digest_of world (begun (digest_of world.hash))
unfolding run_of
ran-none digest_of hash world state after = record {
  lines = [];
  digest = refl;
  after =
      subst (λ h. IsAfter (digest_of h) [] world) (ap RunningState.hash (sym state)) after;
  is = refl;
}

-- over an answerer of its lines
module _ {W : Type 0} (RanTo : W → JudgedRun → Type 0) (Halted : W → JudgedRun → List ℕ → Halt NoCause → Type 0)
    (left later taken after : Option (List ℕ)) (dig : List ℕ → List ℕ) (text : List ℕ) (answerer : W) where
  -- its lines were answered up to what ended it
  pub answers-so : {H : Type 0} (digest_of : H → List ℕ → List ℕ) (world : RunningState H) (ending : Ending NoCause)
      → ((run : JudgedRun) → RanTo answerer run → Ran digest_of world run)
      → StreamAnswers replay_rules (begun dig) RanTo Halted left later taken after text ending answerer
      → Answers left later taken after digest_of dig text ending world
  unfolding replay_of
  answers-so digest_of world ending ran answers =
      let ends = answers.ends in
      let is =
      subst (λ (streamed : Streamed JudgedRun NoCause). IsReplayed dig streamed.stream) ends.streams
      (is-replayed dig answers.bytes answers.ended) in
      let judged : ends.stream.run ≡ record { digest = dig; run = ends.stream.run.run } =
      ap (λ (d : List ℕ → List ℕ). record { digest = d; run = ends.stream.run.run }) is.digest in
      record {
        bytes = answers.bytes;
        ended = answers.ended;
        put = answers.put;
        run = ends.stream.run.run;
        gave = answers.gave;
        wrote = answers.wrote;
        replays = ap replay_in ends.streams;
        told = ends.told ∙ is.text;
        few = ends.few;
        ran =
            λ complete.
            subst (Ran digest_of world) judged
            (ran ends.stream.run (rw complete at ends.left));
      }

  put-of : (why : Break) (put all : List ℕ)
      → IsPut replay_rules (begun dig) RanTo Halted why put text all → (rest : List ℕ) × (put ++ rest ≡ all)
  put-of Failed put all is = (text, is)
  put-of WriteFault put all is = is
  put-of NoMemory put all is = is

  -- it was broken off behind some lines
  pub stops-so : {takes_memory : Bool} {given : ℕ} (why : Break)
      → BrokeOff replay_rules (begun dig) RanTo Halted takes_memory given left later taken after text why answerer
      → StopsEarly left later taken after dig
  unfolding replay_of
  stops-so why broke =
      let breaks = broke.breaks in
      let put = put-of why broke.put breaks.stream.text breaks.put_is in
      let grown = front-grows replay_rules (begun dig) breaks.front breaks.rest broke.ended breaks.stream breaks.runs in
      record {
        bytes = broke.bytes;
        ended = broke.ended;
        gave = broke.gave;
        front = record {
          front = broke.put;
          back = put.0 ++ grown.0;
          whole =
              sym (append_assoc broke.put put.0 grown.0) ∙ ap (λ told. told ++ grown.0) put.1 ∙ sym grown.1
              ∙ ap (λ bytes. (stream_of replay_rules (begun dig) bytes broke.ended).stream.text) (sym breaks.whole)
              ∙ (is-replayed dig broke.bytes broke.ended).text;
          wrote = broke.wrote;
        };
      }
