-- A replay keeps the promise.
use Rattle.std.proofs.Common.{◌≡◌, refl, ap, subst, ℕ, ◌<◌, ◌⊎◌, inl, inr, Bool, true, false, List, [], ◌∷◌, length, take, Option, Some, None, arith}
use Rattle.std.specs.Prelude.{◌≢◌}
use Rattle.std.specs.Option.{option_map_or}
use Rattle.std.specs.List.{All, Contains, filter_map}
use Rattle.plasma_tx.specs.Shown.{tests_by, rules_of}
use Rattle.plasma_tx.specs.Table.{answer_to, is_accepted}
use Rattle.node_rules.proofs.OneMore.{All-reverse, All-filter_map}
use Rattle.schedule_text.specs.declared.line.Line.{Line}
use Rattle.schedule_text.specs.Grammar.{IsLine, line_in}
use Rattle.schedule_text.proofs.GrammarLaws.{line_text-line_in}
use Rattle.world_rules.specs.declared.verdict.Verdict.{Verdict}
use Rattle.world_rules.specs.declared.verdict.VerdictKind.{VerdictKind}
use Rattle.world_rules.specs.declared.verdict.Exhibit.{Exhibit}
use Rattle.world_rules.specs.Events.{coin_of_call}
use Rattle.world_rules.specs.World.{World}
use Rattle.world_rules.specs.Steps.{Run, events_of}
use Rattle.world_rules.specs.Exhibits.{collides, is_forged}
use Rattle.world_rules.specs.Safety.{is_safe}
use Rattle.world_rules.specs.Verdicts.{verdicts_in, verdicts_of, exhibit_of_run}
use Rattle.world_rules.specs.Laws.{IsDigest}
use Rattle.world_laws.specs.Headline.{IsRun}
use Rattle.world_laws.proofs.Promises.{looked_after_are_safe, held_coins_are_safe, one_holds, due_are_taken, lost_is_shown, starts_taken}
use Rattle.world_laws.proofs.BundlesTaken.{honest_bundles_are_taken}
use Rattle.world_laws.proofs.SignedRuns.{leaves_sign_one_message}
use Rattle.streamed_lines.specs.Lines.{lines_in, text_of}
use Rattle.replay_run.specs.Replays.{replay_of}
use Rattle.replay_run.specs.Laws.{lines_spelled}
use Rattle.replay_run.specs.Ends.{HoldsAtTheEnd}
use Rattle.replay_run.specs.Headline.{KeepsCoins, KeepsLookedAfter, KeepsThePromise, ReplaysKeepThePromise}
use Rattle.replay_run.proofs.EndingLaws.{answered-are_a_run}

-- ---- the lines of a run are in the grammar

spelled-lines : (bytes : List ℕ) (n : ℕ) → All IsLine (lines_spelled bytes n)
spelled-lines bytes n =
    let texts = take n (lines_in bytes) in
    All-reverse IsLine (filter_map (λ line. line_in (text_of line)) texts)
    (All-filter_map (λ line. line_in (text_of line)) (λ _. Unit {0}) IsLine
    (λ text line _ is. (line_text-line_in (text_of text) line is).1) texts (λ k d within. tt))

-- ---- one of three

either : (clash forged safe : Bool) → (clash ≡ false → forged ≡ false → safe ≡ true)
    → (clash ≡ true) ⊎ (forged ≡ true) ⊎ (safe ≡ true)
either true forged safe is = inl refl
either false true safe is = inr (inl refl)
either false false safe is = inr (inr (is refl refl))

-- one of two, or of three that aren't all false
unless : (clash taken : Bool) → (clash ≡ false → taken ≡ true) → (clash ≡ true) ⊎ (taken ≡ true)
unless true taken is = inl refl
unless false taken is = inr (is refl)

not-all : (clash one other : Bool) → (clash ≡ false → one ≡ false → other ≡ false → ⊥)
    → (clash ≡ true) ⊎ (one ≡ true) ⊎ (other ≡ true)
not-all clash one other never =
    either clash one other (λ no_clash not_one. elim (other) as (λ o. (other ≡ o) → o ≡ true) [
      | true ↦ λ is. refl
      | false ↦ λ is. absurd (never no_clash not_one is)
    ] refl)

-- ---- the promise

module _ (dig : List ℕ → List ℕ) (bytes : List ℕ) (ended : Bool) (is_digest : IsDigest dig) where
  abbrev run : Run
  run = (replay_of dig bytes ended).run

  abbrev lines : List Line
  lines = lines_spelled bytes (length run.entries)

  pub ran : (world : World) → run.world ≡ Some world → IsRun dig lines run world
  ran world is = record {
    digest = is_digest;
    lines_are = spelled-lines bytes (length run.entries);
    run_is = answered-are_a_run dig bytes ended;
    world_is = is;
  }

  coins-kept : (world : World) → run.world ≡ Some world → KeepsCoins dig (events_of run.entries) world
  coins-kept world is later events event w c e all attended =
      either (collides dig (event ∷ events) c) (is_forged world.chain.tag (event ∷ events) w c)
      (is_safe (tests_by dig) (rules_of world.chain) (event ∷ events) w c e)
      (held_coins_are_safe dig lines run world later events event w c e (ran world is) all attended)

  looked_after-kept : (world : World) → run.world ≡ Some world → KeepsLookedAfter dig (events_of run.entries) world
  looked_after-kept world is later events event w c e all looked =
      either (collides dig (event ∷ events) c) (is_forged world.chain.tag (event ∷ events) w c)
      (is_safe (tests_by dig) (rules_of world.chain) (event ∷ events) w c e)
      (looked_after_are_safe dig lines run world later events event w c e (ran world is) all looked)

  no-verdicts : run.world ≡ None → verdicts_of dig run ≡ []
  unfolding verdicts_of
  no-verdicts is = ap (λ o. option_map_or (λ world. verdicts_in dig world (events_of run.entries)) o []) is

  lost-shown : (found : Option World) → run.world ≡ found → (verdict : Verdict)
      → Contains (verdicts_of dig run) verdict → verdict.kind ≡ VerdictKind.Lost
      → exhibit_of_run dig run ≢ Exhibit.Nothing
  lost-shown None is verdict has lost =
      let none = subst (λ verdicts. has.0 < length verdicts) (no-verdicts is) has.1 in
      absurd (grind (arith, none))
  lost-shown (Some world) is verdict has lost = lost_is_shown dig lines run world verdict (ran world is) has lost

  pub replay-keeps : KeepsThePromise dig run
  replay-keeps = record {
    one_message = λ world one other is. leaves_sign_one_message dig lines run world (ran world is) world one other is;
    coins = coins-kept;
    looked_after = looked_after-kept;
    lost = lost-shown run.world refl;
  }

  pub offers-taken : (world : World) → run.world ≡ Some world → HoldsAtTheEnd dig lines run world
  offers-taken world is = record {
    one_holder = λ v w c d e differ declared first second.
        not-all (collides dig (events_of run.entries) c) (is_forged world.chain.tag (events_of run.entries) v c)
        (is_forged world.chain.tag (events_of run.entries) w c)
        (λ no_clash not_v not_w.
        one_holds dig lines run world v w c d e (ran world is) differ declared no_clash not_v not_w first second);
    starts = λ w account call. starts_taken dig lines run world w account call (ran world is);
    dues = λ n calls call fresh among pays.
        unless (collides dig (events_of run.entries) (coin_of_call call))
        (is_accepted (answer_to (tests_by dig) (rules_of world.chain) world.chain.log call))
        (λ no_clash. due_are_taken dig lines run world n calls call (ran world is) fresh among no_clash pays);
    bundles = λ op node n coin tip name made_bytes token made effect.
        honest_bundles_are_taken dig lines run world op node n coin tip name made_bytes token made effect
        (ran world is);
  }

pub replays-keep : ReplaysKeepThePromise
replays-keep dig bytes ended is_digest = replay-keeps dig bytes ended is_digest
