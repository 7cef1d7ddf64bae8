-- The counts of a world, on the way: by its verdicts, then by its log.
use Rattle.std.specs.Prelude.{ℕ, ◌+◌, ◌-◌, ◌^◌, ◌&&◌, not, min, Bool, if◌then◌else◌, List, length}
use Rattle.plasma_tx.specs.declared.call.RootCall.{RootCall}
use Rattle.plasma_tx.specs.Views.{blocks, coins}
use Rattle.node_replies.specs.declared.reply.Reply.{Reply}
use Rattle.world_rules.specs.declared.verdict.Verdict.{Verdict}
use Rattle.world_rules.specs.declared.verdict.Counts.{Counts}
use Rattle.world_rules.specs.Verdicts.{is_refused_reply, count_verdicts, is_held_kind, is_paid_kind, is_away_kind, is_lost_kind, is_unattended_kind}

-- so many answers that begin with `refused`, and one more answer; the count stops at its type's last number, which no
-- lines reach
abbrev pub with_answer : ℕ → Bool → Reply → ℕ
with_answer refused done reply =
    if not done && is_refused_reply reply then min (refused + 1) (2 ^ 64 - 1) else refused

-- the counts of so many lines, of which so many were refused, with these verdicts and an empty log
abbrev pub verdict_counts : ℕ → ℕ → List Verdict → Counts
verdict_counts lines refused verdicts = record {
  lines = lines;
  accepted = 0;
  refused = refused;
  blocks = 0;
  coins = 0;
  held = count_verdicts is_held_kind verdicts;
  paid = count_verdicts is_paid_kind verdicts;
  away = count_verdicts is_away_kind verdicts;
  lost = count_verdicts is_lost_kind verdicts;
  unattended = count_verdicts is_unattended_kind verdicts;
}

-- the counts with those of the log
abbrev pub with_log : List RootCall → Counts → Counts
with_log log counts = record counts { accepted = length log; blocks = blocks log; coins = coins log }
