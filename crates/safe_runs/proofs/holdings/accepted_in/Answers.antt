use Rattle.std.proofs.Common.{rules, ◌≡◌, List, ℕ, sym, ap, ◌∙◌, subst}
use Rattle.std.specs.Prelude.{drop}
use Rattle.std.specs.List.{filter_map}
use Rattle.std.proofs.lemmas.Result.{IfOk-weaker}
use Rattle.crash_disk.specs.Disk.{History, content}
use Rattle.gate_journal.specs.Journal.{Keeps}
use Rattle.node_rules.specs.WalletRecords.{note_in}
use Rattle.safe_runs.specs.Inside.{accepted_by}
use Rattle.safe_runs.proofs.HeldCases.{accepted-are}
use Rattle.safe_runs.proofs.Opening.{kept-same}
use Rattle.safe_runs.proofs.holdings.accepted_in.Goals as goal

pub returns : goal.returns
returns g c =
    let dig = g.H.Hash32.digest_of c.args.h.now in
    let records = c.args.node.now.records in
    let image = c.args.image.items in
    let read = c.in_ok-records.records.items in
    let same : read ≡ records.notes =
    kept-same image read records.notes
    (subst (λ (history : History). Keeps read (content history)) c.disk_of.ensures c.in_ok-records.ensures)
    c.requires in
    let slice : c.deref.result.now ≡ read = search (rules, c.deref.ensures) in
    IfOk-weaker c.read_records.result _ _
    (λ accepted is. is
    ∙ ap (λ (all : List (List ℕ)). filter_map
    (λ note. accepted_by c.tag.result (note_in dig c.tag.result note)) (drop 1 all)) (slice ∙ same)
    ∙ ap (λ (tag : List ℕ). filter_map (λ note. accepted_by tag (note_in dig tag note)) (drop 1 records.notes))
    c.tag.ensures
    ∙ accepted-are dig records)
    c.read_records.ensures
