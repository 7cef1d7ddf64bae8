use Rattle.std.proofs.Common.{◌≡◌, true, false, List, Some, None, refl, sym, ap, ◌∙◌, subst}
use Rattle.std.specs.Prelude.{is_none, filter}
use Rattle.plasma_tx.specs.declared.call.RootCall.{RootCall}
use Rattle.plasma_tx.specs.Views.{coin_at}
use Rattle.node_rules.specs.WalletRecords.{leaves_in}
use Rattle.node_rules.specs.Wallet.{coin_state, last_of}
use Rattle.coin_safety.specs.declared.kept.Sent.{Sent}
use Rattle.safe_runs.specs.Inside.{accepted_in, case_with, spends_of}
use Rattle.safe_runs.proofs.HeldCases.{case-is, case-unmade}
use Rattle.safe_runs.proofs.LastBlocks.{last-at}
use Rattle.safe_runs.proofs.holdings.Holdings.case.Goals as goal

pub returns-in_default : goal.returns-in_default
returns-in_default g c =
    case-unmade (g.H.Hash32.digest_of c.args.self.now.node.hash) c.args.self.now.node.records c.args.log.now.log
    c.args.hidden.now c.args.coin (ap is_none (sym c.coin.ensures ∙ c.in_default.is))

pub returns-in-Nothing : goal.returns-in-Nothing
returns-in-Nothing g c =
    case-is (g.H.Hash32.digest_of c.args.self.now.node.hash) c.args.self.now.node.records c.args.log.now.log
    c.args.hidden.now c.args.coin _ (ap is_none (sym c.coin.ensures ∙ c.in-Some.is))
    (sym c.in-Nothing.is ∙ c.state.ensures
    ∙ ap (λ (log : List RootCall). coin_state (g.H.Hash32.digest_of c.args.self.now.node.hash)
    c.args.self.now.node.records log c.args.coin) c.requires.made)

pub returns-in_ok-case_at-in-Sending : goal.returns-in_ok-case_at-in-Sending
returns-in_ok-case_at-in-Sending g c =
    let accepted = accepted_in (g.H.Hash32.digest_of c.args.self.now.node.hash) c.args.self.now.node.records in
    let sent : c.sent_by-sent.result ≡ record {
      leaf = c.in-Sending.q;
      last = last_of (leaves_in c.args.self.now.node.records.leaves) c.in-Sending.q;
    } =
    c.sent_by-sent.ensures
    ∙ ap (λ last. record { leaf = c.in-Sending.q; last = last })
    (last-at (leaves_in c.args.self.now.node.records.leaves) c.args.self.now.lasts.items c.in-Sending.q
    c.requires.read.lasts_are) in
    ap Some
    (c.in_ok-case_at-in-Sending.ensures
    ∙ ap (λ all. case_with c.args.log.now.log c.args.hidden.now c.args.coin
    (spends_of all c.args.coin c.in-Sending.tip) (Some c.sent_by-sent.result) false)
    c.requires.read.accepted_are
    ∙ ap (λ (by : Sent). case_with c.args.log.now.log c.args.hidden.now c.args.coin
    (spends_of accepted c.args.coin c.in-Sending.tip) (Some by) false)
    sent)
    ∙ case-is (g.H.Hash32.digest_of c.args.self.now.node.hash) c.args.self.now.node.records c.args.log.now.log
    c.args.hidden.now c.args.coin _ (ap is_none (sym c.coin.ensures ∙ c.in-Some.is))
    (sym c.in-Sending.is ∙ c.state.ensures
    ∙ ap (λ (log : List RootCall). coin_state (g.H.Hash32.digest_of c.args.self.now.node.hash)
    c.args.self.now.node.records log c.args.coin) c.requires.made)

pub returns-in_ok-case_at-in-Leaving : goal.returns-in_ok-case_at-in-Leaving
returns-in_ok-case_at-in-Leaving g c =
    ap Some
    (c.in_ok-case_at-in-Leaving.ensures
    ∙ ap (λ all. case_with c.args.log.now.log c.args.hidden.now c.args.coin
    (spends_of all c.args.coin c.in-Leaving.tip) None false)
    c.requires.read.accepted_are)
    ∙ case-is (g.H.Hash32.digest_of c.args.self.now.node.hash) c.args.self.now.node.records c.args.log.now.log
    c.args.hidden.now c.args.coin _ (ap is_none (sym c.coin.ensures ∙ c.in-Some.is))
    (sym c.in-Leaving.is ∙ c.state.ensures
    ∙ ap (λ (log : List RootCall). coin_state (g.H.Hash32.digest_of c.args.self.now.node.hash)
    c.args.self.now.node.records log c.args.coin) c.requires.made)

pub returns-in_ok-case_at-in-Held : goal.returns-in_ok-case_at-in-Held
returns-in_ok-case_at-in-Held g c =
    ap Some
    (c.in_ok-case_at-in-Held.ensures
    ∙ ap (λ all. case_with c.args.log.now.log c.args.hidden.now c.args.coin
    (spends_of all c.args.coin c.in-Held.tip) None false)
    c.requires.read.accepted_are)
    ∙ case-is (g.H.Hash32.digest_of c.args.self.now.node.hash) c.args.self.now.node.records c.args.log.now.log
    c.args.hidden.now c.args.coin _ (ap is_none (sym c.coin.ensures ∙ c.in-Some.is))
    (sym c.in-Held.is ∙ c.state.ensures
    ∙ ap (λ (log : List RootCall). coin_state (g.H.Hash32.digest_of c.args.self.now.node.hash)
    c.args.self.now.node.records log c.args.coin) c.requires.made)
