-- A run of a wallet, and of a watcher, whose records are what events say: what it leaves is what they say then.
use Rattle.std.proofs.Common.{◌≡◌, ℕ, List, Option, Some, sym, ◌∙◌, subst}
use Rattle.plasma_tx.specs.declared.call.RootCall.{RootCall}
use Rattle.plasma_tx.specs.Chain.{Chain}
use Rattle.plasma_tx.specs.Shown.{Rules, tests_by, rules_of}
use Rattle.node_rules.specs.Wallet.{WalletRecords, who}
use Rattle.node_rules.specs.Watcher.{who_is as watcher_is}
use Rattle.node_lines.specs.Grammar.{IsWalletLine, IsWatcherLine, wallet_line_in, watcher_line_in}
use Rattle.node_lines.proofs.GrammarLaws.{wallet_line_text-in, watcher_line_text-in}
use Rattle.node_replies.specs.Orders.{watcher_does}
use Rattle.node_answers.specs.Answers.{wallet_outcome, watcher_outcome}
use Rattle.node_roles.specs.Notes.{NotesAt}
use Rattle.node_roles.specs.Nodes.{NodeAt}
use Rattle.node_runs.specs.Sessions.{Outside}
use Rattle.node_lives.specs.Answered.{Lines}
use Rattle.world_rules.specs.Events.{Event, log_of}
use Rattle.world_laws.specs.Legal.{IsLegal}
use Rattle.chain_lives.specs.Steps.{Visit, left_by as records_by, run_events}
use Rattle.chain_lives.specs.Acts.{wallet_deed, watcher_deed, visit_of}
use Rattle.chain_lives.proofs.Log.{line_quiet, order_quiet}
use Rattle.chain_lives.proofs.Following.{Follows}
use Rattle.chain_lives.proofs.WalletDeeds.{TellsWallet, wallet-follows}
use Rattle.chain_lives.proofs.WatcherDeeds.{TellsWatcher, watcher-follows}
use Rattle.chain_lives.proofs.Visiting.{IsWalletAt, IsWatcherAt, Comes}
use Rattle.chain_lives.proofs.Disks.{notes_alone}
use Rattle.chain_lives.proofs.SessionDisks.{FoundBehind}
use Rattle.chain_lives.proofs.Running.{left-or-found, RanTo, ran}

module _ (dig : List ℕ → List ℕ) (rules : Rules) (n : ℕ) (log : List RootCall) (start : List Event)
    (legal : IsLegal (tests_by dig) rules start) (log_is : log_of start ≡ log) (now : Option WalletRecords) where
  abbrev pub IsHandedOne : Visit → Type 0
  IsHandedOne visit = (chain : Chain) → visit.log ≡ Some chain → (rules_of chain ≡ rules) × (chain.log ≡ log)

  abbrev pub Fits : Visit → Type 0
  Fits visit = (r : WalletRecords) → now ≡ Some r
      → FoundBehind (records_by visit.found visit.deeds) visit.next r

  pub wallet-ran : (tag : List ℕ) (outside : Outside) (found : WalletRecords) (lines : Lines (NodeAt NotesAt))
      → Comes (who found).tag wallet_line_in (wallet_deed n dig) (IsWalletAt dig) found lines
      → IsHandedOne (visit_of wallet_line_in (wallet_deed n dig) outside found lines)
      → TellsWallet dig tag n start found → Fits (visit_of wallet_line_in (wallet_deed n dig) outside found lines)
      → RanTo dig rules (TellsWallet dig tag n) now
      (run_events n now (visit_of wallet_line_in (wallet_deed n dig) outside found lines) start)
  unfolding wallet_outcome
  wallet-ran tag outside found lines comes handed tells fits =
      ran dig rules n wallet_line_in (wallet_deed n dig) IsWalletLine (IsWalletAt dig) (TellsWallet dig tag n)
      (λ text command spells. (wallet_line_text-in text command spells).1) (line_quiet n dig)
      (λ l records line. left-or-found records (wallet_outcome dig l records line)) (who found).tag outside found lines
      comes
      (λ same events records line few here good.
      let one : rules.tag ≡ tag = same ∙ tells.tag_is in
      subst (λ (t : List ℕ). Follows dig rules n (TellsWallet dig t n) events
      (wallet_deed n dig (log_of events) records line)) one
      (wallet-follows dig rules n events records
      (subst (λ (t : List ℕ). TellsWallet dig t n events records) (sym one) here) few line good))
      log handed start legal log_is tells now fits

  pub watcher-ran : (tag : List ℕ) (outside : Outside) (notes : List (List ℕ)) (lines : Lines (NodeAt NotesAt))
      → Comes (watcher_is notes).tag watcher_line_in (watcher_deed n dig) (IsWatcherAt dig) (notes_alone notes) lines
      → IsHandedOne (visit_of watcher_line_in (watcher_deed n dig) outside (notes_alone notes) lines)
      → TellsWatcher dig tag n start (notes_alone notes)
      → Fits (visit_of watcher_line_in (watcher_deed n dig) outside (notes_alone notes) lines)
      → RanTo dig rules (TellsWatcher dig tag n) now
      (run_events n now (visit_of watcher_line_in (watcher_deed n dig) outside (notes_alone notes) lines) start)
  unfolding watcher_outcome
  watcher-ran tag outside notes lines comes handed tells fits =
      ran dig rules n watcher_line_in (watcher_deed n dig) IsWatcherLine (IsWatcherAt dig) (TellsWatcher dig tag n)
      (λ text command spells. (watcher_line_text-in text command spells).1)
      (λ l records order. order_quiet n order (watcher_does dig l records.notes order).response)
      (λ l records order. left-or-found records (watcher_outcome dig l records.notes order)) (watcher_is notes).tag
      outside (notes_alone notes) lines comes
      (λ same events records line few here good.
      let one : rules.tag ≡ tag = same ∙ tells.tag_is in
      subst (λ (t : List ℕ). Follows dig rules n (TellsWatcher dig t n) events
      (watcher_deed n dig (log_of events) records line)) one
      (watcher-follows dig rules n events records
      (subst (λ (t : List ℕ). TellsWatcher dig t n events records) (sym one) here) line good))
      log handed start legal log_is tells now fits
