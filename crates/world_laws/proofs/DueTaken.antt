-- A call that a watch offers is accepted at once, where there is money for a Before.
use Rattle.world_laws.proofs.Basics.{◌≡◌, ℕ, true, false, if◌then◌else◌, List, [], ◌∷◌, ◌++◌, Option, Some, None, refl, sym, ap, ◌∙◌, subst, arith, rules, common_steps}
use Rattle.world_laws.proofs.CoinWords.{RawOpening, Owner, Links, RootCall, CoinView, ExitView, coin_at, exits_of, Tests, Rules, tests_by, root_at, Bundle, committed_blocks, links_of, AreLinked, IsHistory, tip-is, tip_from, none-linked, due_for, due_of, HaveOneLeaf, is_poor_before, Has, has-cases, has-contains, contains-has, has-flat_map, IsDueFor, due_for-due, log_seen}
use Rattle.world_laws.proofs.NodeWords.{kept_links, due_for_kept}
use Rattle.world_laws.proofs.WorldWords.{Event, Watches, log_of, coin_of_call, accepted, guarded_by, is_command_of, offered, wallet_owner, seen, collides, is_watch, is_joined, lacks_bond, fresh_offers, Taken, Bare, ShowsGuard, IsLegal, LegalDueCallsAreTaken, fresh_offers}
use Rattle.world_laws.proofs.HeldCoins.{HasOneLeaf, one_leaf, legal-log, log-seen, is_noted, IsKept, is_kept, kept-grow, deposited-coin}
use Rattle.watch_duty.proofs.Accepts.{due_calls_are_accepted}
use Rattle.world_laws.proofs.Nodes.{same-node}
use Rattle.world_laws.proofs.Guards.{kept-some, due_of-coin}

-- nothing at a deposit is a history
pub bare-history : (tests : Tests) (rules : Rules) (log : List RootCall) (b : Bundle) (made : CoinView)
    → coin_at log b.coin ≡ Some made → made.deposit ≡ b.tip → b.openings ≡ []
    → IsHistory tests rules log b (links_of rules made b)
unfolding committed_blocks AreLinked
bare-history tests rules log b made found tip none = grind (arith, common_steps, none-linked, tip-is, tip_from)

-- what shows a guard is a history
pub shows-kept : (tests : Tests) (rules : Rules) (events : List Event) (n : ℕ) (b : Bundle)
    → IsLegal tests rules events → (o : Option Owner) → ShowsGuard events n o b → IsKept tests rules events b
shows-kept tests rules events n b legal None has =
    is_kept tests rules events n b legal (contains-has (guarded_by events n) b has)
shows-kept tests rules events n b legal (Some me) (Taken has) =
    let k = is_noted tests rules events n b legal (contains-has (accepted events n) b has) in
    record { links = k.links; history = k.history; is_seen = k.is_seen }
shows-kept tests rules events n b legal (Some me) (Bare own none) =
    let d = deposited-coin me b.tip (coin_at (log_of events) b.coin) own in
    record {
      links = links_of rules d.0 b;
      history = bare-history tests rules (log_of events) b d.0 d.1 d.2 none;
      is_seen = λ o h. absurd (subst (λ (l : List RawOpening). Has l o) none h);
    }

-- ---- an offer that is fresh

pub record IsFresh (tests : Tests) (rules : Rules) (events : List Event) (call : RootCall) : Type 0 where
  pub account : ℕ
  pub bundle : Bundle
  pub kept : IsKept tests rules events bundle
  pub due : Has (due_for_kept rules.tag (log_of events) account bundle) call

module _ (tests : Tests) (rules : Rules) where
  fresh-after : (event : Event) (events : List Event) (n : ℕ) (call : RootCall) → is_command_of n event ≡ false
      → is_joined event ≡ false → IsFresh tests rules events call → IsFresh tests rules (event ∷ events) call
  fresh-after event events n call other none f =
      let s = same-node event events n other none in
      record {
        account = f.account;
        bundle = f.bundle;
        kept = kept-grow tests rules event events f.bundle f.kept;
        due = subst (λ log. Has (due_for_kept rules.tag log f.account f.bundle) call) (sym s.log) f.due;
      }

  fresh-watch : (event : Event) (events : List Event) (call : RootCall) → IsLegal tests rules (event ∷ events)
      → Has (if is_watch event then offered event else []) call → IsFresh tests rules (event ∷ events) call
  unfolding IsLegal log_of
  fresh-watch (Watches m calls) events call legal h =
      let d = legal.0.only call (has-contains calls call h) in
      record {
        account = legal.0.account;
        bundle = d.bundle;
        kept = kept-grow tests rules (Watches m calls) events d.bundle
            (shows-kept tests rules events m d.bundle legal.1 (wallet_owner events m) d.shows);
        due = contains-has (due_for_kept rules.tag (log_of events) legal.0.account d.bundle) call d.due;
      }
  fresh-watch event events call legal h = absurd h

  pub fresh : (events : List Event) (n : ℕ) (call : RootCall) → IsLegal tests rules events
      → Has (fresh_offers events n) call → IsFresh tests rules events call
  unfolding fresh_offers IsLegal
  fresh [] n call legal h = absurd h
  fresh (event ∷ events) n call legal h =
      (elim (is_command_of n event) as (λ b. is_command_of n event ≡ b
      → Has (if b then (if is_watch event then offered event else []) else
      (if is_joined event then [] else fresh_offers events n)) call → IsFresh tests rules (event ∷ events) call) [
        | true ↦ λ own there. fresh-watch event events call legal there
        | false ↦ λ other there. (elim (is_joined event) as (λ b. is_joined event ≡ b
            → Has (if b then [] else fresh_offers events n) call → IsFresh tests rules (event ∷ events) call) [
              | true ↦ λ joined none. absurd none
              | false ↦ λ none later. fresh-after event events n call other none (fresh events n call legal.1 later)
            ]) refl there
      ]) refl h

-- ---- it is accepted

poor-same : (log : List RootCall) (account : ℕ) (links : Links) (x : ExitView) (call : RootCall)
    → IsDueFor log account links x call → is_poor_before log account call ≡ lacks_bond log call
poor-same log account links x call h5 = grind (arith, common_steps)

-- the openings of the history and of the log's calls have one leaf in each block
pub leaves-of : (tests : Tests) (events : List Event) (c : ℕ) (os : List RawOpening)
    → HasOneLeaf tests (log_of events) c (seen events c) → ((o : RawOpening) → Has os o → Has (seen events c) o)
    → HaveOneLeaf tests (log_of events) c (log_seen (log_of events) c ++ os)
leaves-of tests events c os one has a b root in_a in_b same committed opens_a opens_b =
    one a b (place a (contains-has (log_seen (log_of events) c ++ os) a in_a))
    (place b (contains-has (log_seen (log_of events) c ++ os) b in_b))
    (record { root = root; root_is = committed; opens = opens_a })
    (record { root = root; root_is = ap (root_at (log_of events)) (sym same) ∙ committed; opens = opens_b }) same
  where
    place : (o : RawOpening) → Has (log_seen (log_of events) c ++ os) o → Has (seen events c) o
    place o h = grind (arith, common_steps, has-cases, log_seen, log-seen)

pub due_calls_are_taken : LegalDueCallsAreTaken
unfolding collides
due_calls_are_taken dig rules events n call digest legal offers none rich =
    let tests : Tests = tests_by dig in
    let log : List RootCall = log_of events in
    let f = fresh tests rules events n call legal (contains-has (fresh_offers events n) call offers) in
    let h = f.kept.history in
    let kept : kept_links rules.tag log f.bundle ≡ Some f.kept.links =
    kept-some rules log f.bundle h.made h.coin ∙ ap (λ (l : Links). Some l) (sym h.shown) in
    let due : Has (due_of log f.account (record { links = f.kept.links })) call =
    grind (arith, common_steps) in
    let coin : coin_of_call call ≡ f.bundle.coin =
    due_of-coin log f.account f.kept.links call due ∙ ap (λ (l : Links). l.coin) h.shown in
    let one = one_leaf dig digest log (coin_of_call call) (seen events (coin_of_call call)) none in
    let r = has-flat_map (due_for log f.account f.kept.links) (exits_of log f.kept.links.coin) call due in
    let poor = poor-same log f.account f.kept.links r.0 call
    (due_for-due log f.account f.kept.links r.0 call r.2) ∙ rich in
    due_calls_are_accepted tests rules log f.account f.bundle f.kept.links call
    (legal-log tests rules events legal) h
    (leaves-of tests events f.bundle.coin f.bundle.openings
    (subst (λ k. HasOneLeaf tests log k (seen events k)) coin one) f.kept.is_seen)
    (has-contains (due_of log f.account (record { links = f.kept.links })) call due) poor
