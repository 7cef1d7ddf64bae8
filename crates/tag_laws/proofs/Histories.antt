-- The links of a history are of the chain, and so is all that nodes take and keep.
use Rattle.std.proofs.Common.{◌≡◌, ◌⊎◌, inl, inr, ℕ, ◌==◌, ◌&&◌, ◌||◌, not, Bool, true, false, if◌then◌else◌, List, [], ◌∷◌, ◌++◌, length, drop, filter, Option, Some, None, is_some, is_ok, Ok, Err, refl, sym, ap, subst, arith, rules}
use Rattle.std.specs.Prelude.{Result, reverse}
use Rattle.std.specs.List.{All, AllByRecursion, Contains, filter_map, list_all, list_any}
use Rattle.std.proofs.lemmas.Bool.{and_parts, or_cases}
use Rattle.std.proofs.lemmas.List.Elements.{All-nil, All-cons, All-append, All-filter, All-from_recursion, All-contains_itself, All-weaker, recursion_from_All}
use Rattle.std.proofs.lemmas.Grind.{common_steps}
use Rattle.node_journal.specs.Effect.{first_cause}
use Rattle.plasma_tx.specs.declared.opening.RawOpening.{RawOpening}
use Rattle.plasma_tx.specs.declared.links.Links.{Links}
use Rattle.plasma_tx.specs.declared.call.RootCall.{RootCall}
use Rattle.plasma_tx.specs.Links.{tip_of}
use Rattle.plasma_tx.specs.Openings.{opening_in}
use Rattle.plasma_tx.specs.Spelling.{AreBytes, number_at}
use Rattle.plasma_tx.proofs.Names.{some_same}
use Rattle.plasma_tx.specs.Shown.{Tests, Rules, tests_by}
use Rattle.coin_history.specs.declared.bundle.Bundle.{Bundle}
use Rattle.coin_history.specs.declared.refusal.HistoryRefusal.{HistoryRefusal}
use Rattle.coin_history.specs.Bundles.{bundle_in}
use Rattle.coin_history.specs.History.{is_absent, transfer_of, links_in, IsHistory}
use Rattle.coin_history.proofs.BundleLaws.{text-bundle_in}
use Rattle.coin_history.proofs.HistoryFound.{histories_are_found}
use Rattle.coin_history.proofs.HistoryLinks.{with_tx}
use Rattle.wallet_core.specs.declared.notes.Notes.{Notes}
use Rattle.node_rules.specs.declared.answers.Accepted.{Accepted}
use Rattle.node_rules.specs.declared.refusal.WalletRefusal.{WalletRefusal}
use Rattle.node_rules.specs.Kept.{chain_of, kept_of, shows_link, ends_at, kept_in, checked_by, links_handed}
use Rattle.node_rules.specs.WalletRecords.{Note as WalletNote, Accepts, LeavesWith, Reclaims, note_text as wallet_text, note_in as wallet_note, accepts, accepted_of, short_at, notes_of as wallet_notes}
use Rattle.node_rules.specs.Wallet.{answers, notes_it, unless, who, noted, accept_causes, accept_by, accept_effect, is_known}
use Rattle.node_rules.specs.Watcher.{Note, Guarded, Released, note_in, guarded, who_is as watcher_who, notes_of, is_of, is_before, with_guard, guards_of, guards_in, guard_by, guard_effect}
use Rattle.node_rules.proofs.KeptTexts.{only_kept-ok}
use Rattle.node_rules.proofs.OneMore.{All-reverse}
use Rattle.tag_laws.specs.Tags.{ShowsOwn}
use Rattle.tag_laws.specs.Histories.{IsLinkOf, ShowsOnlyOwn, AreOfChain, HistoriesAreOfTheChain, AcceptedAreOfTheChain, GuardedAreOfTheChain, KeepsOwn, KeptAreOfTheChain}
use Rattle.tag_laws.proofs.Tags.{transfer-own}

-- ---- histories

-- the links that some of a bundle's openings show
links-own : (rules : Rules) (bundle : Bundle) (openings : List RawOpening)
    → AllByRecursion (Contains bundle.openings) openings
    → AllByRecursion (IsLinkOf rules.tag bundle) (links_in rules bundle.coin openings)
unfolding links_in
links-own rules bundle [] all = tt
links-own rules bundle (opening ∷ openings) all =
    grind (arith, common_steps, links-own rules bundle openings all.1, with_tx, transfer-own)

-- an opening that shows a transfer shows one of the chain
shown-own : (tag : List ℕ) (rules : Rules) (coin : ℕ) (opening : RawOpening) → rules.tag ≡ tag
    → is_some (transfer_of rules coin opening) ≡ true → ShowsOwn tag coin opening
shown-own tag rules coin opening same is = grind (arith, common_steps, transfer-own)

opening-own : (rules : Rules) (coin : ℕ) (opening : RawOpening)
    → (is_absent opening || is_some (transfer_of rules coin opening)) ≡ true
    → (is_absent opening ≡ true) ⊎ ShowsOwn rules.tag coin opening
opening-own rules coin opening is =
    elim (or_cases (is_absent opening) (is_some (transfer_of rules coin opening)) is) [
      | inl absent ↦ inl absent
      | inr shows ↦ inr (shown-own rules.tag rules coin opening refl shows)
    ]

pub history-own : (tests : Tests) (rules : Rules) (log : List RootCall) (bundle : Bundle) (links : Links)
    → IsHistory tests rules log bundle links → ShowsOnlyOwn rules.tag bundle
history-own tests rules log bundle links history =
    All-weaker _ _ (opening-own rules bundle.coin) bundle.openings history.leaves

pub histories_are_of_the_chain : HistoriesAreOfTheChain
histories_are_of_the_chain tests rules log bundle links rising is =
    let history = histories_are_found tests rules log bundle links rising is in
    record {
      coin = ap (λ (l : Links). l.coin) history.shown;
      links_are = subst (λ (l : Links). All (IsLinkOf rules.tag bundle) l.spends) (sym history.shown)
          (All-from_recursion (IsLinkOf rules.tag bundle) (links_in rules bundle.coin bundle.openings)
          (links-own rules bundle bundle.openings
          (recursion_from_All (Contains bundle.openings) bundle.openings (All-contains_itself bundle.openings))));
      openings_are = history-own tests rules log bundle links history;
    }

-- ---- what is handed in

-- bytes that are a history's
pub record IsHanded (tag bytes : List ℕ) (links : Links) : Type 0 where
  pub bundle : Bundle
  pub read : bundle_in bytes ≡ Ok bundle
  pub of_chain : AreOfChain tag bundle links

handed-own : (dig : List ℕ → List ℕ) (tag : List ℕ) (log : List RootCall) (bytes : List ℕ) (links : Links)
    → AreBytes bytes → links_handed dig tag log bytes ≡ Ok links → IsHanded tag bytes links
handed-own dig tag log bytes links small is = at (bundle_in bytes) refl is
  where
    at : (read : Result Bundle HistoryRefusal) → bundle_in bytes ≡ read → checked_by dig tag log read ≡ Ok links
        → IsHanded tag bytes links
    at (Err why) found wrong = absurd (cc wrong)
    at (Ok bundle) found history = record {
      bundle = bundle;
      read = found;
      of_chain = histories_are_of_the_chain (tests_by dig) (chain_of tag) log bundle links
          (text-bundle_in bytes bundle small found).1.rising history;
    }

-- what is answered is of the links
abbrev IsAnswer : Links → Accepted → Type 0
IsAnswer links taken = (taken.coin ≡ links.coin) × (taken.tip ≡ tip_of links)

abbrev answer_of : Links → Accepted
answer_of links = record { coin = links.coin; tip = tip_of links }

answered : {E : Type 0} (links : Links) (taken : Accepted) (r : Result Accepted E) → r ≡ Ok (answer_of links)
    → r ≡ Ok taken → IsAnswer links taken
answered links taken r is other =
    let same : answer_of links ≡ taken = cc in
    (ap (λ (a : Accepted). a.coin) (sym same), ap (λ (a : Accepted). a.tip) (sym same))

accept-own : (log : List RootCall) (notes : Notes) (handed : Result Links HistoryRefusal) (taken : Accepted)
    → (accept_by log notes handed).answer ≡ Ok taken
    → (links : Links) × (handed ≡ Ok links) × IsAnswer links taken
accept-own log notes (Err why) taken is = absurd (cc is)
accept-own log notes (Ok links) taken is =
    (links, refl, at (first_cause (accept_causes notes.me log links)) (is_known notes links) is)
  where
    at : (failed : Option WalletRefusal) (known : Bool)
        → (unless failed (if known then answers (Ok (answer_of links))
        else notes_it {A = Result Accepted WalletRefusal} (Ok (answer_of links))
        (wallet_text (Accepts (kept_of links))))).answer ≡ Ok taken → IsAnswer links taken
    at (Some why) known wrong = absurd (cc wrong)
    at None true same = answered {E = WalletRefusal} links taken (Ok (answer_of links)) refl same
    at None false same = answered {E = WalletRefusal} links taken (Ok (answer_of links)) refl same

pub accepted_are_of_the_chain : AcceptedAreOfTheChain
unfolding accept_effect
accepted_are_of_the_chain dig wallet log bytes taken small is =
    let found = accept-own log (noted dig wallet) (links_handed dig (who wallet).tag log bytes) taken is in
    let handed = handed-own dig (who wallet).tag log bytes found.0 small found.1 in
    record {
      bundle = handed.bundle;
      links = found.0;
      read = handed.read;
      of_chain = handed.of_chain;
      coin = found.2.0;
      tip = found.2.1;
    }

guard-own : (log : List RootCall) (guards : List Bundle) (handed : Result Links HistoryRefusal) (taken : Accepted)
    → (guard_by log guards handed).answer ≡ Ok taken
    → (links : Links) × (handed ≡ Ok links) × IsAnswer links taken
guard-own log guards handed taken is = grind (arith, common_steps, answered)

pub guarded_are_of_the_chain : GuardedAreOfTheChain
unfolding guard_effect
guarded_are_of_the_chain dig records log bytes taken small is =
    let tag = (watcher_who records).tag in
    let found = guard-own log (guards_in dig records) (links_handed dig tag log bytes) taken is in
    let handed = handed-own dig tag log bytes found.0 small found.1 in
    record {
      bundle = handed.bundle;
      links = found.0;
      read = handed.read;
      of_chain = handed.of_chain;
      coin = found.2.0;
      tip = found.2.1;
    }

-- ---- what is kept

kept-own : (dig : List ℕ → List ℕ) (tag bytes : List ℕ) (kept : Bundle) → kept_in dig tag bytes ≡ Some kept
    → KeepsOwn tag kept
kept-own dig tag bytes kept is =
    let shows = (only_kept-ok dig tag (bundle_in bytes) kept is).1 in
    All-from_recursion (ShowsOwn tag kept.coin) kept.openings
    (each kept.openings
    (and_parts (list_all (shows_link dig tag kept.coin) kept.openings) (ends_at kept.tip kept.openings) shows).0)
  where
    each : (openings : List RawOpening) → list_all (shows_link dig tag kept.coin) openings ≡ true
        → AllByRecursion (ShowsOwn tag kept.coin) openings
    each [] all = tt
    each (opening ∷ openings) all =
        let parts = and_parts (shows_link dig tag kept.coin opening)
        (list_all (shows_link dig tag kept.coin) openings) all in
        let shown = and_parts (is_ok (opening_in dig opening))
        (is_some (transfer_of (chain_of tag) kept.coin opening)) parts.0 in
        (shown-own tag (chain_of tag) kept.coin opening refl shown.1, each openings parts.1)

-- what notes that are read keep
abbrev NoteKeepsOwn : List ℕ → WalletNote → Type 0
NoteKeepsOwn tag (Accepts kept) = KeepsOwn tag kept
NoteKeepsOwn tag (LeavesWith coin tip) = Unit {0}
NoteKeepsOwn tag (Reclaims coin tip q) = Unit {0}

abbrev GuardKeepsOwn : List ℕ → Note → Type 0
GuardKeepsOwn tag (Guarded kept) = KeepsOwn tag kept
GuardKeepsOwn tag (Released coin tip) = Unit {0}

module _ (dig : List ℕ → List ℕ) (tag : List ℕ) where
  accepts-own : (bytes : List ℕ) (note : WalletNote) → accepts (kept_in dig tag bytes) ≡ Some note
      → NoteKeepsOwn tag note
  accepts-own bytes note is =
      (elim (kept_in dig tag bytes) as (λ o. kept_in dig tag bytes ≡ o → accepts o ≡ Some note
      → NoteKeepsOwn tag note) [
        | None ↦ λ none wrong. absurd (cc wrong)
        | Some kept ↦ λ found same.
            let e : Accepts kept ≡ note = some_same (Accepts kept) note same in
            subst (NoteKeepsOwn tag) e (kept-own dig tag bytes kept found)
      ]) refl is

  note-own : (body : List ℕ) (note : WalletNote) → wallet_note dig tag body ≡ Some note → NoteKeepsOwn tag note
  unfolding wallet_note
  note-own [] note is = absurd (cc is)
  note-own (mark ∷ bytes) note is =
      (elim (mark == 2) as (λ b. (if b then accepts (kept_in dig tag bytes)
      else if (mark == 3) && (length bytes == 16) then Some (LeavesWith (number_at bytes 0) (number_at bytes 8))
      else if (mark == 5) && (length bytes == 20)
      then Some (Reclaims (number_at bytes 0) (number_at bytes 8) (short_at bytes 16))
      else None) ≡ Some note → NoteKeepsOwn tag note) [
        | true ↦ λ same. accepts-own bytes note same
        | false ↦ grind (arith, common_steps, some_same)
      ]) is

  guarded-own : (bytes : List ℕ) (note : Note) → guarded (kept_in dig tag bytes) ≡ Some note → GuardKeepsOwn tag note
  guarded-own bytes note is =
      (elim (kept_in dig tag bytes) as (λ o. kept_in dig tag bytes ≡ o → guarded o ≡ Some note
      → GuardKeepsOwn tag note) [
        | None ↦ λ none wrong. absurd (cc wrong)
        | Some kept ↦ λ found same.
            let e : Guarded kept ≡ note = some_same (Guarded kept) note same in
            subst (GuardKeepsOwn tag) e (kept-own dig tag bytes kept found)
      ]) refl is

  guard_note-own : (body : List ℕ) (note : Note) → note_in dig tag body ≡ Some note → GuardKeepsOwn tag note
  unfolding note_in
  guard_note-own [] note is = absurd (cc is)
  guard_note-own (mark ∷ bytes) note is =
      (elim (mark == 18) as (λ b. (if b then guarded (kept_in dig tag bytes)
      else if (mark == 19) && (length bytes == 16) then Some (Released (number_at bytes 0) (number_at bytes 8))
      else None) ≡ Some note → GuardKeepsOwn tag note) [
        | true ↦ λ same. guarded-own bytes note same
        | false ↦ grind (arith, common_steps, some_same)
      ]) is

-- what is read of a list has what each that is read has
pub read-each : {X : Type 0} (f : List ℕ → Option X) (P : X → Type 0)
    → ((bytes : List ℕ) (x : X) → f bytes ≡ Some x → P x) → (bodies : List (List ℕ))
    → AllByRecursion P (filter_map f bodies)
read-each f P each [] = tt
read-each {X} f P each (body ∷ bodies) = grind (arith, common_steps, read-each f P each bodies)

pub back-each : {X : Type 0} (P : X → Type 0) (xs : List X) → AllByRecursion P xs → AllByRecursion P (reverse xs)
back-each P xs all =
    recursion_from_All P (reverse xs) (All-reverse P xs (All-from_recursion P xs all))

accepted-own : (tag : List ℕ) (notes : List WalletNote) → AllByRecursion (NoteKeepsOwn tag) notes
    → All (KeepsOwn tag) (accepted_of notes)
unfolding accepted_of
accepted-own tag [] all = All-nil (KeepsOwn tag)
accepted-own tag (Accepts kept ∷ notes) all =
    All-append (KeepsOwn tag) (accepted_of notes) (kept ∷ []) (accepted-own tag notes all.1)
    (All-cons (KeepsOwn tag) kept [] all.0 (All-nil (KeepsOwn tag)))
accepted-own tag (LeavesWith coin tip ∷ notes) all = accepted-own tag notes all.1
accepted-own tag (Reclaims coin tip q ∷ notes) all = accepted-own tag notes all.1

with-own : (tag : List ℕ) (kept : Bundle) (guards : List Bundle) → KeepsOwn tag kept → All (KeepsOwn tag) guards
    → All (KeepsOwn tag) (with_guard kept guards)
with-own tag kept guards own all =
    elim (list_any (is_of kept.coin kept.tip) guards) as (λ b. All (KeepsOwn tag) (if b then guards
    else filter (λ other. is_before other kept) guards ++ kept ∷ filter (λ other. not (is_before other kept)) guards)) [
      | true ↦ all
      | false ↦ All-append (KeepsOwn tag) (filter (λ other. is_before other kept) guards)
          (kept ∷ filter (λ other. not (is_before other kept)) guards)
          (All-filter (λ other. is_before other kept) (KeepsOwn tag) guards all)
          (All-cons (KeepsOwn tag) kept (filter (λ other. not (is_before other kept)) guards) own
          (All-filter (λ other. not (is_before other kept)) (KeepsOwn tag) guards all))
    ]

guards-own : (tag : List ℕ) (notes : List Note) → AllByRecursion (GuardKeepsOwn tag) notes
    → All (KeepsOwn tag) (guards_of notes)
unfolding guards_of
guards-own tag [] all = All-nil (KeepsOwn tag)
guards-own tag (Guarded kept ∷ notes) all =
    with-own tag kept (guards_of notes) all.0 (guards-own tag notes all.1)
guards-own tag (Released coin tip ∷ notes) all =
    All-filter (λ kept. not (is_of coin tip kept)) (KeepsOwn tag) (guards_of notes) (guards-own tag notes all.1)

pub kept_are_of_the_chain : KeptAreOfTheChain
unfolding wallet_notes notes_of
kept_are_of_the_chain dig wallet records =
    let tag = (who wallet).tag in
    let other = (watcher_who records).tag in (
      accepted-own tag (wallet_notes dig wallet.notes)
          (back-each (NoteKeepsOwn tag) (filter_map (wallet_note dig tag) (drop 1 wallet.notes))
          (read-each (wallet_note dig tag) (NoteKeepsOwn tag) (note-own dig tag) (drop 1 wallet.notes))),
      guards-own other (notes_of dig records)
          (back-each (GuardKeepsOwn other) (filter_map (note_in dig other) (drop 1 records))
          (read-each (note_in dig other) (GuardKeepsOwn other) (guard_note-own dig other) (drop 1 records))),
    )
