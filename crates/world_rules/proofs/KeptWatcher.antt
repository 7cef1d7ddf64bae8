-- What events say of a watcher's guards is what its records say, and a guard and a release keep it so.
use Rattle.world_rules.proofs.Basics.{◌≡◌, ℕ, ◌^◌, ◌<◌, ◌==◌, ◌&&◌, ◌||◌, not, Bool, true, false, if◌then◌else◌, List, [], ◌∷◌, ◌++◌, filter, Option, Some, None, Ok, Err, refl, sym, ap, ◌∙◌, subst, lit<, arith, Result, IfSome, list_any, eqb-true, eq-eqb, and_parts, and_from, false≢true, list_any-append, common_steps}
use Rattle.world_rules.proofs.CoinWords.{Links, RootCall, tip_of, Bundle, HistoryRefusal, AreBytes}
use Rattle.world_rules.proofs.NodeWords.{Effect, first_cause, unless, only, Accepted, WatcherRefusal, kept_of, links_handed, Guarded, Released, watcher_kinds, is_of, is_before, with_guard, guards_of, guards_in, guard_causes, guard_by, guard_effect, release_effect, KeepsRole, AddsGuard, WatcherOrder, with_record, on_guarded, on_released, Small, small-nil}
use Rattle.world_rules.proofs.WorldWords.{Guards, Releases, is_bundle, bundle_read, event_of}
use Rattle.node_journal.specs.Role.{are_of}
use Rattle.node_rules.specs.declared.refusal.WatcherRefusal.TheVariants.{History, NoGuard}
use Rattle.node_rules.specs.Watcher.{note_text, who_is}
use Rattle.node_rules.specs.WatcherLaws.{AddsNote}
use Rattle.node_rules.proofs.WatcherRole.{commands_keep_the_role, commands_add_their_notes}
use Rattle.world_rules.proofs.OrderEnds.{watcher_told}
use Rattle.world_rules.proofs.Said.{Said, told}
use Rattle.world_rules.proofs.Handed.{IsHanded, is_handed}

-- what is said of a watcher is what its records are; they are a watcher's
pub record KeptWatcher (dig : List ℕ → List ℕ) (s : Said) (records : List (List ℕ)) : Type 0 where
  pub is : are_of (watcher_kinds dig) records ≡ true
  pub guards : (c e : ℕ) → list_any (is_bundle c e) s.guarded ≡ list_any (is_of c e) (guards_in dig records)

-- ---- guards

-- the coin and the tip of a kept coin are these
of-parts : (c e : ℕ) (kept : Bundle) → is_of c e kept ≡ true → (kept.coin ≡ c) × (kept.tip ≡ e)
of-parts c e kept is = grind (arith, common_steps, and_parts, eqb-true)

-- some among those that pass, and those that don't
any-parted : {X : Type 0} (p q : X → Bool) (xs : List X)
    → (list_any p (filter q xs) || list_any p (filter (λ x. not (q x)) xs)) ≡ list_any p xs
any-parted p q [] = refl
any-parted {X} p q (x ∷ xs) = grind (arith, common_steps, any-parted p q xs)

-- a coin at a tip is guarded with one more guard
any-guard : (c e : ℕ) (kept : Bundle) (guards : List Bundle)
    → list_any (is_of c e) (with_guard kept guards) ≡ (is_of c e kept || list_any (is_of c e) guards)
any-guard c e kept guards = at (list_any (is_of kept.coin kept.tip) guards) refl
  where
    front : List Bundle
    front = filter (λ other. is_before other kept) guards

    back : List Bundle
    back = filter (λ other. not (is_before other kept)) guards

    there : (b : Bool) → is_of c e kept ≡ b → list_any (is_of kept.coin kept.tip) guards ≡ true
        → list_any (is_of c e) guards ≡ (b || list_any (is_of c e) guards)
    there false is known = refl
    there true is known = grind (arith, common_steps, of-parts)

    moved : (a b d : Bool) → (b || (a || d)) ≡ (a || (b || d))
    moved true true d = refl
    moved true false d = refl
    moved false b d = refl

    at : (b : Bool) → list_any (is_of kept.coin kept.tip) guards ≡ b
        → list_any (is_of c e) (if b then guards else front ++ kept ∷ back)
        ≡ (is_of c e kept || list_any (is_of c e) guards)
    at true known = there (is_of c e kept) refl known
    at false new =
        list_any-append (is_of c e) front (kept ∷ back)
        ∙ moved (is_of c e kept) (list_any (is_of c e) front) (list_any (is_of c e) back)
        ∙ ap (λ (b : Bool). is_of c e kept || b) (any-parted (is_of c e) (λ other. is_before other kept) guards)

-- ---- releases

-- those that are let go are none that pass, or are all that do
any-left : {X : Type 0} (p q : X → Bool) → ((x : X) → q x ≡ true → p x ≡ false) → (xs : List X)
    → list_any p (filter (λ x. not (q x)) xs) ≡ list_any p xs
any-left p q apart [] = refl
any-left {X} p q apart (x ∷ xs) = grind (arith, common_steps, any-left p q apart xs)

any-gone : {X : Type 0} (p : X → Bool) (xs : List X) → list_any p (filter (λ x. not (p x)) xs) ≡ false
any-gone p [] = refl
any-gone {X} p (x ∷ xs) = grind (arith, common_steps, any-gone p xs)

-- what is let go of lists that guard the same leaves lists that do
any-released : (a t c e : ℕ) (one other : List Bundle) → list_any (is_of c e) one ≡ list_any (is_of c e) other
    → list_any (is_of c e) (filter (λ kept. not (is_of a t kept)) one)
    ≡ list_any (is_of c e) (filter (λ kept. not (is_of a t kept)) other)
any-released a t c e one other same = at ((a == c) && (t == e)) refl
  where
    at : (b : Bool) → ((a == c) && (t == e)) ≡ b
        → list_any (is_of c e) (filter (λ kept. not (is_of a t kept)) one)
        ≡ list_any (is_of c e) (filter (λ kept. not (is_of a t kept)) other)
    at true here =
        let parts = and_parts (a == c) (t == e) here in
        let coin : c ≡ a = sym (eqb-true a c parts.0) in
        let tip : e ≡ t = sym (eqb-true t e parts.1) in
        gone coin tip one ∙ sym (gone coin tip other)
      where
        gone : c ≡ a → e ≡ t → (xs : List Bundle)
            → list_any (is_of c e) (filter (λ kept. not (is_of a t kept)) xs) ≡ false
        gone coin tip xs =
            subst (λ (n : ℕ). list_any (is_of n e) (filter (λ kept. not (is_of a t kept)) xs) ≡ false) (sym coin)
            (subst (λ (n : ℕ). list_any (is_of a n) (filter (λ kept. not (is_of a t kept)) xs) ≡ false) (sym tip)
            (any-gone (is_of a t) xs))
    at false apart =
        any-left (is_of c e) (is_of a t) other-coin one ∙ same
        ∙ sym (any-left (is_of c e) (is_of a t) other-coin other)
      where
        other-coin : (kept : Bundle) → is_of a t kept ≡ true → is_of c e kept ≡ false
        other-coin kept is = grind (arith, common_steps, of-parts, false≢true, and_from, eq-eqb)

-- ---- commands

abbrev pub taken_of : Links → Accepted
taken_of links = record { coin = links.coin; tip = tip_of links }

-- a guard is refused, or its links are guarded already, or are noted
pub data GuardEnds (dig : List ℕ → List ℕ) (records : List (List ℕ)) (log : List RootCall) (bytes : List ℕ)
    (effect : Effect (Result Accepted WatcherRefusal)) : Type 0 where
  Refused : (why : WatcherRefusal) → effect ≡ only (Err why) → GuardEnds dig records log bytes effect
  Known : (links : Links) → links_handed dig (who_is records).tag log bytes ≡ Ok links
      → list_any (is_of links.coin (tip_of links)) (guards_in dig records) ≡ true
      → effect ≡ only (Ok (taken_of links)) → GuardEnds dig records log bytes effect
  New : (links : Links) → links_handed dig (who_is records).tag log bytes ≡ Ok links
      → effect ≡ record { answer = Ok (taken_of links); note = Some (note_text (Guarded (kept_of links))) }
      → GuardEnds dig records log bytes effect

pub guard_ends : (dig : List ℕ → List ℕ) (records : List (List ℕ)) (log : List RootCall) (bytes : List ℕ)
    → GuardEnds dig records log bytes (guard_effect dig records log bytes)
unfolding guard_effect
guard_ends dig records log bytes = at (links_handed dig (who_is records).tag log bytes) refl
  where
    by : (links : Links) → links_handed dig (who_is records).tag log bytes ≡ Ok links
        → (failed : Option WatcherRefusal) (known : Bool)
        → list_any (is_of links.coin (tip_of links)) (guards_in dig records) ≡ known
        → GuardEnds dig records log bytes
        (unless failed (record {
          answer = Ok (taken_of links);
          note = if known then None else Some (note_text (Guarded (kept_of links)));
        }))
    by links handed (Some why) known known_is = Refused why refl
    by links handed None true known_is = Known links handed known_is refl
    by links handed None false known_is = New links handed refl

    at : (handed : Result Links HistoryRefusal) → links_handed dig (who_is records).tag log bytes ≡ handed
        → GuardEnds dig records log bytes (guard_by log (guards_in dig records) handed)
    at (Err why) handed = Refused (History why) refl
    at (Ok links) handed =
        by links handed (first_cause (guard_causes log links))
        (list_any (is_of links.coin (tip_of links)) (guards_in dig records)) refl

module _ (dig : List ℕ → List ℕ) (s : Said) (log : List RootCall) (records : List (List ℕ))
    (kept : KeptWatcher dig s records) where
  -- ---- guard

  -- the bundle that was handed in is of the coin and the tip of its links
  handed-of : (bytes : List ℕ) (links : Links) → IsHanded dig (who_is records).tag log bytes links → (c e : ℕ)
      → is_bundle c e (bundle_read bytes) ≡ is_of c e (kept_of links)
  handed-of bytes links handed c e = λ i. (handed.coin i == c) && (handed.tip i == e)

  guards-known : (n : ℕ) (bytes : List ℕ) (links : Links) → IsHanded dig (who_is records).tag log bytes links
      → list_any (is_of links.coin (tip_of links)) (guards_in dig records) ≡ true
      → KeptWatcher dig (told (Guards n (bundle_read bytes)) s) records
  guards-known n bytes links handed known = grind (arith, common_steps, handed-of, any-guard)

  guards-new : (n : ℕ) (bytes body : List ℕ) (links : Links) → IsHanded dig (who_is records).tag log bytes links
      → KeepsRole dig records body → AddsNote dig records (Guarded (kept_of links)) body
      → KeptWatcher dig (told (Guards n (bundle_read bytes)) s) (records ++ body ∷ [])
  unfolding guards_of
  guards-new n bytes body links handed keeps adds = record {
    is = keeps.1;
    guards = λ c e.
        ap (λ (b : Bool). b || list_any (is_bundle c e) s.guarded) (handed-of bytes links handed c e)
        ∙ ap (λ (b : Bool). is_of c e (kept_of links) || b) (kept.guards c e)
        ∙ sym (any-guard c e (kept_of links) (guards_in dig records))
        ∙ ap (λ notes. list_any (is_of c e) (guards_of notes)) (sym adds.1);
  }

  abbrev pub IsGuarded : ℕ → List ℕ → Effect (Result Accepted WatcherRefusal) → Type 0
  IsGuarded n bytes effect =
      KeptWatcher dig (told (watcher_told n (WatcherOrder.Guard bytes) on_guarded effect.answer) s)
      (with_record records effect.note)

  pub guards-kept : (n : ℕ) (bytes : List ℕ) → Small bytes → IsGuarded n bytes (guard_effect dig records log bytes)
  unfolding event_of
  guards-kept n bytes small = by (guard_ends dig records log bytes)
    where
      tag : List ℕ
      tag = (who_is records).tag

      -- the law is of a release too, of which nothing is asked here
      role : IfSome (guard_effect dig records log bytes).note (KeepsRole dig records)
      role = (commands_keep_the_role dig records log bytes 0 0 kept.is small.are).0

      adds : IfSome (guard_effect dig records log bytes).note (AddsGuard dig records log bytes)
      adds = (commands_add_their_notes dig records log bytes 0 0 kept.is small.are (lit< tt) (lit< tt)).0

      by : GuardEnds dig records log bytes (guard_effect dig records log bytes)
          → IsGuarded n bytes (guard_effect dig records log bytes)
      by (Refused why is) = subst (IsGuarded n bytes) (sym is) kept
      by (Known links handed known is) =
          subst (IsGuarded n bytes) (sym is)
          (guards-known n bytes links (is_handed dig tag log bytes links small handed) known)
      by (New links handed is) =
          let text = note_text (Guarded (kept_of links)) in
          let added : AddsGuard dig records log bytes text =
          subst (λ e. IfSome e.note (AddsGuard dig records log bytes)) is adds in
          let same : added.0 ≡ links = cc (added.1, handed) in
          subst (IsGuarded n bytes) (sym is)
          (guards-new n bytes text links (is_handed dig tag log bytes links small handed)
          (subst (λ e. IfSome e.note (KeepsRole dig records)) is role)
          (subst (λ (l : Links). AddsNote dig records (Guarded (kept_of l)) text) same added.3))

  -- ---- release

  abbrev pub IsReleased : ℕ → ℕ → ℕ → Effect (Result (Unit {0}) WatcherRefusal) → Type 0
  IsReleased n c e effect =
      KeptWatcher dig (told (watcher_told n (WatcherOrder.Release c e) on_released effect.answer) s)
      (with_record records effect.note)

  releases-note : (n a t : ℕ) (body : List ℕ) → KeepsRole dig records body → AddsNote dig records (Released a t) body
      → KeptWatcher dig (told (Releases n a t) s) (records ++ body ∷ [])
  unfolding guards_of
  releases-note n a t body keeps adds = record {
    is = keeps.1;
    guards = λ c e.
        any-released a t c e s.guarded (guards_in dig records) (kept.guards c e)
        ∙ ap (λ notes. list_any (is_of c e) (guards_of notes)) (sym adds.1);
  }

  pub releases-kept : (n a t : ℕ) → a < 2 ^ 64 → t < 2 ^ 64 → IsReleased n a t (release_effect dig records a t)
  unfolding release_effect event_of
  releases-kept n a t coin_fits tip_fits =
      by (list_any (is_of a t) (guards_in dig records))
      (commands_keep_the_role dig records log [] a t kept.is bytes-none).1
      (commands_add_their_notes dig records log [] a t kept.is bytes-none coin_fits tip_fits).1
    where
      bytes-none : AreBytes []
      bytes-none = small-nil.are

      by : (has : Bool)
          → IfSome (if has then record { answer = Ok tt; note = Some (note_text (Released a t)) }
          else only {A = Result (Unit {0}) WatcherRefusal} (Err NoGuard)).note (KeepsRole dig records)
          → IfSome (if has then record { answer = Ok tt; note = Some (note_text (Released a t)) }
          else only {A = Result (Unit {0}) WatcherRefusal} (Err NoGuard)).note (AddsNote dig records (Released a t))
          → IsReleased n a t
          (if has then record { answer = Ok tt; note = Some (note_text (Released a t)) } else only (Err NoGuard))
      by true keeps adds = releases-note n a t (note_text (Released a t)) keeps adds
      by false keeps adds = kept
