-- The first clash of strings that come one after another.
use Rattle.std.proofs.Common.{◌≡◌, ◌≢◌, ℕ, not, Bool, true, false, if◌then◌else◌, List, [], ◌∷◌, ◌++◌, find, Option, Some, None, option_map, inl, inr, refl, sym, ap, ◌∙◌, subst, append_assoc, ◌<◌, length, arith}
use Rattle.std.specs.List.{Contains}
use Rattle.std.specs.Prelude.{Result, Ok, Err, IfOk}
use Rattle.std.specs.Option.{option_or}
use Rattle.std.specs.HashMap.{HashMap, Updates}
use Rattle.std.specs.Str.{bytes_eq}
use Rattle.std.proofs.lemmas.Bool.{cases_Bool, true≢false, and_parts}
use Rattle.std.proofs.lemmas.List.{append-nil, length-append}
use Rattle.std.proofs.lemmas.Slice.Eq.{bytes_eq-Decides}
use Rattle.watch_duty.proofs.Members.{Has, has-left, has-right, has-cases, has-contains, contains-has}
use Rattle.world_rules.specs.Exhibits.{do_clash, clash_with, first_clash}
use Rattle.sparse_merkle.specs.TreeDigest.{leaf_string}
use Rattle.trace_exhibits.proofs.Places.{get-before}
use Rattle.trace_exhibits.specs.Opened.{Opened}
use Rattle.trace_exhibits.specs.Met.{leaf_of}
use Rattle.trace_exhibits.specs.Strings.{bytes_of, IsWithin, key_of, is_same_digest, string_of, KeepsStrings, IsAdded}
use Rattle.trace_exhibits.specs.declared.shown.Clash.{Clash}
use Rattle.trace_exhibits.specs.declared.digest_key.DigestKey.{DigestKey}
use Rattle.trace_exhibits.specs.declared.hashed_string.HashedString.{HashedString}

-- what is found where one item alone passes, and where none does
find-only : (p : List ℕ → Bool) (xs : List (List ℕ)) (x : List ℕ) → Has xs x → p x ≡ true
    → ((y : List ℕ) → Has xs y → p y ≡ true → y ≡ x) → find p xs ≡ Some x
find-only p [] x h is only = absurd h
find-only p (y ∷ ys) x h is only = elim (cases_Bool (p y)) [
  | inl passes ↦ rw passes (ap Some (only y (inl refl) passes))
  | inr isnt ↦ elim h [
    | inl same ↦ absurd (true≢false (sym is ∙ ap p (sym same) ∙ isnt))
    | inr later ↦ rw isnt (find-only p ys x later is (λ z there passes. only z (inr there) passes))
  ]
]

find-nothing : (p : List ℕ → Bool) (xs : List (List ℕ)) → ((y : List ℕ) → Has xs y → p y ≡ false) → find p xs ≡ None
find-nothing p [] fails = refl
find-nothing p (y ∷ ys) fails = rw (fails y (inl refl)) (find-nothing p ys (λ z there. fails z (inr there)))

option_or-assoc : {X : Type 0} (a b c : Option X) → option_or a (option_or b c) ≡ option_or (option_or a b) c
option_or-assoc None b c = refl
option_or-assoc (Some x) b c = refl

bytes-same : (x y : List ℕ) → bytes_eq x y ≡ true → x ≡ y
bytes-same x y is = (bytes_eq-Decides x y).0 is

module _ (dig : List ℕ → List ℕ) where
  -- the clash of strings that come in two parts
  pub first_clash-append : (earlier xs ys : List (List ℕ)) → first_clash dig earlier (xs ++ ys)
      ≡ option_or (first_clash dig earlier xs) (first_clash dig (earlier ++ xs) ys)
  unfolding first_clash
  first_clash-append earlier [] ys = ap (λ all. first_clash dig all ys) (sym (append-nil earlier))
  first_clash-append earlier (x ∷ xs) ys =
      ap (option_or (clash_with dig earlier x)) (first_clash-append (earlier ++ x ∷ []) xs ys
      ∙ ap (λ all. option_or (first_clash dig (earlier ++ x ∷ []) xs) (first_clash dig all ys))
      (append_assoc earlier (x ∷ []) xs))
      ∙ option_or-assoc (clash_with dig earlier x) (first_clash dig (earlier ++ x ∷ []) xs)
      (first_clash dig (earlier ++ x ∷ xs) ys)

  -- one more string
  one-more : (earlier : List (List ℕ)) (string : List ℕ) (rest : List (List ℕ))
      → first_clash dig [] earlier ≡ None
      → first_clash dig [] (earlier ++ string ∷ rest)
      ≡ option_or (clash_with dig earlier string) (first_clash dig (earlier ++ string ∷ []) rest)
  unfolding first_clash
  one-more earlier string rest none =
      first_clash-append [] earlier (string ∷ rest)
      ∙ ap (λ found. option_or found (first_clash dig earlier (string ∷ rest))) none

  clash-none : (earlier : List (List ℕ)) (string : List ℕ)
      → ((other : List ℕ) → Has earlier other → dig other ≡ dig string → other ≡ string)
      → clash_with dig earlier string ≡ None
  clash-none earlier string same =
      ap (option_map (λ (first : List ℕ). record { first = first; second = string }))
      (find-nothing (λ other. do_clash dig other string) earlier (λ other there. elim (cases_Bool (do_clash dig other
      string)) [
        | inr off ↦ off
        | inl on ↦
            let parts = and_parts (not (bytes_eq other string)) (bytes_eq (dig other) (dig string)) on in
            let is = same other there (bytes-same (dig other) (dig string) parts.1) in
            absurd (true≢false (sym parts.0 ∙ ap not ((bytes_eq-Decides other string).1 is)))
      ]))

  clash-some : (earlier : List (List ℕ)) (first string : List ℕ) → Has earlier first → dig first ≡ dig string
      → first ≢ string → ((other : List ℕ) → Has earlier other → dig other ≡ dig string → other ≡ first)
      → clash_with dig earlier string ≡ Some (record { first = first; second = string })
  clash-some earlier first string there same differ only =
      ap (option_map (λ (one : List ℕ). record { first = one; second = string }))
      (find-only (λ other. do_clash dig other string) earlier first there passes
      (λ other is_there on. only other is_there (bytes-same (dig other) (dig string)
      (and_parts (not (bytes_eq other string)) (bytes_eq (dig other) (dig string)) on).1)))
    where
      passes : do_clash dig first string ≡ true
      passes = elim (cases_Bool (bytes_eq first string)) [
        | inl is ↦ absurd (differ (bytes-same first string is))
        | inr apart ↦ rw apart ((bytes_eq-Decides (dig first) (dig string)).1 same)
      ]

  module _ {S : Type 0} (met : List Opened) (table : HashMap DigestKey HashedString S)
      (earlier : List (List ℕ)) where
    -- strings of these with one digest are one string
    one-string : KeepsStrings dig met table earlier → (one other : List ℕ) → Has earlier one → Has earlier other
        → dig one ≡ dig other → one ≡ other
    one-string keeps one other is_one is_other same =
        let first = keeps.known one (has-contains earlier one is_one) in
        let second = keeps.known other (has-contains earlier other is_other) in
        let both : Some first.0 ≡ Some second.0 =
        sym first.1 ∙ ap (string_of table) same ∙ second.1 in
        let e : first.0 ≡ second.0 = cc both in
        sym first.2 ∙ ap (bytes_of met) e ∙ second.2

    more-none : (string : List ℕ) → KeepsStrings dig met table earlier → clash_with dig earlier string ≡ None
        → first_clash dig [] (earlier ++ string ∷ []) ≡ None
    unfolding first_clash
    more-none string keeps apart =
        one-more earlier string [] keeps.none
        ∙ ap (λ found. option_or found (first_clash dig (earlier ++ string ∷ []) [])) apart

    -- a string that was met before
    pub known-string : (string : List ℕ) → KeepsStrings dig met table earlier → Has earlier string
        → KeepsStrings dig met table (earlier ++ string ∷ [])
    known-string string keeps there = record {
      none = more-none string keeps (clash-none earlier string
          (λ other is_there same. one-string keeps other string is_there there same));
      known = λ one is_in. elim
          (has-cases earlier (string ∷ []) one (contains-has (earlier ++ string ∷ []) one is_in)) [
            | inl before ↦ keeps.known one (has-contains earlier one before)
            | inr behind ↦ elim behind [
              | inl same ↦ keeps.known one (has-contains earlier one (subst (Has earlier) same there))
              | inr wrong ↦ absurd wrong
            ]
          ];
      only = λ digest kept is.
          let was = keeps.only digest kept is in (
            has-contains (earlier ++ string ∷ []) (bytes_of met kept)
                (has-left earlier (string ∷ []) (bytes_of met kept) (contains-has earlier (bytes_of met kept) was.0)),
            was.1,
            was.2,
          );
    }

    -- a string whose digest wasn't met before, and which was put in
    pub new-string : (new : HashMap DigestKey HashedString S) (string : List ℕ) (kept : HashedString)
        → KeepsStrings dig met table earlier → string_of table (dig string) ≡ None
        → Updates is_same_digest table new (key_of (dig string)) (Some kept) → bytes_of met kept ≡ string
        → IsWithin met kept
        → KeepsStrings dig met new (earlier ++ string ∷ [])
    new-string new string kept keeps absent adds of within = record {
      none = more-none string keeps (clash-none earlier string (λ other is_there same.
          let was = keeps.known other (has-contains earlier other is_there) in
          let wrong : None ≡ Some was.0 = sym absent ∙ ap (string_of table) (sym same) ∙ was.1 in
          cc wrong));
      known = λ one is_in. elim
          (has-cases earlier (string ∷ []) one (contains-has (earlier ++ string ∷ []) one is_in)) [
            | inl before ↦ known-before one before
            | inr behind ↦ elim behind [
              | inl same ↦ (kept, ap (λ s. string_of new (dig s)) (sym same) ∙ adds.1, of ∙ same)
              | inr wrong ↦ absurd wrong
            ]
          ];
      only = λ digest one is. elim (cases_Bool (bytes_eq (dig string) digest)) [
        | inl same ↦ only-here digest one is same
        | inr apart ↦
            let was = keeps.only digest one (sym (adds.2 (key_of digest) apart) ∙ is) in (
              has-contains (earlier ++ string ∷ []) (bytes_of met one)
                  (has-left earlier (string ∷ []) (bytes_of met one) (contains-has earlier (bytes_of met one) was.0)),
              was.1,
              was.2,
            )
      ];
    }
      where
        known-before : (one : List ℕ) → Has earlier one → (k : HashedString)
            × (string_of new (dig one) ≡ Some k) × (bytes_of met k ≡ one)
        known-before one before =
            let was = keeps.known one (has-contains earlier one before) in
            elim (cases_Bool (bytes_eq (dig string) (dig one))) [
              | inl same ↦
                  let wrong : None ≡ Some was.0 =
                  sym absent ∙ ap (string_of table) (bytes-same (dig string) (dig one) same) ∙ was.1 in
                  absurd (cc wrong)
              | inr apart ↦ (was.0, adds.2 (key_of (dig one)) apart ∙ was.1, was.2)
            ]

        only-here : (digest : List ℕ) (one : HashedString) → string_of new digest ≡ Some one
            → bytes_eq (dig string) digest ≡ true
            → Contains (earlier ++ string ∷ []) (bytes_of met one) × (dig (bytes_of met one) ≡ digest)
            × IsWithin met one
        only-here digest one is same =
            let e : dig string ≡ digest = bytes-same (dig string) digest same in
            let both : Some kept ≡ Some one = sym adds.1 ∙ ap (string_of new) e ∙ is in
            let here : kept ≡ one = cc both in
            let made : string ≡ bytes_of met one = sym of ∙ ap (bytes_of met) here in (
              has-contains (earlier ++ string ∷ []) (bytes_of met one)
                  (has-right earlier (string ∷ []) (bytes_of met one) (inl made)),
              ap dig (sym made) ∙ e,
              subst (IsWithin met) here within,
            )

    -- a string whose digest is that of another one
    clashing-string : (string : List ℕ) (kept : HashedString) → KeepsStrings dig met table earlier
        → string_of table (dig string) ≡ Some kept → bytes_of met kept ≢ string
        → (rest : List (List ℕ)) → first_clash dig [] ((earlier ++ string ∷ []) ++ rest)
        ≡ Some (record { first = bytes_of met kept; second = string })
    clashing-string string kept keeps is differ rest =
        let was = keeps.only (dig string) kept is in
        let there = contains-has earlier (bytes_of met kept) was.0 in
        ap (first_clash dig []) (append_assoc earlier (string ∷ []) rest)
        ∙ one-more earlier string rest keeps.none
        ∙ ap (λ found. option_or found (first_clash dig (earlier ++ string ∷ []) rest))
        (clash-some earlier (bytes_of met kept) string there was.1 differ
        (λ other is_there same. one-string keeps other (bytes_of met kept) is_there there (same ∙ sym was.1)))

    -- what becomes of a string whose digest was met before
    pub met-string : {E : Type 0} (string : List ℕ) (kept : HashedString) (result : Result (Option Clash) E)
        → KeepsStrings dig met table earlier → string_of table (dig string) ≡ Some kept
        → IfOk result (λ found. found ≡ (if bytes_eq (bytes_of met kept) string then None
        else Some (record { first = bytes_of met kept; second = string })))
        → IfOk result (IsAdded dig met table (earlier ++ string ∷ []))
    met-string string kept (Err why) keeps is told = tt
    met-string string kept (Ok found) keeps is told = elim (cases_Bool (bytes_eq (bytes_of met kept) string)) [
      | inl same ↦
          let e : found ≡ None = rw same at told in
          rw e (known-string string keeps (subst (Has earlier) (bytes-same (bytes_of met kept) string same)
          (contains-has earlier (bytes_of met kept) (keeps.only (dig string) kept is).0)))
      | inr apart ↦
          let e : found ≡ Some (record { first = bytes_of met kept; second = string }) = rw apart at told in
          rw e (clashing-string string kept keeps is
          (λ same. true≢false (sym ((bytes_eq-Decides (bytes_of met kept) string).1 same) ∙ apart)))
    ]

  -- strings that were met before
  pub known-strings : {S : Type 0} (met : List Opened) (table : HashMap DigestKey HashedString S)
      (earlier strings : List (List ℕ)) → KeepsStrings dig met table earlier
      → ((string : List ℕ) → Has strings string → Has earlier string)
      → KeepsStrings dig met table (earlier ++ strings)
  known-strings met table earlier [] keeps there = rw (append-nil earlier) keeps
  known-strings met table earlier (string ∷ strings) keeps there =
      subst (KeepsStrings dig met table) (append_assoc earlier (string ∷ []) strings)
      (known-strings met table (earlier ++ string ∷ []) strings
      (known-string met table earlier string keeps (there string (inl refl)))
      (λ one is. has-left earlier (string ∷ []) one (there one (inr is))))

  -- ---- one more opening

  bytes-stay : (met : List Opened) (one : Opened) (kept : HashedString) → IsWithin met kept
      → bytes_of (met ++ one ∷ []) kept ≡ bytes_of met kept
  bytes-stay met one (HashedString.Leaf place) within =
      ap (λ found. leaf_string (leaf_of found)) (get-before met (one ∷ []) place within)
  bytes-stay met one (HashedString.Node bytes) within = refl

  within-more : (met : List Opened) (one : Opened) (kept : HashedString) → IsWithin met kept
      → IsWithin (met ++ one ∷ []) kept
  within-more met one (HashedString.Leaf place) within = omega (arith, within, length-append met (one ∷ []))
  within-more met one (HashedString.Node bytes) within = tt

  -- one more opening leaves the strings
  pub strings-stay : {S : Type 0} (met : List Opened) (one : Opened) (table : HashMap DigestKey HashedString S)
      (earlier : List (List ℕ)) → KeepsStrings dig met table earlier
      → KeepsStrings dig (met ++ one ∷ []) table earlier
  strings-stay met one table earlier keeps = record {
    none = keeps.none;
    known = λ string there.
        let was = keeps.known string there in (
          was.0,
          was.1,
          bytes-stay met one was.0 (keeps.only (dig string) was.0 was.1).2 ∙ was.2,
        );
    only = λ digest kept is.
        let was = keeps.only digest kept is in
        let same = bytes-stay met one kept was.2 in (
          subst (Contains earlier) (sym same) was.0,
          ap dig same ∙ was.1,
          within-more met one kept was.2,
        );
  }
