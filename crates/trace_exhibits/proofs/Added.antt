-- What stands once the strings of one more opening were added.
use Rattle.std.proofs.Common.{◌≡◌, ℕ, ◌+◌, ◌<◌, List, [], ◌∷◌, ◌++◌, length, take, drop, get_or, Some, None, inl, inr, refl, sym, ap, ◌∙◌, subst, append_assoc, arith}
use Rattle.std.specs.List.{Contains, slice_get}
use Rattle.std.specs.HashMap.{HashMap}
use Rattle.std.proofs.lemmas.Bool.{cases_eq}
use Rattle.std.proofs.lemmas.Option.{slice_get_within}
use Rattle.std.proofs.lemmas.List.{append-nil, length-append, take_more}
use Rattle.std.proofs.lemmas.List.Concat.{flat_map-append}
use Rattle.sparse_merkle.specs.Opening.{hashed_string, hashed_strings}
use Rattle.plasma_tx.proofs.Names.{some_same}
use Rattle.watch_duty.proofs.Members.{has-left, has-right, has-contains, contains-has}
use Rattle.trace_exhibits.proofs.Places.{get-before, get-last}
use Rattle.trace_exhibits.proofs.Clashes.{known-strings, strings-stay}
use Rattle.trace_exhibits.proofs.Strings.{strings-behind}
use Rattle.world_rules.specs.Exhibits.{first_clash, strings_in}
use Rattle.trace_exhibits.specs.Opened.{Opened}
use Rattle.trace_exhibits.specs.Ways.{pair_of, strings_in_shown, strings_in_all, strings_below}
use Rattle.trace_exhibits.specs.Met.{AreStill, KeepsMet}
use Rattle.trace_exhibits.specs.Strings.{KeepsStrings}
use Rattle.trace_exhibits.specs.declared.shown.Clash.{Clash}
use Rattle.trace_exhibits.specs.declared.digest_key.DigestKey.{DigestKey}
use Rattle.trace_exhibits.specs.declared.hashed_string.HashedString.{HashedString}

regroup : (front below behind rest strings : List (List ℕ)) (string : List ℕ) → strings ≡ below ++ string ∷ behind
    → (front ++ strings) ++ rest ≡ (front ++ below) ++ string ∷ (behind ++ rest)
regroup front below behind rest strings string is =
    ap (λ all. (front ++ all) ++ rest) is
    ∙ ap (λ all. all ++ rest) (sym (append_assoc front below (string ∷ behind)))
    ∙ append_assoc (front ++ below) (string ∷ behind) rest

module _ (dig : List ℕ → List ℕ) where
  -- a clash at a level of a way is one of the whole way
  pub way-clashes : (front : List (List ℕ)) (coin : ℕ) (leaf : List ℕ) (path : List (List ℕ)) (level : ℕ)
      (clash : Clash) → level < 65
      → ((rest : List (List ℕ)) → first_clash dig [] (((front ++ strings_below dig coin leaf path level)
      ++ hashed_string dig coin leaf path level ∷ []) ++ rest) ≡ Some (pair_of clash))
      → (rest : List (List ℕ)) → first_clash dig [] ((front ++ hashed_strings dig coin leaf path) ++ rest)
      ≡ Some (pair_of clash)
  way-clashes front coin leaf path level clash less found rest =
      let below = strings_below dig coin leaf path level in
      let string = hashed_string dig coin leaf path level in
      let behind = drop (level + 1) (hashed_strings dig coin leaf path) in
      ap (first_clash dig []) (regroup front below behind rest (hashed_strings dig coin leaf path) string
      (strings-behind dig coin leaf path level less)
      ∙ sym (append_assoc (front ++ below) (string ∷ []) (behind ++ rest)))
      ∙ found (behind ++ rest)

  pub none-added : {S : Type 0} (met : List Opened) (table : HashMap DigestKey HashedString S)
      → table.entries ≡ [] → KeepsStrings dig met table []
  unfolding first_clash
  none-added met table empty = record {
    none = refl;
    known = λ string there. absurd (omega (arith, there.1));
    only = λ digest kept is. absurd (let wrong : None ≡ Some kept = rw empty at is in cc wrong);
  }

-- ---- openings that were met

pub still-same : (met : List Opened) → AreStill met met
still-same met place one is = is

pub still-more : (met : List Opened) (one : Opened) → AreStill met (met ++ one ∷ [])
still-more met one place other is = get-before met (one ∷ []) place (slice_get_within met place other is) ∙ is

module _ (dig : List ℕ → List ℕ) where
  pub met-nothing : (met : List Opened) → met ≡ [] → KeepsMet dig met []
  met-nothing met empty =
      subst (λ (m : List Opened). KeepsMet dig m []) (sym empty) (λ place one is string there. absurd (cc is))

  -- the strings of one more opening
  pub more-shown : (earlier : List (List ℕ)) (shown : List Opened) (number : ℕ) (one : Opened)
      → number < length shown → one ≡ get_or shown number one
      → (earlier ++ strings_in_all dig (take number shown)) ++ strings_in_shown dig one
      ≡ earlier ++ strings_in_all dig (take (number + 1) shown)
  more-shown earlier shown number one within is =
      append_assoc earlier (strings_in_all dig (take number shown)) (strings_in_shown dig one)
      ∙ ap (λ all. earlier ++ all)
      (ap (λ these. strings_in_all dig (take number shown) ++ these) (sym (append-nil (strings_in_shown dig one)))
      ∙ sym (flat_map-append (strings_in_shown dig) (take number shown) (one ∷ []))
      ∙ ap (strings_in_all dig) (ap (λ last. take number shown ++ last ∷ []) is
      ∙ sym (take_more shown number one within)))

  -- what was met stays so behind more strings
  pub met-stays : (met : List Opened) (earlier more : List (List ℕ)) → KeepsMet dig met earlier
      → KeepsMet dig met (earlier ++ more)
  met-stays met earlier more keeps place one is string there =
      has-contains (earlier ++ more) string
      (has-left earlier more string (contains-has earlier string (keeps place one is string there)))

  -- an opening that was met adds no string
  pub met-known : {S : Type 0} (met : List Opened) (table : HashMap DigestKey HashedString S)
      (earlier : List (List ℕ)) (place : ℕ) (one : Opened) → slice_get met place ≡ Some one
      → KeepsMet dig met earlier → KeepsStrings dig met table earlier
      → KeepsStrings dig met table (earlier ++ strings_in_shown dig one)
  met-known met table earlier place one at kept keeps =
      known-strings dig met table earlier (strings_in_shown dig one) keeps (λ string there.
      contains-has earlier string
      (kept place one at string (has-contains (strings_in_shown dig one) string there)))

  -- the opening that was added last is met once its strings were added
  pub met-added : (met : List Opened) (earlier : List (List ℕ)) (one : Opened) → KeepsMet dig met earlier
      → KeepsMet dig (met ++ one ∷ []) (earlier ++ strings_in_shown dig one)
  met-added met earlier one keeps place other is string there = elim (cases_eq place (length met)) [
    | inl last ↦
        let same : one ≡ other =
        some_same one other (sym (get-last met one) ∙ ap (slice_get (met ++ one ∷ [])) (sym last) ∙ is) in
        has-contains (earlier ++ strings_in_shown dig one) string
        (has-right earlier (strings_in_shown dig one) string
        (contains-has (strings_in_shown dig one) string
        (subst (λ (o : Opened). Contains (strings_in dig o.coin o.opening) string) (sym same) there)))
    | inr apart ↦
        let within : place < length (met ++ one ∷ []) = slice_get_within (met ++ one ∷ []) place other is in
        let before : place < length met = omega (arith, within, length-append met (one ∷ []), apart) in
        met-stays met earlier (strings_in_shown dig one) keeps place other
        (sym (get-before met (one ∷ []) place before) ∙ is) string there
  ]

  -- ---- the first clash

  -- a clash stays the first whatever follows
  pub clash-stays : (earlier more : List (List ℕ)) (clash : Clash)
      → ((rest : List (List ℕ)) → first_clash dig [] (earlier ++ rest) ≡ Some (pair_of clash))
      → (rest : List (List ℕ)) → first_clash dig [] ((earlier ++ more) ++ rest) ≡ Some (pair_of clash)
  clash-stays earlier more clash found rest =
      ap (first_clash dig []) (append_assoc earlier more rest) ∙ found (more ++ rest)
