-- The records that a signing adds are those of its signer, each behind those before it, and keep what it signs.
use Rattle.std.proofs.Common.{◌≡◌, ◌<◌, ◌≤◌, ◌-◌, ◌^◌, ℕ, zero, suc, Bool, true, false, if◌then◌else◌, List, [], ◌∷◌, ◌++◌, length, map, take, codes, Option, Some, None, Ok, refl, sym, ◌∙◌, ap, subst, inl, inr, arith, append_assoc}
use Rattle.std.proofs.lemmas.Bool.{and_from, and_parts, cases_Bool, eq-eqb, leb-true, lt-ltb, ltb-true}
use Rattle.std.proofs.lemmas.List.{append-nil, length-take}
use Rattle.std.proofs.lemmas.Slice.Eq.{bytes_eq-Decides}
use Rattle.std.specs.Prelude.{◌==◌, ◌&&◌, nat_lt}
use Rattle.std.specs.Str.{bytes_eq}
use Rattle.std.proofs.lemmas.Grind.{common_steps}
use Rattle.sha2.proofs.Facts256.{length-sha256}
use Rattle.lms_sign.specs.Types.{height, leaf_count}
use Rattle.lms_sign.specs.Tree.{public_key_of}
use Rattle.lms_sign.specs.declared.secret.Secret.{Secret}
use Rattle.lms_sign.proofs.Lists.{length-u32str}
use Rattle.lms_sign.proofs.Nodes.{length-tree_node}
use Rattle.hss_keys.specs.declared.seed.HssSeed.{HssSeed}
use Rattle.hss_keys.specs.declared.entry.Entry.{Entry}
use Rattle.hss_keys.specs.declared.entry.Entry.TheVariants.{Opens, Binds}
use Rattle.hss_keys.specs.Keys.{derived, bottom_secret, bottom_key}
use Rattle.hss_keys.specs.Entries.{entries_of, entry_text, message_at, opened_count, used_in, IsEntry}
use Rattle.hss_keys.specs.Form.{level_records}
use Rattle.hss_keys.specs.Levels.{bound_of, has_leaf, KeepsBound}
use Rattle.hss_keys.proofs.Spelling.{entries_are_read_back}
use Rattle.hss_keys.proofs.Counts.{entries-more, follows_from, next-has, opened-more, opened-same, used-none, IsNextLeaf}
use Rattle.hss_keys.proofs.Form.{are_counted, one_more}
use Rattle.hss_keys.proofs.Bounds.{bottom-kept, bound-kept, entries-bound, message-kept}
use Rattle.hss_runs.specs.declared.next.NextLeaf.{NextLeaf}
use Rattle.hss_runs.specs.Identity.{signer_seed}
use Rattle.hss_runs.specs.Signing.{is_signable, next_leaf, entries_added, signing, refuses, signs, Signing}

-- ---- each front of what is added

-- it holds of the records, and of them with each front of some more
abbrev pub EachFront : (List (List ℕ) → Type 0) → List (List ℕ) → List (List ℕ) → Type 0
EachFront P records [] = P records
EachFront P records (body ∷ more) = P records × EachFront P (records ++ body ∷ []) more

module _ (P : List (List ℕ) → Type 0) where
  pub front-is : (records more : List (List ℕ)) → EachFront P records more → (count : ℕ)
      → P (records ++ take count more)
  front-is records [] is zero = subst P (sym (append-nil records)) is
  front-is records [] is (suc count) = subst P (sym (append-nil records)) is
  front-is records (body ∷ more) is zero = subst P (sym (append-nil records)) is.0
  front-is records (body ∷ more) is (suc count) =
      subst P (append_assoc records (body ∷ []) (take count more))
      (front-is (records ++ body ∷ []) more is.1 count)

  pub all-is : (records more : List (List ℕ)) → EachFront P records more → P (records ++ more)
  all-is records [] is = subst P (sym (append-nil records)) is
  all-is records (body ∷ more) is =
      subst P (append_assoc records (body ∷ []) more) (all-is (records ++ body ∷ []) more is.1)

-- ---- what a signing comes to, in each case

signable-parts : (message : List ℕ) → is_signable message ≡ true → (1 ≤ length message) × (length message ≤ 128)
signable-parts message is =
    let parts = and_parts _ _ is in (leb-true 1 (length message) parts.0, leb-true (length message) 128 parts.1)

module _ (seed : HssSeed) (records : List (List ℕ)) (message : List ℕ) where
  signing-short : is_signable message ≡ false
      → signing seed records message ≡ refuses (codes "bad-length") (length message)
  unfolding signing
  signing-short is = rw is refl

  pub signing-next : (next : NextLeaf) → is_signable message ≡ true
      → next_leaf seed (entries_of records) ≡ Some next → signing seed records message ≡ signs seed message next
  unfolding signing
  signing-next next is next_is = rw (is, next_is) refl

  signing-spent : is_signable message ≡ true → next_leaf seed (entries_of records) ≡ None
      → signing seed records message ≡ refuses (codes "key-spent") (opened_count (entries_of records))
  unfolding signing
  signing-spent is none = rw (is, none) refl

-- ---- the key of a signer

length-key : (secret : Secret) → length secret.id ≡ 16 → length (public_key_of secret) ≡ 56
unfolding public_key_of
length-key secret whole = grind (arith, common_steps, length-u32str, length-tree_node) steps 20000

module _ (bytes : List ℕ) where
  abbrev pub key : HssSeed
  key = signer_seed bytes

  top-leaves : leaf_count key.top ≡ 32
  unfolding height
  top-leaves = refl

  bottom-leaves : leaf_count key.bottom ≡ 32
  unfolding height
  bottom-leaves = refl

  length-derived : (j element : ℕ) → length (derived key j element) ≡ 32
  unfolding derived
  length-derived j element = length-sha256 _

  pub length-bottom : (j : ℕ) → length (bottom_key key j) ≡ 56
  length-bottom j =
      length-key (bottom_secret key j)
      (omega (arith, length-take 16 (derived key j 0xfffc), length-derived j 0xfffc))

  -- the records are those of the key
  abbrev pub AreOfKey : List (List ℕ) → Type 0
  AreOfKey records = level_records key records ≡ Ok records

  -- ---- one entry

  opens-on : (records : List (List ℕ)) → AreOfKey records → opened_count (entries_of records) < leaf_count key.top
      → (let j = opened_count (entries_of records) in
      AreOfKey (records ++ entry_text (Opens j (bottom_key key j)) ∷ []))
  opens-on records are less =
      let entries = entries_of records in
      let j = opened_count entries in
      let bottom = bottom_key key j in
      let small : j < 2 ^ 32 = omega (arith, less, top-leaves) in
      let read = entries_are_read_back (Opens j bottom) (small, length-bottom j) in
      one_more key records (entry_text (Opens j bottom)) are
      (follows_from key records (entry_text (Opens j bottom)) (Opens j bottom) read
      ∙ and_from ((j == opened_count entries) && nat_lt j (leaf_count key.top)) (bytes_eq bottom bottom)
      (and_from (j == opened_count entries) (nat_lt j (leaf_count key.top)) (eq-eqb j (opened_count entries) refl)
      (lt-ltb j (leaf_count key.top) less))
      ((bytes_eq-Decides bottom bottom).1 refl))

  -- its first leaf is next then
  opened-next : (records : List (List ℕ)) → AreOfKey records
      → (let j = opened_count (entries_of records) in
      AreOfKey (records ++ entry_text (Opens j (bottom_key key j)) ∷ [])
      → opened_count (entries_of records) < leaf_count key.top
      → IsNextLeaf key (entries_of (records ++ entry_text (Opens j (bottom_key key j)) ∷ [])) j 0)
  opened-next records are mid_are less =
      let entries = entries_of records in
      let j = opened_count entries in
      let bottom = bottom_key key j in
      let small : j < 2 ^ 32 = omega (arith, less, top-leaves) in
      let read = entries_are_read_back (Opens j bottom) (small, length-bottom j) in
      let now : entries_of (records ++ entry_text (Opens j bottom) ∷ []) ≡ entries ++ Opens j bottom ∷ [] =
      entries-more records (entry_text (Opens j bottom)) (Opens j bottom) read in
      let least : 0 < leaf_count key.bottom = omega (arith, bottom-leaves) in
      record {
        last = sym (ap opened_count now ∙ opened-more entries j bottom);
        next = sym (ap used_in now ∙ used-none entries j bottom ((are_counted key records are).later j (omega arith)));
        leaf = least;
      }

  -- a message that may be signed, by the next leaf of the last bottom key
  module _ (records : List (List ℕ)) (are : AreOfKey records) (j q : ℕ) (is : IsNextLeaf key (entries_of records) j q)
      (message : List ℕ) (signable : is_signable message ≡ true) where
    abbrev body : List ℕ
    body = entry_text (Binds j q message)

    abbrev more : List (List ℕ)
    more = records ++ body ∷ []

    is_entry : IsEntry (Binds j q message)
    is_entry = grind (arith, common_steps, signable-parts, are_counted, top-leaves, bottom-leaves) steps 20000

    binds-on : AreOfKey more
    binds-on =
        grind (arith, common_steps, one_more, follows_from, entries_are_read_back, is_entry, and_from, eq-eqb, lt-ltb)

    keeps-bound : KeepsBound more (bound_of key j q message)
    keeps-bound =
        let entries = entries_of records in
        let now : entries_of more ≡ entries ++ Binds j q message ∷ [] =
        entries-bound records more j q message is_entry refl in
        let count : opened_count (entries_of more) ≡ opened_count entries =
        ap opened_count now ∙ opened-same entries j q message in
        bound-kept key more j q message (bound_of key j q message) refl
        (bottom-kept key more j (bottom_key key j) binds-on (omega (arith, count, is.last)) refl)
        (ap (λ (e : List Entry). message_at e j q) now ∙ message-kept entries j q message is.last is.next)

  -- ---- a signing

  -- what it adds, which keeps what it signs
  pub record Grown (records : List (List ℕ)) (next : NextLeaf) (message : List ℕ) : Type 0 where
    pub fronts : EachFront AreOfKey records (map entry_text (entries_added key next message))
    pub keeps : KeepsBound (records ++ map entry_text (entries_added key next message))
        (bound_of key next.top_leaf next.leaf message)

  module _ (records : List (List ℕ)) (are : AreOfKey records) (message : List ℕ)
      (signable : is_signable message ≡ true) where
    abbrev last : NextLeaf
    last =
        record { top_leaf = opened_count (entries_of records) - 1; leaf = used_in (entries_of records); opens = false }

    abbrev new : NextLeaf
    new = record { top_leaf = opened_count (entries_of records); leaf = 0; opens = true }

    grows-last : has_leaf key (entries_of records) ≡ true → Grown records last message
    grows-last has =
        let parts = next-has key (entries_of records) has in
        let is : IsNextLeaf key (entries_of records) last.top_leaf last.leaf = record {
          last = omega (arith, parts.0);
          next = refl;
          leaf = parts.1;
        } in
        record {
          fronts = (are, binds-on records are last.top_leaf last.leaf is message signable);
          keeps = keeps-bound records are last.top_leaf last.leaf is message signable;
        }

    grows-new : opened_count (entries_of records) < leaf_count key.top → Grown records new message
    grows-new less =
        let j = opened_count (entries_of records) in
        let opening = entry_text (Opens j (bottom_key key j)) in
        let binding = entry_text (Binds j 0 message) in
        let mid = records ++ opening ∷ [] in
        let mid_are : AreOfKey mid = opens-on records are less in
        let is : IsNextLeaf key (entries_of mid) j 0 = opened-next records are mid_are less in
        record {
          fronts = (are, (mid_are, binds-on mid mid_are j 0 is message signable));
          keeps =
              subst (λ (l : List (List ℕ)). KeepsBound l (bound_of key j 0 message))
              (append_assoc records (opening ∷ []) (binding ∷ []))
              (keeps-bound mid mid_are j 0 is message signable);
        }

    chosen : (has less : Bool) (next : NextLeaf) → has_leaf key (entries_of records) ≡ has
        → nat_lt (opened_count (entries_of records)) (leaf_count key.top) ≡ less
        → (if has then Some last else if less then Some new else None) ≡ Some next → Grown records next message
    chosen true less next has is one =
        (let same : last ≡ next = cc one in
        subst (λ (n : NextLeaf). Grown records n message) same (grows-last has))
    chosen false true next has is one =
        (let same : new ≡ next = cc one in
        subst (λ (n : NextLeaf). Grown records n message) same
        (grows-new (ltb-true (opened_count (entries_of records)) (leaf_count key.top) is)))
    chosen false false next has is one = absurd (cc one)

    pub grown : (next : NextLeaf) → next_leaf key (entries_of records) ≡ Some next → Grown records next message
    grown next next_is =
        chosen (has_leaf key (entries_of records)) (nat_lt (opened_count (entries_of records)) (leaf_count key.top)) next
        refl refl next_is

  -- all that a signing adds, whatever it comes to
  module _ (records : List (List ℕ)) (message : List ℕ) (are : AreOfKey records) where
    abbrev Fronts : Signing → Type 0
    Fronts what = EachFront AreOfKey records (map entry_text what.adds)

    adds-of : (what : Signing) → signing key records message ≡ what → Fronts what → Fronts (signing key records message)
    adds-of what same fronts = subst Fronts (sym same) fronts

    by-next : (next : Option NextLeaf) → next_leaf key (entries_of records) ≡ next → is_signable message ≡ true
        → Fronts (signing key records message)
    by-next None none signable = adds-of _ (signing-spent key records message signable none) are
    by-next (Some next) is signable =
        adds-of _ (signing-next key records message next signable is)
        (grown records are message signable next is).fronts

    pub signing-fronts : Fronts (signing key records message)
    signing-fronts = elim (cases_Bool (is_signable message)) [
      | inl signable ↦ by-next (next_leaf key (entries_of records)) refl signable
      | inr short ↦ adds-of _ (signing-short key records message short) are
    ]
