-- The proof of a path: it keeps the path's siblings that aren't the default of their level.
use Rattle.sparse_merkle.proofs.Words.{◌≡◌, ◌≢◌, ℕ, zero, suc, ◌+◌, ◌*◌, ◌%◌, ◌^◌, ◌<◌, ◌≤◌, true, not, if◌then◌else◌, List, [], ◌∷◌, ◌++◌, Result, Ok, Err, IfOk, length, get_or, map, slice_index_or, refl, sym, ap, ◌∙◌, inl, inr, append-nil, arith, bit_or, All, filter, range_with_len, cases_Bool, both_ways, All-append, All-filter, All-map, All-nil, filter-append, get_or-map-range_with_len, get_or-range_with_len, length-range_with_len, map-append, one_shl, bytes_eq-Decides, common_steps, MaskedPath, IsMaskedPath, is_canonical, proof_path, MasksPath, default_digest, AreDefaults, far_part, near_part, path_below, path_to, subtree_digest, Entry}
use Rattle.std.specs.Int.Bits.{or_shifted_r}
use Rattle.sparse_merkle.specs.PathProof.{is_default_at, mask_of, kept_siblings, proof_of_path}
use Rattle.sparse_merkle.proofs.TreeLaws.{length-path_below}
use Rattle.sparse_merkle.proofs.ProofLaws.{MasksPath-none, MasksPath-default, MasksPath-sibling, MasksPath-one, proof_path-keeps, is_canonical-keeps}

-- ---- the siblings of a path below a level

abbrev kept_below : (List ℕ → List ℕ) → List (List ℕ) → ℕ → List (List ℕ)
kept_below dig path level =
    map (λ k. slice_index_or path k [])
    (filter (λ k. not (is_default_at dig path k)) (range_with_len 0 level))

range_more : (a n next : ℕ) → a + n ≡ next → range_with_len a (suc n) ≡ range_with_len a n ++ next ∷ []
range_more a zero next e = let same : a ≡ next = omega arith in rw same refl
range_more a (suc n) next e = ap (λ (ks : List ℕ). a ∷ ks) (range_more (a + 1) n next (omega arith))

kept_more : (dig : List ℕ → List ℕ) (path : List (List ℕ)) (ks : List ℕ) (level : ℕ)
    → map (λ k. slice_index_or path k []) (filter (λ k. not (is_default_at dig path k)) (ks ++ level ∷ []))
    ≡ map (λ k. slice_index_or path k []) (filter (λ k. not (is_default_at dig path k)) ks)
    ++ (if is_default_at dig path level then [] else slice_index_or path level [] ∷ [])
kept_more dig path ks level = grind (arith, common_steps, filter-append, map-append, cases_Bool) steps 20000

kept_below-suc : (dig : List ℕ → List ℕ) (path : List (List ℕ)) (level : ℕ)
    → kept_below dig path (suc level)
    ≡ kept_below dig path level
    ++ (if is_default_at dig path level then [] else slice_index_or path level [] ∷ [])
kept_below-suc dig path level =
    ap (λ (ks : List ℕ). map (λ k. slice_index_or path k []) (filter (λ k. not (is_default_at dig path k)) ks))
    (range_more 0 level level (omega arith))
    ∙ kept_more dig path (range_with_len 0 level) level

-- ---- the mask and the kept siblings of a path's lowest levels

MasksPath-below : (dig : List ℕ → List ℕ) (defaults path : List (List ℕ)) (level : ℕ) → AreDefaults dig defaults
    → level ≤ 64 → MasksPath defaults path (mask_of dig path level) (kept_below dig path level) level
unfolding mask_of
MasksPath-below dig defaults path zero are le = MasksPath-none defaults path
MasksPath-below dig defaults path (suc level) are le =
    let mask = mask_of dig path level in
    let kept = kept_below dig path level in
    let sibling = slice_index_or path level [] in
    let lt : level < 64 = omega arith in
    let below = MasksPath-below dig defaults path level are (omega arith) in
    let top : level + 1 ≡ suc level = omega arith in
    elim (cases_Bool (is_default_at dig path level)) [
      | inl is ↦
          let same : sibling ≡ slice_index_or defaults level [] =
          (bytes_eq-Decides sibling (default_digest dig level)).0 is ∙ sym (are level lt) in
          let none : mask + 0 ≡ mask = omega arith in
          rw (kept_below-suc dig path level, is, none, append-nil kept, ← top)
          (MasksPath-default defaults path mask kept level below same)
      | inr isnt ↦
          let differs : sibling ≢ slice_index_or defaults level [] =
          λ e. both_ways (is_default_at dig path level) isnt
          ((bytes_eq-Decides sibling (default_digest dig level)).1 (e ∙ are level lt)) in
          let bit : bit_or mask (1 * 2 ^ level % 2 ^ 64) ≡ mask + 2 ^ level = set_above mask level lt below.small in
          rw (kept_below-suc dig path level, isnt, ← bit, ← top)
          (MasksPath-sibling defaults path mask kept level below lt differs)
    ]
  where
    set_above : (mask level : ℕ) → level < 64 → mask < 2 ^ level
        → bit_or mask (1 * 2 ^ level % 2 ^ 64) ≡ mask + 2 ^ level
    set_above mask level lt small =
        let one : 1 * 2 ^ level ≡ 2 ^ level = omega arith in
        let shifted : bit_or mask (2 ^ level) ≡ 2 ^ level + mask =
        rw one at (or_shifted_r 1 level mask small) in
        rw (one_shl level 64 lt) (shifted ∙ omega arith)

-- the proof of a path keeps the siblings of its 64 levels
pub MasksPath-proof_of_path : (dig : List ℕ → List ℕ) (defaults path : List (List ℕ)) → AreDefaults dig defaults
    → MasksPath defaults path (proof_of_path dig path).mask (proof_of_path dig path).siblings 64
unfolding proof_of_path kept_siblings
MasksPath-proof_of_path dig defaults path are = MasksPath-below dig defaults path 64 are (omega arith)

-- ---- the proof of a path of 64 siblings of 32 bytes

-- the 64 defaults
abbrev defaults_of : (List ℕ → List ℕ) → List (List ℕ)
defaults_of dig = map (λ level. default_digest dig level) (range_with_len 0 64)

AreDefaults-defaults_of : (dig : List ℕ → List ℕ) → AreDefaults dig (defaults_of dig)
AreDefaults-defaults_of dig level lt =
    get_or-map-range_with_len (λ (k : ℕ). default_digest dig k) 0 64 level level [] lt (omega arith)

All-kept : (dig : List ℕ → List ℕ) (path : List (List ℕ)) → length path ≡ 64
    → All (λ sibling. length sibling ≡ 32) path
    → All (λ sibling. length sibling ≡ 32) (kept_below dig path 64)
All-kept dig path long h =
    All-map (λ sibling. length sibling ≡ 32) (λ k. slice_index_or path k [])
    (filter (λ k. not (is_default_at dig path k)) (range_with_len 0 64))
    (All-filter (λ k. not (is_default_at dig path k)) (λ k. length (slice_index_or path k []) ≡ 32)
    (range_with_len 0 64) each)
  where
    each : All (λ k. length (slice_index_or path k []) ≡ 32) (range_with_len 0 64)
    each k d lt =
        let below : k < 64 = omega (arith, length-range_with_len 0 64) in
        let within : k < length path = omega arith in
        let e : get_or (range_with_len 0 64) k d ≡ k = get_or-range_with_len 0 64 k d below ∙ omega arith in
        rw e (h k [] within)

pub IsMaskedPath-proof_of_path : (dig : List ℕ → List ℕ) (path : List (List ℕ)) → length path ≡ 64
    → All (λ sibling. length sibling ≡ 32) path → IsMaskedPath (proof_of_path dig path)
unfolding proof_of_path kept_siblings
IsMaskedPath-proof_of_path dig path long h =
    let keeps = MasksPath-below dig (defaults_of dig) path 64 (AreDefaults-defaults_of dig) (omega arith) in
    record { small = keeps.small; count = keeps.count; long = All-kept dig path long h }

pub is_canonical-proof_of_path : (dig : List ℕ → List ℕ) (path : List (List ℕ))
    → is_canonical dig (proof_of_path dig path) ≡ true
is_canonical-proof_of_path dig path =
    is_canonical-keeps dig (defaults_of dig) path (proof_of_path dig path) (AreDefaults-defaults_of dig)
    (MasksPath-proof_of_path dig (defaults_of dig) path (AreDefaults-defaults_of dig))

pub proof_path-proof_of_path : (dig : List ℕ → List ℕ) (path : List (List ℕ)) → length path ≡ 64
    → proof_path dig (proof_of_path dig path) ≡ path
proof_path-proof_of_path dig path long =
    proof_path-keeps dig (defaults_of dig) path (proof_of_path dig path) (AreDefaults-defaults_of dig)
    (MasksPath-proof_of_path dig (defaults_of dig) path (AreDefaults-defaults_of dig)) long

-- ---- what is the proof of a path

-- a proof that was made of a path, where it stands for a path, is the proof of that path
pub proof_of_path-made : {E : Type 0} (result : Result MaskedPath E) (dig : List ℕ → List ℕ)
    (defaults path wanted : List (List ℕ)) → AreDefaults dig defaults → length path ≡ 64
    → IfOk result (λ proof. MasksPath defaults path proof.mask proof.siblings 64)
    → IfOk result (λ proof. proof_path dig proof ≡ wanted) → IfOk result (λ proof. proof ≡ proof_of_path dig wanted)
proof_of_path-made (Ok proof) dig defaults path wanted are long keeps stands =
    MasksPath-one defaults path proof (proof_of_path dig path) keeps (MasksPath-proof_of_path dig defaults path are)
    ∙ ap (λ (siblings : List (List ℕ)). proof_of_path dig siblings)
    (sym (proof_path-keeps dig defaults path proof are keeps long) ∙ stands)
proof_of_path-made (Err error) dig defaults path wanted are long keeps stands = tt

-- ---- the path of a coin has 64 siblings of 32 bytes

length-subtree_digest : (dig : List ℕ → List ℕ) (level : ℕ) (entries : List Entry)
    → ((bytes : List ℕ) → length (dig bytes) ≡ 32) → length (subtree_digest dig level entries) ≡ 32
unfolding subtree_digest
length-subtree_digest dig zero entries long = long _
length-subtree_digest dig (suc level) entries long = long _

All-path_below-long : (dig : List ℕ → List ℕ) (coin level : ℕ) (entries : List Entry)
    → ((bytes : List ℕ) → length (dig bytes) ≡ 32)
    → All (λ sibling. length sibling ≡ 32) (path_below dig coin level entries)
unfolding path_below
All-path_below-long dig coin zero entries long = All-nil (λ sibling. length sibling ≡ 32)
All-path_below-long dig coin (suc level) entries long =
    All-append (λ sibling. length sibling ≡ 32) (path_below dig coin level (near_part coin level entries))
    (subtree_digest dig level (far_part coin level entries) ∷ [])
    (All-path_below-long dig coin level (near_part coin level entries) long)
    (grind (arith, common_steps, length-subtree_digest) steps 20000)

pub length-path_to : (dig : List ℕ → List ℕ) (coin : ℕ) (entries : List Entry)
    → length (path_to dig coin entries) ≡ 64
unfolding path_to
length-path_to dig coin entries = length-path_below dig coin 64 entries

pub All-path_to-long : (dig : List ℕ → List ℕ) (coin : ℕ) (entries : List Entry)
    → ((bytes : List ℕ) → length (dig bytes) ≡ 32)
    → All (λ sibling. length sibling ≡ 32) (path_to dig coin entries)
unfolding path_to
All-path_to-long dig coin entries long = All-path_below-long dig coin 64 entries long
