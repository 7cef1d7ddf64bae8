-- Things are found by their names.
use Rattle.world_scene.proofs.Words.{◌≡◌, refl, sym, ap, subst, ◌∙◌, zero, suc, ℕ, Bool, true, false, if◌then◌else◌, inl, inr, ⊎_elim, List, [], ◌∷◌, ◌++◌, length, find, get_or, nat_lt, Option, Some, None, ◌⊎◌, Vec, slice_get, is_some, position, bytes_eq, false≢true, ltb-true, ltb-false, bytes_eq-Decides, none-some, same_Some, slice_get_within, slice_get_past, slice_get_read, get_or_from_slice_get, list_any-from_Any, position-is, Places, key_cmp, place_in, PutsPlace, FindsEach}
use Rattle.std.specs.Ordering.{is_eq, nat_cmp}
use Rattle.std.specs.Cmp.{eq_by_cmp_equiv}
use Rattle.std.specs.Cmp.Lexicographic.{slice_cmp, nat_list_cmp_total, nat_list_eq_equiv}
use Rattle.std.specs.Map.{KeepsOthers, IsKeyTest, AreApart, lookup}
use Rattle.std.specs.BTreeMap.{BTreeMap, UpdatesBy, get_by}
use Rattle.std.proofs.lemmas.Map.Text.{is_eq-slice_cmp}
use Rattle.world_scene.proofs.Scans.{any_at, found_where_placed}

-- ---- a name is put

-- a key that is one name isn't another
apart : (name other key : List ℕ) → bytes_eq name other ≡ false → is_eq (slice_cmp nat_cmp name key) ≡ true
    → is_eq (slice_cmp nat_cmp other key) ≡ false
apart name other key differs same =
    is_eq-slice_cmp other key ∙ nat_list_eq_equiv.symm other key
    ∙ sym (nat_list_eq_equiv.congr name key other (sym (is_eq-slice_cmp name key) ∙ same))
    ∙ differs

others_kept : {K X : Type 0} (eq : K → K → Bool) (test : K → Bool) (old new : List (K × X))
    → KeepsOthers eq test old new → (other : K → Bool) → IsKeyTest eq other → AreApart test other
    → lookup other new ≡ lookup other old
unfolding KeepsOthers
others_kept eq test old new keeps = keeps

-- what a map has for each name, once a key that is this name has w
pub name_put : {A : Type 0} (old new : BTreeMap (Vec ℕ A) ℕ) (name : List ℕ) (w : Option ℕ)
    → UpdatesBy (λ (x y : Vec ℕ A). slice_cmp nat_cmp x.items y.items) (key_cmp name) old new w
    → (other : List ℕ)
    → get_by (key_cmp other) new ≡ (if bytes_eq name other then w else get_by (key_cmp other) old)
name_put {A} old new name w updates other = by (bytes_eq name other) refl
  where
    by : (same : Bool) → bytes_eq name other ≡ same
        → get_by (key_cmp other) new ≡ (if bytes_eq name other then w else get_by (key_cmp other) old)
    by true same =
        subst (λ n. get_by (key_cmp n) new ≡ w) ((bytes_eq-Decides name other).0 same) updates.1
        ∙ sym (ap (λ b. if b then w else get_by (key_cmp other) old) same)
    by false differs =
        others_kept _ _ old.entries new.entries updates.3 _
        (λ (x y : Vec ℕ A). (eq_by_cmp_equiv nat_list_cmp_total).congr other x.items y.items)
        (λ (key : Vec ℕ A). apart name other key.items differs)
        ∙ sym (ap (λ b. if b then w else get_by (key_cmp other) old) differs)

-- ---- the first that passes

module _ {X : Type 0} (p : X → Bool) (things : List X) where
  -- one that passes isn't there where none is first
  pub none_passes : position p things ≡ None → (n : ℕ) (thing : X) → slice_get things n ≡ Some thing
      → p thing ≡ false
  none_passes none n thing at = by (p thing) refl
    where
      by : (passes : Bool) → p thing ≡ passes → p thing ≡ false
      by false fails = fails
      by true passes =
          absurd (false≢true (sym (ap is_some none) ∙ any_at p things
          ∙ list_any-from_Any p things
          (n, thing, slice_get_within things n thing at, get_or_from_slice_get things n thing thing at, passes)))

  -- none is first where none is found
  pub none_placed : find p things ≡ None → position p things ≡ None
  none_placed none = by (position p things) refl
    where
      by : (first : Option ℕ) → position p things ≡ first → position p things ≡ None
      by None is = is
      by (Some i) is =
          absurd (false≢true (sym (ap is_some none) ∙ found_where_placed p things ∙ ap is_some is))

-- among things that are found by their names, one of this name that passes
module _ {X : Type 0} (place_of : List ℕ → Option ℕ) (name_of : X → List ℕ) (things : List X)
    (finds : (n : ℕ) (thing : X) → slice_get things n ≡ Some thing → place_of (name_of thing) ≡ Some n)
    (name : List ℕ) (p : X → Bool) (named : (thing : X) → p thing ≡ true → name_of thing ≡ name) where
  -- the first that passes stands at the place of the name
  first_there : (i : ℕ) → position p things ≡ Some i
      → (thing : X) × (slice_get things i ≡ Some thing) × (p thing ≡ true) × (place_of name ≡ Some i)
  first_there i is =
      let there = position-is p things i is in
      (there.0, there.1, there.2, ap place_of (sym (named there.0 there.2)) ∙ finds i there.0 there.1)

  -- none passes where the name has no place
  pub none_named : place_of name ≡ None → position p things ≡ None
  none_named none = by (position p things) refl
    where
      by : (first : Option ℕ) → position p things ≡ first → position p things ≡ None
      by None is = is
      by (Some i) is = absurd (none-some i (sym none ∙ (first_there i is).3))

  module _ (n : ℕ) (placed : place_of name ≡ Some n) where
    -- nor where nothing stands at its place
    pub none_there : slice_get things n ≡ None → position p things ≡ None
    none_there none = by (position p things) refl
      where
        by : (first : Option ℕ) → position p things ≡ first → position p things ≡ None
        by None is = is
        by (Some i) is =
            let there = first_there i is in
            absurd (none-some there.0
            (sym none ∙ ap (slice_get things) (same_Some n i (sym placed ∙ there.3)) ∙ there.1))

    module _ (thing : X) (at : slice_get things n ≡ Some thing) where
      -- nor where what stands there doesn't
      pub other_there : p thing ≡ false → position p things ≡ None
      other_there fails = by (position p things) refl
        where
          by : (first : Option ℕ) → position p things ≡ first → position p things ≡ None
          by None is = is
          by (Some i) is =
              let there = first_there i is in
              let same : thing ≡ there.0 = same_Some thing there.0
              (sym at ∙ ap (slice_get things) (same_Some n i (sym placed ∙ there.3)) ∙ there.1) in
              absurd (false≢true (sym fails ∙ ap p same ∙ there.2))

      -- and where it does, it is the first
      pub found_there : p thing ≡ true → position p things ≡ Some n
      found_there passes = by (position p things) refl
        where
          by : (first : Option ℕ) → position p things ≡ first → position p things ≡ Some n
          by None is = absurd (false≢true (sym (none_passes p things is n thing at) ∙ passes))
          by (Some i) is = is ∙ sym (first_there i is).3 ∙ placed

-- ---- what is read of a list

-- nothing stands at a place past the end, and what is read within it does
pub none_read : {X : Type 0} (items things : List X) (n : ℕ) → items ≡ things → false ≡ nat_lt n (length items)
    → slice_get things n ≡ None
none_read {X} items things n are past =
    ap (λ (all : List X). slice_get all n) (sym are)
    ∙ slice_get_past items n (ltb-false n (length items) (sym past))

pub one_read : {X : Type 0} (items things : List X) (n : ℕ) (thing : X) → items ≡ things
    → true ≡ nat_lt n (length items) → thing ≡ get_or items n thing → slice_get things n ≡ Some thing
one_read {X} items things n thing are within is =
    ap (λ (all : List X). slice_get all n) (sym are)
    ∙ slice_get_read items (length items) n thing refl (ltb-true n (length items) (sym within)) is

-- ---- one more

pushed_at : {X : Type 0} (things : List X) (more : X) (n : ℕ) (thing : X)
    → slice_get (things ++ more ∷ []) n ≡ Some thing
    → (slice_get things n ≡ Some thing) ⊎ ((n ≡ length things) × (more ≡ thing))
pushed_at [] more zero thing at = inr (refl, same_Some more thing at)
pushed_at [] more (suc n) thing at = absurd (none-some thing at)
pushed_at (first ∷ things) more zero thing at = inl at
pushed_at (first ∷ things) more (suc n) thing at =
    ⊎_elim inl (λ last. inr (ap suc last.0, last.1)) (pushed_at things more n thing at)

-- one more thing, whose name is new, is found too
pub finds_more : {X : Type 0} (old new : Places) (name_of : X → List ℕ) (things : List X) (more : X)
    → FindsEach old name_of things → PutsPlace old (name_of more) (length things) new
    → ((n : ℕ) (found : X) → slice_get things n ≡ Some found → bytes_eq (name_of found) (name_of more) ≡ false)
    → FindsEach new name_of (things ++ more ∷ [])
finds_more {X} old new name_of things more finds puts fresh n thing at =
    let put : (found : X) (same : Bool) → bytes_eq (name_of more) (name_of found) ≡ same
    → place_in new (name_of found) ≡ (if same then Some (length things) else place_in old (name_of found)) =
    λ found same is. puts (name_of found)
    ∙ ap (λ b. if b then Some (length things) else place_in old (name_of found)) is in
    elim (pushed_at things more n thing at) [
      | inl stood ↦ put thing false
          (nat_list_eq_equiv.symm (name_of more) (name_of thing) ∙ fresh n thing stood)
          ∙ finds n thing stood
      | inr last ↦ put thing true
          (ap (λ found. bytes_eq (name_of more) (name_of found)) (sym last.1)
          ∙ (bytes_eq-Decides (name_of more) (name_of more)).1 refl)
          ∙ ap Some (sym last.0)
    ]
