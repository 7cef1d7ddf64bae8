-- Strangers are found by their names.
use Rattle.world_scene.proofs.Words.{◌≡◌, ◌∙◌, ℕ, true, false, List, [], ◌∷◌, ◌++◌, find, length, Some, None, slice_get, bytes_eq-Decides, Rogue, Places, is_named_rogue, place_in, PutsPlace, FindsEach}
use Rattle.world_scene.proofs.Scans.{found_at_place, none_is_found}
use Rattle.world_scene.proofs.Finding.{none_passes, none_placed, none_named, none_there, other_there, found_there, finds_more}

abbrev pub name_of : Rogue → List ℕ
name_of rogue = rogue.name

-- each of the strangers is found by its name
abbrev pub FindsRogues : Places → List Rogue → Type 0
FindsRogues places rogues = FindsEach places name_of rogues

module _ (places : Places) (rogues : List Rogue) (finds : FindsRogues places rogues) (name : List ℕ) where
  has_name : (rogue : Rogue) → is_named_rogue name rogue ≡ true → rogue.name ≡ name
  has_name rogue is = (bytes_eq-Decides rogue.name name).0 is

  pub no_place : place_in places name ≡ None → find (is_named_rogue name) rogues ≡ None
  no_place none =
      none_is_found (is_named_rogue name) rogues
      (none_named (place_in places) name_of rogues finds name (is_named_rogue name) has_name none)

  module _ (n : ℕ) (placed : place_in places name ≡ Some n) where
    pub no_rogue : slice_get rogues n ≡ None → find (is_named_rogue name) rogues ≡ None
    no_rogue none =
        none_is_found (is_named_rogue name) rogues
        (none_there (place_in places) name_of rogues finds name (is_named_rogue name) has_name n
        placed none)

    module _ (rogue : Rogue) (at : slice_get rogues n ≡ Some rogue) where
      pub other_rogue : is_named_rogue name rogue ≡ false → find (is_named_rogue name) rogues ≡ None
      other_rogue fails =
          none_is_found (is_named_rogue name) rogues
          (other_there (place_in places) name_of rogues finds name (is_named_rogue name) has_name
          n placed rogue at fails)

      pub that_rogue : is_named_rogue name rogue ≡ true → find (is_named_rogue name) rogues ≡ Some rogue
      that_rogue passes =
          found_at_place (is_named_rogue name) rogues n
          (found_there (place_in places) name_of rogues finds name (is_named_rogue name) has_name
          n placed rogue at passes)
          ∙ at

-- one more stranger, whose name is new
pub one_more : (old new : Places) (rogues : List Rogue) (rogue : Rogue) → FindsRogues old rogues
    → PutsPlace old rogue.name (length rogues) new → find (is_named_rogue rogue.name) rogues ≡ None
    → FindsRogues new (rogues ++ rogue ∷ [])
one_more old new rogues rogue finds puts fresh =
    finds_more old new name_of rogues rogue finds puts
    (none_passes (is_named_rogue rogue.name) rogues (none_placed (is_named_rogue rogue.name) rogues fresh))
