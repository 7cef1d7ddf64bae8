-- What became of the operator since an earlier line: the chain's tag stays, its notes grow, and so do its sealed trees.
use Rattle.world_laws.proofs.Basics.{◌≡◌, ℕ, Bool, true, false, if◌then◌else◌, List, [], ◌∷◌, ◌++◌, Option, Some, None, inl, inr, refl, ap, ◌∙◌, subst, slice_get, find, arith, rules, sym, reverse, filter_map, cons_option, reverse-append, filter_map-append, common_steps, some_same, append-assoc}
use Rattle.world_laws.proofs.CoinWords.{Entry, Rules}
use Rattle.world_laws.proofs.NodeWords.{are_of, with_record}
use Rattle.world_laws.proofs.OperatorWords.{Note, Offered, Laid, Sealed, note_in, operator_kinds, who_is, notes_of, Forest, after_note, forest_of, tree_of, forest_in}
use Rattle.world_laws.proofs.WorldWords.{Line, Command, Node, World, TraceEntry, entry_of, Run, IsCommandIn, begun, NewWallet, NewWatcher, NewRogue, Act, Adds, Orders, Crashes, End, Whole, Crashed, Kept, Lost, act_of, node_after, deed_at, IsActIn, line_effect, begun, change_of, IsKeptOwn, each_node_keeps, rules-stay, IsRun}
use Rattle.world_laws.proofs.Acts.{IsNext, over_acts}

-- ---- notes

append-nil : {A : Type 0} (xs : List A) → xs ≡ xs ++ []
append-nil [] = refl
append-nil (x ∷ xs) = ap (λ l. x ∷ l) (append-nil xs)

-- records that have more
pub record HasMore (records after : List (List ℕ)) : Type 0 where
  pub more : List (List ℕ)
  pub is : after ≡ records ++ more

-- the operator of a world is that of an earlier one, with more notes
pub record IsLater (before world : World) : Type 0 where
  pub tag : world.chain.tag ≡ before.chain.tag
  pub op : (old : Node) → slice_get before.nodes 0 ≡ Some old
      → (new : Node) × (slice_get world.nodes 0 ≡ Some new) × HasMore old.notes new.notes

later-then : (one two three : World) → IsLater one two → IsLater two three → IsLater one three
later-then one two three first second = record {
  tag = second.tag ∙ first.tag;
  op = λ old is.
      let middle = first.op old is in
      let last = second.op middle.0 middle.1 in (
        last.0,
        last.1,
        record {
          more = middle.2.more ++ last.2.more;
          is = last.2.is ∙ ap (λ (l : List (List ℕ)). l ++ last.2.more) middle.2.is
              ∙ sym (append-assoc old.notes middle.2.more last.2.more);
        },
      );
}

-- an act leaves the operator's notes, or adds one
abbrev Old : World → ℕ → Option Node → Type 0
Old world n found = slice_get world.nodes n ≡ found

abbrev IsGrown : World → ℕ → Option Node → Type 0
IsGrown world n found = (old : Node) → slice_get world.nodes n ≡ Some old
    → (new : Node) × (found ≡ Some new) × HasMore old.notes new.notes

same-notes : (notes : List (List ℕ)) → HasMore notes notes
same-notes notes = record { more = []; is = append-nil notes }

own-grown : (dig : List ℕ → List ℕ) (world : World) (act : Act)
    → IsKeptOwn (Old world) (IsGrown world) world.nodes (change_of dig world act)
own-grown dig world (Adds name (NewWallet who)) = λ none node is. absurd (cc (none, is))
own-grown dig world (Adds name (NewWatcher account)) = λ none node is. absurd (cc (none, is))
own-grown dig world (Adds name (NewRogue who)) = tt
own-grown dig world (Orders place order cut) = grind (arith, common_steps, some_same, by)
  where
    recorded : (note : Option (List ℕ)) → HasMore place.node.notes (with_record place.node.notes note)
    recorded None = same-notes place.node.notes
    recorded (Some body) = record { more = body ∷ []; is = refl }

    by : (end : End) → HasMore place.node.notes (node_after place.node (deed_at dig world place order) end).notes
    by Lost = same-notes place.node.notes
    by Whole = recorded (deed_at dig world place order).note
    by Crashed = recorded (deed_at dig world place order).note
    by Kept = recorded (deed_at dig world place order).note
own-grown dig world (Crashes place) = grind (arith, common_steps, some_same, same-notes)
own-grown dig world act = tt

act-later : (dig : List ℕ → List ℕ) (world : World) (act : Act) → IsActIn world act
    → IsLater world (line_effect dig world act).world
act-later dig world act known = record {
  tag = ap (λ (rules : Rules). rules.tag) (rules-stay dig world act);
  op = λ old is.
      each_node_keeps (Old world) (IsGrown world) dig world act known (λ n. refl)
      (grind (arith, common_steps, same-notes, own-grown)) 0 old is;
}

-- ---- sealed trees

-- sealed trees behind others
pub record HasTrees (sealed after : List (List Entry)) : Type 0 where
  pub more : List (List Entry)
  pub is : after ≡ sealed ++ more

note-trees : (note : Note) (forest : Forest) → HasTrees forest.sealed (after_note note forest).sealed
note-trees (Offered bytes) forest = record { more = []; is = append-nil forest.sealed }
note-trees (Laid coin bytes) forest = record { more = []; is = append-nil forest.sealed }
note-trees Sealed forest = record { more = forest.pool ∷ []; is = refl }

one-trees : (identity : List ℕ) (notes : List (List ℕ)) (body : List ℕ)
    → HasTrees (forest_in (identity ∷ notes)).sealed (forest_in ((identity ∷ notes) ++ body ∷ [])).sealed
unfolding who_is notes_of forest_of
one-trees identity notes body = grind (arith, common_steps, filter_map-append, read, by)
  where
    read : List ℕ → Option Note
    read = note_in (who_is (identity ∷ notes)).tag

    by : (o : Option Note) → HasTrees (forest_in (identity ∷ notes)).sealed
        (forest_of (reverse (filter_map read notes ++ cons_option o []))).sealed
    by None =
        subst (λ (l : List Note). HasTrees (forest_in (identity ∷ notes)).sealed (forest_of (reverse l)).sealed)
        (append-nil (filter_map read notes))
        (record { more = []; is = append-nil (forest_in (identity ∷ notes)).sealed })
    by (Some note) = grind (arith, common_steps, reverse-append, read, note-trees)

trees-then : (one two three : List (List Entry)) → HasTrees one two → HasTrees two three → HasTrees one three
trees-then one two three first second = record {
  more = first.more ++ second.more;
  is = second.is ∙ ap (λ (l : List (List Entry)). l ++ second.more) first.is
      ∙ sym (append-assoc one first.more second.more);
}

more-trees : (identity : List ℕ) (notes more : List (List ℕ))
    → HasTrees (forest_in (identity ∷ notes)).sealed (forest_in ((identity ∷ notes) ++ more)).sealed
more-trees identity notes [] =
    subst (λ (l : List (List ℕ)). HasTrees (forest_in (identity ∷ notes)).sealed (forest_in l).sealed)
    (append-nil (identity ∷ notes))
    (record { more = []; is = append-nil (forest_in (identity ∷ notes)).sealed })
more-trees identity notes (body ∷ more) =
    let rest = more-trees identity (notes ++ body ∷ []) more in
    trees-then (forest_in (identity ∷ notes)).sealed (forest_in ((identity ∷ notes) ++ body ∷ [])).sealed
    (forest_in ((identity ∷ notes) ++ body ∷ more)).sealed (one-trees identity notes body)
    (subst (λ (l : List (List ℕ)). HasTrees (forest_in ((identity ∷ notes) ++ body ∷ [])).sealed
    (forest_in l).sealed) (sym (append-assoc (identity ∷ notes) (body ∷ []) more)) rest)

-- records of the operator's kinds that have more
pub grown-trees : (records after : List (List ℕ)) → are_of operator_kinds records ≡ true → HasMore records after
    → HasTrees (forest_in records).sealed (forest_in after).sealed
grown-trees records after are more = grind (arith, common_steps, more, more-trees)

-- what is found stays found
find-first : {X : Type 0} (p : X → Bool) (xs ys : List X) (x : X) → find p xs ≡ Some x → find p (xs ++ ys) ≡ Some x
find-first p [] ys x is = absurd (cc is)
find-first p (y ∷ rest) ys x is =
    (elim (p y) as (λ b. (if b then Some y else find p rest) ≡ Some x
    → (if b then Some y else find p (rest ++ ys)) ≡ Some x) [
      | true ↦ λ same. same
      | false ↦ λ same. find-first p rest ys x same
    ]) is

pub tree-stays : (dig : List ℕ → List ℕ) (sealed after : List (List Entry)) (root : List ℕ) (tree : List Entry)
    → HasTrees sealed after → tree_of dig sealed root ≡ Some tree → tree_of dig after root ≡ Some tree
unfolding tree_of
tree-stays dig sealed after root tree more is =
    ap (λ (trees : List (List Entry)). tree_of dig trees root) more.is ∙ find-first _ sealed more.more tree is

-- ---- the line of a command

-- the run before a line with a command, and the act of the line
pub record IsSplit (dig : List ℕ → List ℕ) (world : World) (entry : TraceEntry) (earlier : List TraceEntry)
    : Type 0 where
  pub lines : List Line
  pub before : Run
  pub old : World
  pub run_is : IsRun dig lines before old
  pub entries_are : before.entries ≡ earlier
  pub act : Act
  pub act_is : act_of old entry.line ≡ Some act
  pub entry_is : entry ≡ entry_of entry.line (line_effect dig old act)
  pub later : IsLater old world

head-same : {A : Type 0} (x y : A) (xs ys : List A) → (x ∷ xs) ≡ (y ∷ ys) → (x ≡ y) × (xs ≡ ys)
head-same x y xs ys is = (cc is, cc is)

-- the first line is no command
no-first : (tag operator most : ℕ) (command : Command) → IsCommandIn (Line.Chain tag operator most) command → ⊥
no-first tag operator most command (inl plain) = cc plain
no-first tag operator most command (inr in_cut) = cc in_cut.3

module _ (dig : List ℕ → List ℕ) (entry : TraceEntry) (earlier : List TraceEntry) (command : Command)
    (is_command : IsCommandIn entry.line command) where
  abbrev IsSplitAt : List TraceEntry → World → Type 0
  IsSplitAt entries world = (later : List TraceEntry) → entries ≡ later ++ entry ∷ earlier
      → IsSplit dig world entry earlier

  begins : (tag operator most : ℕ)
      → IsSplitAt (entry_of (Line.Chain tag operator most) (begun tag operator most) ∷ [])
      (begun tag operator most).world
  begins tag operator most [] is = grind (arith, common_steps, head-same, begun, no-first)
  begins tag operator most (one ∷ []) is = absurd (cc is)
  begins tag operator most (one ∷ two ∷ later) is = absurd (cc is)

  more : (lines : List Line) (run : Run) (world : World) (line : Line) (act : Act)
      → IsNext dig lines run world line act → IsSplitAt run.entries world
      → IsSplitAt (entry_of line (line_effect dig world act) ∷ run.entries) (line_effect dig world act).world
  more lines run world line act next split [] is = grind (arith, common_steps, head-same, line_effect, act-later)
  more lines run world line act next split (one ∷ later) is =
      let found = split later (head-same (entry_of line (line_effect dig world act)) one run.entries
      (later ++ entry ∷ earlier) is).1 in
      record {
        lines = found.lines;
        before = found.before;
        old = found.old;
        run_is = found.run_is;
        entries_are = found.entries_are;
        act = found.act;
        act_is = found.act_is;
        entry_is = found.entry_is;
        later = later-then found.old world (line_effect dig world act).world found.later
            (act-later dig world act next.known);
      }

  pub split : (lines : List Line) (run : Run) (world : World) → IsRun dig lines run world
      → IsSplitAt run.entries world
  split = over_acts dig IsSplitAt (λ tag operator most fits. begins tag operator most) more
