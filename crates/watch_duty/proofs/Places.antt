-- What is due, by the places of a guard's blocks.
use Rattle.watch_duty.proofs.Words.{◌≡◌, ℕ, suc, ◌==◌, ◌&&◌, not, cond, Bool, if◌then◌else◌, List, [], ◌∷◌, map, Option, Some, None, refl, sym, ap, ◌∙◌, arith, is_some, nat_lt, slice_get, unwrap_or, flat_map, position, option_map, option_or, option_and_then, cases_lt, lt-ltb, le-ltb, common_steps, Link, Links, RootCall, After, Between, Before, Respond, ChallengeView, ExitView, is_challenged, tip_of, exits_of, CHALLENGE_WINDOW, RESPONSE_WINDOW, Guard, next_link, link_after, tip_shown, within, due_for, due_of, due_calls, link_by_place, by_link, response_by_place, due_by_place, LinksAreByPlace, DueCallsAreByPlace}

-- ---- links

-- what the second list has at the first place of the first list that passes
abbrev at_place : {X Y : Type 0} → (X → Bool) → List X → List Y → Option Y
at_place test xs ys = option_and_then (λ i. slice_get ys i) (position test xs)

-- nothing is at a place of an empty list
none-there : {Y : Type 0} (place : Option ℕ) → option_and_then (λ i. slice_get {X = Y} [] i) place ≡ None
none-there None = refl
none-there (Some i) = refl

-- a place in the rest is one later
place-later : {Y : Type 0} (k place count : ℕ) (y : Y) (ys : List Y) → place ≡ suc k
    → option_and_then (λ i. slice_get (y ∷ ys) i) (cond (nat_lt place (suc count)) (Some place) None)
    ≡ option_and_then (λ i. slice_get ys i) (cond (nat_lt k count) (Some k) None)
place-later k place count y ys e = grind (arith, common_steps, cases_lt, lt-ltb, le-ltb) steps 20000

-- the link that comes next after a block, where the links come after the last one
next-at : (block last : ℕ) (links : List Link) → next_link block last links
    ≡ at_place (λ b. b == block) (last ∷ map (λ link. link.block) links) links
unfolding next_link
next-at block last [] = sym (none-there (position (λ b. b == block) (last ∷ [])))
next-at block last (link ∷ links) =
    grind (arith, common_steps, next-at block link.block links, lt-ltb, place-later) steps 20000

pub links-are : LinksAreByPlace
links-are links block = next-at block links.deposit links.spends

-- ---- the rules

module _ (log : List RootCall) (account : ℕ) (links : Links) (exit : ExitView) where
  -- the rules in their order, where the links after the exit's block and after its parent are these, and these calls
  -- answer
  abbrev by_rules : Option Link → Option Link → List RootCall → List RootCall
  by_rules left parted responses =
      unwrap_or
      (option_or
      (option_map
      (λ link. within log exit.start CHALLENGE_WINDOW (After account links.coin exit.block link.opening)) left)
      (option_or
      (if nat_lt (tip_of links) exit.block
      then option_map
      (λ link. within log exit.start CHALLENGE_WINDOW (Between account links.coin exit.block link.opening)) parted
      else None)
      (option_or
      (if nat_lt (tip_of links) exit.parent && not (is_challenged (tip_of links) exit.challenges)
      then Some (within log exit.start CHALLENGE_WINDOW (Before account links.coin exit.block (tip_shown links)))
      else None)
      (if exit.block == tip_of links then Some responses else None))))
      []

  abbrev by_table : Option Link → Option Link → List RootCall → List RootCall
  by_table left parted responses =
      if is_some left
      then by_link log exit.start CHALLENGE_WINDOW left (After account links.coin exit.block)
      else if nat_lt (tip_of links) exit.block && is_some parted
      then by_link log exit.start CHALLENGE_WINDOW parted (Between account links.coin exit.block)
      else if nat_lt (tip_of links) exit.parent && not (is_challenged (tip_of links) exit.challenges)
      then within log exit.start CHALLENGE_WINDOW (Before account links.coin exit.block (tip_shown links))
      else if exit.block == tip_of links then responses
      else []

  -- the last two rules
  last-rules : (planted own : Bool) (calls responses : List RootCall)
      → unwrap_or (option_or (if planted then Some calls else None) (if own then Some responses else None)) []
      ≡ (if planted then calls else if own then responses else [])
  last-rules planted own calls responses = grind (arith, common_steps) steps 20000

  rules-table : (left parted : Option Link) (responses : List RootCall)
      → by_rules left parted responses ≡ by_table left parted responses
  rules-table left parted responses = grind (arith, common_steps, last-rules) steps 20000

-- what is due for an exit, by what gives the link after a block
module _ (log : List RootCall) (account : ℕ) (links : Links) (exit : ExitView) where
  abbrev response_with : (ℕ → Option Link) → ChallengeView → List RootCall
  response_with at challenge =
      if challenge.answered then []
      else by_link log challenge.at RESPONSE_WINDOW (at challenge.block)
      (Respond account links.coin exit.block challenge.block)

  abbrev due_with : (ℕ → Option Link) → List RootCall
  due_with at =
      by_rules log account links exit (at exit.block) (at exit.parent) (flat_map (response_with at) exit.challenges)

  due-by : due_for log account links exit ≡ due_by_place log account links exit
  due-by =
      let same : link_after links ≡ link_by_place links = λ i block. links-are links block i in
      ap due_with same
      ∙ rules-table log account links exit (link_by_place links exit.block) (link_by_place links exit.parent)
      (flat_map (response_by_place log account links exit) exit.challenges)

pub due-are : DueCallsAreByPlace
unfolding due_calls
due-are log account guards =
    let same : due_of log account ≡ (λ (guard : Guard).
    flat_map (due_by_place log account guard.links) (exits_of log guard.links.coin)) =
    λ i guard. flat_map (λ exit. due-by log account guard.links exit i) (exits_of log guard.links.coin) in
    ap (λ (due : Guard → List RootCall). flat_map due guards) same
