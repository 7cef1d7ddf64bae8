-- The slots of a game against the list of exits that a log says: what is found, added, taken out and changed.
use Rattle.root_contract.proofs.Words.{◌≡◌, ℕ, ◌==◌, ◌&&◌, cond, not, Bool, true, false, if◌then◌else◌, List, [], ◌∷◌, ◌++◌, map, Some, None, refl, sym, ap, ◌∙◌, subst, find, filter, arith, is_some, list_any, list_all, option_map, eqb-true, eq-eqb, and_parts, list_any-append, list_all-map, common_steps, Kept, Slot, Game, kept_at, answered_at, slot_at, without_slot, with_slot_changed, with_challenge, with_answer, IsUnchallengedAt, slots_in, HasSlots, RootCall, StartDeposit, StartSpend, After, Between, Before, Respond, Finish, Challenge, Exit, is_exit, without_exit, with_exit_changed, challenge_at, exit_challenged, with_answer_at, exit_answered, deposit_exit, spend_exit, new_challenge, exits, as_challenge, as_exit, exits_of_coin}
use Rattle.std.proofs.lemmas.List.{append-nil, map-append, map-id}
use Rattle.std.proofs.lemmas.List.Elements.{filter-append}
use Rattle.std.proofs.lemmas.Map.Views.{any-filter_same}

-- the game has the exits of each coin
abbrev pub SlotsAre : Game → List Exit → Type 0
SlotsAre game L = (k : ℕ) → map as_exit (slots_in game k) ≡ exits_of_coin k L

-- no two exits have one name
abbrev pub AreApart : List Exit → Type 0
AreApart [] = Unit {0}
AreApart (exit ∷ L) = (list_any (is_exit exit.coin exit.block) L ≡ false) × AreApart L

-- ---- any list

-- finding in a list that is mapped
pub find-map : {X Y : Type 0} (p : Y → Bool) (h : X → Y) (xs : List X)
    → find p (map h xs) ≡ option_map h (find (λ x. p (h x)) xs)
find-map p h [] = refl
find-map p h (x ∷ xs) = grind (arith, find-map p h xs)

-- filtering a list that is mapped
pub filter-map : {X Y : Type 0} (p : Y → Bool) (h : X → Y) (xs : List X)
    → filter p (map h xs) ≡ map h (filter (λ x. p (h x)) xs)
filter-map p h [] = refl
filter-map p h (x ∷ xs) = grind (arith, filter-map p h xs)

-- finding in a list that is filtered
pub find-filter : {X : Type 0} (p q : X → Bool) (xs : List X) → find q (filter p xs) ≡ find (λ x. p x && q x) xs
find-filter p q [] = refl
find-filter p q (x ∷ xs) = grind (arith, find-filter p q xs)

-- filtering a list that is filtered
pub filter-filter : {X : Type 0} (p q : X → Bool) (xs : List X)
    → filter p (filter q xs) ≡ filter (λ x. q x && p x) xs
filter-filter p q [] = refl
filter-filter p q (x ∷ xs) = grind (arith, filter-filter p q xs)

-- a change of each element, which passes alike after it, changes alike what passes
pub map-within : {X : Type 0} (p : X → Bool) (g f : X → X) → ((x : X) → p (g x) ≡ p x)
    → ((x : X) → p x ≡ true → g x ≡ f x) → (xs : List X) → filter p (map g xs) ≡ map f (filter p xs)
map-within p g f keeps same [] = refl
map-within p g f keeps same (x ∷ xs) = grind (arith, keeps x, same x, map-within p g f keeps same xs)

-- ---- lists of challenges

-- a challenge is found alike in a slot and in its exit
pub challenge-found : (b : ℕ) (xs : List Kept)
    → option_map as_challenge (kept_at b xs) ≡ challenge_at b (map as_challenge xs)
challenge-found b xs = sym (find-map (λ (x : Challenge). x.block == b) as_challenge xs)

-- the challenges of a slot are all answered where those of its exit are
pub answered-all : (xs : List Kept)
    → list_all (λ challenge. challenge.answered) (map as_challenge xs) ≡ list_all (λ challenge. challenge.answered) xs
answered-all xs = list_all-map (λ (x : Challenge). x.answered) as_challenge xs

-- ---- one exit by its name

-- where no exit of the name stands, none is taken out
pub without-none : (c e : ℕ) (L : List Exit) → find (is_exit c e) L ≡ None → without_exit c e L ≡ L
without-none c e [] none = refl
without-none c e (x ∷ xs) none = grind (arith, none, without-none c e xs)

-- an exit of the name has its coin and its block
pub named : (c e : ℕ) (exit : Exit) → is_exit c e exit ≡ true → (exit.coin ≡ c) × (exit.block ≡ e)
named c e exit is = grind (arith, common_steps, and_parts, eqb-true) steps 20000

-- the slot at a block is the exit of that name
pub found : (c e : ℕ) (S : List Slot) (L : List Exit) → map as_exit S ≡ exits_of_coin c L
    → option_map as_exit (slot_at e S) ≡ find (is_exit c e) L
found c e S L are =
    sym (find-map (λ (x : Exit). x.block == e) as_exit S)
    ∙ ap (find (λ (x : Exit). x.block == e)) are
    ∙ find-filter (λ (x : Exit). x.coin == c) (λ x. x.block == e) L

-- ---- a game after a change of one coin's slots

-- the coin's slots are as the list says and each other coin's exits are as before
pub by-coin : (old new : Game) (c : ℕ) (S : List Slot) (L M : List Exit) → SlotsAre old L → HasSlots old new c S
    → map as_exit S ≡ exits_of_coin c M
    → ((k : ℕ) → (k == c) ≡ false → exits_of_coin k M ≡ exits_of_coin k L) → SlotsAre new M
by-coin old new c S L M are has own other k = grind (arith, has k, own, are k, other k, eqb-true k c)

-- an exit of one coin isn't of another
pub other-coin : (k c : ℕ) → (k == c) ≡ false → (n : ℕ) → (n == k) ≡ true → (n == c) ≡ false
other-coin k c isnt n own = ap (λ m. m == c) (eqb-true n k own) ∙ isnt

-- one more slot is one more exit at the end
pub added : (old new : Game) (slot : Slot) (L : List Exit) → SlotsAre old L
    → HasSlots old new slot.coin (slots_in old slot.coin ++ slot ∷ []) → SlotsAre new (L ++ as_exit slot ∷ [])
added old new slot L are has =
    by-coin old new slot.coin (slots_in old slot.coin ++ slot ∷ []) L (L ++ as_exit slot ∷ []) are has
    (map-append as_exit (slots_in old slot.coin) (slot ∷ [])
    ∙ ap (λ (l : List Exit). l ++ as_exit slot ∷ []) (are slot.coin)
    ∙ sym (at_end slot.coin true (eq-eqb slot.coin slot.coin refl)))
    (λ k isnt. at_end k false (grind (arith, isnt)) ∙ append-nil (exits_of_coin k L))
  where
    at_end : (k : ℕ) (b : Bool) → (slot.coin == k) ≡ b
        → exits_of_coin k (L ++ as_exit slot ∷ []) ≡ exits_of_coin k L ++ cond b (as_exit slot ∷ []) []
    at_end k b is = grind (arith, common_steps, filter-append) steps 20000

-- the slot at a block taken out is the exit of that name taken out
pub removed : (old new : Game) (c e : ℕ) (L : List Exit) → SlotsAre old L
    → HasSlots old new c (without_slot e (slots_in old c)) → SlotsAre new (without_exit c e L)
removed old new c e L are has =
    by-coin old new c (without_slot e (slots_in old c)) L (without_exit c e L) are has
    (sym (filter-map (λ (x : Exit). not (x.block == e)) as_exit (slots_in old c))
    ∙ ap (filter (λ (x : Exit). not (x.block == e))) (are c)
    ∙ filter-filter (λ (x : Exit). not (x.block == e)) (λ x. x.coin == c) L
    ∙ (λ i. filter (λ x. own_test (x.coin == c) (x.block == e) i) L)
    ∙ sym (filter-filter (λ (x : Exit). x.coin == c) (λ x. not (is_exit c e x)) L))
    (λ k isnt. filter-filter (λ (x : Exit). x.coin == k) (λ x. not (is_exit c e x)) L
    ∙ (λ i. filter (λ x. other_test (x.coin == c) (x.block == e) (x.coin == k) (other-coin k c isnt x.coin) i) L))
  where
    own_test : (a b : Bool) → (a && not b) ≡ (not (a && b) && a)
    own_test a b = grind arith

    other_test : (a b d : Bool) → (d ≡ true → a ≡ false) → (not (a && b) && d) ≡ d
    other_test a b d off = grind (arith, off)

-- a change of the slot at a block is a change of the exit of that name
pub changed : (old new : Game) (c e : ℕ) (f : Slot → Slot) (g : Exit → Exit) (L : List Exit)
    → ((s : Slot) → as_exit (f s) ≡ g (as_exit s)) → ((x : Exit) → (g x).coin ≡ x.coin) → SlotsAre old L
    → HasSlots old new c (with_slot_changed e f (slots_in old c)) → SlotsAre new (with_exit_changed c e g L)
changed old new c e f g L same coin are has =
    by-coin old new c (with_slot_changed e f (slots_in old c)) L (with_exit_changed c e g L) are has
    (grind (arith, common_steps, each, map-within, keeps) steps 20000)
    (λ k isnt. map-within (λ (x : Exit). x.coin == k) (λ x. if is_exit c e x then g x else x) (λ x. x) (keeps k)
    (λ x own. ap (λ (b : Bool). if b && (x.block == e) then g x else x) (other-coin k c isnt x.coin own)) L
    ∙ map-id (exits_of_coin k L))
  where
    each : (S : List Slot) → map as_exit (with_slot_changed e f S)
        ≡ map (λ x. if x.block == e then g x else x) (map as_exit S)
    each [] = refl
    each (s ∷ S) = grind (arith, same s, each S)

    keeps : (k : ℕ) (x : Exit) → ((if is_exit c e x then g x else x).coin == k) ≡ (x.coin == k)
    keeps k x = grind (arith, coin x)

-- an answer of a challenge of the slot at a block is one of the exit of that name
pub answered : (old new : Game) (c e b : ℕ) (L : List Exit) → SlotsAre old L
    → HasSlots old new c (with_slot_changed e (with_answer b) (slots_in old c))
    → SlotsAre new (with_exit_changed c e (exit_answered b) L)
answered old new c e b L are has =
    changed old new c e (with_answer b) (exit_answered b) L
    (λ s i. record (as_exit s) { challenges = each s.challenges i }) (λ x. refl) are has
  where
    each : (xs : List Kept) → map as_challenge (map (answered_at b) xs)
        ≡ map (with_answer_at b) (map as_challenge xs)
    each [] = refl
    each (x ∷ xs) = grind (arith, each xs)

-- ---- no two exits have one name

-- exits stay apart where one is taken out
pub apart-without : (c e : ℕ) (L : List Exit) → AreApart L → AreApart (without_exit c e L)
apart-without c e [] apart = tt
apart-without c e (x ∷ xs) apart =
    (elim (is_exit c e x) as (λ b. is_exit c e x ≡ b
    → AreApart (cond (not b) (x ∷ without_exit c e xs) (without_exit c e xs))) [
      | true ↦ λ out. apart-without c e xs apart.1
      | false ↦ λ kept. (
        any-filter_same (is_exit x.coin x.block) (λ y. not (is_exit c e y)) true (λ y own.
            let is = named x.coin x.block y own in
            (λ i. not ((is.0 i == c) && (is.1 i == e))) ∙ ap not kept) xs ∙ apart.0,
        apart-without c e xs apart.1,
      )
    ]) refl

-- a change that keeps the names leaves as many of a name
pub any-changed : (c e k m : ℕ) (g : Exit → Exit) → ((x : Exit) → (g x).coin ≡ x.coin)
    → ((x : Exit) → (g x).block ≡ x.block) → (L : List Exit)
    → list_any (is_exit k m) (with_exit_changed c e g L) ≡ list_any (is_exit k m) L
any-changed c e k m g coin block [] = refl
any-changed c e k m g coin block (x ∷ xs) = grind (arith, coin x, block x, any-changed c e k m g coin block xs)

-- exits stay apart where one is changed that keeps its name
pub apart-changed : (c e : ℕ) (g : Exit → Exit) → ((x : Exit) → (g x).coin ≡ x.coin)
    → ((x : Exit) → (g x).block ≡ x.block) → (L : List Exit) → AreApart L → AreApart (with_exit_changed c e g L)
apart-changed c e g coin block [] apart = tt
apart-changed c e g coin block (x ∷ xs) apart =
    grind (arith, common_steps, apart-changed c e g coin block xs apart.1, any-changed) steps 20000

-- exits stay apart where one is added whose name none has
pub apart-push : (L : List Exit) (new : Exit) → AreApart L → list_any (is_exit new.coin new.block) L ≡ false
    → AreApart (L ++ new ∷ [])
apart-push [] new apart none = (refl, tt)
apart-push (x ∷ xs) new apart none =
    let rest : list_any (is_exit new.coin new.block) xs ≡ false = grind (arith, none) in
    grind (arith, common_steps, apart-push xs new apart.1 rest, list_any-append) steps 20000

-- exits stay apart where one is started in place of that of its name
pub started : (new : Exit) (L : List Exit) → AreApart L → AreApart (without_exit new.coin new.block L ++ new ∷ [])
started new L apart = apart-push (without_exit new.coin new.block L) new (apart-without new.coin new.block L apart)
    (any-filter_same (is_exit new.coin new.block) (λ x. not (is_exit new.coin new.block x)) false (λ x. ap not) L)

-- the exits of any calls are apart
pub exits-apart : (log : List RootCall) → AreApart (exits log)
unfolding exits
exits-apart [] = tt
exits-apart (StartDeposit account coin block ∷ log) =
    started (deposit_exit log account coin block) (exits log) (exits-apart log)
exits-apart (StartSpend account coin parent exit ∷ log) =
    started (spend_exit log account coin parent exit) (exits log) (exits-apart log)
exits-apart (After account coin exit spend ∷ log) = apart-without coin exit (exits log) (exits-apart log)
exits-apart (Between account coin exit spend ∷ log) = apart-without coin exit (exits log) (exits-apart log)
exits-apart (Finish account coin exit ∷ log) = apart-without coin exit (exits log) (exits-apart log)
exits-apart (Before account coin exit shown ∷ log) =
    let challenge : Challenge = new_challenge log account coin exit shown in
    apart-changed coin exit (exit_challenged challenge) (λ x. grind arith) (λ x. grind arith)
    (exits log) (exits-apart log)
exits-apart (Respond account coin exit challenged spend ∷ log) =
    apart-changed coin exit (exit_answered challenged) (λ x. refl) (λ x. refl) (exits log) (exits-apart log)
exits-apart (call ∷ log) = exits-apart log

-- ---- a challenge

-- no exit is changed where none has the name
pub changed-none : (c e : ℕ) (g : Exit → Exit) (L : List Exit) → list_any (is_exit c e) L ≡ false
    → with_exit_changed c e g L ≡ L
changed-none c e g [] none = refl
changed-none c e g (x ∷ xs) none = grind (arith, none, changed-none c e g xs)

-- two changes that do the same to the one exit of a name give one list
pub changed-alike : (c e : ℕ) (f g : Exit → Exit) (L : List Exit) (found : Exit) → AreApart L
    → find (is_exit c e) L ≡ Some found → f found ≡ g found → with_exit_changed c e f L ≡ with_exit_changed c e g L
changed-alike c e f g [] found apart is same = refl
changed-alike c e f g (x ∷ xs) found apart is same =
    grind (arith, common_steps, changed-alike c e f g xs found apart.1, named, found, changed-none) steps 20000

-- a challenge of the slot at a block, which has none there, is one of the exit of that name
pub challenged : (old new : Game) (c e : ℕ) (kept : Kept) (L : List Exit) → AreApart L → SlotsAre old L
    → IsUnchallengedAt kept.block (slot_at e (slots_in old c))
    → HasSlots old new c (with_slot_changed e (with_challenge kept) (slots_in old c))
    → SlotsAre new (with_exit_changed c e (exit_challenged (as_challenge kept)) L)
challenged old new c e kept L apart are unchallenged has =
    (elim (slot_at e (slots_in old c)) as (λ o. option_map as_exit o ≡ find (is_exit c e) L
    → IsUnchallengedAt kept.block o → SlotsAre new (with_exit_changed c e (exit_challenged (as_challenge kept)) L)) [
      | None ↦ λ none wrong. absurd wrong
      | Some slot ↦ λ there free.
          subst (SlotsAre new)
          (changed-alike c e more (exit_challenged (as_challenge kept)) L (as_exit slot) apart (sym there)
          (sym (ap (λ o. if is_some o then as_exit slot else more (as_exit slot))
          (sym (challenge-found kept.block slot.challenges) ∙ ap (option_map as_challenge) free))))
          (changed old new c e (with_challenge kept) more L
          (λ s i. record (as_exit s) { challenges = map-append as_challenge s.challenges (kept ∷ []) i })
          (λ x. refl) are has)
    ]) (found c e (slots_in old c) L (are c)) unchallenged
  where
    more : Exit → Exit
    more x = record x { challenges = x.challenges ++ as_challenge kept ∷ [] }
