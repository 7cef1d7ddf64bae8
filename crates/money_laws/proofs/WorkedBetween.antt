-- The worked list in which a Between takes no money.
use Rattle.money_laws.proofs.Basics.{◌≡◌, ℕ, ◌<◌, ◌==◌, ◌||◌, ◌&&◌, true, false, if◌then◌else◌, List, [], ◌∷◌, ◌++◌, inl, inr, refl, sym, ap, ◌∙◌, subst, arith, Contains, list_any, eqb-true, and_parts, or_cases, false≢true}
use Rattle.money_laws.proofs.CoinWords.{leaf_string, AtDeposit, RootCall, Commit, owner_text, body_text, signed_text, now, blocks, coins, block_at, coin_at, responses, owner_of_opening, Exit, exits, exit_at, exits_of, is_withdrawn, answer_to, is_accepted, pays, takes, share_of, balance_of, links_in, next_link, Has, has-contains}
use Rattle.money_laws.proofs.NodeWords.{due_for_kept}
use Rattle.money_laws.proofs.WorldWords.{Event, Joins, log_of, wallet_owner, accepted, bound_by, is_bundle, openings_of, seen, strings_of, has_clash, collides, is_forged, Taken, HasDue, LegalWatch, IsLegal, fresh_offers, some_same, holding, me, stranger, tag, rules, transfer, signed, print, digest, root_with, shows, link, bundle, received, commits, second, second_exit, between, tests, spent_twice, ABetweenNeedsNoMoney}
use Rattle.money_laws.proofs.Shows.{signs, signs_not, IsWorked, shown}
use Rattle.money_laws.proofs.Clear.{clear}
use Rattle.money_laws.proofs.Taken.{start-taken, between-taken}
use Rattle.money_laws.proofs.Began.{IsMine, mine-by, legal-call, forges-not, strings-are, taken-worked, whole-by}
use Rattle.money_laws.proofs.WorkedAfter.{handed, handed-worked, handed-print, coin, links-are, received-legal, received-mine, where-held}

second-worked : IsWorked second
second-worked = taken-worked 1 1 (omega arith) (omega arith)

-- ---- the second transfer, and its exit

abbrev planted_block : List Event
planted_block = commits 1 second ∷ received

commit-accepted : is_accepted (answer_to tests rules (log_of received) (Commit 9 (root_with 1 second))) ≡ true
unfolding log_of answer_to blocks
commit-accepted = refl

block-mine : IsMine planted_block
unfolding wallet_owner
block-mine w owner is = mine-by (1 == w) owner is

block-legal : IsLegal tests rules planted_block
unfolding IsLegal
block-legal = (legal-call received (Commit 9 (root_with 1 second)) received-mine commit-accepted refl, received-legal)

exit-accepted : is_accepted (answer_to tests rules (log_of planted_block) second_exit) ≡ true
unfolding log_of shows signed balance_of pays takes share_of now blocks coins block_at coin_at responses exits exit_at
    is_withdrawn
exit-accepted =
    start-taken tests rules (log_of planted_block) 30 1 (AtDeposit 1) (shows 3 second) coin stranger second refl refl
    (shown (log_of planted_block) 3 second second-worked refl) (signs (transfer 1 1 stranger)) refl refl refl refl refl
    refl

abbrev exited : List Event
exited = Joins second_exit ∷ planted_block

exited-legal : IsLegal tests rules exited
unfolding IsLegal
exited-legal = (legal-call planted_block second_exit block-mine exit-accepted refl, block-legal)

-- ---- the wallet watches

due-between : due_for_kept tag (log_of exited) 21 bundle ≡ between ∷ []
unfolding log_of next_link exits_of links_in shows now blocks coins block_at coin_at responses exits exit_at
    is_withdrawn
due-between = rw links-are refl

watches : LegalWatch rules exited 1 (between ∷ [])
unfolding log_of wallet_owner accepted coins coin_at blocks
watches = record {
  account = 21;
  all = λ c e top.
      let h = holding exited 1 c e top.held in
      elim h.source [
        | inl made ↦ absurd (false≢true (sym (where-held h.me c e (some_same h.me me (sym h.me_is))) ∙ made))
        | inr got ↦ at c e got
      ];
  only = λ call there. record {
    bundle = bundle;
    shows = Taken (has-contains (bundle ∷ []) bundle (inl refl));
    due = subst (λ (calls : List RootCall). Contains calls call) (sym due-between) there;
  };
}
  where
    at : (c e : ℕ) → list_any (is_bundle c e) (bundle ∷ []) ≡ true → HasDue rules exited 1 21 (between ∷ []) c e
    at c e got =
        elim (or_cases ((1 == c) && (2 == e)) false got) [
          | inl is ↦
              let parts = and_parts (1 == c) (2 == e) is in
              record {
                bundle = bundle;
                coin_is = eqb-true 1 c parts.0;
                tip_is = eqb-true 2 e parts.1;
                shows = Taken (has-contains (bundle ∷ []) bundle (inl refl));
                due = λ call there. subst (λ (calls : List RootCall). Contains calls call) due-between there;
              }
          | inr none ↦ absurd (false≢true none)
        ]

twice-legal : IsLegal tests rules spent_twice
unfolding IsLegal
twice-legal = (watches, exited-legal)

-- ---- the Between is accepted

abbrev standing : Exit
standing = record {
  coin = 1;
  block = 3;
  parent = 1;
  owner = owner_of_opening (shows 3 second);
  parent_owner = stranger;
  account = 30;
  start = 0;
  challenges = [];
}

between-accepted : is_accepted (answer_to tests rules (log_of spent_twice) between) ≡ true
unfolding log_of shows signed now blocks coins block_at coin_at responses exits exit_at is_withdrawn
between-accepted =
    between-taken tests rules (log_of spent_twice) 21 1 3 link standing handed refl
    (shown (log_of spent_twice) 2 handed handed-worked refl) (signs (transfer 1 1 me)) refl refl refl refl

between-legal : IsLegal tests rules (Joins between ∷ spent_twice)
unfolding IsLegal wallet_owner
between-legal =
    (legal-call spent_twice between (λ w owner is. mine-by (1 == w) owner is) between-accepted refl, twice-legal)

-- ---- nothing is shown

second-print : digest (leaf_string (signed_text second)) ≡ print 0 31
unfolding digest signed signed_text body_text owner_text
second-print = refl

abbrev text : ℕ → List ℕ
text mark = if mark == 22 then signed_text handed else signed_text second

abbrev Prints : ℕ → Type 0
Prints mark = (mark < 256) × (digest (leaf_string (text mark)) ≡ print 0 mark)

marks : (mark : ℕ) → Has (31 ∷ 22 ∷ []) mark → Prints mark
marks mark (inl is) = subst Prints is (omega arith, second-print)
marks mark (inr (inl is)) = subst Prints is (omega arith, handed-print)
marks mark (inr (inr none)) = absurd none

clear-links : has_clash digest (strings_of digest 1 (shows 3 second ∷ link ∷ [])) ≡ false
unfolding strings_of signed
clear-links =
    ap (has_clash digest)
    (λ i. strings-are 3 second second-worked i ++ (strings-are 2 handed handed-worked i ++ []))
    ∙ clear 1 text (31 ∷ 22 ∷ []) marks

twice-honest : is_forged tag spent_twice 1 1 ≡ false
unfolding is_forged openings_of wallet_owner bound_by signed
twice-honest =
    λ i. (forges-not [] 3 second second-worked (signs_not (transfer 1 1 stranger)) i || false)
    || ((forges-not [] 2 handed handed-worked (signs_not (transfer 1 1 me)) i || false) || false)

twice-whole : collides digest spent_twice 1 ≡ false
unfolding seen openings_of
twice-whole = whole-by spent_twice 1 (shows 3 second ∷ link ∷ []) refl clear-links

pub a_between_needs_no_money : ABetweenNeedsNoMoney
unfolding fresh_offers log_of shows balance_of pays takes share_of now blocks coins block_at coin_at responses exits
    exit_at is_withdrawn
a_between_needs_no_money = record {
  legal = between-legal;
  offered = has-contains (between ∷ []) between (inl refl);
  nothing = record { whole = twice-whole; honest = twice-honest };
  had = refl;
  has = refl;
}
