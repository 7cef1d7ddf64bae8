-- The worked list in which an After takes no money.
use Rattle.money_laws.proofs.Basics.{◌≡◌, ℕ, ◌<◌, ◌==◌, ◌||◌, ◌&&◌, Bool, true, false, if◌then◌else◌, List, [], ◌∷◌, ◌++◌, Some, None, inl, inr, refl, sym, ap, ◌∙◌, subst, arith, is_some, Contains, list_any, cases_Bool, eqb-true, and_parts, or_cases, or_right, false≢true, All-from_recursion}
use Rattle.money_laws.proofs.CoinWords.{u32str, u32_at, public_key_of, leaf_string, Owner, SignedTx, RawOpening, Links, RootCall, CoinView, owner_text, body_text, signed_text, now, blocks, coins, block_at, coin_at, responses, Exit, exits, exit_at, exits_of, is_withdrawn, answer_to, is_accepted, pays, takes, share_of, balance_of, funded, is_absent, transfer_of, opens_block, links_in, committed_blocks, AreLinked, IsHistory, next_link, Has, has-contains, is_owner}
use Rattle.money_laws.proofs.NodeWords.{due_for_kept}
use Rattle.money_laws.proofs.WorldWords.{Event, Joins, log_of, wallet_owner, accepted, bound_by, is_bundle, openings_of, seen, strings_of, has_clash, collides, is_forged, was_deposited, Taken, HasDue, LegalAccept, LegalWatch, IsLegal, fresh_offers, some_same, holding, me, stranger, tag, rules, transfer, signed, print, digest, shows, link, bundle, received, old_exit, after, tests, left_behind, AnAfterNeedsNoMoney}
use Rattle.plasma_tx.specs.declared.links.Link.{Link}
use Rattle.money_laws.proofs.Shows.{signs, signs_not, IsWorked, transfer_shown, opened, shown}
use Rattle.money_laws.proofs.Clear.{clear}
use Rattle.money_laws.proofs.Taken.{after-taken}
use Rattle.money_laws.proofs.Began.{me-owner, signed-worked, IsMine, are_taken, over, over-legal, mine-by, legal-call, forges-not, strings-are, whole-by}

-- ---- the coin is handed over

abbrev pub handed : SignedTx
handed = signed (transfer 1 1 me)

pub handed-worked : IsWorked handed
handed-worked = signed-worked 1 1 me (omega arith) (omega arith) me-owner

-- before it is accepted
abbrev given : List Event
given = over (log_of received)

given-taken : are_taken (log_of received) ≡ true
unfolding are_taken log_of public_key_of u32str u32_at answer_to balance_of pays takes share_of funded now blocks coins
    block_at coin_at responses exits exit_at is_withdrawn
given-taken = refl

abbrev pub coin : CoinView
coin = record { deposit = 1; amount = 5; owner = stranger }

abbrev pub the_link : Link
the_link = record { block = 2; tx = handed; opening = link }

abbrev pub links : Links
links = record { coin = 1; deposit = 1; owner = stranger; spends = the_link ∷ [] }

-- the opening shows the one link
pub links-are : links_in rules 1 (link ∷ []) ≡ the_link ∷ []
unfolding links_in shows signed
links-are = rw (transfer_shown 2 handed handed-worked) refl

abbrev committed : List RootCall
committed = log_of received

opens : opens_block tests committed 1 link ≡ true
unfolding log_of shows signed blocks block_at
opens = opened 2 handed handed-worked

shows-one : is_some (transfer_of rules 1 link) ≡ true
unfolding shows signed
shows-one = ap is_some (transfer_shown 2 handed handed-worked)

history : IsHistory tests rules committed bundle links
unfolding log_of shows signed committed_blocks blocks coins block_at coin_at AreLinked
history = record {
  made = coin;
  coin = refl;
  blocks = refl;
  opened = All-from_recursion (λ (o : RawOpening). opens_block tests committed 1 o ≡ true) (link ∷ []) (opens, tt);
  leaves = All-from_recursion
      (λ (o : RawOpening). (is_absent o || is_some (transfer_of rules 1 o)) ≡ true) (link ∷ [])
      (or_right (is_absent link) (is_some (transfer_of rules 1 link)) shows-one, tt);
  shown = ap (λ (spends : List Link). record { coin = 1; deposit = 1; owner = stranger; spends = spends })
      (sym links-are);
  linked = (refl, signs (transfer 1 1 me), tt);
  tip = refl;
}

given-log : log_of given ≡ committed
unfolding over log_of
given-log = refl

given-mine : IsMine given
unfolding over log_of wallet_owner
given-mine w owner is = mine-by (1 == w) owner is

accepts : LegalAccept tests rules given 1 bundle
unfolding over log_of wallet_owner signed shows now blocks coins coin_at responses exits exit_at exits_of is_withdrawn
accepts = record {
  me = me;
  me_is = refl;
  links = links;
  history = history;
  mine = refl;
  not_withdrawn = refl;
  none_stands = refl;
}

pub received-legal : IsLegal tests rules received
unfolding IsLegal over log_of
received-legal = (accepts, over-legal committed refl given-taken)

pub received-mine : IsMine received
unfolding wallet_owner
received-mine w owner is = mine-by (1 == w) owner is

-- ---- the old owner exits

old-accepted : is_accepted (answer_to tests rules (log_of received) old_exit) ≡ true
unfolding log_of answer_to balance_of pays takes share_of now blocks coins block_at coin_at responses exits exit_at
    is_withdrawn
old-accepted = refl

abbrev exited : List Event
exited = Joins old_exit ∷ received

exited-legal : IsLegal tests rules exited
unfolding IsLegal
exited-legal = (legal-call received old_exit received-mine old-accepted refl, received-legal)

-- ---- the wallet watches

due-after : due_for_kept tag (log_of exited) 21 bundle ≡ after ∷ []
unfolding log_of next_link exits_of links_in shows now blocks coins block_at coin_at responses exits exit_at
    is_withdrawn
due-after = rw links-are refl

-- the coin is the wallet's at block 2 alone
pub where-held : (owner : Owner) (c e : ℕ) → owner ≡ me
    → was_deposited owner e (if c == 1 then Some coin else None) ≡ false
where-held owner c e is =
    elim (cases_Bool (c == 1)) [
      | inl first ↦
          (λ i. was_deposited (is i) e (if first i then Some coin else None))
          ∙ by_block (1 == e)
      | inr other ↦ ap (λ b. was_deposited owner e (if b then Some coin else None)) other
    ]
  where
    by_block : (b : Bool) → (b && is_owner stranger me) ≡ false
    by_block true = refl
    by_block false = refl

watches : LegalWatch rules exited 1 (after ∷ [])
unfolding log_of wallet_owner accepted coins coin_at blocks
watches = record {
  account = 21;
  all = λ c e top.
      let h = holding exited 1 c e top.held in
      elim h.source [
        | inl made ↦ absurd (false≢true (sym (where-held h.me c e (some_same h.me me (sym h.me_is))) ∙ made))
        | inr got ↦ at c e got
      ];
  only = λ call there. record {
    bundle = bundle;
    shows = Taken (has-contains (bundle ∷ []) bundle (inl refl));
    due = subst (λ (calls : List RootCall). Contains calls call) (sym due-after) there;
  };
}
  where
    at : (c e : ℕ) → list_any (is_bundle c e) (bundle ∷ []) ≡ true → HasDue rules exited 1 21 (after ∷ []) c e
    at c e got =
        elim (or_cases ((1 == c) && (2 == e)) false got) [
          | inl is ↦
              let parts = and_parts (1 == c) (2 == e) is in
              record {
                bundle = bundle;
                coin_is = eqb-true 1 c parts.0;
                tip_is = eqb-true 2 e parts.1;
                shows = Taken (has-contains (bundle ∷ []) bundle (inl refl));
                due = λ call there. subst (λ (calls : List RootCall). Contains calls call) due-after there;
              }
          | inr none ↦ absurd (false≢true none)
        ]

left-legal : IsLegal tests rules left_behind
unfolding IsLegal
left-legal = (watches, exited-legal)

-- ---- the After is accepted

abbrev standing : Exit
standing = record {
  coin = 1;
  block = 1;
  parent = 0;
  owner = stranger;
  parent_owner = stranger;
  account = 30;
  start = 0;
  challenges = [];
}

after-accepted : is_accepted (answer_to tests rules (log_of left_behind) after) ≡ true
unfolding log_of shows signed now blocks coins block_at coin_at responses exits exit_at is_withdrawn
after-accepted =
    after-taken tests rules (log_of left_behind) 21 1 1 link standing handed refl
    (shown (log_of left_behind) 2 handed handed-worked refl) (signs (transfer 1 1 me)) refl refl refl

after-legal : IsLegal tests rules (Joins after ∷ left_behind)
unfolding IsLegal wallet_owner
after-legal = (legal-call left_behind after (λ w owner is. mine-by (1 == w) owner is) after-accepted refl, left-legal)

-- ---- nothing is shown

pub handed-print : digest (leaf_string (signed_text handed)) ≡ print 0 22
unfolding digest signed signed_text body_text owner_text
handed-print = refl

one-mark : (mark : ℕ) → Has (22 ∷ []) mark
    → (mark < 256) × (digest (leaf_string (signed_text handed)) ≡ print 0 mark)
one-mark mark (inl is) =
    subst (λ n. (n < 256) × (digest (leaf_string (signed_text handed)) ≡ print 0 n)) is (omega arith, handed-print)
one-mark mark (inr none) = absurd none

clear-link : has_clash digest (strings_of digest 1 (link ∷ [])) ≡ false
unfolding strings_of signed
clear-link =
    ap (has_clash digest) (λ i. strings-are 2 handed handed-worked i ++ [])
    ∙ clear 1 (λ mark. signed_text handed) (22 ∷ []) one-mark

left-honest : is_forged tag left_behind 1 1 ≡ false
unfolding is_forged openings_of wallet_owner bound_by signed
left-honest = λ i. (forges-not [] 2 handed handed-worked (signs_not (transfer 1 1 me)) i || false) || false

left-whole : collides digest left_behind 1 ≡ false
unfolding seen openings_of
left-whole = whole-by left_behind 1 (link ∷ []) refl clear-link

pub an_after_needs_no_money : AnAfterNeedsNoMoney
unfolding fresh_offers log_of balance_of pays takes share_of now blocks coins block_at coin_at responses exits exit_at
    is_withdrawn
an_after_needs_no_money = record {
  legal = after-legal;
  offered = has-contains (after ∷ []) after (inl refl);
  nothing = record { whole = left-whole; honest = left-honest };
  had = refl;
  has = refl;
}
