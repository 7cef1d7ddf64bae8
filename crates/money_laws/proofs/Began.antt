-- The worked lists up to the stranger's exits are legal, and show neither a clash nor a forgery.
use Rattle.money_laws.proofs.Basics.{◌≡◌, ℕ, zero, suc, ◌+◌, ◌-◌, ◌^◌, ◌<◌, ◌==◌, ◌&&◌, Bool, true, false, if◌then◌else◌, nat_lt, List, [], ◌∷◌, ◌++◌, Some, None, inr, refl, sym, ap, ◌∙◌, subst, arith, replicate, length, slice_index_or, is_some, not, AllByRecursion, list_any, option_map, cases_Bool, ltb-true, and_parts, or_parts, eq-eqb, true≢false, All-from_recursion, common_steps}
use Rattle.money_laws.proofs.CoinWords.{u32_at, proof_path, hashed_strings, EXIT_BOND, Owner, Body, SignedTx, RawOpening, Spend, RootCall, StartSpend, CoinView, AreBytes, IsOwner, IsBody, owner_text, body_text, signed_text, is_signed_by, now, blocks, coins, block_at, coin_at, responses, exits, exit_at, is_withdrawn, root_at, shown_owner, answer_to, is_accepted, may_exit_at, pays, takes, share_of, balance_of, funded, leaf_string, Has}
use Rattle.money_laws.proofs.WorldWords.{IsDigest, Event, Declares, Joins, log_of, wallet_owner, bound_by, openings_of, seen, strings_in, strings_up, strings_of, has_clash, collides, is_same_body, forges, forges_transfer, is_forged, starts_by, LegalCall, IsLegal, some_same, none_some, me, stranger, tag, rules, transfer, signed, unsigned, byte, print, digest, alone, root_with, shows, planted, hidden, taken, began, exit_one, attacked, tests}
use Rattle.money_laws.proofs.Shows.{key_long, signature_long, signs, signs_not, unsigned_not, IsWorked, read, transfer_shown, shown}
use Rattle.money_laws.proofs.Clear.{clear}
use Rattle.money_laws.proofs.Taken.{start-taken}

-- ---- the digest

byte-small : (n : ℕ) → byte n < 256
byte-small n = grind (arith, common_steps, cases_Bool, ltb-true)

zeros : (n : ℕ) → AllByRecursion (λ (byte : ℕ). byte < 256) (replicate n 0)
zeros zero = tt
zeros (suc n) = (omega arith, zeros n)

printed : (level leaf : ℕ) → (length (print level leaf) ≡ 32) × AreBytes (print level leaf)
printed level leaf = (
  refl,
  All-from_recursion (λ (number : ℕ). number < 256) (print level leaf) (byte-small level, (byte-small leaf, zeros 30)),
)

pub digests : IsDigest digest
unfolding digest
digests bytes =
    elim (slice_index_or bytes 0 0 == 2) as (λ b. (length (if b
    then print (slice_index_or bytes 1 0 + 1) (slice_index_or bytes 2 0 + slice_index_or bytes 34 0)
    else print 0 (slice_index_or bytes 52 0 + slice_index_or bytes 60 0)) ≡ 32)
    × AreBytes (if b
    then print (slice_index_or bytes 1 0 + 1) (slice_index_or bytes 2 0 + slice_index_or bytes 34 0)
    else print 0 (slice_index_or bytes 52 0 + slice_index_or bytes 60 0))) [
      | true ↦ printed (slice_index_or bytes 1 0 + 1) (slice_index_or bytes 2 0 + slice_index_or bytes 34 0)
      | false ↦ printed 0 (slice_index_or bytes 52 0 + slice_index_or bytes 60 0)
    ]

-- ---- transfers

stranger-owner : IsOwner stranger
stranger-owner = record { account = omega arith; key = key_long }

pub me-owner : IsOwner me
me-owner = record { account = omega arith; key = refl }

body-of : (coin from : ℕ) (to : Owner) → coin < 2 ^ 64 → from < 2 ^ 64 → IsOwner to → IsBody (transfer coin from to)
body-of coin from to small low owner = record { tag = refl; coin = small; parent = low; to = owner; last = tt }

pub unsigned-worked : (coin from : ℕ) (to : Owner) → coin < 2 ^ 64 → from < 2 ^ 64 → IsOwner to
    → IsWorked (unsigned (transfer coin from to))
unfolding unsigned
unsigned-worked coin from to small low owner = grind (arith, common_steps, body-of)

pub signed-worked : (coin from : ℕ) (to : Owner) → coin < 2 ^ 64 → from < 2 ^ 64 → IsOwner to
    → IsWorked (signed (transfer coin from to))
unfolding signed
signed-worked coin from to small low owner = grind (arith, common_steps, body-of, signature_long)

pub planted-worked : (coin : ℕ) → coin < 2 ^ 64 → IsWorked (planted coin)
planted-worked coin small = unsigned-worked coin 200 stranger small (omega arith) stranger-owner

pub hidden-worked : IsWorked hidden
hidden-worked = unsigned-worked 1 201 stranger (omega arith) (omega arith) stranger-owner

pub taken-worked : (coin from : ℕ) → coin < 2 ^ 64 → from < 2 ^ 64 → IsWorked (taken coin from)
taken-worked coin from small low = signed-worked coin from stranger small low stranger-owner

-- ---- the wallet is the only one

abbrev pub IsMine : List Event → Type 0
IsMine events = (w : ℕ) (owner : Owner) → wallet_owner events w ≡ Some owner → owner.account ≡ 21

pub mine-by : (b : Bool) (owner : Owner) → (if b then Some me else None) ≡ Some owner → owner.account ≡ 21
mine-by true owner is = ap (λ (o : Owner). o.account) (sym (some_same me owner is))
mine-by false owner is = absurd (none_some owner is)

pub began-mine : (left : ℕ) → IsMine (began left)
unfolding wallet_owner
began-mine left w owner is = mine-by (1 == w) owner is

-- a call that is accepted, and starts no exit by the wallet
pub legal-call : (events : List Event) (call : RootCall) → IsMine events
    → is_accepted (answer_to tests rules (log_of events) call) ≡ true → starts_by 21 call ≡ false
    → LegalCall tests rules events call
legal-call events call mine is other = grind (arith, common_steps, true≢false)

-- ---- the beginning

-- each call is accepted after those before it
unfoldable pub are_taken : List RootCall → Bool
are_taken [] = true
are_taken (call ∷ log) = is_accepted (answer_to tests rules log call) && are_taken log

pub began-80 : are_taken (log_of (began 80)) ≡ true
unfolding are_taken log_of answer_to u32_at balance_of pays takes share_of funded now blocks coins block_at coin_at
    responses exits exit_at is_withdrawn
began-80 = refl

pub began-79 : are_taken (log_of (began 79)) ≡ true
unfolding are_taken log_of answer_to u32_at balance_of pays takes share_of funded now blocks coins block_at coin_at
    responses exits exit_at is_withdrawn
began-79 = refl

pub began-40 : are_taken (log_of (began 40)) ≡ true
unfolding are_taken log_of answer_to u32_at balance_of pays takes share_of funded now blocks coins block_at coin_at
    responses exits exit_at is_withdrawn
began-40 = refl

pub began-100 : are_taken (log_of (began 100)) ≡ true
unfolding are_taken log_of answer_to u32_at balance_of pays takes share_of funded now blocks coins block_at coin_at
    responses exits exit_at is_withdrawn
began-100 = refl

-- events that are such calls above the declaration are legal
unfoldable pub over : List RootCall → List Event
over [] = Declares 1 me ∷ []
over (call ∷ calls) = Joins call ∷ over calls

over-log : (calls : List RootCall) → log_of (over calls) ≡ calls
unfolding over log_of
over-log [] = refl
over-log (call ∷ calls) = ap (λ (log : List RootCall). call ∷ log) (over-log calls)

over-mine : (calls : List RootCall) → IsMine (over calls)
unfolding over wallet_owner
over-mine [] w owner is = mine-by (1 == w) owner is
over-mine (call ∷ calls) w owner is = over-mine calls w owner is

declared : IsLegal tests rules (Declares 1 me ∷ [])
unfolding IsLegal wallet_owner log_of
declared = grind (arith, common_steps, none_some)

pub over-legal : (calls : List RootCall) → list_any (starts_by 21) calls ≡ false → are_taken calls ≡ true
    → IsLegal tests rules (over calls)
unfolding over are_taken IsLegal
over-legal [] others all = declared
over-legal (call ∷ calls) others all =
    let off = or_parts (starts_by 21 call) (list_any (starts_by 21) calls) others in
    let on = and_parts (is_accepted (answer_to tests rules calls call)) (are_taken calls) all in (
      legal-call (over calls) call (over-mine calls)
          (subst (λ (log : List RootCall). is_accepted (answer_to tests rules log call) ≡ true)
          (sym (over-log calls)) on.0)
          off.0,
      over-legal calls off.1 on.1,
    )

pub began-legal : (left : ℕ) → are_taken (log_of (began left)) ≡ true → IsLegal tests rules (began left)
unfolding over log_of
began-legal left all = over-legal (log_of (began left)) refl all

-- ---- the stranger's exits

-- the planted transfer goes to the stranger, and he signed the one from it
pub owner-shown : (log : List RootCall) (block : ℕ) (tx : SignedTx) → IsWorked tx
    → root_at log block ≡ Some (root_with tx.body.coin tx)
    → shown_owner tests rules log tx.body.coin (Spend (shows block tx)) ≡ Some tx.body.to
owner-shown log block tx worked root = ap (option_map (λ (t : SignedTx). t.body.to)) (shown log block tx worked root)

-- an exit of coin c from block f in block e, whose parent is planted
pub exit-taken : (log : List RootCall) (c f e : ℕ) (coin : CoinView) → c < 2 ^ 64 → f < 2 ^ 64
    → coin_at log c ≡ Some coin → root_at log f ≡ Some (root_with c (planted c))
    → root_at log e ≡ Some (root_with c (taken c f)) → is_withdrawn log c ≡ false
    → may_exit_at log coin (Spend (shows f (planted c))) e ≡ true → is_some (exit_at log c e) ≡ false
    → nat_lt (balance_of log 30) EXIT_BOND ≡ false
    → is_accepted (answer_to tests rules log (StartSpend 30 c (Spend (shows f (planted c))) (shows e (taken c f))))
    ≡ true
unfolding shows signed unsigned
exit-taken log c f e coin small low there parent exit free fits none rich =
    start-taken tests rules log 30 c (Spend (shows f (planted c))) (shows e (taken c f)) coin stranger (taken c f)
    there (owner-shown log f (planted c) (planted-worked c small) parent)
    (shown log e (taken c f) (taken-worked c f small low) exit) (signs (transfer c f stranger)) free fits
    (eq-eqb f f refl) refl none rich

pub one-taken : (left : ℕ) → is_accepted (answer_to tests rules (log_of (began left)) exit_one) ≡ true
unfolding log_of shows now blocks coins block_at coin_at responses exits exit_at is_withdrawn balance_of pays takes
    share_of
one-taken left =
    exit-taken (log_of (began left)) 1 4 5 (record { deposit = 1; amount = 5; owner = me }) (omega arith) (omega arith)
    refl refl refl refl refl refl refl

pub attacked-legal : (left : ℕ) → are_taken (log_of (began left)) ≡ true → IsLegal tests rules (attacked left)
unfolding IsLegal
attacked-legal left all =
    (legal-call (began left) exit_one (began-mine left) (one-taken left) refl, began-legal left all)

-- ---- what is shown

pub forges-not : (bodies : List Body) (block : ℕ) (tx : SignedTx) → IsWorked tx → is_signed_by tx me ≡ false
    → forges tag tx.body.coin me bodies (shows block tx) ≡ false
unfolding shows
forges-not bodies block tx worked not_mine =
    ap (forges_transfer me bodies) (transfer_shown block tx worked)
    ∙ ap (λ b. b && not (list_any (is_same_body tx.body) bodies)) not_mine

-- neither the planted transfer nor the stranger's is a forgery of the wallet's
pub attacked-honest : (left : ℕ) → is_forged tag (attacked left) 1 1 ≡ false
unfolding is_forged openings_of wallet_owner bound_by unsigned signed
attacked-honest left = grind (arith, common_steps, forges-not, planted-worked, unsigned_not, taken-worked, signs_not)

-- the strings of an opening
pub strings-are : (block : ℕ) (tx : SignedTx) → IsWorked tx
    → strings_in digest tx.body.coin (shows block tx)
    ≡ hashed_strings digest tx.body.coin (signed_text tx) (proof_path digest alone)
strings-are block tx worked = ap (strings_up digest tx.body.coin) (read digest block tx worked)

-- the leaves of coin c, by what the digest keeps of them
abbrev text : ℕ → ℕ → List ℕ
text c mark =
    if mark == 230 then signed_text (planted c)
    else if mark == 231 then signed_text hidden
    else signed_text (taken c (mark - 30))

planted-print : (coin : ℕ) → digest (leaf_string (signed_text (planted coin))) ≡ print 0 230
unfolding digest unsigned signed_text body_text owner_text
planted-print coin = refl

hidden-print : digest (leaf_string (signed_text hidden)) ≡ print 0 231
unfolding digest unsigned signed_text body_text owner_text
hidden-print = refl

taken-print-4 : (coin : ℕ) → digest (leaf_string (signed_text (taken coin 4))) ≡ print 0 34
unfolding digest signed signed_text body_text owner_text
taken-print-4 coin = refl

taken-print-6 : (coin : ℕ) → digest (leaf_string (signed_text (taken coin 6))) ≡ print 0 36
unfolding digest signed signed_text body_text owner_text
taken-print-6 coin = refl

abbrev Prints : ℕ → ℕ → Type 0
Prints coin mark = (mark < 256) × (digest (leaf_string (text coin mark)) ≡ print 0 mark)

first-marks : (mark : ℕ) → Has (231 ∷ 230 ∷ 34 ∷ []) mark → Prints 1 mark
first-marks mark h1 = grind (arith, common_steps, hidden-print, planted-print, taken-print-4)

second-marks : (mark : ℕ) → Has (230 ∷ 36 ∷ []) mark → Prints 2 mark
second-marks mark h1 = grind (arith, common_steps, planted-print, taken-print-6)

-- the openings of the first exit, and of the second; and those of the first with the hidden transfer
pub clear-one : has_clash digest (strings_of digest 1 (shows 4 (planted 1) ∷ shows 5 (taken 1 4) ∷ [])) ≡ false
unfolding strings_of unsigned signed
clear-one =
    ap (has_clash digest)
    (λ i. strings-are 4 (planted 1) (planted-worked 1 (omega arith)) i
    ++ (strings-are 5 (taken 1 4) (taken-worked 1 4 (omega arith) (omega arith)) i ++ []))
    ∙ clear 1 (text 1) (230 ∷ 34 ∷ []) (λ mark there. first-marks mark (inr there))

pub clear-hidden :
    has_clash digest (strings_of digest 1 (shows 3 hidden ∷ shows 4 (planted 1) ∷ shows 5 (taken 1 4) ∷ [])) ≡ false
unfolding strings_of unsigned signed
clear-hidden =
    ap (has_clash digest)
    (λ i. strings-are 3 hidden hidden-worked i
    ++ (strings-are 4 (planted 1) (planted-worked 1 (omega arith)) i
    ++ (strings-are 5 (taken 1 4) (taken-worked 1 4 (omega arith) (omega arith)) i ++ [])))
    ∙ clear 1 (text 1) (231 ∷ 230 ∷ 34 ∷ []) first-marks

pub clear-two : has_clash digest (strings_of digest 2 (shows 6 (planted 2) ∷ shows 7 (taken 2 6) ∷ [])) ≡ false
unfolding strings_of unsigned signed
clear-two =
    ap (has_clash digest)
    (λ i. strings-are 6 (planted 2) (planted-worked 2 (omega arith)) i
    ++ (strings-are 7 (taken 2 6) (taken-worked 2 6 (omega arith) (omega arith)) i ++ []))
    ∙ clear 2 (text 2) (230 ∷ 36 ∷ []) second-marks

-- events of which these are the openings of the coin show no clash
pub whole-by : (events : List Event) (c : ℕ) (openings : List RawOpening) → seen events c ≡ openings
    → has_clash digest (strings_of digest c openings) ≡ false → collides digest events c ≡ false
unfolding collides
whole-by events c openings are none =
    ap (λ (os : List RawOpening). has_clash digest (strings_of digest c os)) are ∙ none
