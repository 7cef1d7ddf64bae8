-- What a wallet took back: no accepted opening of its coin shows it.
use Rattle.world_laws.proofs.Basics.{◌≡◌, ◌⊎◌, ℕ, ◌<◌, ◌≤◌, ◌==◌, ◌&&◌, ◌||◌, Bool, true, false, if◌then◌else◌, List, [], ◌∷◌, length, Some, inl, inr, refl, sym, ap, ◌∙◌, arith, rules, subst, list_any, cases_Bool, cases_eq, eq-eqb, eqb-true, ne_eqb, leb-true, or_from, or_parts, true≢false, common_steps, some_same, none_some, any-some}
use Rattle.world_laws.proofs.CoinWords.{Body, RawOpening, SignedTx, RootCall, may_stand_in, blocks, transfer-read, Tests, Rules, root_at, Bundle, leaf_of_opening, transfer_of, root_at-grown, Has, has-left, Deposit, Commit}
use Rattle.world_laws.proofs.WorldWords.{Event, Joins, TakesBack, log_of, bound_by, leaf_at, taken_back, is_taken, not_taken, signed_away_by, is_sent_from, openings_of, seen, LegalReclaim, IsLegal}
use Rattle.world_laws.proofs.Histories.{opened-grow, ShowsAbsent, absent-covers}
use Rattle.world_laws.proofs.Shown.{seen-grow}

-- the body names the coin with this parent
abbrev pub names : ℕ → ℕ → Body → Bool
names c e body = (body.coin == c) && (body.parent == e)

-- ---- the last block of a transfer

pub tx-coin : (rules : Rules) (c : ℕ) (o : RawOpening) (tx : SignedTx) → transfer_of rules c o ≡ Some tx
    → tx.body.coin ≡ c
tx-coin rules c o tx is = (transfer-read rules.tag (leaf_of_opening o) c o.block tx is).2

pub tx-last : (rules : Rules) (c : ℕ) (o : RawOpening) (tx : SignedTx) (last : ℕ) → transfer_of rules c o ≡ Some tx
    → tx.body.last ≡ Some last → o.block ≤ last
tx-last rules c o tx last is last_is =
    leb-true o.block last
    (ap (may_stand_in o.block) (sym last_is) ∙ (transfer-read rules.tag (leaf_of_opening o) c o.block tx is).3)

-- ---- leaves and their numbers

leaf_at-below : (q : ℕ) (bodies : List Body) (body : Body) → leaf_at q bodies ≡ Some body → q < length bodies
unfolding leaf_at
leaf_at-below q [] body is = absurd (none_some body is)
leaf_at-below q (x ∷ xs) body is =
    elim (cases_eq q (length xs)) [
      | inl same ↦ omega arith
      | inr apart ↦
          let low = leaf_at-below q xs body (simp (ne_eqb q (length xs) apart) at is) in omega (arith, low)
    ]

pub leaf_at-push : (q : ℕ) (new : Body) (bodies : List Body) (body : Body) → leaf_at q bodies ≡ Some body
    → leaf_at q (new ∷ bodies) ≡ Some body
unfolding leaf_at
leaf_at-push q new bodies body is =
    let low = leaf_at-below q bodies body is in
    simp (ne_eqb q (length bodies) (λ same. absurd (omega (arith, low, same)))) is

leaf_at-maybe : (b : Bool) (q : ℕ) (new : Body) (bodies : List Body) (body : Body) → leaf_at q bodies ≡ Some body
    → leaf_at q (if b then new ∷ bodies else bodies) ≡ Some body
leaf_at-maybe true q new bodies body is = leaf_at-push q new bodies body is
leaf_at-maybe false q new bodies body is = is

-- a body is one of a leaf that isn't taken back, or of one that is
parted-leaf : (taken : List ℕ) (bodies : List Body) (body : Body) → Has bodies body
    → Has (not_taken taken bodies) body ⊎ ((q : ℕ) × Has taken q × (leaf_at q bodies ≡ Some body))
unfolding not_taken leaf_at
parted-leaf taken [] body h = absurd h
parted-leaf taken (x ∷ xs) body (inl same) = grind (arith, common_steps, any-some)
parted-leaf taken (x ∷ xs) body (inr h) =
    elim (parted-leaf taken xs body h) [
      | inl l ↦ inl (keep (is_taken taken (length xs)) l)
      | inr r ↦ inr (r.0, r.1, leaf_at-push r.0 x xs body r.2)
    ]
  where
    keep : (b : Bool) → Has (not_taken taken xs) body
        → Has (if b then not_taken taken xs else x ∷ not_taken taken xs) body
    keep true l = l
    keep false l = inr l

-- ---- what taking back does to 'signed away'

pub any-rest : {A : Type 0} (p : A → Bool) (b : Bool) (x : A) (xs : List A)
    → list_any p (if b then xs else x ∷ xs) ≡ false → list_any p xs ≡ false
any-rest p true x xs is = is
any-rest p false x xs is = (or_parts _ _ is).1

pub any-without : {A : Type 0} (p : A → Bool) (b : Bool) (x : A) (xs : List A) → (b ≡ false → p x ≡ false)
    → list_any p xs ≡ false → list_any p (if b then xs else x ∷ xs) ≡ false
any-without p true x xs first rest = rest
any-without p false x xs first rest = or_from _ _ (first refl) rest

pub any-top : {A : Type 0} (p : A → Bool) (b : Bool) (x : A) (xs : List A) → b ≡ false
    → list_any p (if b then xs else x ∷ xs) ≡ false → p x ≡ false
any-top p true x xs off is = absurd (true≢false off)
any-top p false x xs off is = (or_parts _ _ is).0

-- what a leaf that is taken back no longer signs away, was signed away before only by that leaf
pub away-untake : (q c e : ℕ) (taken : List ℕ) (bodies : List Body)
    → ((body : Body) → leaf_at q bodies ≡ Some body → names c e body ≡ false)
    → is_sent_from (not_taken (q ∷ taken) bodies) c e ≡ false → is_sent_from (not_taken taken bodies) c e ≡ false
unfolding not_taken leaf_at
away-untake q c e taken [] other off = refl
away-untake q c e taken (x ∷ xs) other off =
    let n : ℕ = length xs in
    any-without (names c e) (is_taken taken n) x (not_taken taken xs)
    (grind (arith, common_steps, cases_Bool, any-top, or_from))
    (away-untake q c e taken xs (λ body is. other body (leaf_at-push q x xs body is))
    (any-rest (names c e) ((q == n) || is_taken taken n) x (not_taken (q ∷ taken) xs) off))

-- and without a new leaf no more is signed away
pub away-unbind : (b : Bool) (c e : ℕ) (taken : List ℕ) (new : Body) (bodies : List Body)
    → is_sent_from (not_taken taken (if b then new ∷ bodies else bodies)) c e ≡ false
    → is_sent_from (not_taken taken bodies) c e ≡ false
unfolding not_taken
away-unbind true c e taken new bodies off =
    any-rest (names c e) (is_taken taken (length bodies)) new (not_taken taken bodies) off
away-unbind false c e taken new bodies off = off

-- ---- a leaf that is taken back

-- these openings show an empty leaf in each committed block after the body's parent up to its last
pub record IsTakenBack (tests : Tests) (log : List RootCall) (os : List RawOpening) (body : Body) : Type 0 where
  pub last : ℕ
  pub last_is : body.last ≡ Some last
  pub reached : last ≤ blocks log
  pub covers : (n : ℕ) (root : List ℕ) → body.parent < n → n ≤ last → root_at log n ≡ Some root
      → ShowsAbsent tests log body.coin os n

pub absent-more : (tests : Tests) (log : List RootCall) (c : ℕ) (os more : List RawOpening) (n : ℕ)
    → ((o : RawOpening) → Has os o → Has more o) → ShowsAbsent tests log c os n → ShowsAbsent tests log c more n
absent-more tests log c os more n has k =
    record { o = k.o; has = has k.o k.has; block_is = k.block_is; empty = k.empty; opened = k.opened }

pub blocks-grow : (call : RootCall) (log : List RootCall) → blocks log ≤ blocks (call ∷ log)
unfolding blocks
blocks-grow (Deposit account amount key) log = omega arith
blocks-grow (Commit account root) log = omega arith
blocks-grow call log = omega arith

back-call : (tests : Tests) (call : RootCall) (log : List RootCall) (os : List RawOpening) (body : Body)
    → IsTakenBack tests log os body → IsTakenBack tests (call ∷ log) os body
back-call tests call log os body k =
    let more = blocks-grow call log in
    record {
      last = k.last;
      last_is = k.last_is;
      reached = omega (arith, more, k.reached);
      covers = grind (arith, root_at-grown, opened-grow);
    }

pub back-more : (tests : Tests) (log : List RootCall) (os more : List RawOpening) (body : Body)
    → ((o : RawOpening) → Has os o → Has more o) → IsTakenBack tests log os body → IsTakenBack tests log more body
back-more tests log os more body has k = grind (arith, common_steps, absent-more)

back-grow : (tests : Tests) (event : Event) (events : List Event) (body : Body)
    → IsTakenBack tests (log_of events) (seen events body.coin) body
    → IsTakenBack tests (log_of (event ∷ events)) (seen (event ∷ events) body.coin) body
unfolding log_of
back-grow tests event events body k =
    by_event event (back-more tests (log_of events) (seen events body.coin) (seen (event ∷ events) body.coin) body
    (seen-grow event events body.coin) k)
  where
    by_event : (ev : Event) → IsTakenBack tests (log_of events) (seen (event ∷ events) body.coin) body
        → IsTakenBack tests (log_of (ev ∷ events)) (seen (event ∷ events) body.coin) body
    by_event (Joins call) m = back-call tests call (log_of events) (seen (event ∷ events) body.coin) body m
    by_event ev m = m

record TakenBack (tests : Tests) (events : List Event) (w q : ℕ) : Type 0 where
  body : Body
  leaf_is : leaf_at q (bound_by events w) ≡ Some body
  shown : IsTakenBack tests (log_of events) (seen events body.coin) body

taken-grow : (tests : Tests) (event : Event) (events : List Event) (w q : ℕ) → TakenBack tests events w q
    → TakenBack tests (event ∷ events) w q
unfolding bound_by
taken-grow tests event events w q k = grind (arith, back-grow, leaf_at-maybe)

taken-new : (tests : Tests) (events : List Event) (w q : ℕ) (bundle : Bundle) → LegalReclaim tests events w q bundle
    → TakenBack tests (TakesBack w q bundle ∷ events) w q
unfolding bound_by log_of seen openings_of
taken-new tests events w q bundle r = record {
  body = r.body;
  leaf_is = r.leaf_is;
  shown = record {
    last = r.last;
    last_is = r.last_is;
    reached = r.reached;
    covers = λ n root above under is.
        let p = absent-covers tests (log_of events) bundle.coin r.body.parent r.last bundle.openings r.absent n root
        above under is in
        grind (arith, common_steps, has-left, eq-eqb);
  };
}

taken_fact : (tests : Tests) (rules : Rules) (events : List Event) (w q : ℕ) → IsLegal tests rules events
    → Has (taken_back events w) q → TakenBack tests events w q
unfolding taken_back IsLegal
taken_fact tests rules [] w q legal h = absurd h
taken_fact tests rules (TakesBack v k bundle ∷ events) w q legal h =
    (elim (v == w) as (λ b. (v == w) ≡ b → Has (if b then k ∷ taken_back events w else taken_back events w) q
    → TakenBack tests (TakesBack v k bundle ∷ events) w q) [
      | true ↦ λ same h2. elim h2 [
        | inl is ↦ subst (λ x. TakenBack tests (TakesBack v k bundle ∷ events) w x) is
            (subst (λ x. TakenBack tests (TakesBack v k bundle ∷ events) x k) (eqb-true v w same)
            (taken-new tests events v k bundle legal.0))
        | inr later ↦ taken-grow tests (TakesBack v k bundle) events w q
            (taken_fact tests rules events w q legal.1 later)
      ]
      | false ↦ λ apart h2. taken-grow tests (TakesBack v k bundle) events w q
          (taken_fact tests rules events w q legal.1 h2)
    ]) refl h
taken_fact tests rules (event ∷ events) w q legal h =
    taken-grow tests event events w q (taken_fact tests rules events w q legal.1 h)

-- each bound body of the coin stands, or is taken back
abbrev pub IsParted : Tests → List RootCall → List RawOpening → ℕ → List Body → List Body → Type 0
IsParted tests log os c bodies standing = (body : Body) → Has bodies body → body.coin ≡ c
    → Has standing body ⊎ IsTakenBack tests log os body

pub parted : (tests : Tests) (rules : Rules) (events : List Event) (w c : ℕ) → IsLegal tests rules events
    → IsParted tests (log_of events) (seen events c) c (bound_by events w) (signed_away_by events w)
parted tests rules events w c legal body h c_is = grind (arith, common_steps, parted-leaf, taken_fact, some_same)
