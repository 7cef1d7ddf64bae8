-- What is kept of the wallets that events declared and of the bodies that they bound.
use Rattle.std.proofs.Common.{nat_eq, ◌≡◌, Bor, ℕ, ◌-◌, ◌==◌, ◌&&◌, ◌||◌, not, Bool, true, false, if◌then◌else◌, List, [], ◌∷◌, ◌++◌, length, map, take, Option, Some, None, inl, inr, refl, sym, ap, ◌∙◌}
use Rattle.std.specs.List.{list_any, insert}
use Rattle.std.specs.Option.{option_eq, option_map_or}
use Rattle.std.specs.Str.{bytes_eq}
use Rattle.std.proofs.lemmas.Bool.{cases_Bool}
use Rattle.std.proofs.lemmas.List.{length-map, take-map}
use Rattle.std.proofs.lemmas.List.Folds.{list_any-append}
use Rattle.plasma_tx.specs.declared.owner.Owner.{Owner}
use Rattle.plasma_tx.specs.declared.body.Body.{Body}
use Rattle.plasma_tx.specs.declared.signed_tx.SignedTx.{SignedTx}
use Rattle.plasma_tx.specs.Openings.{leaf_in}
use Rattle.plasma_tx.specs.Transfer.{transfer_in, is_signed_by}
use Rattle.plasma_tx.proofs.Names.{eqb-flip}
use Rattle.wallet_core.specs.State.{is_owner}
use Rattle.watch_duty.proofs.Members.{any-map}
use Rattle.world_rules.specs.Events.{Event, Declares, Joins, Bounces, Accepts, Guards, Releases, Binds, TakesBack, Watches, Leaves, Seals, Other, Idle, wallet_owner, wallets, bound_by}
use Rattle.world_rules.specs.Exhibits.{is_same_body, forges_transfer, forges_one}
use Rattle.trace_exhibits.specs.Opened.{Opened}
use Rattle.trace_exhibits.specs.Lines.{event_of}
use Rattle.trace_exhibits.specs.Wallets.{bodies_of, declared_in, owner_in, is_bound_in, signs_unbound, KeepsWallets, wallets_since, forges_by, is_forged_since}
use Rattle.trace_exhibits.specs.declared.lines.ExhibitLine.{ExhibitLine}
use Rattle.trace_exhibits.specs.declared.wallets.Declared.{Declared}
use Rattle.trace_exhibits.specs.declared.wallets.Bound.{Bound}
use Rattle.trace_exhibits.specs.declared.wallets.Known.{Known}

-- ---- tests of lists

pub any-same : {X : Type 0} (p q : X → Bool) (xs : List X) → ((x : X) → p x ≡ q x) → list_any p xs ≡ list_any q xs
any-same p q [] same = refl
any-same p q (x ∷ xs) same =
    ap (λ b. b || list_any p xs) (same x) ∙ ap (λ b. q x || b) (any-same p q xs same)

pub any-false : {X : Type 0} (p : X → Bool) (xs : List X) → ((x : X) → p x ≡ false) → list_any p xs ≡ false
any-false p [] none = refl
any-false p (x ∷ xs) none = ap (λ b. b || list_any p xs) (none x) ∙ any-false p xs none

pub or-false : (b : Bool) → (b || false) ≡ b
or-false true = refl
or-false false = refl

or-comm : (a b : Bool) → (a || b) ≡ (b || a)
or-comm true true = refl
or-comm true false = refl
or-comm false true = refl
or-comm false false = refl

-- ---- what is kept

module _ (known : Known) where
  pub keeps-nothing : known.declared.items ≡ [] → known.bodies.entries ≡ [] → KeepsWallets [] known
  unfolding declared_in bound_by
  keeps-nothing declared bodies = record {
    declared = declared;
    bound = λ w body. rw bodies refl;
  }

pub and-false : (a b : Bool) → b ≡ false → (a && b) ≡ false
and-false true b is = is
and-false false b is = refl

pub false-and : (a b : Bool) → a ≡ false → (a && b) ≡ false
false-and true b is = cc is
false-and false b is = refl

-- bodies of two coins aren't one
other-coin : (one other : Body) → (one.coin == other.coin) ≡ false → is_same_body one other ≡ false
other-coin one other apart =
    false-and (bytes_eq one.tag other.tag && (one.coin == other.coin) && (one.parent == other.parent)
    && is_owner one.to other.to) (option_eq nat_eq one.last other.last)
    (false-and (bytes_eq one.tag other.tag && (one.coin == other.coin) && (one.parent == other.parent))
    (is_owner one.to other.to)
    (false-and (bytes_eq one.tag other.tag && (one.coin == other.coin)) (one.parent == other.parent)
    (and-false (bytes_eq one.tag other.tag) (one.coin == other.coin) apart)))

module _ (events : List Event) (old new : Known) (keeps : KeepsWallets events old) where
  pub keeps-declared : (w : ℕ) (me : Owner)
      → new.declared.items ≡ insert old.declared.items 0 (record { wallet = w; owner = me })
      → new.bodies ≡ old.bodies → KeepsWallets (Declares w me ∷ events) new
  unfolding declared_in bound_by
  keeps-declared w me declared bodies = record {
    declared = declared ∙ ap (λ (all : List Declared). record { wallet = w; owner = me } ∷ all) keeps.declared;
    bound = λ v body. rw bodies (keeps.bound v body);
  }

  pub keeps-bound : (w : ℕ) (body : Body) → new.declared.items ≡ old.declared.items
      → ((coin : ℕ) → bodies_of new.bodies coin ≡ (if body.coin == coin
      then bodies_of old.bodies coin ++ record { wallet = w; body = body } ∷ [] else bodies_of old.bodies coin))
      → KeepsWallets (Binds w body ∷ events) new
  unfolding declared_in bound_by
  keeps-bound w body declared bodies = record {
    declared = declared ∙ keeps.declared;
    bound = λ v other. elim (cases_Bool (body.coin == other.coin)) [
      | inl same ↦
          ap (λ (all : List Bound). is_bound_in all v other) (bodies other.coin
          ∙ ap (λ (b : Bool). if b then bodies_of old.bodies other.coin ++ record { wallet = w; body = body } ∷ []
          else bodies_of old.bodies other.coin) same)
          ∙ list_any-append (λ (one : Bound). (one.wallet == v) && is_same_body other one.body)
          (bodies_of old.bodies other.coin) (record { wallet = w; body = body } ∷ [])
          ∙ ap (λ b. b || list_any (λ (one : Bound). (one.wallet == v) && is_same_body other one.body)
          (record { wallet = w; body = body } ∷ [])) (keeps.bound v other)
          ∙ last v other (w == v)
      | inr apart ↦
          ap (λ (all : List Bound). is_bound_in all v other) (bodies other.coin
          ∙ ap (λ (b : Bool). if b then bodies_of old.bodies other.coin ++ record { wallet = w; body = body } ∷ []
          else bodies_of old.bodies other.coin) apart)
          ∙ keeps.bound v other
          ∙ unlike v other (w == v) (other-coin other body (eqb-flip other.coin body.coin ∙ apart))
    ];
  }
    where
      last : (v : ℕ) (other : Body) (is : Bool)
          → (list_any (is_same_body other) (bound_by events v) || ((is && is_same_body other body) || false))
          ≡ list_any (is_same_body other) (if is then body ∷ bound_by events v else bound_by events v)
      last v other true =
          ap (λ b. list_any (is_same_body other) (bound_by events v) || b) (or-false (is_same_body other body))
          ∙ or-comm (list_any (is_same_body other) (bound_by events v)) (is_same_body other body)
      last v other false = or-false (list_any (is_same_body other) (bound_by events v))

      unlike : (v : ℕ) (other : Body) (is : Bool) → is_same_body other body ≡ false
          → list_any (is_same_body other) (bound_by events v)
          ≡ list_any (is_same_body other) (if is then body ∷ bound_by events v else bound_by events v)
      unlike v other true apart =
          ap (λ b. b || list_any (is_same_body other) (bound_by events v)) (sym apart)
      unlike v other false apart = refl

  keeps-same : (event : Event) → declared_in (event ∷ events) ≡ declared_in events
      → ((w : ℕ) → bound_by (event ∷ events) w ≡ bound_by events w) → KeepsWallets (event ∷ events) old
  keeps-same event declared bound = record {
    declared = keeps.declared ∙ sym declared;
    bound = λ w body. keeps.bound w body ∙ ap (list_any (is_same_body body)) (sym (bound w));
  }

  -- a line that declares no wallet and binds no body
  pub keeps-line : (line : ExhibitLine) → ((w : ℕ) (me : Bor Owner) → line ≡ ExhibitLine.Declares w me → ⊥)
      → ((w : ℕ) (body : Bor Body) → line ≡ ExhibitLine.Binds w body → ⊥) → KeepsWallets (event_of line ∷ events) old
  unfolding declared_in bound_by
  keeps-line (ExhibitLine.Declares w me) not_declared not_bound = absurd (not_declared w me refl)
  keeps-line (ExhibitLine.Binds w body) not_declared not_bound = absurd (not_bound w body refl)
  keeps-line (ExhibitLine.Joins call) not_declared not_bound =
      keeps-same (event_of (ExhibitLine.Joins call)) refl (λ w. refl)
  keeps-line (ExhibitLine.Shows coin openings) not_declared not_bound =
      keeps-same (event_of (ExhibitLine.Shows coin openings)) refl (λ w. refl)
  keeps-line ExhibitLine.Other not_declared not_bound = keeps-same Idle refl (λ w. refl)

-- ---- forgeries

wallets-declared : (events : List Event) → wallets events ≡ map (λ one. one.wallet) (declared_in events)
unfolding wallets declared_in
wallets-declared [] = refl
wallets-declared (Declares w me ∷ events) = ap (λ all. w ∷ all) (wallets-declared events)
wallets-declared (Joins call ∷ events) = wallets-declared events
wallets-declared (Bounces call ∷ events) = wallets-declared events
wallets-declared (Accepts w bundle ∷ events) = wallets-declared events
wallets-declared (Guards w bundle ∷ events) = wallets-declared events
wallets-declared (Releases w c e ∷ events) = wallets-declared events
wallets-declared (Binds w body ∷ events) = wallets-declared events
wallets-declared (TakesBack w q bundle ∷ events) = wallets-declared events
wallets-declared (Watches w calls ∷ events) = wallets-declared events
wallets-declared (Leaves w call ∷ events) = wallets-declared events
wallets-declared (Seals call ∷ events) = wallets-declared events
wallets-declared (Other w ∷ events) = wallets-declared events
wallets-declared (Idle ∷ events) = wallets-declared events

-- how many were declared, and those that were since there were so many
pub declared-count : (events : List Event) (known : Known) → KeepsWallets events known
    → length known.declared.items ≡ length (wallets events)
declared-count events known keeps =
    ap length keeps.declared ∙ sym (length-map (declared_in events) (λ (one : Declared). one.wallet))
    ∙ ap length (sym (wallets-declared events))

wallets-newer : (events : List Event) (all : List Declared) (count : ℕ) → all ≡ declared_in events
    → map (λ one. one.wallet) (take (length all - count) all) ≡ wallets_since count events
wallets-newer events all count is =
    sym (take-map (λ (one : Declared). one.wallet) (length all - count) all)
    ∙ ap (λ n. take (n - count) (map (λ (one : Declared). one.wallet) all))
    (sym (length-map all (λ (one : Declared). one.wallet)))
    ∙ ap (λ ws. take (length ws - count) ws)
    (ap (map (λ (one : Declared). one.wallet)) is ∙ sym (wallets-declared events))

owner-declared : (events : List Event) (w : ℕ) → wallet_owner events w ≡ owner_in (declared_in events) w
unfolding wallet_owner declared_in
owner-declared [] w = refl
owner-declared (Declares v me ∷ events) w = elim (cases_Bool (v == w)) [
  | inl is ↦ rw is refl
  | inr isnt ↦ rw isnt (owner-declared events w)
]
owner-declared (Joins call ∷ events) v = owner-declared events v
owner-declared (Bounces call ∷ events) v = owner-declared events v
owner-declared (Accepts w bundle ∷ events) v = owner-declared events v
owner-declared (Guards w bundle ∷ events) v = owner-declared events v
owner-declared (Releases w c e ∷ events) v = owner-declared events v
owner-declared (Binds w body ∷ events) v = owner-declared events v
owner-declared (TakesBack w q bundle ∷ events) v = owner-declared events v
owner-declared (Watches w calls ∷ events) v = owner-declared events v
owner-declared (Leaves w call ∷ events) v = owner-declared events v
owner-declared (Seals call ∷ events) v = owner-declared events v
owner-declared (Other w ∷ events) v = owner-declared events v
owner-declared (Idle ∷ events) v = owner-declared events v

module _ (tag : List ℕ) (events : List Event) (one : Opened) where
  -- a leaf that is no transfer shows none
  pub forged-none : (count : ℕ) → None ≡ transfer_in tag one.coin one.opening.block (leaf_in one.opening.bytes)
      → false ≡ is_forged_since tag count events one
  forged-none count none =
      sym (any-false (forges_by tag events one) (wallets_since count events)
      (λ w. by (wallet_owner events w) (bound_by events w)))
    where
      by : (owner : Option Owner) (bodies : List Body)
          → forges_one tag owner bodies one.coin (one.opening ∷ []) ≡ false
      by None bodies = refl
      by (Some me) bodies = ap (λ found. forges_transfer me bodies found || false) (sym none)

  -- and a transfer shows one where a wallet signed it that didn't bind its body
  pub forged-some : (known : Known) (tx : SignedTx) (count : ℕ) → KeepsWallets events known
      → Some tx ≡ transfer_in tag one.coin one.opening.block (leaf_in one.opening.bytes)
      → list_any
      (λ declared. signs_unbound known.declared.items (bodies_of known.bodies tx.body.coin) tx declared.wallet)
      (take (length known.declared.items - count) known.declared.items) ≡ is_forged_since tag count events one
  forged-some known tx count keeps is =
      sym (any-map (λ (declared : Declared). declared.wallet)
      (signs_unbound known.declared.items (bodies_of known.bodies tx.body.coin) tx)
      (take (length known.declared.items - count) known.declared.items))
      ∙ ap (list_any (signs_unbound known.declared.items (bodies_of known.bodies tx.body.coin) tx))
      (wallets-newer events known.declared.items count keeps.declared)
      ∙ any-same (signs_unbound known.declared.items (bodies_of known.bodies tx.body.coin) tx)
      (forges_by tag events one) (wallets_since count events) (λ w.
      ap (λ (all : List Declared). signs_unbound all (bodies_of known.bodies tx.body.coin) tx w) keeps.declared
      ∙ by w (owner_in (declared_in events) w)
      ∙ ap (λ owner. forges_one tag owner (bound_by events w) one.coin (one.opening ∷ []))
      (sym (owner-declared events w)))
    where
      by : (w : ℕ) (owner : Option Owner)
          → option_map_or
          (λ me. is_signed_by tx me && not (is_bound_in (bodies_of known.bodies tx.body.coin) w tx.body)) owner false
          ≡ forges_one tag owner (bound_by events w) one.coin (one.opening ∷ [])
      by w None = refl
      by w (Some me) =
          ap (λ b. is_signed_by tx me && not b) (keeps.bound w tx.body)
          ∙ sym (or-false (forges_transfer me (bound_by events w) (Some tx)))
          ∙ ap (λ found. forges_transfer me (bound_by events w) found || false) is
