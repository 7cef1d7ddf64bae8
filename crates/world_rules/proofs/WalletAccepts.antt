-- An accept keeps a wallet's records what the events say.
use Rattle.world_rules.proofs.Basics.{◌≡◌, ℕ, ◌==◌, ◌&&◌, Bool, true, List, [], ◌∷◌, ◌++◌, inl, inr, refl, sym, subst, ◌⊎◌, lit<, arith, Result, IfSome, list_any, eqb-true, eq-eqb, or_cases, or_left, or_right, and_parts, and_from, false≢true, list_any-append, common_steps}
use Rattle.world_rules.proofs.CoinWords.{Owner, Links, RootCall, tip_of, last_owner_of, Bundle, CoinTip, Notes, is_noted, is_owner}
use Rattle.world_rules.proofs.NodeWords.{Accepted, WalletRefusal, kept_of, AcceptsNote, note_text, owner_of, coin_tip, WalletRecords, WalletEffect, who, noted, accept_effect, is_known, is_wallet, after, AddsAccepted, state-accepts, noted-grow, accepts_keep_the_role, accepts_add_their_notes, WalletOrder, on_accepted, Small, small-cons, small-bundle, AcceptEnds, Refused, Known, New, accept_ends, AddsNote}
use Rattle.world_rules.proofs.WorldWords.{Accepts, is_bundle, bundle_read, event_of}
use Rattle.world_rules.proofs.OrderEnds.{wallet_told}
use Rattle.world_rules.proofs.Said.{Said, told}
use Rattle.world_rules.proofs.Handed.{IsHanded, is_handed, IsKnownCoin, is_known_coin}
use Rattle.world_rules.proofs.KeptWallet.{KeptWallet, state-me, with_note, noting}

-- ---- noted tips with one more

abbrev is_this : ℕ → ℕ → CoinTip → Bool
is_this c e note = (note.coin == c) && (note.tip == e)

noted-before : (c e : ℕ) (notes : List CoinTip) (new : CoinTip) → is_noted c e notes ≡ true
    → is_noted c e (notes ++ new ∷ []) ≡ true
noted-before c e notes new is = grind (arith, common_steps, list_any-append, or_left)

noted-new : (c e : ℕ) (notes : List CoinTip) (new : CoinTip) → is_this c e new ≡ true
    → is_noted c e (notes ++ new ∷ []) ≡ true
noted-new c e notes new is = grind (arith, common_steps, list_any-append, or_right, or_left)

noted-parts : (c e : ℕ) (notes : List CoinTip) (new : CoinTip) → is_noted c e (notes ++ new ∷ []) ≡ true
    → (is_noted c e notes ≡ true) ⊎ (is_this c e new ≡ true)
noted-parts c e notes new is = grind (arith, common_steps, or_cases, list_any-append, false≢true)

-- a coin that is known stays so with one more note
known-more : (me : Owner) (log : List RootCall) (one other : Bool) (c e : ℕ) → (one ≡ true → other ≡ true)
    → IsKnownCoin me log one c e → IsKnownCoin me log other c e
known-more me log one other c e more known = grind (arith, common_steps, or_cases, or_left, or_right)

-- the coin and the tip of a bundle
pub bundle-is : (c e : ℕ) (bundle : Bundle) → is_bundle c e bundle ≡ true → (bundle.coin ≡ c) × (bundle.tip ≡ e)
bundle-is c e bundle is = grind (arith, common_steps, and_parts, eqb-true)

module _ (dig : List ℕ → List ℕ) (s : Said) (log : List RootCall) (wallet : WalletRecords)
    (kept : KeptWallet dig s log wallet) (bytes : List ℕ) (small : Small bytes) where
  abbrev notes : Notes
  notes = noted dig wallet

  -- the coin and the tip of the bundle are those of its links
  of-links : (links : Links) → IsHanded dig (who wallet).tag log bytes links → (c e : ℕ)
      → is_bundle c e (bundle_read bytes) ≡ true → (links.coin ≡ c) × (tip_of links ≡ e)
  of-links links handed c e is = grind (arith, common_steps, bundle-is)

  -- a bundle that the wallet knew
  accepts-known : (n : ℕ) (links : Links) → IsHanded dig (who wallet).tag log bytes links
      → is_owner (last_owner_of links) notes.me ≡ true → is_known notes links ≡ true
      → KeptWallet dig (told (Accepts n (bundle_read bytes)) s) log wallet
  accepts-known n links handed mine is = record {
    owner = kept.owner;
    is = kept.is;
    is_owner = kept.is_owner;
    tag = kept.tag;
    notes = kept.notes;
    messages = kept.messages;
    bodies = kept.bodies;
    taken = kept.taken;
    known = λ c e among.
        elim (or_cases (is_bundle c e (bundle_read bytes)) (list_any (is_bundle c e) s.accepted) among) [
          | inl here ↦ grind (arith, common_steps, of-links, state-me, is_known_coin)
          | inr before ↦ kept.known c e before
        ];
    noted = grind (arith, common_steps, or_right);
  }

  -- one that it notes
  accepts-new : (n : ℕ) (body : List ℕ) (links : Links) → IsHanded dig (who wallet).tag log bytes links
      → body ≡ note_text (AcceptsNote (kept_of links))
      → is_wallet dig (with_note wallet body) ≡ true
      → AddsNote dig wallet.notes (AcceptsNote (kept_of links)) body
      → KeptWallet dig (told (Accepts n (bundle_read bytes)) s) log (with_note wallet body)
  unfolding note_text
  accepts-new n body links handed text is adds =
      noting dig s log wallet kept body
      (record notes { accepted = notes.accepted ++ coin_tip links.coin (tip_of links) ∷ [] })
      (told (Accepts n (bundle_read bytes)) s)
      (record {
        is = is;
        who_same = adds.0;
        now_is = grind (arith, common_steps, noted-grow, state-accepts);
        small = subst Small (sym text) (small-cons 2 (lit< tt) (small-bundle (kept_of links) handed.small));
        owner = refl;
        bound = refl;
        taken = kept.taken;
        known = λ c e among.
            elim (or_cases (is_bundle c e (bundle_read bytes)) (list_any (is_bundle c e) s.accepted) among) [
              | inl here ↦ grind (arith, common_steps, of-links, or_right, noted-new, and_from, eq-eqb)
              | inr before ↦
                  known-more (owner_of (who wallet)) log (is_noted c e notes.accepted)
                  (is_noted c e (notes.accepted ++ new links ∷ [])) c e
                  (noted-before c e notes.accepted (new links)) (kept.known c e before)
            ];
        noted = λ c e among.
            elim (noted-parts c e notes.accepted (new links) among) [
              | inl before ↦
                  or_right (is_bundle c e (bundle_read bytes)) (list_any (is_bundle c e) s.accepted)
                  (kept.noted c e before)
              | inr here ↦ grind (arith, common_steps, and_parts, or_left, and_from, eq-eqb, eqb-true)
            ];
      })
    where
      new : Links → CoinTip
      new links = coin_tip links.coin (tip_of links)

  -- what an accept leaves, and what is said then
  abbrev pub IsAccepted : ℕ → WalletEffect (Result Accepted WalletRefusal) → Type 0
  IsAccepted n effect =
      KeptWallet dig (told (wallet_told n (WalletOrder.Accept bytes) on_accepted effect.answer) s) log
      (after effect wallet)

  pub accepts-kept : (n : ℕ) → IsAccepted n (accept_effect dig wallet log bytes)
  unfolding event_of
  accepts-kept n = by (accept_ends dig wallet log bytes)
    where
      tag : List ℕ
      tag = (who wallet).tag

      effect : WalletEffect (Result Accepted WalletRefusal)
      effect = accept_effect dig wallet log bytes

      by : AcceptEnds dig wallet log bytes effect → IsAccepted n effect
      by (Refused why is) = subst (IsAccepted n) (sym is) kept
      by (Known links handed mine known is) =
          subst (IsAccepted n) (sym is)
          (accepts-known n links (is_handed dig tag log bytes links small handed) mine known)
      by (New links handed is) =
          let text = note_text (AcceptsNote (kept_of links)) in
          let added : AddsAccepted dig wallet log bytes text =
          subst (λ e. IfSome e.note (AddsAccepted dig wallet log bytes)) is
          (accepts_add_their_notes dig wallet log bytes kept.is small.are) in
          let same : added.0 ≡ links = cc (added.1, handed) in
          let adds : AddsNote dig wallet.notes (AcceptsNote (kept_of links)) text =
          subst (λ (l : Links). AddsNote dig wallet.notes (AcceptsNote (kept_of l)) text) same added.4 in
          subst (IsAccepted n) (sym is)
          (accepts-new n text links (is_handed dig tag log bytes links small handed) refl
          (subst (λ e. is_wallet dig (after e wallet) ≡ true) is
          (accepts_keep_the_role dig wallet log bytes kept.is small.are)) adds)
