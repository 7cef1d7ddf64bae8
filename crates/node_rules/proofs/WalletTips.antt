-- The tag, the tips and the leaves of a wallet have their sizes.
use Rattle.node_rules.proofs.Words.{◌≡◌, ℕ, ◌^◌, ◌<◌, ◌≤◌, ◌==◌, ◌&&◌, Bool, true, false, if◌then◌else◌, List, [], ◌∷◌, ◌++◌, length, drop, filter, Option, Some, None, refl, subst, inl, inr, arith, slice_get, All, filter_map, cases_Bool, and_parts, eqb-true, false≢true, length-map, length-drop, All-nil, All-head, All-tail, All-append, All-push, All-drop, All-filter, All-map, All-contains, common_steps, are_of, LmsTypes, height, leaf_count, are_few, Owner, RootCall, CoinView, AreBytes, blocks, coin_at, some_same, length-range, deposit-le, CoinTip, LeafRecord, Notes, is_owner, own_deposit, noted_tips, IsTip, WalletIdentity, identity_of, types_in, may_be_second, identity_in, Note, Accepts, LeavesWith, Reclaims, note_in, wallet_kinds, who_is, notes_of, coin_tip, state_notes, owner_of, leaves_in, WalletRecords, who, noted, is_wallet, IsNote, FitWords}
use Rattle.std.proofs.lemmas.Option.{slice_get_within}
use Rattle.leaf_journal.proofs.KindRecords.{form_of}
use Rattle.node_rules.proofs.OneMore.{All-reverse, All-filter_map}
use Rattle.node_rules.proofs.WalletTexts.{note_in-spelled}
use Rattle.node_rules.proofs.WalletGrow.{wallet-parts}

-- ---- the tag

tag-of : (body : List ℕ) (who : WalletIdentity) → identity_in body ≡ Some who → length who.tag ≡ 32
unfolding identity_in
tag-of [] who h = absurd (cc h)
tag-of (mark ∷ bytes) who h =
    let one : WalletIdentity = identity_of (record { lms = 5; ots = 4 }) bytes in
    let two : WalletIdentity = identity_of (types_in bytes) (drop 8 bytes) in
    elim (cases_Bool ((mark == 1) && (length bytes == 72))) [
      | inl first ↦
          let is : Some one ≡ Some who = rw first at h in
          let long = eqb-true (length bytes) 72 (and_parts (mark == 1) (length bytes == 72) first).1 in
          subst (λ (w : WalletIdentity). length w.tag ≡ 32) (some_same one who is)
          (length-range bytes 0 32 (omega arith) (omega arith))
      | inr other ↦ elim (cases_Bool ((mark == 4) && (length bytes == 80) && may_be_second (types_in bytes))) [
        | inl second ↦
            let is : Some two ≡ Some who = rw (other, second) at h in
            let parts = and_parts ((mark == 4) && (length bytes == 80)) (may_be_second (types_in bytes)) second in
            let long = eqb-true (length bytes) 80 (and_parts (mark == 4) (length bytes == 80) parts.0).1 in
            subst (λ (w : WalletIdentity). length w.tag ≡ 32) (some_same two who is)
            (length-range (drop 8 bytes) 0 32 (omega arith) (omega (arith, length-drop 8 bytes)))
        | inr none ↦ let bad : None ≡ Some who = rw (other, none) at h in absurd (cc bad)
      ]
    ]

-- the tag of a wallet's records has 32 bytes
pub tag-long : (dig : List ℕ → List ℕ) (records : List (List ℕ)) → are_of (wallet_kinds dig) records ≡ true
    → length (who_is records).tag ≡ 32
unfolding who_is
tag-long dig records role = grind (arith, common_steps, false≢true, and_parts, tag-of) steps 20000

-- ---- notes

-- the notes of records that are bytes have bytes
pub notes-are : (dig : List ℕ → List ℕ) (records : List (List ℕ)) → All AreBytes records
    → All (IsNote dig (who_is records).tag) (notes_of dig records)
unfolding notes_of
notes-are dig records small =
    let tag = (who_is records).tag in
    All-reverse (IsNote dig tag) (filter_map (note_in dig tag) (drop 1 records))
    (All-filter_map (note_in dig tag) AreBytes (IsNote dig tag)
    (λ body note bytes is. (note_in-spelled dig tag body note bytes is).1) (drop 1 records)
    (All-drop AreBytes 1 records small))

accepted-fit : (dig : List ℕ → List ℕ) (tag : List ℕ) (me : Owner) (notes : List Note) → All (IsNote dig tag) notes
    → All (λ (one : CoinTip). one.tip < 2 ^ 64) (state_notes me notes).accepted
unfolding state_notes
accepted-fit dig tag me [] all = All-nil (λ (one : CoinTip). one.tip < 2 ^ 64)
accepted-fit dig tag me (Accepts kept ∷ notes) all =
    All-push (λ (one : CoinTip). one.tip < 2 ^ 64) (state_notes me notes).accepted (coin_tip kept.coin kept.tip)
    (accepted-fit dig tag me notes (All-tail (IsNote dig tag) (Accepts kept) notes all))
    (All-head (IsNote dig tag) (Accepts kept) notes all).is_bundle.tip
accepted-fit dig tag me (LeavesWith coin tip ∷ notes) all =
    accepted-fit dig tag me notes (All-tail (IsNote dig tag) (LeavesWith coin tip) notes all)
accepted-fit dig tag me (Reclaims coin tip q ∷ notes) all =
    accepted-fit dig tag me notes (All-tail (IsNote dig tag) (Reclaims coin tip q) notes all)

own-fit : (me : Owner) (log : List RootCall) (coin : ℕ) → blocks log < 2 ^ 64
    → All (λ n. n < 2 ^ 64) (own_deposit me (coin_at log coin))
own-fit me log coin fits = at (coin_at log coin) refl
  where
    at : (found : Option CoinView) → coin_at log coin ≡ found → All (λ n. n < 2 ^ 64) (own_deposit me found)
    at None none = All-nil (λ n. n < 2 ^ 64)
    at (Some made) some = elim (is_owner made.owner me) as (λ b.
        All (λ n. n < 2 ^ 64) (if b then made.deposit ∷ [] else [])) [
          | true ↦ grind (arith, common_steps, deposit-le) steps 20000
          | false ↦ All-nil (λ n. n < 2 ^ 64)
        ]

-- a tip of the wallet's has 64 bits
pub tip-fits : (dig : List ℕ → List ℕ) (wallet : WalletRecords) (log : List RootCall) (coin tip : ℕ)
    → FitWords wallet log → IsTip (noted dig wallet) log coin tip → tip < 2 ^ 64
tip-fits dig wallet log coin tip words is =
    let me = owner_of (who wallet) in
    let notes : Notes = noted dig wallet in
    let named : CoinTip → Bool = λ one. one.coin == coin in
    let accepted = All-map (λ n. n < 2 ^ 64) (λ (one : CoinTip). one.tip) (filter named notes.accepted)
    (All-filter named (λ (one : CoinTip). one.tip < 2 ^ 64) notes.accepted
    (accepted-fit dig (who wallet).tag me (notes_of dig wallet.notes) (notes-are dig wallet.notes words.notes))) in
    All-contains (λ n. n < 2 ^ 64) (own_deposit notes.me (coin_at log coin) ++ noted_tips coin notes.accepted) tip
    (All-append (λ n. n < 2 ^ 64) (own_deposit notes.me (coin_at log coin)) (noted_tips coin notes.accepted)
    (own-fit notes.me log coin words.blocks) accepted) is.is_one

-- ---- leaves

few-leaves : (types : LmsTypes) → leaf_count types ≤ 2 ^ 10
unfolding height
few-leaves types = grind (arith, common_steps) steps 20000

-- the number of a bound leaf has 32 bits
pub leaf-fits : (dig : List ℕ → List ℕ) (wallet : WalletRecords) (q : ℕ) (leaf : LeafRecord)
    → is_wallet dig wallet ≡ true → slice_get (leaves_in wallet.leaves) q ≡ Some leaf → q < 2 ^ 32
leaf-fits dig wallet q leaf is at =
    let are = wallet-parts dig wallet is in
    grind (arith, common_steps, form_of, are_few, few-leaves, slice_get_within, length-map) steps 20000
