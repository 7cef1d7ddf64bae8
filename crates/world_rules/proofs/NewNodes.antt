-- The records that a node is declared with are what is said of it then.
use Rattle.world_rules.proofs.Basics.{◌≡◌, ℕ, ◌^◌, ◌<◌, ◌&&◌, Bool, true, false, if◌then◌else◌, List, [], ◌∷◌, ◌++◌, length, Option, Some, is_some, refl, sym, ap, subst, arith, lit<, option_map_or, false≢true, length-take-le, common_steps}
use Rattle.world_rules.proofs.CoinWords.{public_key_of, RootCall, IsOwner}
use Rattle.world_rules.proofs.NodeWords.{records_behind_of, WalletIdentity, is_first, common_text, short_text, identity_text, no_one, who_is, notes_of, state_notes, secret_of, owner_of, WalletRecords, who, is_wallet, IsIdentity, WatcherIdentity, watcher_text, watcher_notes, guards_of, IsWatcherIdentity, Small, small-cons, small-append, small-take, small-number, small-short, small-sha256, small-key, length-key, small-zeros}
use Rattle.world_rules.proofs.WorldWords.{Declares, padded}
use Rattle.sha2.specs.Sha256.{sha256}
use Rattle.sha2.proofs.Facts256.{length-sha256}
use Rattle.node_rules.proofs.WalletTexts.{identity_in-text}
use Rattle.node_rules.proofs.WatcherTexts.{identity_in-text as watcher_in-text}
use Rattle.world_rules.proofs.Said.{nothing_said, told}
use Rattle.world_rules.proofs.KeptWallet.{KeptWallet}
use Rattle.world_rules.proofs.KeptWatcher.{KeptWatcher}
use Rattle.world_rules.proofs.KeptNode.{IsGoodOwner}

-- ---- owners

id-long : (who : WalletIdentity) → length (secret_of who).id ≡ 16
id-long who = length-take-le 16 (sha256 who.seed) (omega (arith, length-sha256 who.seed))

pub good-owner : (who : WalletIdentity) → who.account < 2 ^ 64 → IsGoodOwner (owner_of who)
unfolding owner_of
good-owner who fits = record {
  is = record { account = fits; key = length-key (secret_of who) (id-long who) };
  key = small-key (secret_of who) (small-take 16 (small-sha256 who.seed));
}

-- ---- wallets

-- a padded number is bytes
pub small-padded : (number : ℕ) → Small (padded number)
small-padded number = small-append (small-zeros 24) (small-number number)

small-common : (who : WalletIdentity) → Small who.tag → Small who.seed → Small (common_text who)
small-common who tag seed = small-append (small-append tag (small-number who.account)) seed

small-identity : (who : WalletIdentity) → Small who.tag → Small who.seed → Small (identity_text who)
unfolding identity_text
small-identity who tag seed = by (is_first who.types)
  where
    by : (b : Bool) → Small (if b then 1 ∷ common_text who
        else 4 ∷ short_text who.types.lms ++ short_text who.types.ots ++ common_text who)
    by true = small-cons 1 (lit< tt) (small-common who tag seed)
    by false =
        small-cons 4 (lit< tt)
        (small-append (small-append (small-short who.types.lms) (small-short who.types.ots))
        (small-common who tag seed))

-- a new wallet's records
abbrev pub new_wallet : WalletIdentity → WalletRecords
new_wallet who = record { notes = identity_text who ∷ []; leaves = [] }

module _ (dig : List ℕ → List ℕ) (me : WalletIdentity) (is : IsIdentity me) where
  new-who : who_is (identity_text me ∷ []) ≡ me
  unfolding who_is
  new-who = ap (λ (o : Option WalletIdentity). option_map_or (λ w. w) o no_one) (identity_in-text me is)

  new-is : is_wallet dig (new_wallet me) ≡ true
  unfolding is_wallet notes_of records_behind_of
  new-is = ap (λ (o : Option WalletIdentity). ((is_some o && true) && true) && true) (identity_in-text me is)

  pub new-wallet-kept : (log : List RootCall) (n : ℕ) → Small me.tag → Small me.seed
      → KeptWallet dig (told (Declares n (owner_of me)) nothing_said) log (new_wallet me)
  unfolding notes_of state_notes
  new-wallet-kept log n tag seed = record {
    owner = ap (λ (w : WalletIdentity). Some (owner_of w)) (sym new-who);
    is = new-is;
    is_owner = subst (λ (w : WalletIdentity). IsOwner (owner_of w)) (sym new-who) (good-owner me is.account).is;
    tag = subst (λ (w : WalletIdentity). Small w.tag) (sym new-who) tag;
    notes = (small-identity me tag seed, tt);
    messages = tt;
    bodies = refl;
    taken = λ q. refl;
    known = λ c e among. absurd (false≢true among);
    noted = λ c e among. absurd (false≢true among);
  }

-- ---- watchers

pub new-watcher-kept : (dig : List ℕ → List ℕ) (me : WatcherIdentity) → IsWatcherIdentity me
    → KeptWatcher dig nothing_said (watcher_text me ∷ [])
unfolding watcher_notes guards_of
new-watcher-kept dig me is = grind (arith, common_steps, watcher_in-text)

-- ---- rogues

pub good-secret : (who : WalletIdentity) → who.account < 2 ^ 64
    → IsGoodOwner (record { account = who.account; key = public_key_of (secret_of who) })
unfolding owner_of
good-secret who fits = good-owner who fits
