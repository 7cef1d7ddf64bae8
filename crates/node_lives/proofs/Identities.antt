-- An identity's bytes are one of its role.
use Rattle.std.proofs.Common.{◌≡◌, ◌<◌, ◌++◌, ◌∷◌, ℕ, Bool, true, false, if◌then◌else◌, List, [], Option, Some, None, is_some, sym, ap, subst, lit<, arith}
use Rattle.std.specs.Prelude.{IfSome}
use Rattle.std.proofs.lemmas.Grind.{common_steps}
use Rattle.node_rules.specs.declared.identity.WalletIdentity.{WalletIdentity}
use Rattle.node_rules.specs.Watcher.{WatcherIdentity, identity_text as watcher_text}
use Rattle.node_rules.specs.WalletRecords.{short_text, is_first, common_text, identity_text as wallet_text}
use Rattle.node_rules.proofs.WatcherTexts.{identity_in-text as watcher_in-text}
use Rattle.node_rules.proofs.WalletTexts.{identity_in-text as wallet_in-text}
use Rattle.operator_rules.specs.Records.{Identity, seed_text, identity_mark, who_is, identity_text as operator_text}
use Rattle.operator_rules.specs.Laws.{IsIdentity as IsOperator}
use Rattle.operator_rules.proofs.RecordTexts.{identity_in-text as operator_in-text}
use Rattle.node_replies.proofs.ByteTexts.{Small, small-nil, small-cons, small-append, small-number, small-short}
use Rattle.plasma_tx.specs.Spelling.{AreBytes}
use Rattle.node_lives.specs.Standing.{HasDigests}
use Rattle.node_lives.specs.Laws.{IdentitiesAreOfTheirRoles}

watcher-small : (who : WatcherIdentity) → Small who.tag → Small (watcher_text who)
unfolding watcher_text
watcher-small who tag = small-cons 17 (lit< tt) (small-append tag (small-number who.account))

small-mark : (seed : Option (List ℕ)) → identity_mark seed < 256
small-mark None = lit< tt
small-mark (Some seed) = lit< tt

small-seed : (seed : Option (List ℕ)) → IfSome seed AreBytes → Small (seed_text seed)
small-seed None are = small-nil
small-seed (Some seed) are = record { are = are }

operator-small : (who : Identity) → Small who.tag → IfSome who.key_seed AreBytes → Small (operator_text who)
unfolding operator_text
operator-small who tag seed =
    small-cons (identity_mark who.key_seed) (small-mark who.key_seed)
    (small-append (small-append tag (small-number who.account)) (small-seed who.key_seed seed))

operator-seed : (who : Identity) → IsOperator who → (who_is (operator_text who ∷ [])).key_seed ≡ who.key_seed
unfolding who_is
operator-seed who is = grind (arith, common_steps, operator_in-text) steps 20000

wallet-small : (who : WalletIdentity) → Small who.tag → Small who.seed → Small (wallet_text who)
unfolding wallet_text
wallet-small who tag seed = by (is_first who.types)
  where
    common : Small (common_text who)
    common = small-append (small-append tag (small-number who.account)) seed

    by : (first : Bool)
        → Small (if first then 1 ∷ common_text who
        else 4 ∷ short_text who.types.lms ++ short_text who.types.ots ++ common_text who)
    by true = small-cons 1 (lit< tt) common
    by false =
        small-cons 4 (lit< tt)
        (small-append (small-append (small-short who.types.lms) (small-short who.types.ots)) common)

pub identities_are_of_their_roles : (dig : List ℕ → List ℕ) → IdentitiesAreOfTheirRoles dig
identities_are_of_their_roles dig = record {
  watcher = λ who is tag. record {
    is = ap is_some (watcher_in-text who is);
    bytes = (watcher-small who (record { are = tag })).are;
    digests = tt;
  };
  operator = λ who is tag seed digests. record {
    is = ap is_some (operator_in-text who is);
    bytes = (operator-small who (record { are = tag }) seed).are;
    digests = subst (HasDigests dig) (sym (operator-seed who is)) digests;
  };
  wallet = λ who is tag seed. record {
    is = ap is_some (wallet_in-text who is);
    bytes = (wallet-small who (record { are = tag }) (record { are = seed })).are;
    digests = tt;
  };
}
