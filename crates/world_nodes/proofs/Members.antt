-- Who a node is.
use Rattle.world_nodes.proofs.Words.{◌≡◌, ◌∷◌, [], ℕ, List, Option, Some, None, cond, refl, ◌∙◌, ap, subst, arith, common_steps, none_listed, RootCall, Owner, WalletIdentity, identity_text, who_is, is_wallet_role, owner_of_node, with_record, Site, Gone, Member, NoneListed, Half, no_half, view_of, IsWho, IsOf, IsWhole}
use Rattle.world_nodes.specs.declared.entry.Member.TheVariants.{Wallet as WalletMember, Watcher as WatcherMember, Operator as OperatorMember}

-- the first record says who a wallet is
first_who : (identity : List ℕ) (others : List (List ℕ)) → who_is (identity ∷ others) ≡ who_is (identity ∷ [])
unfolding who_is
first_who identity others = refl

who_reads : (who : WalletIdentity) (owner : Owner) (notes : List (List ℕ)) → IsWho who owner notes
    → who_is notes ≡ who
who_reads who owner notes is = ap who_is is.first ∙ (first_who (identity_text who) is.others ∙ is.reads)

-- the owner and the seed of a wallet
pub wallet_owner : {H : Type 0} (hash : H) (name : List ℕ) (account : ℕ) (member : Member) (site : Site H)
    (offers : List RootCall) (who : WalletIdentity) (owner : Owner) → member ≡ WalletMember who owner
    → IsWhole hash member site
    → (let node = (view_of hash name account member site offers).node in
    Some owner ≡ cond (is_wallet_role node.role) (Some (owner_of_node node)) None)
wallet_owner hash name account member site offers who owner is whole =
    grind (arith, common_steps, who_reads) steps 20000

pub wallet_seed : {H : Type 0} (hash : H) (name : List ℕ) (account : ℕ) (member : Member) (site : Site H)
    (offers : List RootCall) (who : WalletIdentity) (owner : Owner) → member ≡ WalletMember who owner
    → IsWhole hash member site
    → (let node = (view_of hash name account member site offers).node in
    Some who.seed ≡ cond (is_wallet_role node.role) (Some (who_is node.notes).seed) None)
wallet_seed hash name account member site offers who owner is whole = grind (arith, common_steps, who_reads) steps 20000

-- a note that is added leaves the node who it is
pub stays_of : (member : Member) (notes : List (List ℕ)) (added : Option (List ℕ)) → IsOf member notes
    → IsOf member (with_record notes added)
stays_of member notes added is = grind (arith, common_steps) steps 20000

-- a node that is lost
no_listed : (records : List (List ℕ)) → NoneListed (no_half records).disk
no_listed records = record { listed = λ n. none_listed (no_half records).disk refl n }

pub lost : {H : Type 0} (hash : H) (member : Member) (site : Site H) → IsWhole hash member site
    → IsWhole hash member Gone
lost hash (WalletMember who owner) site whole = record {
  is_site = tt;
  none_listed = record {
    notes = no_listed (identity_text who ∷ []);
    leaves = λ half is.
        (let same : no_half [] ≡ half = cc is in subst (λ (h : Half). NoneListed h.disk) same (no_listed []));
  };
  identity = record { reads = whole.identity.reads; owns = whole.identity.owns; others = []; first = refl };
}
lost hash WatcherMember site whole = record {
  is_site = tt;
  none_listed = record { notes = no_listed []; leaves = λ half is. absurd (cc is) };
  identity = tt;
}
lost hash OperatorMember site whole = record {
  is_site = tt;
  none_listed = record { notes = no_listed []; leaves = λ half is. absurd (cc is) };
  identity = tt;
}
