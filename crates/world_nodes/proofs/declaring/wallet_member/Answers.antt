use Rattle.world_nodes.proofs.Words.{◌≡◌, public_key_of, secret_of, identity_in-text}
use Rattle.world_nodes.proofs.Declared.{first_reads, wallet_is, owner_is}
use Rattle.world_nodes.proofs.Roles.{wallet-alone}
use Rattle.world_nodes.proofs.declaring.wallet_member.Goals as goal

pub returns-clause-is : goal.returns-clause-is
returns-clause-is c =
    let who = c.args.who in
    let key : c.public.result ≡ public_key_of (secret_of who) = cc (
      c.public.ensures.value,
      c.secret_key.ensures,
      c.requires.key,
    ) in
    wallet_is who (record { account = who.account; key = c.public.result })
    (identity_in-text who (record {
      tag = c.are_sized.ensures.tag;
      account = c.are_sized.ensures.account;
      seed = c.are_sized.ensures.seed;
      types = c.requires.types;
    })) (owner_is who c.public.result key)

pub returns-clause-reads : goal.returns-clause-reads
returns-clause-reads c =
    first_reads c.args.who
    (identity_in-text c.args.who (record {
      tag = c.are_sized.ensures.tag;
      account = c.are_sized.ensures.account;
      seed = c.are_sized.ensures.seed;
      types = c.requires.types;
    }))

pub returns-clause-role : goal.returns-clause-role
returns-clause-role c =
    wallet-alone c.args.who (record {
      tag = c.are_sized.ensures.tag;
      account = c.are_sized.ensures.account;
      seed = c.are_sized.ensures.seed;
      types = c.requires.types;
    })
