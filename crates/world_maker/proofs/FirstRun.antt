-- The lines that say who takes part have a run: names, accounts and keys differ.
use Rattle.std.proofs.Common.{◌≡◌, ℕ, ◌&&◌, ◌||◌, not, Bool, true, false, if◌then◌else◌, List, [], ◌∷◌, get_or, codes, bytes_eq, Option, Some, None, refl, sym, ap, ◌∙◌, arith}
use Rattle.std.specs.Prelude.{option_map, option_and_then}
use Rattle.std.specs.Cmp.Lexicographic.{bytes_decides}
use Rattle.std.proofs.lemmas.Bool.{false_from_ne_true}
use Rattle.sha2.specs.Sha256.{sha256, digest_bytes, hash_after, compress, rounds, schedule, first_words}
use Rattle.lms_sign.specs.Tree.{public_key_of}
use Rattle.lms_sign.specs.Types.{u32str}
use Rattle.schedule_text.specs.declared.line.Line.{Line}
use Rattle.node_rules.specs.declared.identity.WalletIdentity.{WalletIdentity}
use Rattle.node_rules.specs.WalletRecords.{identity_text, identity_in, who_is, owner_of}
use Rattle.node_replies.specs.declared.reply.Reply.{Reply}
use Rattle.world_rules.specs.Events.{Idle}
use Rattle.world_rules.specs.World.{World}
use Rattle.world_rules.specs.Declarations.{declared_wallet, may_be_wallet, keeps_rules}
use Rattle.world_rules.specs.Steps.{LineEffect, says, new_chain, new_world, declares_wallet, declares_watcher, effect_in, effect_of, with_mail, step, Run, no_lines, with_line, step_run, run_of}

-- ---- a run with one more line

-- the lines, the newest first, have a run that leaves this world
pub record Leads (dig : List ℕ → List ℕ) (lines : List Line) (world : World) : Type 0 where
  pub run : Run
  pub run_is : run_of dig lines ≡ Some run
  pub world_is : run.world ≡ Some world

pub leads-on : (dig : List ℕ → List ℕ) (lines : List Line) (line : Line) (world : World) (effect : LineEffect)
    → Leads dig lines world → step dig (Some world) line ≡ Some effect → Leads dig (line ∷ lines) effect.world
unfolding run_of
leads-on dig lines line world effect before is = record {
  run = with_line before.run line effect;
  run_is = ap (λ (o : Option Run). option_and_then (step_run dig line) o) before.run_is
      ∙ ap (λ (w : Option World). option_map (with_line before.run line) (step dig w line)) before.world_is
      ∙ ap (λ (o : Option LineEffect). option_map (with_line before.run line) o) is;
  world_is = refl;
}

-- ---- declarations

may-be : (new few other caller key seed : Bool) → new ≡ true → few ≡ true → other ≡ false → caller ≡ false
    → key ≡ false → seed ≡ false → (((new && few) && not (other || caller)) && not (key || seed)) ≡ true
may-be true true false false false false p q r s t u = refl
may-be false few other caller key seed p q r s t u = p
may-be true false other caller key seed p q r s t u = q
may-be true true true caller key seed p q r s t u = sym r
may-be true true false true key seed p q r s t u = sym s
may-be true true false false true seed p q r s t u = sym t
may-be true true false false false true p q r s t u = sym u

-- what a wallet's declaration does
abbrev wallet_effect : World → List ℕ → ℕ → ℕ → LineEffect
wallet_effect world name account seed =
    with_mail (declares_wallet world name (declared_wallet world account seed None))

wallet-steps : (dig : List ℕ → List ℕ) (world : World) (name : List ℕ) (account seed : ℕ)
    → may_be_wallet world name (declared_wallet world account seed None) ≡ true
    → step dig (Some world) (Line.Wallet name account seed None) ≡ Some (wallet_effect world name account seed)
unfolding step keeps_rules effect_of effect_in
wallet-steps dig world name account seed may =
    ap (λ (b : Bool). if b then Some (wallet_effect world name account seed) else None) may

-- ---- the worlds

abbrev begun : LineEffect
begun = with_mail (says Reply.Chain Idle (new_world (new_chain 1 9 3000)))

abbrev world_a : World
world_a = (wallet_effect begun.world (codes "a") 11 1).world

abbrev world_b : World
world_b = (wallet_effect world_a (codes "b") 12 2).world

abbrev world_c : World
world_c = (wallet_effect world_b (codes "c") 13 3).world

abbrev pub world_g : World
world_g = (with_mail (declares_watcher world_c (codes "g") 14)).world

abbrev who : ℕ → ℕ → WalletIdentity
who account seed = declared_wallet begun.world account seed None

-- ---- keys

keys-apart : (one other : List ℕ) → (get_or one 8 0 ≡ get_or other 8 0 → ⊥) → bytes_eq one other ≡ false
keys-apart one other apart =
    false_from_ne_true (bytes_eq one other)
    (λ same. apart (ap (λ (key : List ℕ). get_or key 8 0) ((bytes_decides one other).0 same)))

-- the first byte of the identifier of a key
key-a : get_or (owner_of (who 11 1)).key 8 0 ≡ 236
unfolding owner_of public_key_of u32str sha256 digest_bytes hash_after compress rounds schedule first_words
key-a = refl

key-b : get_or (owner_of (who 12 2)).key 8 0 ≡ 146
unfolding owner_of public_key_of u32str sha256 digest_bytes hash_after compress rounds schedule first_words
key-b = refl

key-c : get_or (owner_of (who 13 3)).key 8 0 ≡ 217
unfolding owner_of public_key_of u32str sha256 digest_bytes hash_after compress rounds schedule first_words
key-c = refl

a-and-b : bytes_eq (owner_of (who 11 1)).key (owner_of (who 12 2)).key ≡ false
a-and-b =
    keys-apart (owner_of (who 11 1)).key (owner_of (who 12 2)).key
    (λ same. let wrong : 236 ≡ 146 = sym key-a ∙ same ∙ key-b in omega arith)

a-and-c : bytes_eq (owner_of (who 11 1)).key (owner_of (who 13 3)).key ≡ false
a-and-c =
    keys-apart (owner_of (who 11 1)).key (owner_of (who 13 3)).key
    (λ same. let wrong : 236 ≡ 217 = sym key-a ∙ same ∙ key-c in omega arith)

b-and-c : bytes_eq (owner_of (who 12 2)).key (owner_of (who 13 3)).key ≡ false
b-and-c =
    keys-apart (owner_of (who 12 2)).key (owner_of (who 13 3)).key
    (λ same. let wrong : 146 ≡ 217 = sym key-b ∙ same ∙ key-c in omega arith)

-- ---- the rules

may-a : may_be_wallet begun.world (codes "a") (who 11 1) ≡ true
may-a = refl

may-b : may_be_wallet world_a (codes "b") (who 12 2) ≡ true
unfolding who_is identity_text identity_in
may-b = may-be _ _ _ _ _ _ refl refl refl refl (ap (λ (b : Bool). b || false) a-and-b) refl

may-c : may_be_wallet world_b (codes "c") (who 13 3) ≡ true
unfolding who_is identity_text identity_in
may-c =
    may-be _ _ _ _ _ _ refl refl refl refl
    (ap (λ (b : Bool). b || (bytes_eq (owner_of (who 12 2)).key (owner_of (who 13 3)).key || false)) a-and-c
    ∙ ap (λ (b : Bool). b || false) b-and-c)
    refl

-- ---- the run

first : (dig : List ℕ → List ℕ) → Leads dig (Line.Chain 1 9 3000 ∷ []) begun.world
unfolding run_of step keeps_rules effect_of
first dig = record { run = with_line no_lines (Line.Chain 1 9 3000) begun; run_is = refl; world_is = refl }

watcher-steps : (dig : List ℕ → List ℕ)
    → step dig (Some world_c) (Line.Watcher (codes "g") 14)
    ≡ Some (with_mail (declares_watcher world_c (codes "g") 14))
unfolding step keeps_rules effect_of effect_in
watcher-steps dig = refl

-- the lines that declare, the newest first
abbrev pub declarations : List Line
declarations =
    Line.Watcher (codes "g") 14
    ∷ Line.Wallet (codes "c") 13 3 None
    ∷ Line.Wallet (codes "b") 12 2 None
    ∷ Line.Wallet (codes "a") 11 1 None
    ∷ Line.Chain 1 9 3000
    ∷ []

-- they have a run
pub declared : (dig : List ℕ → List ℕ) → Leads dig declarations world_g
declared dig =
    let a = leads-on dig (Line.Chain 1 9 3000 ∷ []) (Line.Wallet (codes "a") 11 1 None) begun.world
    (wallet_effect begun.world (codes "a") 11 1) (first dig)
    (wallet-steps dig begun.world (codes "a") 11 1 may-a) in
    let b = leads-on dig _ (Line.Wallet (codes "b") 12 2 None) world_a (wallet_effect world_a (codes "b") 12 2) a
    (wallet-steps dig world_a (codes "b") 12 2 may-b) in
    let c = leads-on dig _ (Line.Wallet (codes "c") 13 3 None) world_b (wallet_effect world_b (codes "c") 13 3) b
    (wallet-steps dig world_b (codes "c") 13 3 may-c) in
    leads-on dig _ (Line.Watcher (codes "g") 14) world_c (with_mail (declares_watcher world_c (codes "g") 14)) c
    (watcher-steps dig)
