-- A small life of an operator with a key: an init, and a run that reads a log with a deposit, prepares the key's leaves
-- and gives a receipt for a transfer of the coin. So the law of desks doesn't hold for want of one.
use Rattle.std.specs.Prelude.{◌≡◌, ℕ, List, [], ◌∷◌, length, replicate, None}
use Rattle.lms_sign.specs.declared.secret.Secret.{Secret}
use Rattle.lms_sign.specs.Tree.{public_key_of, signature_of}
use Rattle.plasma_tx.specs.declared.owner.Owner.{Owner}
use Rattle.plasma_tx.specs.declared.body.Body.{Body}
use Rattle.plasma_tx.specs.declared.call.RootCall.{RootCall}
use Rattle.plasma_tx.specs.Spelling.{body_text, signed_text}
use Rattle.root_log.specs.Grammar.{call_text}
use Rattle.node_replies.specs.Roles.{Operator}
use Rattle.node_lines.specs.declared.operator_line.OperatorLine.{OperatorLine}
use Rattle.node_lines.specs.Grammar.{operator_line_text}
use Rattle.run_endings.specs.declared.status.Status.TheVariants.{Done}
use Rattle.node_lives.specs.Calls.{ToRun}
use Rattle.node_lives.specs.Lives.{IsLife}
use Rattle.node_lives.specs.Laws.{Begins}
use Rattle.node_lives.specs.Samples.{told, foretold, met, DriveCall}
use Rattle.key_lives.specs.Desks.{GivesReceipt}

-- an operator's identity with a key: its mark, a tag of zeros, the account 0 and a seed of zeros
abbrev pub identity : List ℕ
identity = 38 ∷ replicate 72 0

-- the coin's owner, and the transfer of the coin to himself, which he signed
abbrev pub owner_secret : Secret
owner_secret = record { types = record { lms = 5; ots = 4 }; id = replicate 16 0; seed = replicate 32 0 }

abbrev pub owner : Owner
owner = record { account = 0; key = public_key_of owner_secret }

abbrev pub body : Body
body = record { tag = replicate 32 0; coin = 1; parent = 1; to = owner; last = None }

abbrev pub transfer : List ℕ
transfer = signed_text (record { body = body; signature = signature_of owner_secret 0 (body_text body) })

-- the line of the deposit, and that which asks for a receipt
abbrev pub deposit_line : List ℕ
deposit_line = call_text (RootCall.Deposit 0 1 owner.key)

abbrev pub receipt_line : List ℕ
receipt_line = operator_line_text (OperatorLine.Receipt transfer 2)

-- Under a digest of 32 bytes.
pub record SmallDeskLife (dig : List ℕ → List ℕ) : Type 0 where
  pub begun : DriveCall dig
  pub ran : DriveCall dig
  pub life : IsLife told foretold met dig (ran ∷ begun ∷ [])
  pub begins : Begins told foretold met dig Operator begun
  pub asked_is : ran.asked ≡ ToRun Operator
  pub status_is : ran.status ≡ Done
  pub receipt : List ℕ
  pub gives : GivesReceipt told foretold met dig ran 0 receipt

-- it is one, where digests have 32 bytes
abbrev pub SmallDeskLifeIsOne : Type 0
SmallDeskLifeIsOne = (dig : List ℕ → List ℕ) → ((bytes : List ℕ) → length (dig bytes) ≡ 32) → SmallDeskLife dig
