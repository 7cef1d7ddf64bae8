-- The texts of answers.
use Rattle.std.specs.Prelude.{ℕ, List, [], ◌∷◌, ◌++◌, length, codes}
use Rattle.std.specs.List.{flat_map}
use Rattle.node_replies.specs.declared.reply.Reply.{Reply}
use Rattle.node_replies.specs.declared.reply.OfferKind.{OfferKind}
use Rattle.node_replies.specs.Causes.{phrase}

-- the kind of an offered call
abbrev pub kind_text : OfferKind → List ℕ
kind_text OfferKind.After = codes "after"
kind_text OfferKind.Between = codes "between"
kind_text OfferKind.Before = codes "before"
kind_text OfferKind.Respond = codes "respond"

-- kinds in order, each after a blank
abbrev pub kinds_text : List OfferKind → List ℕ
kinds_text kinds = flat_map (λ kind. 32 ∷ kind_text kind) kinds

-- how many calls are offered, and their kinds
abbrev pub offers_text : List OfferKind → List ℕ
offers_text kinds = phrase (codes "offers") (length kinds ∷ []) ++ kinds_text kinds

-- an answer
unfoldable pub reply_text : Reply → List ℕ
reply_text Reply.Chain = codes "chain"
reply_text Reply.Wallet = codes "wallet"
reply_text Reply.Watcher = codes "watcher"
reply_text Reply.Rogue = codes "rogue"
reply_text Reply.Funded = codes "funded"
reply_text Reply.Ticked = codes "ticked"
reply_text (Reply.Deposited coin block) = phrase (codes "deposited") (coin ∷ block ∷ [])
reply_text (Reply.Committed block) = phrase (codes "committed") (block ∷ [])
reply_text (Reply.Started opens) = phrase (codes "started") (opens ∷ [])
reply_text Reply.Cancelled = codes "cancelled"
reply_text (Reply.Challenged until) = phrase (codes "challenged") (until ∷ [])
reply_text Reply.Responded = codes "responded"
reply_text Reply.Paid = codes "paid"
reply_text Reply.Dropped = codes "dropped"
reply_text (Reply.Money balance) = phrase (codes "money") (balance ∷ [])
reply_text Reply.Nothing = codes "nothing"
reply_text (Reply.Accepted coin tip) = phrase (codes "accepted") (coin ∷ tip ∷ [])
reply_text (Reply.Guarded coin tip) = phrase (codes "guarded") (coin ∷ tip ∷ [])
reply_text (Reply.Sent leaf) = phrase (codes "sent") (leaf ∷ [])
reply_text (Reply.Leaving tip) = phrase (codes "leaving") (tip ∷ [])
reply_text Reply.Released = codes "released"
reply_text (Reply.Reclaimed coin leaf) = phrase (codes "reclaimed") (coin ∷ leaf ∷ [])
reply_text Reply.Migrated = codes "migrated"
reply_text (Reply.Offers kinds) = offers_text kinds
reply_text (Reply.Pooled coin) = phrase (codes "pooled") (coin ∷ [])
reply_text (Reply.Laid coin) = phrase (codes "laid") (coin ∷ [])
reply_text (Reply.Sealed leaves) = phrase (codes "sealed") (leaves ∷ [])
reply_text (Reply.Bundled tip) = phrase (codes "bundled") (tip ∷ [])
reply_text Reply.Proved = codes "proved"
reply_text Reply.Signed = codes "signed"
reply_text Reply.Crashed = codes "crashed"
reply_text Reply.Stopped = codes "stopped"
reply_text (Reply.Opened notes leaves) = phrase (codes "opened") (notes ∷ leaves ∷ [])
reply_text Reply.Up = codes "up"
reply_text Reply.Down = codes "down"
reply_text (Reply.Refused cause) = codes "refused " ++ cause
