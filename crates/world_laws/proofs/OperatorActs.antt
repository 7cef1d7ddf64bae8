-- The act of a line that isn't barred: its order lays nothing, and a commit that it enters is one that a node offers.
use Rattle.world_laws.proofs.Basics.{◌≡◌, ℕ, Bool, true, false, Some, inl, inr, refl, sym, ap, ◌∙◌, arith, false≢true, common_steps, some_same}
use Rattle.world_laws.proofs.CoinWords.{RootCall}
use Rattle.world_laws.proofs.NodeWords.{NodeOrder, OperatorOrder}
use Rattle.world_laws.proofs.WorldWords.{option_map_some, Line, Command, CallForm, Role, World, call_of, order_of, IsCommandIn, Origin, Plain, Deposits, Raw, Offered, Act, Enters, Orders, act_of, is_plain, IsActOf, is-act, lays, is_barred}

-- the call is a commit
abbrev pub commits_root : RootCall → Bool
commits_root (RootCall.Commit account root) = true
commits_root call = false

-- the order lays bytes
abbrev pub lays_by : NodeOrder → Bool
lays_by (NodeOrder.Operator (OperatorOrder.Lay coin leaf)) = true
lays_by order = false

-- a node offers the call
abbrev pub is_offered : Origin → Bool
is_offered (Offered place) = true
is_offered origin = false

-- the act keeps to the operator's rules
abbrev pub IsFree : Act → Type 0
IsFree (Enters origin call) = commits_root call ≡ true → is_offered origin ≡ true
IsFree (Orders place order cut) = lays_by order ≡ false
IsFree act = Unit {0}

-- a call that a form makes, but for a commit
form-none : (world : World) (account : ℕ) (form : CallForm) (call : RootCall)
    → is_barred (Line.Call account form) ≡ false → call_of world account form ≡ Some call → commits_root call ≡ false
form-none world account form call free is = grind (arith, common_steps, option_map_some, false≢true, some_same)

-- the order of a command that lays nothing
lays-none : (world : World) (role : Role) (command : Command) (order : NodeOrder) → lays command ≡ false
    → order_of world role command ≡ Some order → lays_by order ≡ false
unfolding order_of
lays-none world role command order free is = grind (arith, common_steps, option_map_some, false≢true, some_same)

-- money that comes in, and time, are no commit
plain-none : (call : RootCall) → is_plain call ≡ true → commits_root call ≡ false
plain-none (RootCall.Commit account root) plain = absurd (false≢true plain)
plain-none call plain = refl

-- a line that isn't barred has no command that lays
command-free : (line : Line) (command : Command) → is_barred line ≡ false → IsCommandIn line command
    → lays command ≡ false
command-free line command free (inl plain) = ap is_barred (sym plain) ∙ free
command-free line command free (inr in_cut) = ap is_barred (sym in_cut.3) ∙ free

pub free-act : (world : World) (line : Line) (act : Act) → act_of world line ≡ Some act → is_barred line ≡ false
    → IsFree act
free-act world line act is free = by act (is-act world line act is)
  where
    by : (one : Act) → IsActOf world line one → IsFree one
    by (Enters Plain call) of = λ some. absurd (false≢true (sym (plain-none call of.known) ∙ some))
    by (Enters (Deposits place) call) of = λ some. absurd (false≢true (ap commits_root (sym of.known.2.1) ∙ some))
    by (Enters (Raw account) call) of = λ some.
        absurd (false≢true
        (sym (form-none world account of.line_is.0 call (ap is_barred (sym of.line_is.1) ∙ free) of.line_is.2) ∙ some))
    by (Enters (Offered place) call) of = λ some. refl
    by (Orders place order cut) of = grind (arith, common_steps, lays-none, command-free)
    by one of = tt
