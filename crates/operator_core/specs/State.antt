-- What callers see of an operator, and what stops its commands.
use Rattle.std.specs.Prelude.{ℕ, Option, Some, None, Result, Err}
use Rattle.node_journal.specs.declared.stop.Stop.{Stop}
use Rattle.node_journal.specs.declared.stop.Stop.TheVariants.{Closed, NoMemory, DeviceFault}
use Rattle.operator_rules.specs.declared.sealed.Sealed.{Sealed}
use Rattle.operator_rules.specs.declared.refusal.OfferRefusal.{OfferRefusal}
use Rattle.operator_rules.specs.declared.refusal.OfferRefusal.TheVariants.{Closed as OfferClosed, NoMemory as OfferNoMemory, DeviceFault as OfferFault}
use Rattle.operator_rules.specs.declared.refusal.LayRefusal.{LayRefusal}
use Rattle.operator_rules.specs.declared.refusal.LayRefusal.TheVariants.{Closed as LayClosed, NoMemory as LayNoMemory, DeviceFault as LayFault}
use Rattle.operator_rules.specs.declared.refusal.SealRefusal.{SealRefusal}
use Rattle.operator_rules.specs.declared.refusal.SealRefusal.TheVariants.{Closed as SealClosed, NoMemory as SealNoMemory, DeviceFault as SealFault}

-- what stopped an offer whatever its definition says, if something did
abbrev pub offer_stop : Result ℕ OfferRefusal → Option Stop
offer_stop (Err OfferClosed) = Some Closed
offer_stop (Err OfferNoMemory) = Some NoMemory
offer_stop (Err OfferFault) = Some DeviceFault
offer_stop result = None

-- the same of a lay and of a seal
abbrev pub lay_stop : Result Unit LayRefusal → Option Stop
lay_stop (Err LayClosed) = Some Closed
lay_stop (Err LayNoMemory) = Some NoMemory
lay_stop (Err LayFault) = Some DeviceFault
lay_stop result = None

abbrev pub seal_stop : Result Sealed SealRefusal → Option Stop
seal_stop (Err SealClosed) = Some Closed
seal_stop (Err SealNoMemory) = Some NoMemory
seal_stop (Err SealFault) = Some DeviceFault
seal_stop result = None
