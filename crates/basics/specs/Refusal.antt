-- Refusals by their numbers in document 01's table and in the requests, and outcomes told by them. Assumes nothing.
use Rattle.std.specs.Prelude.{ℕ, Result, Ok, Err}
use Rattle.basics.specs.declared.refusal.Refusal.{Refusal}
use Rattle.basics.specs.declared.refusal.Refusal.TheVariants.{ProbeEmpty, ProbeLong, StreamLarge, RoomShort, ResultShort, LogShort, LogLong, NoMark, BadCount, BadSize, NotRising, NotJoined, NotWhole, NoSuchId, BadProbe, SumDiffers, OutputShort, CountsDiffer}
use Rattle.basics.specs.declared.refusal.Fault.{Fault}

abbrev pub number_of : Refusal → ℕ
number_of ProbeEmpty = 1
number_of ProbeLong = 2
number_of StreamLarge = 3
number_of RoomShort = 4
number_of ResultShort = 5
number_of LogShort = 10
number_of LogLong = 11
number_of NoMark = 12
number_of BadCount = 13
number_of BadSize = 14
number_of NotRising = 15
number_of NotJoined = 16
number_of NotWhole = 17
number_of NoSuchId = 18
number_of BadProbe = 20
number_of SumDiffers = 22
number_of OutputShort = 23
number_of CountsDiffer = 31

-- the number of an outcome's refusal; 0 where nothing is refused
abbrev pub refusal_seen : {A : Type 0} → Result A Refusal → ℕ
refusal_seen (Ok x) = 0
refusal_seen (Err r) = number_of r

-- A refusal by its number, and the number of the entry at fault: 0 and 0 where nothing is refused, and entry 0 where no entry is at fault.
pub record Cause : Type 0 where
  pub refusal : ℕ
  pub entry : ℕ

abbrev pub no_cause : Cause
no_cause = record { refusal = 0; entry = 0 }

-- the cause of an outcome
abbrev pub fault_seen : Fault → Cause
fault_seen f = record { refusal = number_of f.refusal; entry = f.entry }

abbrev pub cause_seen : {A : Type 0} → Result A Fault → Cause
cause_seen (Ok x) = no_cause
cause_seen (Err f) = fault_seen f
