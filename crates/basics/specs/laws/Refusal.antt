-- Refusals and faults are told by their numbers, and none has the number 0. Assumes nothing.
use Rattle.std.specs.Prelude.{◌<◌, ◌≡◌, refl, cond, Result, Ok, Err, ℕ, eqb}
use Rattle.std.proofs.Common.{sym, ap, ◌∙◌, arith, lit<}
use Rattle.basics.specs.declared.refusal.Refusal.{Refusal}
use Rattle.basics.specs.declared.refusal.Refusal.TheVariants.{ProbeEmpty, ProbeLong, StreamLarge, RoomShort, ResultShort, LogShort, LogLong, NoMark, BadCount, BadSize, NotRising, NotJoined, NotWhole, NoSuchId, BadProbe, SumDiffers, OutputShort, CountsDiffer}
use Rattle.basics.specs.declared.refusal.Fault.{Fault}
use Rattle.basics.specs.Refusal.{Cause, number_of, refusal_seen, fault_seen}

pub number_above : (r : Refusal) → 0 < number_of r
number_above ProbeEmpty = lit< tt
number_above ProbeLong = lit< tt
number_above StreamLarge = lit< tt
number_above RoomShort = lit< tt
number_above ResultShort = lit< tt
number_above LogShort = lit< tt
number_above LogLong = lit< tt
number_above NoMark = lit< tt
number_above BadCount = lit< tt
number_above BadSize = lit< tt
number_above NotRising = lit< tt
number_above NotJoined = lit< tt
number_above NotWhole = lit< tt
number_above NoSuchId = lit< tt
number_above BadProbe = lit< tt
number_above SumDiffers = lit< tt
number_above OutputShort = lit< tt
number_above CountsDiffer = lit< tt

-- the refusal of a number
numbered : ℕ → Refusal
numbered n =
    cond (eqb n 1) ProbeEmpty (cond (eqb n 2) ProbeLong (cond (eqb n 3) StreamLarge (cond (eqb n 4) RoomShort (cond (eqb n 5) ResultShort
    (cond (eqb n 10) LogShort (cond (eqb n 11) LogLong (cond (eqb n 12) NoMark (cond (eqb n 13) BadCount (cond (eqb n 14) BadSize
    (cond (eqb n 15) NotRising (cond (eqb n 16) NotJoined (cond (eqb n 17) NotWhole (cond (eqb n 18) NoSuchId (cond (eqb n 20) BadProbe
    (cond (eqb n 22) SumDiffers (cond (eqb n 23) OutputShort CountsDiffer))))))))))))))))

back : (r : Refusal) → numbered (number_of r) ≡ r
unfolding numbered
back ProbeEmpty = refl
back ProbeLong = refl
back StreamLarge = refl
back RoomShort = refl
back ResultShort = refl
back LogShort = refl
back LogLong = refl
back NoMark = refl
back BadCount = refl
back BadSize = refl
back NotRising = refl
back NotJoined = refl
back NotWhole = refl
back NoSuchId = refl
back BadProbe = refl
back SumDiffers = refl
back OutputShort = refl
back CountsDiffer = refl

pub number_same : (r r' : Refusal) → number_of r ≡ number_of r' → r ≡ r'
number_same r r' e = sym (back r) ∙ ap numbered e ∙ back r'

-- the fault of a cause
faulted : Cause → Fault
faulted c = record { refusal = numbered c.refusal; entry = c.entry }

faulted_back : (f : Fault) → faulted (fault_seen f) ≡ f
unfolding faulted
faulted_back f = ap (λ (r : Refusal). record { refusal = r; entry = f.entry }) (back f.refusal)

pub fault_same : (f f' : Fault) → fault_seen f ≡ fault_seen f' → f ≡ f'
fault_same f f' e = sym (faulted_back f) ∙ ap faulted e ∙ faulted_back f'

pub refuses : {A : Type 0} (f : Fault) → number_of f.refusal ≡ 0 → A
refuses f e = absurd (omega (arith, number_above f.refusal))

-- the number of an outcome's refusal tells the outcome whole, where the outcome holds nothing else
pub refusal_same : (r r' : Result (Unit {0}) Refusal) → refusal_seen r ≡ refusal_seen r' → r ≡ r'
refusal_same (Ok u) (Ok u') e = refl
refusal_same (Ok u) (Err f) e = absurd (omega (arith, number_above f))
refusal_same (Err f) (Ok u) e = absurd (omega (arith, number_above f))
refusal_same (Err f) (Err f') e = ap Err (number_same f f' e)
