-- `id_of` meets its contract. The loop's invariant: the bytes so far are read, and with the rest of the text `value` makes the same id as the whole.
-- Assumes nothing.
use Rattle.std.proofs.Common.{◌<◌}
use Rattle.binding.specs.Ids.{limit}
use Rattle.binding.specs.laws.Ids.{Read}
use Rattle.binding.proofs.id_of.Given as goal

abbrev pub invariant-loop-b : goal.invariant-loop-b
invariant-loop-b l = (l.value < limit) × Read l.text l.b-index l.value
