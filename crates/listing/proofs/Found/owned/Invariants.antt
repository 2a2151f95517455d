-- `Found::owned` meets its contract. The loop's invariant (`Going`): the lines of the owner's pairs from pair k on, put at this place, make all that was asked for.
-- Assumes nothing.
use Rattle.std.proofs.Common.{◌≡◌}
use Rattle.listing.specs.laws.Text.{Going}
use Rattle.listing.proofs.Found.owned.Given as goal

abbrev pub invariant-loop-k : goal.invariant-loop-k
invariant-loop-k l =
    (l.text.room.ghost_name ≡ l.initial.text.room.ghost_name)
    × Going l.id l.self.result.now l.self.total l.initial.k l.initial.text.place l.initial.text.room.now l.k l.text.place l.text.room.now
