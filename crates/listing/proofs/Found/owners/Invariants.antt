-- `Found::owners` meets its contract. The loop's invariant: the text of the first a owners is put, and their pairs are told.
-- Assumes nothing.
use Rattle.std.proofs.Common.{◌≡◌, length}
use Rattle.lines.specs.Promise.{Puts}
use Rattle.pairs.specs.Check.{pairs}
use Rattle.pairs.specs.Promise.{step}
use Rattle.listing.specs.Listing.{draws, owners_text}
use Rattle.listing.proofs.Found.owners.Given as goal

abbrev pub invariant-loop-a : goal.invariant-loop-a
invariant-loop-a l =
    (l.told ≡ length (pairs step draws l.self.log.now l.a)) × Puts l.initial.text (owners_text l.self.log.now l.a) l.text
