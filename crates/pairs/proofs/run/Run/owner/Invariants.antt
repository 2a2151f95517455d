-- `owner` meets its contract. The loop's invariant: the pairs with the first b blocks are found. There is room for one pair more before any other block,
-- since the owner's own makes none.
-- Assumes nothing.
use Rattle.pairs.specs.Check.{pairs_with}
use Rattle.pairs.specs.Promise.{step}
use Rattle.pairs.specs.Inside.{Onward}
use Rattle.pairs.proofs.run.Run.owner.Given as goal

abbrev pub invariant-loop-b : goal.invariant-loop-b
invariant-loop-b l = Onward (pairs_with step l.probe l.initial.self.log.now l.a l.b) 0 l.initial.self l.self
