-- `owners` meets its contract. The loop's invariant: the pairs of the first a owners are found, and the unprobed ones among them counted. There is room for
-- the pairs of one owner more, since no owner has more than count − 1.
-- Assumes nothing.
use Rattle.pairs.specs.Check.{pairs, unprobed}
use Rattle.pairs.specs.Promise.{step}
use Rattle.pairs.specs.Inside.{Onward}
use Rattle.pairs.proofs.run.Run.owners.Given as goal

abbrev pub invariant-loop-a : goal.invariant-loop-a
invariant-loop-a l =
    let u = l.initial.self in Onward (pairs step u.p u.log.now l.a) (unprobed u.p u.log.now l.a) u l.self
