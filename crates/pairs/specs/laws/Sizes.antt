-- The numbers of a pair have 32 bits. Assumes nothing.
use Rattle.std.specs.Prelude.{List, ℕ, ◌≤◌, ◌<◌, length}
use Rattle.std.proofs.Common.{arith}
use Rattle.basics.specs.laws.Lists.{Bytes}
use Rattle.scans.specs.laws.Steps.{multiples_few, multiples_near}
use Rattle.drawlog.specs.Log.{count}
use Rattle.drawlog.specs.Promise.{tested_of}
use Rattle.drawlog.specs.laws.Log.{id_below}
use Rattle.pairs.specs.Check.{block, probe, Pair, pairs_of}
use Rattle.pairs.specs.laws.Check.{block_short}
use Rattle.pairs.specs.laws.Each.{Each, each_of}

pub record Small (q : Pair) : Type 0 where
  pub owner : q.owner < 4294967296
  pub other : q.other < 4294967296
  pub first : q.first < 4294967296
  pub number : q.number < 4294967296

pub of_small : (d : ℕ) (s : List ℕ) → Bytes s → (p a : ℕ) → count s ≤ (tested_of s).count → Each Small (pairs_of d p s a)
of_small d s bytes p a h =
    each_of Small d p s a
    (λ b l.
    let x = probe p s a in
    let y = block s b in
    let short : length y ≤ 65536 = block_short s b (omega arith) in
    record {
      owner = id_below s bytes a;
      other = id_below s bytes b;
      first = omega (arith, multiples_near x y d);
      number = omega (arith, multiples_few x y d);
    })
