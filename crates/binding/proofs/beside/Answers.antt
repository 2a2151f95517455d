-- `beside` meets its contract: five texts, one after another, of which the first is the folder.
-- Assumes nothing.
use Rattle.std.proofs.Common.{refl, rules, arith}
use Rattle.lines.specs.Promise.{Puts}
use Rattle.lines.specs.laws.Promise.{puts_then, puts_said}
use Rattle.binding.specs.Beside.{beside_name}
use Rattle.binding.specs.laws.Beside.{beside_short}
use Rattle.binding.proofs.beside.Goals as goal

pub returns : goal.returns
unfolding beside_name
returns c =
    let a = c.args in
    let b = c.new-text.ensures in
    let puts : Puts c.new-text.result (beside_name a.log.now a.m a.n) c.number-2.new.self =
    rw c.folder.ensures at (puts_then (puts_then (puts_then (puts_then c.word.ensures c.word-2.ensures) c.number.ensures) c.byte.ensures) c.number-2.ensures) in
    record {
      text = puts_said {t' = c.number-2.new.self} b.room b.place puts c.place.ensures (search rules);
      short = beside_short a.log.now a.m a.n (omega (arith, c.ranges.m)) (omega (arith, c.ranges.n)) (puts_said b.room b.place puts c.place.ensures refl);
    }
