use Rattle.std.proofs.Common.{◌≡◌, ◌%◌, ◌-◌, arith, ap, ◌∙◌, drop, set, take_all, length-drop, length-set}
use Rattle.lines.specs.Digits.{digit_byte, most_digits}
use Rattle.lines.proofs.Spelling.{spelt_room, spelt_more, spelt_all}
use Rattle.lines.proofs.spell.Goals as goal

pub returns-then-rest-lt-BASE : goal.returns-then-rest-lt-BASE
returns-then-rest-lt-BASE c =
    let l = c.loop-first in
    let i = l.invariant.1 in
    let last : l.rest % 10 ≡ l.rest = omega arith in
    let whole =
    take_all (most_digits - (l.first - 1)) (drop (l.first - 1) (set l.text (l.first - 1) c.digit.result)) (simp (length-drop, length-set) (omega (arith, i.size))) in
    whole ∙ spelt_all i (omega arith) (c.digit.ensures ∙ ap digit_byte last)

pub loop-first-preserved : goal.loop-first-preserved
loop-first-preserved c =
    let i = c.loop-first.invariant.1 in
    let room = spelt_room i (omega arith) (omega arith) in
    (omega (arith, room), spelt_more i (omega arith) room c.digit.ensures)
