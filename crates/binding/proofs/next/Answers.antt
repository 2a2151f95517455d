-- `next` meets its contract: no digit, too great, or the longer number.
-- Assumes nothing.
use Rattle.std.proofs.Common.{◌≡◌, sym, ◌∙◌, ⊎_elim, ◌≤◌, ◌<◌, ◌+◌, ◌*◌, min, ℕ, Option, Some, None, arith}
use Rattle.std.specs.Prelude.{SomeIff}
use Rattle.std.specs.Char.{IsDigitOf}
use Rattle.basics.specs.laws.Tests.{le_or_lt}
use Rattle.binding.specs.Ids.{limit}
use Rattle.binding.specs.Inside.{next, next_seen}
use Rattle.binding.specs.laws.Ids.{next_low, next_high, next_digit}
use Rattle.binding.proofs.next.Goals as goal

-- a digit below ten is a byte from 48 on
ten : (b d : ℕ) → d < 10 → IsDigitOf b d → 48 + d ≡ b
ten b d h is = grind arith

no_digit : (v b : ℕ) → (48 ≤ b → b ≤ 57 → 58 ≤ b) → limit ≡ next v b
no_digit v b h =
    sym
    (⊎_elim (λ (l : 48 ≤ b). next_high v b (grind arith)) (λ (l : b < 48). next_low v b l) (le_or_lt 48 b))

with_digit : (v b d : ℕ) → d < 10 → 48 + d ≡ b → min (v * 10 + d) limit ≡ next v b
with_digit v b d h e = omega (arith, next_digit v b (omega arith) (omega arith))

checked : (o : Option ℕ) (n : ℕ) → SomeIff o (n < limit) n → next_seen o ≡ min n limit
checked (Some m) n s = omega (arith, s.0, s.1)
checked None n s = omega arith

pub returns-in_err-digit-clause-value : goal.returns-in_err-digit-clause-value
returns-in_err-digit-clause-value c = rw c.from_residual.ensures (no_digit c.args.value c.args.b (rw c.from.ensures at c.in_err-digit.ensures.cases))

pub returns-clause-value : goal.returns-clause-value
returns-clause-value c =
    let d = c.in_ok-digit in
    let e = ten c.from.result d.digit (omega (arith, d.ensures.value)) d.ensures.cases in
    checked c.longer.result (c.args.value * 10 + d.digit) c.longer.ensures
    ∙ with_digit c.args.value c.args.b d.digit (omega (arith, d.ensures.value)) (omega (arith, e, c.from.ensures))
