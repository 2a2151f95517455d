-- What an accepted log looks like: its blocks lie back to back from byte 0 to the directory, each within the log. Assumes nothing.
use Rattle.std.specs.Prelude.{◌≡◌, List, ℕ, zero, suc, ◌+◌, ◌-◌, ◌≤◌, ◌<◌, ◌%◌}
use Rattle.std.proofs.Common.{sym, ap, ◌∙◌, arith}
use Rattle.drawlog.specs.Log.{directory, count, draw_size, start_at, length_at}
use Rattle.drawlog.specs.Refusal.{due}
use Rattle.drawlog.specs.laws.Refusal.{Accepted}
use Rattle.drawlog.specs.laws.Accepted.{first_block, whole_draws}
use Rattle.drawlog.proofs.Due.{due-next}

module _ (s : List ℕ) (a : Accepted s) where
  -- BLOCKS: the next starts where one ends
  pub next-block : (k : ℕ) → suc k < count s → start_at s (suc k) ≡ start_at s k + length_at s k
  next-block k h = (a.each (suc k) h).joined ∙ due-next s k

  -- the last ends where the directory starts
  pub last_block : (k : ℕ) → suc k ≡ count s → start_at s k + length_at s k ≡ directory s
  last_block k e = sym (due-next s k) ∙ ap (due s) e ∙ a.ends

  -- each has whole draws, so a draw begins at the same places, counted from a block's start or from the log's
  starts_whole : (k : ℕ) → k < count s → start_at s k % draw_size ≡ 0
  starts_whole zero h = rw (first_block s a)
  starts_whole (suc k) h = omega (arith, next-block k h, starts_whole k (omega arith), whole_draws s a k (omega arith))

  pub draws_begin : (k j : ℕ) → k < count s → (start_at s k + j) % draw_size ≡ j % draw_size
  draws_begin k j h = omega (arith, starts_whole k h)

  -- each ends before the directory
  ends_up : (n k : ℕ) → k + suc n ≤ count s → start_at s k + length_at s k ≤ due s (k + suc n)
  ends_up zero k h = let e : k + 1 ≡ suc k = omega arith in rw (e, due-next s k) (omega arith)
  ends_up (suc n) k h =
      let e : k + suc (suc n) ≡ suc (k + suc n) = omega arith in
      rw (e, due-next s (k + suc n)) (omega (arith, ends_up n k (omega arith), (a.each (k + suc n) (omega arith)).joined))

  pub block_within : (k : ℕ) → k < count s → start_at s k + length_at s k ≤ directory s
  block_within k h =
      let e : k + suc (count s - suc k) ≡ count s = omega arith in
      omega (arith, rw e at (ends_up (count s - suc k) k (omega arith)), a.ends)
