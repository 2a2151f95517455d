-- `scans::scan::Window::advance` meets its contract.
-- Assumes nothing.
use Rattle.std.proofs.Common.{ℕ, ◌+◌, ◌-◌, ◌≤◌, max, ◌≡◌, sym, ap, ◌∙◌, List, arith, length}
use Rattle.basics.specs.Lists.{at}
use Rattle.tables.specs.Occurrence.{occurrence_at}
use Rattle.tables.specs.laws.Occurrence.{at-occurrence_table}
use Rattle.scans.specs.Trace.{End}
use Rattle.scans.specs.Move.{move}
use Rattle.scans.specs.inside.Window.{end_of}
use Rattle.scans.specs.laws.Move.{move_pos, move_le, move_matched, move_stopped}
use Rattle.scans.proofs.scan.Window.advance.Goals as goal

-- the move, with its bounds
bounded : (x y : List ℕ) (j : ℕ) (e : End) (r : ℕ) → 1 ≤ length x → r ≡ move x y j e → (r ≡ move x y j e) × ((1 ≤ r) × (r ≤ length x))
bounded x y j e r h q = (q, (omega (arith, move_pos x y j e), omega (arith, move_le x y j e h)))

pub returns-in_default : goal.returns-in_default
returns-in_default c =
    let a = c.args in
    let s = a.self.now.scan in
    let w =
    bounded s.probe.now s.stream.now a.self.now.at (end_of a.stop) c.shift-period.result s.ready.sizes.some
    (rw c.in_default.is (c.shift-period.ensures ∙ sym (move_matched s.probe.now s.stream.now a.self.now.at))) in
    record { value = w.0; bounds = w.1 }

pub returns : goal.returns
returns c =
    let a = c.args in
    let s = a.self.now.scan in
    let x = s.probe.now in
    let i = c.in-Some.i in
    let b = c.from-b in
    let o : at s.occ.now b.result ≡ occurrence_at x (at s.stream.now (a.self.now.at + i)) =
    ap (λ (l : List ℕ). at l b.result) s.ready.moving.byte
    ∙ at-occurrence_table x b.result (omega arith)
    ∙ ap (occurrence_at x) b.ensures in
    let q : c.saturating_sub-by_byte.result ≡ occurrence_at x (at s.stream.now (a.self.now.at + i)) - (length x - 1 - i) =
    c.saturating_sub-by_byte.ensures ∙ ap (λ (n : ℕ). n - (length x - 1 - i)) o in
    let w =
    bounded x s.stream.now a.self.now.at (end_of a.stop) c.max.result s.ready.sizes.some
    (rw c.in-Some.is (c.max.ensures ∙ (λ k. max (c.shift-by_shift.ensures k) (q k)) ∙ sym (move_stopped x s.stream.now a.self.now.at i))) in
    record { value = w.0; bounds = w.1 }
