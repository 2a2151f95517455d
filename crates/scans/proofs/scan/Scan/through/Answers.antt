use Rattle.std.proofs.Common.{◌-◌, ◌≡◌, refl, sym, [], ◌++◌, Some, arith, length}
use Rattle.std.proofs.Math.Nat.{sub_self}
use Rattle.scans.specs.Trace.{stopped, found}
use Rattle.scans.specs.inside.Window.{end_of}
use Rattle.scans.specs.inside.Closest.{closer_by}
use Rattle.scans.specs.laws.Remember.{mem_end}
use Rattle.scans.specs.laws.Hits.{note_stopped, noted_none, noted_more, noted_le}
use Rattle.scans.specs.laws.Closeness.{closer_none}
use Rattle.scans.specs.laws.Going.{going_run, going_room}
use Rattle.scans.specs.laws.Slots.{kept_none}
use Rattle.scans.specs.laws.Passes.{last_equal, last_unequal}
use Rattle.scans.specs.laws.Loops.{mem_first, mem_next, mem_quiet}
use Rattle.scans.proofs.scan.Scan.through.Goals as goal

pub loop-window-init : goal.loop-window-init
loop-window-init c =
    let a = c.args in
    let s = a.self.now in
    record { ps = []; at = mem_first s.probe.now s.stream.now a.mem.now s.ready.sizes a.mem.now c.requires.mem_value; noted = noted_none a.step a.room.now }

pub note-requires : goal.note-requires
note-requires c =
    let l = c.loop-window in
    let s = c.args.self.now in
    let here : c.in-Some.window.scan ≡ s = c.in-Some.ensures.0 in
    let j : c.in-Some.window.at ≡ l.p.at = c.in-Some.ensures.1 in
    omega (arith, noted_le l.invariant.noted, rw (here, j) at c.in-Some.window.lies)

pub loop-window-preserved-then-last_byte : goal.loop-window-preserved-then-last_byte
loop-window-preserved-then-last_byte c =
    let k = c.keep-top in
    let n = c.note in
    let w = c.other_bytes-w in
    let last = c.last_byte in
    let l = c.loop-window in
    let s = c.args.self.now in
    let here : c.in-Some.window.scan ≡ s = c.in-Some.ensures.0 in
    let j : c.in-Some.window.at ≡ l.p.at = c.in-Some.ensures.1 in
    let e = end_of w.result.stop in
    let quiet = mem_quiet l.invariant.at.memory l.invariant.at.under in
    let pass =
    last_equal s.probe.now s.stream.now l.mem l.p.at l.top l.run.comparisons s.ready.sizes.some quiet (rw (here, j) at last.ensures.equal) last.ensures.count
    c.if-last_byte.true (rw (here, j) at w.ensures.pass) in
    record {
      ps = l.invariant.ps ++ found l.p.at e [];
      at = mem_next s.ready.sizes l.invariant.at (rw (here, j) at c.in-Some.window.lies) pass (rw (here, j) at c.advance.ensures.value) k.ensures k.auto.mem c.on-next.ensures c.after-run.ensures;
      noted = noted_more l.invariant.noted l.p.at e n.ensures.hits n.ensures.room;
    }

-- the window stops at its last byte
pub loop-window-preserved : goal.loop-window-preserved
loop-window-preserved c =
    let last = c.last_byte in
    let l = c.loop-window in
    let a = c.args in
    let s = a.self.now in
    let here : c.in-Some.window.scan ≡ s = c.in-Some.ensures.0 in
    let j : c.in-Some.window.at ≡ l.p.at = c.in-Some.ensures.1 in
    let m = length s.probe.now in
    let quiet = mem_quiet l.invariant.at.memory l.invariant.at.under in
    let pass =
    last_unequal s.probe.now s.stream.now l.mem l.p.at l.top l.run.comparisons s.ready.sizes.some quiet (rw (here, j) at last.ensures.equal) last.ensures.count
    c.if-last_byte.false in
    let near : l.run.closest ≡ closer_by l.run.closest (m - 1 - (m - 1)) l.p.at = sym (rw (sub_self (m - 1)) (closer_none l.run.closest l.p.at)) in
    let n = note_stopped a.step l.p.at l.run.hits l.room (Some (m - 1)) refl in
    record {
      ps = l.invariant.ps ++ found l.p.at (stopped (m - 1)) [];
      at = mem_next s.ready.sizes l.invariant.at (rw (here, j) at c.in-Some.window.lies) pass (rw (here, j) at c.advance-else-last_byte.ensures.value) (kept_none m l.mem l.p.at l.top s.ready.sizes.some l.invariant.at.under) refl c.on-p.ensures near;
      noted = noted_more l.invariant.noted l.p.at (stopped (m - 1)) n.0 n.1;
    }

pub returns : goal.returns
returns c =
    let l = c.loop-window in
    let s = c.args.self.now in
    let e = mem_end s.probe.now s.stream.now l.invariant.at.R l.invariant.at.fuel l.p.at c.in_default.ensures in
    let g = l.invariant.at.going in
    record { run = going_run g e l.invariant.noted; room = going_room g e l.invariant.noted; rest = l.invariant.at.rest }
