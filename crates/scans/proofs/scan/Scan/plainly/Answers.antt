use Rattle.std.proofs.Common.{◌≡◌, [], ◌++◌, arith}
use Rattle.scans.specs.Trace.{found}
use Rattle.scans.specs.inside.Window.{end_of}
use Rattle.scans.specs.laws.Plain.{plain_end}
use Rattle.scans.specs.laws.Hits.{noted_none, noted_more, noted_le}
use Rattle.scans.specs.laws.Going.{going_run, going_room}
use Rattle.scans.specs.laws.Loops.{plain_first, plain-next}
use Rattle.scans.proofs.scan.Scan.plainly.Goals as goal

pub loop-window-init : goal.loop-window-init
loop-window-init c =
    let s = c.args.self.now in
    record { ps = []; at = plain_first s.probe.now s.stream.now; noted = noted_none 1 c.args.room.now }

pub note-requires : goal.note-requires
note-requires c =
    let s = c.args.self.now in
    let here : c.in-Some.window.scan ≡ s = c.in-Some.ensures.0 in
    let j : c.in-Some.window.at ≡ c.loop-window.j = c.in-Some.ensures.1 in
    omega (arith, noted_le c.loop-window.invariant.noted, rw (here, j) at c.in-Some.window.lies)

pub loop-window-preserved : goal.loop-window-preserved
loop-window-preserved c =
    let l = c.loop-window in
    let s = c.args.self.now in
    let n = c.note in
    let e = end_of c.all_bytes-stop.result in
    let here : c.in-Some.window.scan ≡ s = c.in-Some.ensures.0 in
    let j : c.in-Some.window.at ≡ l.j = c.in-Some.ensures.1 in
    record {
      ps = l.invariant.ps ++ found l.j e [];
      at = plain-next s.ready.sizes l.invariant.at (rw (here, j) at c.in-Some.window.lies) (rw (here, j) at c.all_bytes-stop.ensures.pass) (rw (here, j) at c.advance-d.ensures.value) (rw c.trailing.ensures at c.closer-run.ensures);
      noted = noted_more l.invariant.noted l.j e n.ensures.hits n.ensures.room;
    }

pub returns : goal.returns
returns c =
    let l = c.loop-window in
    let s = c.args.self.now in
    let e = plain_end s.probe.now s.stream.now l.invariant.at.fuel l.j c.in_default.ensures in
    let g = l.invariant.at.going in
    record { run = going_run g e l.invariant.noted; room = going_room g e l.invariant.noted }
