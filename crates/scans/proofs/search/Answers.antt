-- `scans::search` meets its contract.
-- Assumes nothing.
use Rattle.scans.specs.laws.Refusal.{handed_on}
use Rattle.scans.specs.laws.Search.{ready, search_is, search_refused}
use Rattle.scans.proofs.search.Goals as goal

pub returns-in_err-occ : goal.returns-in_err-occ
returns-in_err-occ c =
    rw (handed_on c.from_residual.result c.from_residual.ensures.1) (search_refused c.in_err-occ.ensures)

pub invariant_of-scan : goal.invariant_of-scan
invariant_of-scan c = record { ready = (ready c.args.stream.now c.in_ok-occ.ensures).0 }

pub remembering-requires : goal.remembering-requires
remembering-requires c = (ready c.args.stream.now c.in_ok-occ.ensures).1

pub returns : goal.returns
returns c =
    let r = c.remembering.ensures in search_is c.in_ok-occ.ensures r.run r.zeros r.room
