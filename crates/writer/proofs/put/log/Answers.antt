-- `put::log` meets its contract: blocks, directory and trailer, one after another.
-- Assumes nothing.
use Rattle.std.proofs.Common.{sym, ◌∙◌, rules, arith}
use Rattle.writer.specs.laws.Put.{puts_entries, put-length, put-made}
use Rattle.writer.proofs.put.log.Goals as goal

pub trailer-requires : goal.trailer-requires
trailer-requires c =
    omega (arith, puts_entries _ _ _ c.directory.ensures, put-length c.bytes.ensures.put, c.bytes.ensures.put.after)

-- what the cursor holds is still the room that was lent
pub returns : goal.returns
returns c =
    let same = sym (c.trailer.ensures.same ∙ c.directory.ensures.same ∙ c.bytes.ensures.same) in
    let all = put-made _ _ _ c.bytes.ensures.put c.directory.ensures.put c.trailer.ensures.put in
    search rules
