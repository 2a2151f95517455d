-- `folder` meets its contract: the folder ends behind the last slash.
-- Assumes nothing.
use Rattle.std.proofs.Common.{ℕ, sym, ap, take}
use Rattle.binding.specs.laws.Beside.{end_behind, end_none}
use Rattle.binding.proofs.folder.Goals as goal

pub returns-in-Some : goal.returns-in-Some
returns-in-Some c = let s = c.in-Some.ensures in ap (λ (k : ℕ). take k c.args.path.now) (sym (end_behind _ _ s.0 s.1 s.2))

pub returns-in-None : goal.returns-in-None
returns-in-None c = ap (λ (k : ℕ). take k c.args.path.now) (sym (end_none _ c.in-None.ensures))
