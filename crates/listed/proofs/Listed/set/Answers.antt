use Rattle.std.proofs.Common.{arith}
use Rattle.listed.specs.Soundness.{listed_sound}
use Rattle.listed.proofs.Putting.{set_to}
use Rattle.listed.proofs.Listed.set.Goals as goal

pub returns : goal.returns
returns c = set_to _ _ _ (listed_sound _ c.args.self.now.few) (omega arith) c.put.ensures
