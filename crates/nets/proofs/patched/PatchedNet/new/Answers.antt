use Rattle.std.proofs.Common.{refl}
use Rattle.nets.specs.Model.{max_lines}
use Rattle.nets.proofs.Changes.{patched_none}
use Rattle.nets.proofs.patched.PatchedNet.new.Goals as goal

pub returns : goal.returns
returns g c = record { net = refl; meaning = patched_none c.none-changes.result c.none-changes.ensures max_lines (g.N.Net.meant c.args.net) }
