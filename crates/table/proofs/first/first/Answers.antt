use Rattle.std.proofs.Common.{rules, ◌≡◌}
use Rattle.table.specs.Bytes.{field}
use Rattle.table.proofs.first.first.Goals as goal

pub returns : goal.returns
returns c =
    let kind : c.from_le_bytes.result ≡ field c.args.rest.now 2 2 = search rules in
    let size : c.from_le_bytes-size.result ≡ field c.args.rest.now 0 2 = search rules in
    search rules
