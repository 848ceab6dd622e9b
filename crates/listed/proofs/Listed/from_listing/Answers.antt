use Rattle.std.proofs.Common.{vec_items}
use Rattle.listed.proofs.Fresh.{fresh_bank}
use Rattle.listed.proofs.Listed.from_listing.Goals as goal

pub returns-clause-fresh : goal.returns-clause-fresh
returns-clause-fresh c =
    rw c.into_lists-parts.ensures.0 (fresh_bank (vec_items c.args.listing.parts) c.args.listing.fresh)
