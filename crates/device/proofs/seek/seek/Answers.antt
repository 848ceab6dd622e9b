use Rattle.std.proofs.Common.{subst, rules, tests, arith}
use Rattle.std.proofs.lemmas.Iterator.{YieldsList-from_range}
use Rattle.std.proofs.lemmas.Iterator.Consumers.{YieldsList-from_filter}
use Rattle.device.specs.Seek.{Found, Sought}
use Rattle.device.proofs.Seeking.{inside, picked_all}
use Rattle.device.proofs.seek.seek.Goals as goal

pub returns-clause-found : goal.returns-clause-found
returns-clause-found g c =
    let d = g.R.Device.model c.args.rail.now in
    subst (λ n. Found n d.level c.args.low c.args.high c.min_by_key.result) c.count.ensures
    (picked_all d.level c.args.low c.args.high _ _ (λ x r q k. search rules) c.count.result c.min_by_key.result c.min_by_key.ensures.ran
    (YieldsList-from_filter _ (inside d.level c.args.low c.args.high) (YieldsList-from_range 0 c.count.result c.count.result (cc) (omega arith)) c.filter.ensures.closure (λ x b q k. search (rules, tests))))

pub returns-clause-returns : goal.returns-clause-returns
returns-clause-returns g c =
    let found : Sought (g.R.Device.model c.args.rail.now) c.args.low c.args.high c.min_by_key.result = returns-clause-found g c in
    search rules
