use Rattle.std.proofs.Common.{◌∙◌, rules, arith, tests}
use Rattle.std.proofs.lemmas.Iterator.{YieldsList-from_range}
use Rattle.std.proofs.lemmas.Iterator.Consumers.{count_from_yields_List, YieldsList-from_filter}
use Rattle.search.proofs.Counting.{passing_range}
use Rattle.search.proofs.count_joined.Goals as goal

pub returns : goal.returns
returns g c =
    let graph = g.G.Graph.model c.args.graph.now in
    count_from_yields_List c.filter.result _ c.count.ensures.ran
    (YieldsList-from_filter _ (graph.joined c.args.from) (YieldsList-from_range 0 graph.states graph.states (cc) (omega arith)) c.filter.ensures.closure (λ x r q k. search (rules, tests)))
    ∙ passing_range (graph.joined c.args.from) graph.states
