use Rattle.std.proofs.Common.{[], ◌∷◌, map, vec_items, ap, ◌∙◌, arith}
use Rattle.std.proofs.lemmas.List.{map_push}
use Rattle.std.proofs.lemmas.List.Elements.{All-push}
use Rattle.device.specs.Device.{Fresh}
use Rattle.listing.specs.Lists.{product}
use Rattle.listing.specs.Parts.{part_figures, part_model}
use Rattle.listing.proofs.Fitting.{product_append}
use Rattle.listing.proofs.Listing.add_part.Goals as goal

pub invariant_of-self-2-clause-counted : goal.invariant_of-self-2-clause-counted
invariant_of-self-2-clause-counted c =
    let ps = vec_items c.args.self.now.parts in
    let f = part_figures c.args.part in
    let put = ap (map part_figures) c.in_ok-push.ensures.items ∙ map_push part_figures ps c.args.part in
    let more = ap product put ∙ product_append (map part_figures ps) (f ∷ []) in
    grind (arith, c.args.self.now.counted, c.from.ensures, c.count.ensures)

pub invariant_of-self-2-clause-fresh : goal.invariant_of-self-2-clause-fresh
invariant_of-self-2-clause-fresh c =
    rw c.in_ok-push.ensures.items (All-push (λ p. Fresh (part_model p)) (vec_items c.args.self.now.parts) c.args.part c.args.self.now.fresh c.requires)
