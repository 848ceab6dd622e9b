-- Each supplied clock keeps what every device keeps.
use Rattle.std.proofs.Common.{arith, rules}
use Rattle.std.proofs.Math.Nat.{one-le-mul}
use Rattle.std.specs.Prelude.{◌+◌, ◌/◌, ◌%◌, ◌<◌, vec_items, vec_len, slice_index}
use Rattle.std.proofs.lemmas.Nat.{mul-le, div_below}
use Rattle.device.specs.Device.{Sound}
use Rattle.device.proofs.Soundness.{device_sound}
use Rattle.clocks.specs.Supplied.{divider_figures, divider_model, tree_figures, tree_model}
use Rattle.clocks.specs.declared.DividerClock.{DividerClock}
use Rattle.clocks.specs.declared.TreeClock.{TreeClock}
use Rattle.clocks.specs.Rounding.{rounded_within}

pub divider_sound : (d : DividerClock) → Sound (divider_model d)
divider_sound d =
    device_sound (divider_figures d) d.register.code d.register.tally d.some d.few
    (λ c h. rounded_within d.parent (c + 1) (omega arith) d.low d.high)
    d.within d.register.counted

pub tree_sound : (d : TreeClock) → Sound (tree_model d)
tree_sound d =
    let k = d.divisors in
    let n = vec_len d.parents in
    device_sound (tree_figures d) d.register.code d.register.tally
    (search (rules, one-le-mul d.some d.fewest))
    (search (rules, mul-le n k 8 8 d.few d.most))
    (λ c h. let p : c / k < n = div_below c k n d.fewest (search rules) in
    rounded_within (slice_index (vec_items d.parents) (c / k)) (c % k + 1) (omega arith) (d.low (c / k) p) (d.high (c / k) p))
    (search (rules, d.within)) d.register.counted
