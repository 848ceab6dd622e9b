-- Each supplied rail keeps what every device keeps.
use Rattle.std.proofs.Common.{arith, rules, mul-le-mul_right}
use Rattle.device.specs.Device.{Sound}
use Rattle.device.proofs.Soundness.{device_sound}
use Rattle.rails.specs.Supplied.{linear_figures, linear_model, table_figures, table_model}
use Rattle.rails.specs.declared.LinearRail.{LinearRail}
use Rattle.rails.specs.declared.TableRail.{TableRail}

pub linear_sound : (d : LinearRail) → Sound (linear_model d)
linear_sound d =
    device_sound (linear_figures d) d.register.code d.register.tally d.some d.few
    (λ c h. (omega (arith, d.low), grind (arith, d.high, mul-le-mul_right)))
    d.within d.register.counted

pub table_sound : (d : TableRail) → Sound (table_model d)
table_sound d =
    device_sound (table_figures d) d.register.code d.register.tally (search (rules, d.some)) (search (rules, d.few))
    (λ c h. (d.low c (search rules), d.high c (search rules)))
    (search (rules, d.within)) d.register.counted
