-- The figures and the meaning of each supplied rail.
--   linear_figures, table_figures   the figures that a rail was made from
--   linear_model, table_model       the device that it is
use Rattle.std.specs.Prelude.{vec_items}
use Rattle.device.specs.Device.{Device}
use Rattle.device.specs.Figures.{Figures, linear, listed, device_of}
use Rattle.rails.specs.declared.LinearRail.{LinearRail}
use Rattle.rails.specs.declared.TableRail.{TableRail}

-- the figures of a linear rail
abbrev pub linear_figures : LinearRail → Figures
linear_figures d = linear d.lowest d.step d.count

-- the figures of a table rail
abbrev pub table_figures : TableRail → Figures
table_figures d = listed (vec_items d.levels)

-- the device that a linear rail is
abbrev pub linear_model : LinearRail → Device
linear_model d = device_of (linear_figures d) d.register.code d.register.tally

-- the device that a table rail is
abbrev pub table_model : TableRail → Device
table_model d = device_of (table_figures d) d.register.code d.register.tally
