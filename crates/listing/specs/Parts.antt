-- A part of a board: one of the supplied devices.
--   part_figures    the figures that a part was made from
--   part_register   its present code and its tally
--   part_model      the device that a part is
use Rattle.device.specs.Device.{Device}
use Rattle.device.specs.Figures.{Figures, device_of}
use Rattle.rails.specs.Supplied.{linear_figures, table_figures}
use Rattle.clocks.specs.Supplied.{divider_figures, tree_figures}
use Rattle.device.specs.declared.register.Register.{Register}
use Rattle.listing.specs.declared.part.Part.{Part}
use Rattle.listing.specs.declared.part.Part.TheVariants.{Linear, Listed, Divider, Tree}

-- the figures that a part was made from
abbrev pub part_figures : Part → Figures
part_figures (Linear d) = linear_figures d
part_figures (Listed d) = table_figures d
part_figures (Divider d) = divider_figures d
part_figures (Tree d) = tree_figures d

-- the register of a part: its present code and its tally
abbrev pub part_register : Part → Register
part_register (Linear d) = d.register
part_register (Listed d) = d.register
part_register (Divider d) = d.register
part_register (Tree d) = d.register

-- the device that a part is
abbrev pub part_model : Part → Device
part_model p = device_of (part_figures p) (part_register p).code (part_register p).tally
