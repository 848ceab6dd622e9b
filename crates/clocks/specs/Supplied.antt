-- The figures and the meaning of each supplied clock.
--   divider_figures, tree_figures   the figures that a clock was made from
--   divider_model, tree_model       the device that it is
use Rattle.std.specs.Prelude.{vec_items}
use Rattle.device.specs.Device.{Device}
use Rattle.device.specs.Figures.{Figures, divider, tree, device_of}
use Rattle.clocks.specs.declared.DividerClock.{DividerClock}
use Rattle.clocks.specs.declared.TreeClock.{TreeClock}

-- the figures of a divider clock
abbrev pub divider_figures : DividerClock → Figures
divider_figures d = divider d.parent d.count

-- the figures of a tree clock
abbrev pub tree_figures : TreeClock → Figures
tree_figures d = tree d.divisors (vec_items d.parents)

-- the device that a divider clock is
abbrev pub divider_model : DividerClock → Device
divider_model d = device_of (divider_figures d) d.register.code d.register.tally

-- the device that a tree clock is
abbrev pub tree_model : TreeClock → Device
tree_model d = device_of (tree_figures d) d.register.code d.register.tally
