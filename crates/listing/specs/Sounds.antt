-- A part keeps what every device keeps.
use Rattle.std.specs.Prelude.{◌≡◌, ℕ, refl}
use Rattle.device.specs.Device.{Sound, any_two}
use Rattle.device.specs.Figures.{kind_of}
use Rattle.device.specs.Kinds.{clock_no_rail}
use Rattle.device.specs.declared.kind.Kind.TheVariants.{Rail}
use Rattle.rails.specs.Sounds.{linear_sound, table_sound}
use Rattle.clocks.specs.Sounds.{divider_sound, tree_sound}
use Rattle.listing.specs.Parts.{part_figures, part_model}
use Rattle.listing.specs.declared.part.Part.{Part}
use Rattle.listing.specs.declared.part.Part.TheVariants.{Linear, Listed, Divider, Tree}

pub part_sound : (x : Part) → Sound (part_model x)
part_sound (Linear d) = linear_sound d
part_sound (Listed d) = table_sound d
part_sound (Divider d) = divider_sound d
part_sound (Tree d) = tree_sound d

-- one write joins any two different codes of a rail
pub rail_free : (x : Part) (a b : ℕ) → kind_of (part_figures x) ≡ Rail → (part_model x).linked a b ≡ any_two (part_model x).count a b
rail_free (Linear d) a b e = refl
rail_free (Listed d) a b e = refl
rail_free (Divider d) a b e = absurd (clock_no_rail e)
rail_free (Tree d) a b e = absurd (clock_no_rail e)
