-- What a record lists.
use Rattle.std.specs.Prelude.{◌≡◌}
use Rattle.device.specs.Device.{Fresh}
use Rattle.listing.specs.Parts.{part_figures, part_model}
use Rattle.table.specs.Records.{Rec, part, rule}
use Rattle.listing.specs.declared.entry.Entry.{Entry}
use Rattle.listing.specs.declared.entry.Entry.TheVariants.{Part, Rule}

-- a fresh part of the record's figures, or the record's rule
abbrev pub Is : Entry → Rec → Type 0
Is (Part p) (part f) = (part_figures p ≡ f) × Fresh (part_model p)
Is (Part p) (rule r) = ⊥
Is (Rule q) (part f) = ⊥
Is (Rule q) (rule r) = q ≡ r
