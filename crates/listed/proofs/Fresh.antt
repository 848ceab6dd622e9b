-- Parts as made are those of their figures.
use Rattle.std.proofs.Common.{◌≡◌, List, [], ◌∷◌, map, Some, None, get_or, sym, refl, ap₂}
use Rattle.std.specs.List.{All, AllByRecursion}
use Rattle.std.proofs.lemmas.List.Elements.{recursion_from_All}
use Rattle.std.proofs.lemmas.List.{length-map}
use mathlib.Core.List.{map-map}
use Rattle.device.specs.Device.{Device, Fresh, no_device}
use Rattle.device.specs.Figures.{kind_of, device_of}
use Rattle.listing.specs.Parts.{part_figures, part_model}
use Rattle.listing.specs.declared.part.Part.{Part}
use Rattle.listed.specs.Figured.{bank_of}
use Rattle.listed.specs.Listing.{bank_from}

devices : (ps : List Part) → AllByRecursion (λ x. Fresh (part_model x)) ps → map part_model ps ≡ map (λ f. device_of f 0 0) (map part_figures ps)
devices [] all = refl
devices (x ∷ ps) all = ap₂ (λ (d : Device) ds. d ∷ ds) (ap₂ (λ c t. device_of (part_figures x) c t) all.0.0 all.0.1) (devices ps all.1)

pub fresh_bank : (ps : List Part) → All (λ x. Fresh (part_model x)) ps → bank_from ps ≡ bank_of (map part_figures ps)
fresh_bank ps all = λ i. record {
  parts = sym (length-map ps part_figures) i;
  kind = λ p. get_or (sym (map-map (λ f. Some (kind_of f)) part_figures ps) i) p None;
  device = λ p. get_or (devices ps (recursion_from_All (λ x. Fresh (part_model x)) ps all) i) p no_device;
}
