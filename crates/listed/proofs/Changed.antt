-- A listed bank after one of its parts changed, its kind kept.
use Rattle.std.proofs.Common.{◌≡◌, ℕ, ◌<◌, List, length, map, Some, get_or, set, sym, ap, ◌∙◌, ◌≢◌, subst, arith}
use Rattle.std.proofs.lemmas.List.{length-map, length-set, map-set, get_or-map, get_or-set_same, get_or-set_other}
use Rattle.std.proofs.Math.Seq.{map-set_same}
use Rattle.device.specs.Device.{Device, no_device}
use Rattle.device.specs.Device as device
use Rattle.device.specs.Figures.{kind_of}
use Rattle.device.specs.declared.answers.Answer.{Answer}
use Rattle.listing.specs.Parts.{part_figures, part_model}
use Rattle.listing.specs.declared.part.Part.{Part}
use Rattle.bank.specs.Banks.{BankModel, Written}
use Rattle.listed.specs.Listing.{bank_from}

-- a write to a part is one to the part of this number
pub written_at : {m n : BankModel} {i p c : ℕ} {a : Answer} → Written m i c a n → i ≡ p → Written m p c a n
written_at {m} {n} {i} {p} {c} {a} w e = subst (λ q. Written m q c a n) e w

-- the others are as they were
pub device_other : (ps : List Part) (i q : ℕ) (y : Part) → (q ≢ i) → (bank_from (set ps i y)).device q ≡ (bank_from ps).device q
device_other ps i q y ne = rw (map-set part_model) (get_or-set_other (map part_model ps) i q (part_model y) no_device ne)

module _ (ps : List Part) (i : ℕ) (x y : Part) (h : i < length ps) (is : x ≡ get_or ps i x) (kept : kind_of (part_figures y) ≡ kind_of (part_figures x)) where
  pub kinds_stay : (q : ℕ) → (bank_from (set ps i y)).kind q ≡ (bank_from ps).kind q
  kinds_stay q = rw (map-set_same (λ v. Some (kind_of (part_figures v))) ps i y x (ap Some (kept ∙ ap (λ v. kind_of (part_figures v)) is)))

  -- the part's device is another
  pub device_before : (bank_from ps).device i ≡ part_model x
  device_before = get_or-map part_model ps i x no_device h ∙ ap part_model (sym is)

  pub device_after : (bank_from (set ps i y)).device i ≡ part_model y
  device_after = rw (map-set part_model) (get_or-set_same (map part_model ps) i (part_model y) no_device (omega (arith, length-map ps part_model)))

  pub part_written : (c : ℕ) (a : Answer) → device.Written (part_model x) c a (part_model y) → Written (bank_from ps) i c a (bank_from (set ps i y))
  part_written c a w = record {
    parts = length-set ps i y;
    kind = kinds_stay;
    here = subst (λ (d : Device). device.Written d c a ((bank_from (set ps i y)).device i)) (sym device_before)
        (subst (λ (d : Device). device.Written (part_model x) c a d) (sym device_after) w);
    others = λ q ne. device_other ps i q y ne;
  }
