-- What a listed bank keeps, whatever is written.
use Rattle.std.specs.Prelude.{◌≡◌, ℕ, zero, suc, ◌<◌, ◌≤◌, List, [], ◌∷◌, map, length, Option, Some, None, ◌≢◌}
use Rattle.std.proofs.Common.{sym, ◌∙◌, inl, inr, arith}
use Rattle.std.proofs.lemmas.List.{length-map, get_or_past}
use Rattle.std.proofs.lemmas.Bool.{cases_lt}
use Rattle.std.proofs.lemmas.Option.{none-some}
use Rattle.device.specs.Device.{Device, no_device, any_two}
use Rattle.device.specs.Device as device
use Rattle.device.specs.Figures.{kind_of}
use Rattle.device.specs.declared.kind.Kind.{Kind}
use Rattle.device.specs.declared.kind.Kind.TheVariants.{Rail}
use Rattle.listing.specs.Parts.{part_figures, part_model}
use Rattle.listing.specs.declared.part.Part.{Part}
use Rattle.listing.specs.Sounds.{part_sound, rail_free}
use Rattle.bank.specs.Banks.{Sound}
use Rattle.listed.specs.Figured.{at_or}
use Rattle.listed.specs.Listing.{bank_from}

-- past the end
pub at_past : {X Y : Type 0} (f : X → Y) (z : Y) (xs : List X) (i : ℕ) → length xs ≤ i → at_or f z xs i ≡ z
at_past f z xs i h = get_or_past (map f xs) i z (omega (arith, length-map xs f))

-- what holds of each part by itself holds of it in the bank
each_part : (P : Option Kind → Device → Type 0) → ((x : Part) → P (Some (kind_of (part_figures x))) (part_model x)) → (ps : List Part) (p : ℕ) → p < length ps
    → P ((bank_from ps).kind p) ((bank_from ps).device p)
each_part P all [] p h = absurd (omega arith)
each_part P all (x ∷ ps) zero h = all x
each_part P all (x ∷ ps) (suc p) h = each_part P all ps p (omega arith)

-- parts make a bank
pub listed_sound : (ps : List Part) → length ps ≤ 32 → Sound (bank_from ps)
listed_sound ps few = record {
  few = few;
  present = each_part (λ k d. k ≢ None) (λ x e. none-some (kind_of (part_figures x)) (sym e)) ps;
  absent = at_past (λ x. Some (kind_of (part_figures x))) None ps;
  sound = each_part (λ k d. device.Sound d) part_sound ps;
  nothing = at_past part_model no_device ps;
  free = λ p a b e. elim (cases_lt p (length ps)) [
    | inl h ↦ each_part (λ k d. k ≡ Some Rail → d.linked a b ≡ any_two d.count a b) (λ x k. let rail : kind_of (part_figures x) ≡ Rail = cc in rail_free x a b rail) ps p h e
    | inr h ↦ absurd (none-some Rail (sym (at_past (λ x. Some (kind_of (part_figures x))) None ps p h) ∙ e))
  ];
}
