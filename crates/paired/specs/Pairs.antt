-- A pair of banks keeps what every bank keeps.
use Rattle.std.specs.Prelude.{◌≡◌, ℕ, ◌-◌, ◌<◌, ◌≤◌, true, false, Option, Some, None, ◌⊎◌, nat_lt}
use Rattle.std.proofs.Math.Path.{sym, subst}
use Rattle.std.proofs.Common.{◌∙◌, arith}
use Rattle.std.proofs.Math.Logic.{inl, inr}
use Rattle.std.proofs.lemmas.Bool.{cases_lt, lt-ltb, le-ltb}
use Rattle.device.specs.Device.{Device, any_two, no_device}
use Rattle.device.specs.Device as device
use Rattle.device.specs.declared.kind.Kind.{Kind}
use Rattle.device.specs.declared.kind.Kind.TheVariants.{Rail}
use Rattle.bank.specs.Banks.{BankModel, Sound, pair_of}

module _ (a b : BankModel) where
  -- a part of the first bank, of the second, or none that is shown
  OfFirst : ℕ → Type 0
  OfFirst p = (p < 32) × (p < a.parts) × ((pair_of a b).kind p ≡ a.kind p) × ((pair_of a b).device p ≡ a.device p)

  OfSecond : ℕ → Type 0
  OfSecond p = (p < 32) × (a.parts ≤ p) × ((pair_of a b).kind p ≡ b.kind (p - a.parts)) × ((pair_of a b).device p ≡ b.device (p - a.parts))

  Hidden : ℕ → Type 0
  Hidden p = (32 ≤ p) × ((pair_of a b).kind p ≡ None) × ((pair_of a b).device p ≡ no_device)

  place : (p : ℕ) → OfFirst p ⊎ (OfSecond p ⊎ Hidden p)
  unfolding OfFirst OfSecond Hidden
  place p =
      elim (cases_lt p 32) [
        | inl h ↦
            let t : nat_lt p 32 ≡ true = lt-ltb p 32 h in
            elim (cases_lt p a.parts) [
              | inl k ↦ let s : nat_lt p a.parts ≡ true = lt-ltb p a.parts k in inl (h, k, simp (t, s), simp (t, s))
              | inr k ↦ let s : nat_lt p a.parts ≡ false = le-ltb p a.parts k in inr (inl (h, k, simp (t, s), simp (t, s)))
            ]
        | inr h ↦ let t : nat_lt p 32 ≡ false = le-ltb p 32 h in inr (inr (h, simp t, simp t))
      ]

  pub pair_sound : Sound a → Sound b → Sound (pair_of a b)
  unfolding OfFirst OfSecond Hidden
  pair_sound x y = record {
    few = omega arith;
    present = λ p h e. elim (place p) [
      | inl w ↦ x.present p w.1 (sym w.2 ∙ e)
      | inr (inl w) ↦ y.present (p - a.parts) (omega (arith, w)) (sym w.2 ∙ e)
      | inr (inr w) ↦ omega (arith, w)
    ];
    absent = λ p h. elim (place p) [
      | inl w ↦ absurd (omega (arith, w))
      | inr (inl w) ↦ w.2 ∙ y.absent (p - a.parts) (omega (arith, w))
      | inr (inr w) ↦ w.1
    ];
    sound = λ p h. elim (place p) [
      | inl w ↦ subst device.Sound (sym w.3) (x.sound p w.1)
      | inr (inl w) ↦ subst device.Sound (sym w.3) (y.sound (p - a.parts) (omega (arith, w)))
      | inr (inr w) ↦ absurd (omega (arith, w))
    ];
    nothing = λ p h. elim (place p) [
      | inl w ↦ absurd (omega (arith, w))
      | inr (inl w) ↦ w.3 ∙ y.nothing (p - a.parts) (omega (arith, w))
      | inr (inr w) ↦ w.2
    ];
    free = λ p c d e. elim (place p) [
      | inl w ↦ subst (λ (v : Device). v.linked c d ≡ any_two v.count c d) (sym w.3) (x.free p c d (sym w.2 ∙ e))
      | inr (inl w) ↦ subst (λ (v : Device). v.linked c d ≡ any_two v.count c d) (sym w.3) (y.free (p - a.parts) c d (sym w.2 ∙ e))
      | inr (inr w) ↦ let z : ◌≡◌ {A = Option Kind} None (Some Rail) = sym w.1 ∙ e in let n : ◌≡◌ {A = ℕ} 0 1 = cc in absurd (omega arith)
    ];
  }
