-- The number of the present codes, made from the last part back.
use Rattle.std.proofs.Common.{◌≡◌, ℕ, suc, ◌+◌, ◌-◌, ◌*◌, ◌<◌, ◌≤◌, List, [], ◌∷◌, Option, Some, None, sym, refl, ap, ◌∙◌, subst, mul_assoc, mul_comm, arith}
use Rattle.std.proofs.lemmas.Nat.{mul-le}
use Rattle.std.specs.Iterator.{Yields}
use Rattle.std.specs.List.{FoldsTo}
use Rattle.std.specs.Option.{MatchOption}
use Rattle.std.specs.declared.iter.Rev.{Rev}
use Rattle.std.specs.declared.ops.Range.{Range}
use Rattle.bank.specs.States.{weight, number}
use Rattle.bank.proofs.Digits.{weight_some}

-- the numbers of a range, from the back
abbrev pub back : Rev (Range ℕ) → Option ℕ → Rev (Range ℕ) → Type 0
back s r t =
    (t.iter.start ≡ s.iter.start)
    × MatchOption r ((s.iter.end - s.iter.start ≡ 0) × (t.iter.end ≡ s.iter.end))
    (λ x. (0 < s.iter.end - s.iter.start) × (x ≡ t.iter.end) × (s.iter.end ≡ t.iter.end + 1))

module _ (count code : ℕ → ℕ) (n : ℕ) where
  -- the number of all codes is that of the first k and what the others made, times the weight of part k
  abbrev pub Made : ℕ → ℕ → Type 0
  Made k a = number count code k + a * weight count k ≡ number count code n

  -- one part more
  made_more : (k a b : ℕ) → Made (suc k) a → b ≡ a * count k + code k → Made k b
  made_more k a b was is =
      let w = weight count k in
      let parts : b * w ≡ a * count k * w + code k * w = ap (λ x. x * w) is ∙ omega arith in
      let turned : a * count k * w ≡ a * (w * count k) = mul_assoc a (count k) w ∙ ap (λ x. a * x) (mul_comm (count k) w) in
      omega arith

  -- what is made so far is no larger than the number of all codes
  made_small : (k a : ℕ) → ((p : ℕ) → p < n → 1 ≤ count p) → k ≤ n → Made k a → a ≤ number count code n
  made_small k a some h was =
      let w = weight_some count k (λ p l. some p (omega arith)) in
      let grows = mul-le a 1 a (weight count k) (omega arith) w in
      omega arith

  module _ {F : Type 0} (R : F × ℕ → ℕ → F × ℕ → Type 0) (f : F) (turn : (k a : ℕ) (q : F × ℕ) → R (f, a) k q → (q.0 ≡ f) × (q.1 ≡ a * count k + code k)) where
    -- the turns over the parts from the last back
    made_back : (xs : List ℕ) (s t : Rev (Range ℕ)) (p q : F × ℕ) → s.iter.start ≡ 0 → p.0 ≡ f → Made s.iter.end p.1 → Yields back s xs t → FoldsTo R p xs q
        → (t.iter.start ≡ 0) × (q.0 ≡ f) × Made t.iter.end q.1 × (t.iter.end ≤ s.iter.end)
    made_back [] s t p q z e m y c =
        let at : s.iter.end ≡ t.iter.end = ap (λ (r : Rev (Range ℕ)). r.iter.end) y in (
          sym (ap (λ (r : Rev (Range ℕ)). r.iter.start) y) ∙ z,
          sym (ap (λ (r : F × ℕ). r.0) c) ∙ e,
          subst (λ k. Made k q.1) at (subst (λ (r : F × ℕ). Made s.iter.end r.1) c m),
          omega arith,
        )
    made_back (x ∷ xs) s t p q z e m y c =
        let d = turn x p.1 c.0 (subst (λ g. R (g, p.1) x c.0) e c.1) in
        let down : s.iter.end ≡ suc x = omega (arith, y.1.1) in
        let here : y.0.iter.end ≡ x = omega (arith, y.1.1) in
        let made = made_more x p.1 c.0.1 (subst (λ k. Made k p.1) down m) d.1 in
        let rest = made_back xs y.0 t c.0 q (y.1.0 ∙ z) d.0 (subst (λ k. Made k c.0.1) (sym here) made) y.2 c.2 in
        (rest.0, rest.1, rest.2, omega (arith, rest.3))

    module _ (xs : List ℕ) (s t u : Rev (Range ℕ)) (q : F × ℕ) (first : s.iter ≡ record { start = 0; end = n }) (y : Yields back s xs t) (c : FoldsTo R (f, 0) xs q) where
      so_far : (t.iter.start ≡ 0) × (q.0 ≡ f) × Made t.iter.end q.1 × (t.iter.end ≤ s.iter.end)
      so_far =
          let end : s.iter.end ≡ n = ap (λ (r : Range ℕ). r.end) first in
          made_back xs s t (f, 0) q (ap (λ (r : Range ℕ). r.start) first) refl (omega (arith, ap (number count code) end)) y c

      -- after the turns over all parts
      pub made_all : back t None u → q.1 ≡ number count code n
      made_all e =
          let far = so_far in
          let none : t.iter.end ≡ 0 = omega (arith, far.0, e.1.0) in
          let made = subst (λ k. Made k q.1) none far.2 in
          omega (arith, made)

      -- a turn makes no more than the number of all codes
      pub made_room : ((p : ℕ) → p < n → 1 ≤ count p) → (x : ℕ) → back t (Some x) u → (q.0 ≡ f) × (x < n) × (q.1 * count x + code x ≤ number count code n)
      made_room some x e =
          let far = so_far in
          let end : s.iter.end ≡ n = ap (λ (r : Range ℕ). r.end) first in
          let here : t.iter.end ≡ suc x = omega (arith, e.1) in
          let below : suc x ≤ n = omega (arith, far.3) in
          (far.1, below, made_small x (q.1 * count x + code x) some (omega arith) (made_more x q.1 (q.1 * count x + code x) (subst (λ k. Made k q.1) here far.2) refl))
