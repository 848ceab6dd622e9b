-- Where two states differ, part by part.
use Rattle.std.specs.Prelude.{◌≡◌, ℕ, zero, suc, ◌+◌, ◌/◌, ◌%◌, ◌<◌, ◌≤◌, Bool, true, false, cond, ◌==◌, ◌≢◌}
use Rattle.std.proofs.Math.Path.{refl, subst}
use Rattle.std.proofs.Common.{sym, ap, ap₂, ◌∙◌, add-one}
use Rattle.std.proofs.Math.Logic.{inl, inr}
use native.Mathlib.Omega.{arith}
use Rattle.std.proofs.lemmas.Bool.{cases_lt, eqb-true, eqb-false, eq-eqb, ne_eqb, cond-true, cond-false, cond_both}
use Rattle.std.proofs.lemmas.Bool.Decides.{nat_tests as tells_tests}
use Rattle.bank.specs.States.{weight, digit}
use Rattle.board.specs.Joining.{beside, change}
use Rattle.board.specs.declared.change.Change.{Change}
use Rattle.board.specs.declared.change.Change.TheVariants.{Same, Only, Several}

module _ (count : ℕ → ℕ) (s t : ℕ) where
  -- one part more, from what is left of the two numbers
  pub change_more : (k a b c : ℕ) (was now : Change) → a ≡ s / weight count k → b ≡ t / weight count k → c ≡ count k
      → was ≡ change count s t k → now ≡ cond (a % c == b % c) was (beside was k) → now ≡ change count s t (k + 1)
  change_more k a b c was now ea eb ec ew en =
      let da : a % c ≡ digit count s k = ap₂ (λ x y. x % y) ea ec in
      let db : b % c ≡ digit count t k = ap₂ (λ x y. x % y) eb ec in
      en ∙ ap₂ (λ x y. cond (x == y) was (beside was k)) da db
      ∙ ap (λ w. cond (digit count s k == digit count t k) w (beside w k)) ew
      ∙ ap (change count s t) (sym (add-one k))

  -- states that differ in more than one of the first parts do so in all
  pub several_stays : (k n : ℕ) → k ≤ n → change count s t k ≡ Several → change count s t n ≡ Several
  several_stays k zero h e =
      let none : k ≡ 0 = omega arith in
      ap (change count s t) (sym none) ∙ e
  several_stays k (suc n) h e =
      elim (cases_lt k (suc n)) [
        | inl l ↦
            let below = several_stays k n (omega arith) e in
            ap (λ w. cond (digit count s n == digit count t n) w (beside w n)) below
            ∙ cond_both (digit count s n == digit count t n) Several Several (λ c. c ≡ Several) (λ _. refl) (λ _. refl)
        | inr l ↦ let same : k ≡ suc n = omega arith in ap (change count s t) (sym same) ∙ e
      ]

  -- states that differ in none of the first k parts, and in just one of them
  abbrev pub Agree : ℕ → Type 0
  Agree k = (q : ℕ) → q < k → digit count s q ≡ digit count t q

  abbrev pub Just : ℕ → ℕ → Type 0
  Just k p = (p < k) × (digit count s p ≢ digit count t p) × ((q : ℕ) → q < k → (q ≢ p) → digit count s q ≡ digit count t q)

  -- what a change tells
  Tells : ℕ → Change → Type 0
  Tells k Same = Agree k
  Tells k (Only p) = Just k p
  Tells k Several = Unit {0}

  -- one part more in which they agree
  agree_more : (k : ℕ) → digit count s k ≡ digit count t k → Agree k → Agree (suc k)
  agree_more k e was q h =
      elim (cases_lt q k) [
        | inl l ↦ was q l
        | inr l ↦ let same : q ≡ k = omega arith in subst (λ p. digit count s p ≡ digit count t p) (sym same) e
      ]

  same_more : (k : ℕ) (w : Change) → digit count s k ≡ digit count t k → Tells k w → Tells (suc k) w
  unfolding Tells
  same_more k Same e was = agree_more k e was
  same_more k (Only p) e was = (
    omega (arith, was.0),
    was.1,
    λ q h ne. elim (cases_lt q k) [
      | inl l ↦ was.2 q l ne
      | inr l ↦ let same : q ≡ k = omega arith in subst (λ r. digit count s r ≡ digit count t r) (sym same) e
    ],
  )
  same_more k Several e was = tt

  other_more : (k : ℕ) (w : Change) → (digit count s k ≢ digit count t k) → Tells k w → Tells (suc k) (beside w k)
  unfolding Tells
  other_more k Same ne was = (omega arith, ne, λ q h off. was q (omega (arith, off)))
  other_more k (Only p) ne was = tt
  other_more k Several ne was = tt

  tells : (k : ℕ) → Tells k (change count s t k)
  unfolding Tells
  tells zero = λ q h. absurd (omega arith)
  tells (suc k) = go (tells k) (digit count s k == digit count t k) refl
    where
      go : Tells k (change count s t k) → (b : Bool) → (digit count s k == digit count t k) ≡ b → Tells (suc k) (cond b (change count s t k) (beside (change count s t k) k))
      go was true e = same_more k (change count s t k) (eqb-true (digit count s k) (digit count t k) e) was
      go was false e = other_more k (change count s t k) (eqb-false (digit count s k) (digit count t k) e) was

  -- states that differ in just one part
  pub just_one : (k p : ℕ) → change count s t k ≡ Only p → Just k p
  unfolding Tells
  just_one k p e = subst (Tells k) e (tells k)

  -- states that agree in all
  pub same_agree : (k : ℕ) → Agree k → change count s t k ≡ Same
  same_agree zero all = refl
  same_agree (suc k) all =
      cond-true (digit count s k == digit count t k) (change count s t k) (beside (change count s t k) k) (eq-eqb (digit count s k) (digit count t k) (all k (omega arith)))
      ∙ same_agree k (λ q h. all q (omega arith))

  pub one_change : (k p : ℕ) → Just k p → change count s t k ≡ Only p
  one_change zero p w = absurd (omega (arith, w.0))
  one_change (suc k) p w =
      elim (cases_lt p k) [
        | inl l ↦
            cond-true (digit count s k == digit count t k) (change count s t k) (beside (change count s t k) k)
            (eq-eqb (digit count s k) (digit count t k) (w.2 k (omega arith) (omega arith)))
            ∙ one_change k p (l, w.1, λ q h. w.2 q (omega arith))
        | inr l ↦
            let same : p ≡ k = omega (arith, w.0) in
            let ne : digit count s k ≡ digit count t k → ⊥ = λ e. w.1 (subst (λ r. digit count s r ≡ digit count t r) (sym same) e) in
            cond-false (digit count s k == digit count t k) (change count s t k) (beside (change count s t k) k) (ne_eqb (digit count s k) (digit count t k) ne)
            ∙ ap (λ c. beside c k) (same_agree k (λ q h. w.2 q (omega arith) (omega arith)))
            ∙ ap Only (sym same)
      ]

-- the other way round they differ in the same part
pub change_turned : (count : ℕ → ℕ) (s t k : ℕ) → change count s t k ≡ change count t s k
change_turned count s t zero = refl
change_turned count s t (suc k) =
    ap₂ (λ b c. cond b c (beside c k)) (eqb_turned (digit count s k) (digit count t k)) (change_turned count s t k)
  where
    eqb_turned : (a b : ℕ) → (a == b) ≡ (b == a)
    eqb_turned a b = grind (arith, tells_tests)
