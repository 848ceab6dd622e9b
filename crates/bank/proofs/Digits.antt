-- State numbers: encoding and decoding, one digit at a time.
use Rattle.std.proofs.Common.{◌≡◌, ℕ, zero, suc, ◌+◌, ◌*◌, ◌/◌, ◌%◌, ◌<◌, ◌≤◌, sym, refl, ap, ◌∙◌, subst, inl, inr, mod-eq_of_lt, mul_assoc, mul_comm, arith}
use Rattle.std.proofs.Math.Nat.{add-mul-div_left, mul-add-mod_self_left, div-div-eq-div-mul, dvd-mul_right, one-le-mul}
use Rattle.std.proofs.Math.Arith.{mod-mul}
use Rattle.std.proofs.lemmas.Nat.{mul-add-lt, div-mul-add, mod_below}
use Rattle.std.proofs.lemmas.Nat.Gcd.{le_of_dvd}
use Rattle.std.proofs.lemmas.Bool.{cases_lt}
use Rattle.bank.specs.States.{weight, number, digit}

module _ (count : ℕ → ℕ) where
  -- with a code in each part there is a state
  pub weight_some : (k : ℕ) → ((p : ℕ) → p < k → 1 ≤ count p) → 1 ≤ weight count k
  weight_some zero some = omega arith
  weight_some (suc k) some = one-le-mul (weight_some k (λ p h. some p (omega arith))) (some k (omega arith))

  -- the weight of a part divides that of each later one
  divides : (p k : ℕ) → p ≤ k → (m : ℕ) × (weight count k ≡ weight count p * m)
  divides p zero h = (1, grind arith)
  divides p (suc k) h =
      elim (cases_lt p (suc k)) [
        | inl l ↦
            let d = divides p k (omega arith) in
            (d.0 * count k, ap (λ n. n * count k) d.1 ∙ mul_assoc (weight count p) d.0 (count k))
        | inr l ↦
            let same : suc k ≡ p = omega arith in
            (1, omega (arith, ap (weight count) same))
      ]

  -- and is no larger
  pub weight_grows : (p k : ℕ) → p ≤ k → ((q : ℕ) → q < k → 1 ≤ count q) → weight count p ≤ weight count k
  weight_grows p k h some =
      let d = divides p k h in
      le_of_dvd (weight_some k some) (rw d.1 (dvd-mul_right (weight count p) d.0))

  -- codes within their counts make a number below the product
  pub number_below : (code : ℕ → ℕ) (k : ℕ) → ((p : ℕ) → p < k → code p < count p) → number count code k < weight count k
  number_below code zero within = omega arith
  number_below code (suc k) within =
      omega (arith, mul-add-lt (code k) (weight count k) (number count code k) (count k) (within k (omega arith)) (number_below code k (λ p h. within p (omega arith))))

  -- equal codes make equal numbers
  pub number_same : (code other : ℕ → ℕ) (k : ℕ) → ((p : ℕ) → p < k → code p ≡ other p) → number count code k ≡ number count other k
  number_same code other zero same = refl
  number_same code other (suc k) same =
      let below = number_same code other k (λ p h. same p (omega arith)) in
      let here = same k (omega arith) in
      grind arith

  -- decoding inverts encoding
  pub digit_number : (code : ℕ → ℕ) (k : ℕ) → ((p : ℕ) → p < k → code p < count p) → (p : ℕ) → p < k → digit count (number count code k) p ≡ code p
  digit_number code zero within p h = absurd (omega arith)
  digit_number code (suc k) within p h =
      elim (cases_lt p k) [
        | inl l ↦
            let w = weight count p in
            let q = count p in
            let x = number count code k in
            let d = divides (suc p) k (omega arith) in
            let m = code k * d.0 in
            let some : 0 < w = weight_some p (λ r g. let i = within r (omega arith) in omega arith) in
            let higher : code k * weight count k ≡ w * (q * m) =
            ap (λ n. code k * n) d.1 ∙ sym (mul_assoc (code k) (w * q) d.0) ∙ ap (λ n. n * d.0) (mul_comm (code k) (w * q))
            ∙ mul_assoc (w * q) (code k) d.0 ∙ mul_assoc w q m in
            let whole : number count code (suc k) ≡ x + w * (q * m) = ap (λ n. x + n) higher in
            let rest : number count code (suc k) / w ≡ q * m + x / w =
            ap (λ n. n / w) whole ∙ add-mul-div_left x (q * m) some ∙ omega arith in
            ap (λ n. n % q) rest ∙ mul-add-mod_self_left q m (x / w) ∙ digit_number code k (λ r g. within r (omega arith)) p l
        | inr l ↦
            let same : p ≡ k = omega arith in
            let w = weight count k in
            let below = number_below code k (λ r g. within r (omega arith)) in
            let order : number count code (suc k) ≡ code k * w + number count code k = omega arith in
            let quotient : number count code (suc k) / w ≡ code k = ap (λ n. n / w) order ∙ div-mul-add (code k) w (number count code k) below in
            let here : digit count (number count code (suc k)) k ≡ code k =
            ap (λ n. n % count k) quotient ∙ mod-eq_of_lt (within k (omega arith)) in
            subst (λ r. digit count (number count code (suc k)) r ≡ code r) (sym same) here
      ]

  -- the digits of a number make it again, up to the product
  number_mod : (s k : ℕ) → ((p : ℕ) → p < k → 1 ≤ count p) → number count (digit count s) k ≡ s % weight count k
  number_mod s zero some = omega arith
  number_mod s (suc k) some =
      let w = weight count k in
      let below = number_mod s k (λ p h. some p (omega arith)) in
      let split = mod-mul s {m = count k} {c = w} (some k (omega arith)) (weight_some k (λ p h. some p (omega arith))) in
      let turned = ap (λ n. s % n) (mul_comm w (count k)) in
      omega arith

  -- encoding inverts decoding
  pub number_digit : (s k : ℕ) → ((p : ℕ) → p < k → 1 ≤ count p) → s < weight count k → number count (digit count s) k ≡ s
  number_digit s k some h = number_mod s k some ∙ mod-eq_of_lt h

  -- a digit is a code of its part
  pub digit_below : (s p : ℕ) → 1 ≤ count p → digit count s p < count p
  digit_below s p h = mod_below (s / weight count p) (count p) h

  -- states that agree in every part are one
  pub digits_same : (s t k : ℕ) → ((p : ℕ) → p < k → 1 ≤ count p) → s < weight count k → t < weight count k
      → ((p : ℕ) → p < k → digit count s p ≡ digit count t p) → s ≡ t
  digits_same s t k some hs ht same =
      sym (number_digit s k some hs) ∙ number_same (digit count s) (digit count t) k same ∙ number_digit t k some ht

  -- what is left of a state number past one part more
  pub rest_more : (s p : ℕ) → s / weight count p / count p ≡ s / weight count (suc p)
  rest_more s p = div-div-eq-div-mul s (weight count p) (count p)

  -- another code in one part changes the number by the difference of the codes, times the part's weight
  pub number_one : (code other : ℕ → ℕ) (k p : ℕ) → p < k → ((q : ℕ) → q < k → (q ≡ p → ⊥) → other q ≡ code q)
      → number count other k + code p * weight count p ≡ number count code k + other p * weight count p
  number_one code other zero p h same = absurd (omega arith)
  number_one code other (suc k) p h same =
      elim (cases_lt p k) [
        | inl l ↦
            let below = number_one code other k p l (λ q g. same q (omega arith)) in
            let here = same k (omega arith) (λ e. omega arith) in
            grind arith
        | inr l ↦
            let below = number_same other code k (λ q g. same q (omega arith) (λ e. omega arith)) in
            grind arith
      ]
