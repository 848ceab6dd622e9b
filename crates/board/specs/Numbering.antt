-- The numbers of a board's states.
use Rattle.std.specs.Prelude.{◌≡◌, ℕ, zero, suc, ◌+◌, ◌/◌, ◌<◌, ◌≤◌, List, nat_lt}
use Rattle.std.specs.List.{fold, range_with_len}
use Rattle.std.proofs.Common.{refl, add-zero, zero-add, sym, ap, ap₂, ◌∙◌, arith, add-one}
use Rattle.std.proofs.lemmas.Bool.{cond-true, lt-ltb}
use Rattle.table.specs.declared.rule.Rule.{Rule}
use Rattle.bank.specs.Banks.{BankModel, Sound}
use Rattle.bank.specs.States.{weight, number, digit, counts}
use Rattle.bank.proofs.Digits.{weight_grows, number_below, number_same, number_digit, digit_number, digit_below, rest_more}
use Rattle.board.specs.Boards.{Numbered, Decoded}
use Rattle.board.specs.Layouts.{Layout, layout_of, code_at, present_codes, encoded, state_by, present}
use Rattle.board.specs.Verdicts.{Flawless, flawless, states_are}

-- the code of a part that is there
pub code_there : (l : Layout) (s p : ℕ) → p < l.parts → code_at l s p ≡ digit l.count s p
code_there l s p h = cond-true (nat_lt p l.parts) (digit l.count s p) 0 (lt-ltb p l.parts h)

-- with no defect the present state is the number of the present codes
pub present_is : (m : BankModel) (rules : List Rule) → Flawless (layout_of m rules) → present m rules ≡ encoded m
present_is m rules w = ap (λ v. state_by v (encoded m)) w.verdict

module _ (m : BankModel) (sound : Sound m) where
  pub some_codes : (p : ℕ) → p < m.parts → 1 ≤ counts m p
  some_codes p h = (sound.sound p h).some

  codes_within : (p : ℕ) → p < m.parts → (m.device p).code < counts m p
  codes_within p h = (sound.sound p h).within

  -- on a board with few enough states the weights and the numbers of the first k codes are as small
  pub small : (k : ℕ) → k ≤ m.parts → weight (counts m) m.parts ≤ 4096 → (weight (counts m) k ≤ 4096) × (number (counts m) (present_codes m) k < 4096)
  small k h few =
      let grows = weight_grows (counts m) k m.parts h some_codes in
      let below = number_below (counts m) (present_codes m) k (λ p l. codes_within p (omega arith)) in
      (omega arith, omega arith)

  module _ (rules : List Rule) where
    -- the number of the present codes decodes to them
    pub numbered : (s : ℕ) → Flawless (layout_of m rules) → s ≡ number (counts m) (λ p. (m.device p).code) m.parts → Numbered m rules s
    numbered s w e some =
        let below = number_below (counts m) (present_codes m) m.parts codes_within in (
          omega (arith, states_are (layout_of m rules) w),
          λ p h. code_there (layout_of m rules) s p h ∙ ap (λ n. digit (counts m) n p) e ∙ digit_number (counts m) (present_codes m) m.parts codes_within p h,
        )

    -- and so does the present state
    pub present_numbered : Numbered m rules (present m rules)
    present_numbered some = let w = flawless (layout_of m rules) some in numbered (present m rules) w (present_is m rules w) some

    -- the codes of a state make it again
    pub decoded : (s : ℕ) → Decoded (layout_of m rules) s
    decoded s h =
        let l = layout_of m rules in
        let w = flawless l (omega arith) in
        let is = states_are l w in (
          (λ p g. let e = code_there l s p g in let b = digit_below (counts m) s p (some_codes p g) in omega arith),
          number_same (counts m) (code_at l s) (digit (counts m) s) m.parts (code_there l s) ∙ number_digit (counts m) s m.parts some_codes (omega arith),
        )

-- what is left of a state number past one part more
pub rest_next : (count : ℕ → ℕ) (s p rest c : ℕ) → rest ≡ s / weight count p → c ≡ count p → rest / c ≡ s / weight count (p + 1)
rest_next count s p rest c e f = ap₂ (λ a b. a / b) e f ∙ rest_more count s p ∙ ap (λ k. s / weight count k) (sym (add-one p))

-- what is left past k parts, divided by the counts of n more
rest_from : (count : ℕ → ℕ) (s k n : ℕ) → fold (λ rest p. rest / count p) (s / weight count k) (range_with_len k n) ≡ s / weight count (k + n)
rest_from count s k zero = ap (λ i. s / weight count i) (sym (add-zero k))
rest_from count s k (suc n) =
    let same : k + 1 + n ≡ k + suc n = omega arith in
    ap (λ rest. fold (λ rest p. rest / count p) rest (range_with_len (k + 1) n)) (rest_next count s k (s / weight count k) (count k) refl refl)
    ∙ rest_from count s (k + 1) n ∙ ap (λ i. s / weight count i) same

-- what is left past all parts before p
pub rest_past : (count : ℕ → ℕ) (s p : ℕ) → fold (λ rest q. rest / count q) s (range_with_len 0 p) ≡ s / weight count p
rest_past count s p =
    let whole : s ≡ s / 1 = omega arith in
    ap (λ rest. fold (λ rest q. rest / count q) rest (range_with_len 0 p)) whole ∙ rest_from count s 0 p ∙ ap (λ i. s / weight count i) (zero-add p)
