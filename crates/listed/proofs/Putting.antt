-- A listed bank put on a state, part by part.
use Rattle.std.proofs.Common.{◌≡◌, ℕ, ◌+◌, ◌/◌, ◌%◌, ◌<◌, ◌≤◌, Bool, ◌&&◌, ltb, leb, List, length, get_or, set, sym, ap, ◌∙◌, subst, ap₂, inl, inr, add-one, arith}
use mathlib.Core.Path.{fun_ext}
use Rattle.std.proofs.lemmas.List.{length-set}
use Rattle.std.proofs.lemmas.Bool.{cases_eq, cases_Bool, cond-true, cond-false, lt-ltb}
use Rattle.device.specs.Device.{Device, set_on}
use Rattle.device.specs.Figures.{kind_of}
use Rattle.listing.specs.Parts.{part_figures, part_model}
use Rattle.listing.specs.declared.part.Part.{Part}
use Rattle.bank.specs.Banks.{BankModel, Sound}
use Rattle.bank.specs.States.{weight, number, digit, counts, spans}
use Rattle.bank.proofs.Digits.{number_same, number_digit, digit_below, rest_more}
use Rattle.listed.specs.Listing.{bank_from, Put, SetTo}
use Rattle.listed.proofs.Changed.{device_other, kinds_stay, device_before, device_after}

-- the first k parts are put on their codes of state s, the others are as they were, and this much of s is left
pub record Putting (ps : List Part) (s k : ℕ) (qs : List Part) (rest : ℕ) : Type 0 where
  pub long : length qs ≡ length ps
  pub left : rest ≡ s / weight (counts (bank_from ps)) k
  pub kind : (q : ℕ) → (bank_from qs).kind q ≡ (bank_from ps).kind q
  pub done : (q : ℕ) → q < k → (bank_from qs).device q ≡ set_on ((bank_from ps).device q) (digit (counts (bank_from ps)) s q)
  pub ahead : (q : ℕ) → k ≤ q → (bank_from qs).device q ≡ (bank_from ps).device q

-- one part more: x is the part before, y after
pub putting_more : (ps : List Part) (s k : ℕ) (qs : List Part) (rest c : ℕ) (x y : Part) → k < length qs → x ≡ get_or qs k x
    → c ≡ (part_model x).count → kind_of (part_figures y) ≡ kind_of (part_figures x) → part_model y ≡ set_on (part_model x) (rest % c)
    → Putting ps s k qs rest → Putting ps s (k + 1) (set qs k y) (rest / c)
putting_more ps s k qs rest c x y h is count kept put was =
    let count_of = counts (bank_from ps) in
    let old : (bank_from ps).device k ≡ part_model x = sym (was.ahead k (omega arith)) ∙ device_before qs k x y h is kept in
    let many : c ≡ count_of k = count ∙ sym (ap (λ (d : Device). d.count) old) in
    let digit_is : rest % c ≡ digit count_of s k = ap₂ (λ a b. a % b) was.left many in
    let here : (bank_from (set qs k y)).device k ≡ set_on ((bank_from ps).device k) (digit count_of s k) =
    device_after qs k x y h is kept ∙ put ∙ ap₂ set_on (sym old) digit_is in
    record {
      long = length-set qs k y ∙ was.long;
      left = ap₂ (λ a b. a / b) was.left many ∙ rest_more count_of s k ∙ ap (λ i. s / weight count_of i) (sym (add-one k));
      kind = λ q. kinds_stay qs k x y h is kept q ∙ was.kind q;
      done = λ q l. elim (cases_eq q k) [
        | inl e ↦ subst (λ r. (bank_from (set qs k y)).device r ≡ set_on ((bank_from ps).device r) (digit count_of s r)) (sym e) here
        | inr ne ↦ device_other qs k q y ne ∙ was.done q (omega (arith, ne))
      ];
      ahead = λ q l. device_other qs k q y (λ e. omega arith) ∙ was.ahead q (omega arith);
    }

-- a bank with states has the product of its counts
spans_product : (m : BankModel) (s : ℕ) → s < spans m → spans m ≡ weight (counts m) m.parts
spans_product m s h =
    elim (cases_Bool within) [
      | inl e ↦ cond-true within (weight (counts m) m.parts) 0 e
      | inr e ↦ absurd (omega (arith, cond-false within (weight (counts m) m.parts) 0 e))
    ]
  where
    within : Bool
    within = leb 1 m.parts && (leb m.parts 6 && leb (weight (counts m) m.parts) 4096)

-- a state of the bank is made again by its codes
pub set_to : (m n : BankModel) (s : ℕ) → Sound m → s < spans m → Put m s n → SetTo m s n
set_to m n s sound h put = record {
  there = h;
  put = put;
  state = ap₂ (λ (f : ℕ → ℕ) (k : ℕ). number f (λ q. (n.device q).code) k) same_counts put.parts
      ∙ number_same (counts m) (λ q. (n.device q).code) (digit (counts m) s) m.parts code_is
      ∙ number_digit (counts m) s m.parts some (omega (arith, spans_product m s h));
}
  where
    some : (p : ℕ) → p < m.parts → 1 ≤ counts m p
    some p l = (sound.sound p l).some

    same_counts : counts n ≡ counts m
    same_counts = fun_ext (λ q. ap (λ (d : Device). d.count) (put.device q))

    code_is : (p : ℕ) → p < m.parts → (n.device p).code ≡ digit (counts m) s p
    code_is p l =
        let d = digit (counts m) s p in
        ap (λ (v : Device). v.code) (put.device p)
        ∙ cond-true (ltb d (counts m p)) d (m.device p).code (lt-ltb d (counts m p) (digit_below (counts m) s p (some p l)))
