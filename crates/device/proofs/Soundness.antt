-- What every supplied device keeps follows from the range of its formula alone.
use Rattle.std.proofs.Common.{◌≡◌, ℕ, ◌*◌, ◌^◌, ◌<◌, ◌≤◌, true, not, ◌&&◌, eqb, ltb, length, ap, ◌∙◌, arith}
use Rattle.std.proofs.lemmas.Bool.{and_parts, ltb-true, le-ltb, eqb-false, not-true, cond_both, cond-false}
use Rattle.std.proofs.lemmas.Bool.Decides.{nat_tests}
use Rattle.device.specs.Device.{Sound, any_two}
use Rattle.device.specs.Figures.{Figures, linear, listed, divider, tree, codes_of, formula, linked_of, one_turn, device_of}

two_symmetric : (n a b : ℕ) → any_two n a b ≡ any_two n b a
two_symmetric n a b = grind (arith, nat_tests)

turn_symmetric : (k a b : ℕ) → one_turn k a b ≡ one_turn k b a
turn_symmetric k a b = grind (arith, nat_tests)

linked_symmetric : (f : Figures) (a b : ℕ) → linked_of f a b ≡ linked_of f b a
linked_symmetric (linear lowest step count) a b = two_symmetric count a b
linked_symmetric (listed levels) a b = two_symmetric (length levels) a b
linked_symmetric (divider parent count) a b = two_symmetric count a b
linked_symmetric (tree divisors parents) a b =
    ap (λ t. t && one_turn divisors a b) (two_symmetric (length parents * divisors) a b)
    ∙ ap (λ t. any_two (length parents * divisors) b a && t) (turn_symmetric divisors a b)

-- a link joins two different codes
linked_two : (f : Figures) (a b : ℕ) → linked_of f a b ≡ true → any_two (codes_of f) a b ≡ true
linked_two (linear lowest step count) a b h = h
linked_two (listed levels) a b h = h
linked_two (divider parent count) a b h = h
linked_two (tree divisors parents) a b h = (and_parts (any_two (length parents * divisors) a b) (one_turn divisors a b) h).0

two_from : (n a b : ℕ) → any_two n a b ≡ true → a < n
two_from n a b h = ltb-true a n (and_parts (ltb a n) (ltb b n && not (eqb a b)) h).0

two_to : (n a b : ℕ) → any_two n a b ≡ true → b < n
two_to n a b h = ltb-true b n (and_parts (ltb b n) (not (eqb a b)) (and_parts (ltb a n) (ltb b n && not (eqb a b)) h).1).0

two_different : (n a b : ℕ) → any_two n a b ≡ true → a ≡ b → ⊥
two_different n a b h =
    eqb-false a b (not-true (eqb a b) (and_parts (ltb b n) (not (eqb a b)) (and_parts (ltb a n) (ltb b n && not (eqb a b)) h).1).1)

-- levels in range at each code make a sound device
pub device_sound : (f : Figures) (code tally : ℕ)
    → 1 ≤ codes_of f → codes_of f ≤ 64
    → ((c : ℕ) → c < codes_of f → (1 ≤ formula f c) × (formula f c ≤ 5000000))
    → code < codes_of f → tally < 2 ^ 64
    → Sound (device_of f code tally)
device_sound f code tally some few range within counted = record {
  some = some;
  few = few;
  low = λ c h. cond_both (ltb c (codes_of f)) (formula f c) 0 (λ x. 1 ≤ x) (λ e. (range c h).0) (λ e. grind (arith, nat_tests));
  high = λ c. cond_both (ltb c (codes_of f)) (formula f c) 0 (λ x. x ≤ 5000000) (λ e. (range c (ltb-true c (codes_of f) e)).1) (λ e. omega arith);
  absent = λ c h. cond-false (ltb c (codes_of f)) (formula f c) 0 (le-ltb c (codes_of f) h);
  within = within;
  counted = counted;
  symmetric = linked_symmetric f;
  from_code = λ a b h. two_from (codes_of f) a b (linked_two f a b h);
  to_code = λ a b h. two_to (codes_of f) a b (linked_two f a b h);
  different = λ a b h. two_different (codes_of f) a b (linked_two f a b h);
}
