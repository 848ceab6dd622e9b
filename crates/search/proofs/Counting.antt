-- Counting the numbers of a range that pass a test.
use Rattle.std.proofs.Common.{◌≡◌, ℕ, zero, suc, ◌+◌, Bool, true, false, cond, List, ◌∷◌, length, ap, add-zero, add-one, zero-add, arith}
use Rattle.std.specs.List.{filter, range_with_len}
use Rattle.search.specs.Graphs.{passing}

one_more : (b : Bool) (x : ℕ) (xs : List ℕ) → length (cond b (x ∷ xs) xs) ≡ cond b 1 0 + length xs
one_more true x xs = omega arith
one_more false x xs = omega arith

passing_from : (test : ℕ → Bool) (a n : ℕ) → passing test a + length (filter test (range_with_len a n)) ≡ passing test (a + n)
passing_from test a zero = omega (arith, ap (passing test) (add-zero a))
passing_from test a (suc n) =
    let here = one_more (test a) a (filter test (range_with_len (a + 1) n)) in
    let next = ap (passing test) (add-one a) in
    let same : a + 1 + n ≡ a + suc n = omega arith in
    omega (arith, passing_from test (a + 1) n, here, next, ap (passing test) same)

-- those below n
pub passing_range : (test : ℕ → Bool) (n : ℕ) → length (filter test (range_with_len 0 n)) ≡ passing test n
passing_range test n = omega (arith, passing_from test 0 n, ap (passing test) (zero-add n))
