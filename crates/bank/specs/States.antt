-- State numbers: the codes of all parts as one number, part 0 first.
--   weight   the product of the counts of all parts before one
--   number   the state number that some codes make
--   digit    the code of a part in a state number
--   counts   how many codes each part of a bank has
--   spans    the number of states of a bank by itself
use Rattle.std.specs.Prelude.{ℕ, zero, suc, ◌+◌, ◌*◌, ◌/◌, ◌%◌, cond, ◌&&◌, nat_le}
use Rattle.bank.specs.Banks.{BankModel}

-- the product of the counts of all parts before p
abbrev pub weight : (ℕ → ℕ) → ℕ → ℕ
weight count zero = 1
weight count (suc p) = weight count p * count p

-- the sum over the first k parts of code × weight
abbrev pub number : (ℕ → ℕ) → (ℕ → ℕ) → ℕ → ℕ
number count code zero = 0
number count code (suc k) = number count code k + code k * weight count k

-- the code of part p in state s
abbrev pub digit : (ℕ → ℕ) → ℕ → ℕ → ℕ
digit count s p = s / weight count p % count p

-- how many codes each part has
abbrev pub counts : BankModel → ℕ → ℕ
counts m p = (m.device p).count

-- the number of states of a bank: the product of its counts, or 0 with no part, a seventh, or more than 4,096 states
abbrev pub spans : BankModel → ℕ
spans m = cond (nat_le 1 m.parts && (nat_le m.parts 6 && nat_le (weight (counts m) m.parts) 4096)) (weight (counts m) m.parts) 0
