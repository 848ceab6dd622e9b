-- The outcomes that a bench can give to writes.
--   outcome_number   the number of an outcome
--   Numbered         the outcome of a number, or the fault of a number that no outcome has
--   Below            what an outcome asks of the bank below, and what is answered
--   next             the outcome of the next write
--   Used             what one write does with the outcomes and with the bank below
use Rattle.std.specs.Prelude.{◌≡◌, ℕ, ◌<◌, true, false, List, [], ◌∷◌, drop, Result, MatchResult}
use Rattle.answer.specs.Faults.{table_fault}
use Rattle.answer.specs.declared.fault.Fault.{Fault}
use Rattle.answer.specs.declared.refusal.Refusal.TheVariants.{OutOfRange}
use Rattle.device.specs.declared.answers.Answer.{Answer}
use Rattle.device.specs.declared.answers.Answer.TheVariants.{Done, Balked, Unsure, NoSuchWrite}
use Rattle.bank.specs.Banks.{BankModel, Written}
use Rattle.faults.specs.declared.outcome.Outcome.{Outcome}
use Rattle.faults.specs.declared.outcome.Outcome.TheVariants.{Pass, Balk, Lose, Doubt}

-- the number of an outcome
abbrev pub outcome_number : Outcome → ℕ
outcome_number Pass = 0
outcome_number Balk = 1
outcome_number Lose = 2
outcome_number Doubt = 3

-- the outcome that has this number, or 4 for a number above 3
abbrev pub Numbered : ℕ → Result Outcome Fault → Type 0
Numbered number r = MatchResult r (λ o. outcome_number o ≡ number) (λ f. (3 < number) × (f ≡ table_fault OutOfRange 0))

-- 'done' told as 'unsure'
abbrev pub doubted : Answer → Answer
doubted Done = Unsure
doubted Balked = Balked
doubted Unsure = Unsure
doubted NoSuchWrite = NoSuchWrite

-- what is asked of the bank below, which turns from m into n, and what is answered
abbrev pub Below : Outcome → BankModel → ℕ → ℕ → Answer → BankModel → Type 0
Below Pass m p c a n = Written m p c a n
Below Balk m p c a n = (a ≡ Balked) × (n ≡ m)
Below Lose m p c a n = (a ≡ Unsure) × (n ≡ m)
Below Doubt m p c a n = (b : Answer) × Written m p c b n × (a ≡ doubted b)

-- the outcome of the next write: the first that is left, else the write passes
abbrev pub next : List Outcome → Outcome
next [] = Pass
next (o ∷ os) = o

-- a write of code c to part p: over a bank m with these outcomes left it is answered a, and leaves n and those outcomes
pub record Used (m : BankModel) (os : List Outcome) (p c : ℕ) (a : Answer) (n : BankModel) (left : List Outcome) : Type 0 where
  -- where there is no such write, no outcome is used and nothing is asked below
  pub none : (m.device p).linked (m.device p).code c ≡ false → (a ≡ NoSuchWrite) × (n ≡ m) × (left ≡ os)
  -- otherwise one outcome is used, and it says what is asked
  pub one : (m.device p).linked (m.device p).code c ≡ true → Below (next os) m p c a n × (left ≡ drop 1 os)
