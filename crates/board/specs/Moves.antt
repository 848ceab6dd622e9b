-- Where a write leaves a board.
--   Lands      the state after a write between two joined states, by the answer
--   OneDigit   a write changes the state number in just the digit of its part
--   Moved      a write between joined states leaves the board at one of the two, and so lawful
use Rattle.std.specs.Prelude.{◌≡◌, ℕ, ◌+◌, ◌*◌, ◌<◌, ◌⊎◌, List, ◌≢◌}
use Rattle.device.specs.declared.answers.Answer.{Answer}
use Rattle.device.specs.declared.answers.Answer.TheVariants.{Done, Balked, Unsure, NoSuchWrite}
use Rattle.table.specs.declared.rule.Rule.{Rule}
use Rattle.bank.specs.Banks.{BankModel}
use Rattle.bank.specs.States.{weight, counts}
use Rattle.board.specs.Layouts.{layout_of, states_of, code_at, present}
use Rattle.board.specs.Lawfulness.{Lawful}
use Rattle.board.specs.Joining.{JoinedBy}

-- from s on the way to t the board is now at u: 'done' says at t, 'balked' at s, 'unsure' at either; the write exists
abbrev pub Lands : Answer → ℕ → ℕ → ℕ → Type 0
Lands Done s t u = u ≡ t
Lands Balked s t u = u ≡ s
Lands Unsure s t u = (u ≡ s) ⊎ (u ≡ t)
Lands NoSuchWrite s t u = ⊥

-- a write of code c to part p turned bank m into n and was answered a: wherever it leads from the present state to a
-- joined one, the board lands on one of the two by the answer, and stands lawful
abbrev pub Moved : BankModel → List Rule → ℕ → ℕ → Answer → BankModel → Type 0
Moved m rules p c a n =
    (t : ℕ) → JoinedBy (layout_of m rules) (present m rules) t p → code_at (layout_of m rules) t p ≡ c
    → Lands a (present m rules) t (present n rules) × Lawful (layout_of n rules) (present n rules)

-- a write to part p turned bank m into n: the state number changed in just that part's digit, by the difference of the
-- codes times the part's weight
abbrev pub OneDigit : BankModel → List Rule → ℕ → BankModel → Type 0
OneDigit m rules p n =
    p < m.parts → 0 < states_of (layout_of m rules)
    → (present n rules + (m.device p).code * weight (counts m) p ≡ present m rules + (n.device p).code * weight (counts m) p)
    × ((q : ℕ) → q < m.parts → (q ≢ p) → code_at (layout_of n rules) (present n rules) q ≡ code_at (layout_of m rules) (present m rules) q)
