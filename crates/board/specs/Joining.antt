-- Which two states one write joins.
--   change       the part in which two states differ, if it is just one
--   allows       whether a step rule allows a write to a part
--   adjacent     whether two states are one allowed write apart
--   are_joined   whether two states are joined: adjacent, and both lawful
--   Allows       a step rule allows the write
--   Joined       two states are joined
use Rattle.std.specs.Prelude.{◌≡◌, ℕ, zero, suc, ◌<◌, Bool, true, false, cond, ◌&&◌, ◌==◌, ◌≢◌, nat_le}
use Rattle.std.specs.List.{list_all, AllByRecursion}
use Rattle.table.specs.declared.rule.Rule.{Rule}
use Rattle.table.specs.declared.rule.Rule.TheVariants.{Window, Spread, Step, Need, Cap}
use Rattle.bank.specs.States.{digit}
use Rattle.board.specs.Layouts.{Layout, code_at, level_at}
use Rattle.board.specs.Lawfulness.{apart, is_lawful, Near, Lawful}
use Rattle.board.specs.declared.change.Change.{Change}
use Rattle.board.specs.declared.change.Change.TheVariants.{Same, Only, Several}

-- part p differs too
abbrev pub beside : Change → ℕ → Change
beside Same p = Only p
beside (Only q) p = Several
beside Several p = Several

-- in which of the first k parts two states differ
abbrev pub change : (ℕ → ℕ) → ℕ → ℕ → ℕ → Change
change count s t zero = Same
change count s t (suc k) = cond (digit count s k == digit count t k) (change count s t k) (beside (change count s t k) k)

-- whether a rule allows the write of part p that leads from s to t: a step bounds the difference of the levels
abbrev pub allows : Layout → ℕ → ℕ → ℕ → Rule → Bool
allows l s t p (Window rail floor ceiling) = true
allows l s t p (Spread rail other most) = true
allows l s t p (Step rail most) = cond (rail == p) (nat_le (apart (level_at l s p) (level_at l t p)) most) true
allows l s t p (Need clock above rail least) = true
allows l s t p (Cap clock most) = true

-- whether one allowed write leads from s to t, given where they differ
abbrev pub one_write : Layout → ℕ → ℕ → Change → Bool
one_write l s t Same = false
one_write l s t (Only p) = l.linked p (code_at l s p) (code_at l t p) && list_all (allows l s t p) l.rules
one_write l s t Several = false

-- whether two states are one allowed write apart
abbrev pub adjacent : Layout → ℕ → ℕ → Bool
adjacent l s t = one_write l s t (change l.count s t l.parts)

-- whether two states are joined: one allowed write apart, and both lawful
abbrev pub are_joined : Layout → ℕ → ℕ → Bool
are_joined l s t = adjacent l s t && (is_lawful l s && is_lawful l t)

-- a rule allows the write of part p that leads from s to t
abbrev pub Allows : Layout → ℕ → ℕ → ℕ → Rule → Type 0
Allows l s t p (Window rail floor ceiling) = Unit {0}
Allows l s t p (Spread rail other most) = Unit {0}
Allows l s t p (Step rail most) = rail ≡ p → Near most (level_at l s p) (level_at l t p)
Allows l s t p (Need clock above rail least) = Unit {0}
Allows l s t p (Cap clock most) = Unit {0}

-- states s and t are joined by a write of one part
pub record JoinedBy (l : Layout) (s t p : ℕ) : Type 0 where
  -- both are lawful
  pub from_lawful : Lawful l s
  pub to_lawful : Lawful l t
  -- they differ in part p and in no other
  pub here : p < l.parts
  pub differ : code_at l s p ≡ code_at l t p → ⊥
  pub alike : (q : ℕ) → q < l.parts → (q ≢ p) → code_at l s q ≡ code_at l t q
  -- its one-write relation joins the two codes, and each step rule on it allows the difference of the levels
  pub linked : l.linked p (code_at l s p) (code_at l t p) ≡ true
  pub steps : AllByRecursion (Allows l s t p) l.rules

-- states s and t are joined
abbrev pub Joined : Layout → ℕ → ℕ → Type 0
Joined l s t = (p : ℕ) × JoinedBy l s t p
