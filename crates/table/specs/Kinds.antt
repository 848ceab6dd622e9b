-- The kinds of records.
--   kind_number   the number of a kind: its one definition, case by case
--   known         the kind of a number, or none
--   Decodes       the kind of a number, or the refusal of a number that no kind has
--   body_ok       how many bytes a body of a kind can have
use Rattle.std.specs.Prelude.{◌≡◌, ℕ, ◌%◌, Bool, cond, ◌&&◌, List, [], ◌∷◌, Some, None, Option, Result, MatchResult, ◌==◌}
use Rattle.answer.specs.declared.refusal.Refusal.{Refusal}
use Rattle.answer.specs.declared.refusal.Refusal.TheVariants.{UnknownKind}
use Rattle.device.specs.Figures.{from_to}
use Rattle.table.specs.declared.kind.RecordKind.{RecordKind}
use Rattle.table.specs.declared.kind.RecordKind.TheVariants.{LinearRail, TableRail, DividerClock, TreeClock, Window, Spread, Step, Need, Cap}

-- the number by which a kind stands in a table
abbrev pub kind_number : RecordKind → ℕ
kind_number LinearRail = 1
kind_number TableRail = 2
kind_number DividerClock = 3
kind_number TreeClock = 4
kind_number Window = 5
kind_number Spread = 6
kind_number Step = 7
kind_number Need = 8
kind_number Cap = 9

-- the kinds, in the order of their numbers
abbrev pub all_kinds : List RecordKind
all_kinds = LinearRail ∷ TableRail ∷ DividerClock ∷ TreeClock ∷ Window ∷ Spread ∷ Step ∷ Need ∷ Cap ∷ []

-- the first of these kinds that has this number
abbrev pub numbered : List RecordKind → ℕ → Option RecordKind
numbered [] number = None
numbered (kind ∷ kinds) number = cond (kind_number kind == number) (Some kind) (numbered kinds number)

-- the kind that has this number, none where no kind has it
abbrev pub known : ℕ → Option RecordKind
known number = numbered all_kinds number

-- the kind that has this number, and a refusal where no kind has it
abbrev pub Decodes : ℕ → Result RecordKind Refusal → Type 0
Decodes number r = MatchResult r (λ kind. known number ≡ Some kind) (λ why. (known number ≡ None) × (why ≡ UnknownKind))

-- how many bytes a body has: a table rail 1 to 64 levels of four, a tree clock a byte and 1 to 8 parents of four
abbrev pub body_ok : RecordKind → ℕ → Bool
body_ok LinearRail n = n == 9
body_ok TableRail n = n % 4 == 0 && from_to 4 256 n
body_ok DividerClock n = n == 5
body_ok TreeClock n = n % 4 == 1 && from_to 5 33 n
body_ok Window n = n == 9
body_ok Spread n = n == 6
body_ok Step n = n == 5
body_ok Need n = n == 10
body_ok Cap n = n == 5
