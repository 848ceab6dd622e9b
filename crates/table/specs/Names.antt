-- Which parts a rule names, judged by the kinds of the parts that are there.
--   is_of      whether a part is there and of a kind
--   names_ok   whether a rule names rails and clocks that are there, and no rail twice
--   Names      the same, as a fact
use Rattle.std.specs.Prelude.{◌≡◌, ℕ, Bool, true, false, not, ◌&&◌, Option, Some, None, ◌==◌, ◌≢◌}
use Rattle.device.specs.declared.kind.Kind.{Kind}
use Rattle.device.specs.declared.kind.Kind.TheVariants.{Rail, Clock}
use Rattle.table.specs.declared.rule.Rule.{Rule}
use Rattle.table.specs.declared.rule.Rule.TheVariants.{Window, Spread, Step, Need, Cap}

-- a rail that is there
abbrev pub is_rail : Option Kind → Bool
is_rail (Some Rail) = true
is_rail (Some Clock) = false
is_rail None = false

-- a clock that is there
abbrev pub is_clock : Option Kind → Bool
is_clock (Some Rail) = false
is_clock (Some Clock) = true
is_clock None = false

-- a part that is there, of this kind
abbrev pub is_of : Kind → Option Kind → Bool
is_of Rail k = is_rail k
is_of Clock k = is_clock k

-- whether a rule names rails and clocks that are there, and no rail twice
abbrev pub names_ok : (ℕ → Option Kind) → Rule → Bool
names_ok kind (Window rail floor ceiling) = is_rail (kind rail)
names_ok kind (Spread rail other most) = is_rail (kind rail) && (is_rail (kind other) && not (rail == other))
names_ok kind (Step rail most) = is_rail (kind rail)
names_ok kind (Need clock above rail least) = is_clock (kind clock) && is_rail (kind rail)
names_ok kind (Cap clock most) = is_clock (kind clock)

-- a rule names rails and clocks that are there, and a spread two different rails
abbrev pub Names : (ℕ → Option Kind) → Rule → Type 0
Names kind (Window rail floor ceiling) = kind rail ≡ Some Rail
Names kind (Spread rail other most) = (kind rail ≡ Some Rail) × (kind other ≡ Some Rail) × (rail ≢ other)
Names kind (Step rail most) = kind rail ≡ Some Rail
Names kind (Need clock above rail least) = (kind clock ≡ Some Clock) × (kind rail ≡ Some Rail)
Names kind (Cap clock most) = kind clock ≡ Some Clock
