-- What a whole table lists, and when its records make the table of a board.
--   Lists     the parts and the rules of a table, each in order
--   product   the product of the parts' counts
--   kind_at   the kind of a part by its number
--   admit     a record taken in, or the reason why not
--   listing   what the bytes of a table list, or why and where it is sent back
--   Fits      records that make the table of a board
use Rattle.std.specs.Prelude.{ℕ, ◌*◌, ◌≤◌, cond, ◌&&◌, List, [], ◌∷◌, ◌++◌, length, Option, Ok, Err, Result, ◌==◌, nat_le, nat_lt}
use Rattle.std.specs.List.{slice_get}
use Rattle.std.specs.Option.{option_map}
use Rattle.answer.specs.declared.refusal.Refusal.{Refusal}
use Rattle.answer.specs.declared.refusal.Refusal.TheVariants.{TooMany, WrongPart, NoPart}
use Rattle.device.specs.Figures.{Figures, kind_of, codes_of}
use Rattle.device.specs.declared.kind.Kind.{Kind}
use Rattle.table.specs.Names.{names_ok, Names}
use Rattle.table.specs.Records.{Rec, part, rule}
use Rattle.table.specs.Reading.{Verdict, accepted, sent_back, walk}
use Rattle.table.specs.declared.rule.Rule.{Rule}

-- the parts and the rules that a table lists
pub record Lists : Type 0 where
  pub parts : List Figures
  pub rules : List Rule

-- the product of the parts' counts: the number of states
abbrev pub product : List Figures → ℕ
product [] = 1
product (f ∷ fs) = codes_of f * product fs

-- the kind of the part of this number, none of an absent one
abbrev pub kind_at : List Figures → ℕ → Option Kind
kind_at fs p = option_map kind_of (slice_get fs p)

-- one part more: at most six, and at most 4,096 states
abbrev pub admit_part : Lists → Figures → Result Lists Refusal
admit_part l f =
    cond (nat_lt (length l.parts) 6 && nat_le (product l.parts * codes_of f) 4096)
    (Ok (record { parts = l.parts ++ f ∷ []; rules = l.rules })) (Err TooMany)

-- one rule more: at most 24, and it names parts of earlier records
abbrev pub admit_rule : Lists → Rule → Result Lists Refusal
admit_rule l r =
    cond (nat_lt (length l.rules) 24)
    (cond (names_ok (kind_at l.parts) r) (Ok (record { parts = l.parts; rules = l.rules ++ r ∷ [] })) (Err WrongPart))
    (Err TooMany)

-- a record taken in, or the reason why not
abbrev pub admit : Lists → Rec → Result Lists Refusal
admit l (part f) = admit_part l f
admit l (rule r) = admit_rule l r

-- nothing listed yet
abbrev pub nothing : Lists
nothing = record { parts = []; rules = [] }

-- a table without a part is sent back at its end, with the number of its records
abbrev pub closed : Verdict Lists → Verdict Lists
closed (accepted n l) = cond (length l.parts == 0) (sent_back NoPart n) (accepted n l)
closed (sent_back why at) = sent_back why at

-- what the bytes of a table list, or why and at which record it is sent back
abbrev pub listing : List ℕ → Verdict Lists
listing bs = closed (walk admit 0 0 nothing bs)

-- the parts among some records
abbrev pub parts_of : List Rec → List Figures
parts_of [] = []
parts_of (part f ∷ rs) = f ∷ parts_of rs
parts_of (rule r ∷ rs) = parts_of rs

-- the rules among some records
abbrev pub rules_of : List Rec → List Rule
rules_of [] = []
rules_of (part f ∷ rs) = rules_of rs
rules_of (rule r ∷ rs) = r ∷ rules_of rs

-- each rule names parts of the records before it
abbrev pub NamesEarlier : List Figures → List Rec → Type 0
NamesEarlier seen [] = Unit {0}
NamesEarlier seen (part f ∷ rs) = NamesEarlier (seen ++ f ∷ []) rs
NamesEarlier seen (rule r ∷ rs) = Names (kind_at seen) r × NamesEarlier seen rs

-- records that make the table of a board
pub record Fits (rs : List Rec) : Type 0 where
  -- 1 to 6 parts, at most 24 rules, at most 4,096 states
  pub some : 1 ≤ length (parts_of rs)
  pub few : length (parts_of rs) ≤ 6
  pub ruled : length (rules_of rs) ≤ 24
  pub states : product (parts_of rs) ≤ 4096
  -- rules name parts of earlier records
  pub named : NamesEarlier [] rs
