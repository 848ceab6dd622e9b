-- The records of a table, and their bytes.
--   Rec           a record: a part with its figures, or a rule
--   record_kind   its kind
--   body_of       the bytes of its body
--   encode        its bytes: length, kind, body
--   decode        the record that a body of a kind holds
--   figures_ok    every figure in its range
--   in_range      every figure in its range, and lists of a length that the kind has
use Rattle.std.specs.Prelude.{ℕ, ◌+◌, Bool, ◌&&◌, List, ◌++◌, length, drop, nat_le, nat_lt}
use Rattle.std.specs.List.{flat_map}
use Rattle.device.specs.Figures.{Figures, linear, listed, divider, tree, length_ok, ranged}
use Rattle.table.specs.Bytes.{field, le, words}
use Rattle.table.specs.Kinds.{kind_number}
use Rattle.table.specs.declared.kind.RecordKind.{RecordKind}
use Rattle.table.specs.declared.kind.RecordKind.TheVariants as kinds
use Rattle.table.specs.declared.rule.Rule.{Rule}
use Rattle.table.specs.declared.rule.Rule.TheVariants.{Window, Spread, Step, Need, Cap}

-- a record: a part with its figures, or a rule
pub data Rec : Type 0 where
  part : Figures → Rec
  rule : Rule → Rec

-- the kind of a record
abbrev pub record_kind : Rec → RecordKind
record_kind (part (linear lowest step count)) = kinds.LinearRail
record_kind (part (listed levels)) = kinds.TableRail
record_kind (part (divider parent count)) = kinds.DividerClock
record_kind (part (tree divisors parents)) = kinds.TreeClock
record_kind (rule (Window rail floor ceiling)) = kinds.Window
record_kind (rule (Spread rail other most)) = kinds.Spread
record_kind (rule (Step rail most)) = kinds.Step
record_kind (rule (Need clock above rail least)) = kinds.Need
record_kind (rule (Cap clock most)) = kinds.Cap

-- the body of a record: figures of four bytes, counts, divisors and part numbers of one
abbrev pub body_of : Rec → List ℕ
body_of (part (linear lowest step count)) = le 4 lowest ++ (le 4 step ++ le 1 count)
body_of (part (listed levels)) = flat_map (le 4) levels
body_of (part (divider parent count)) = le 4 parent ++ le 1 count
body_of (part (tree divisors parents)) = le 1 divisors ++ flat_map (le 4) parents
body_of (rule (Window rail floor ceiling)) = le 1 rail ++ (le 4 floor ++ le 4 ceiling)
body_of (rule (Spread rail other most)) = le 1 rail ++ (le 1 other ++ le 4 most)
body_of (rule (Step rail most)) = le 1 rail ++ le 4 most
body_of (rule (Need clock above rail least)) = le 1 clock ++ (le 4 above ++ (le 1 rail ++ le 4 least))
body_of (rule (Cap clock most)) = le 1 clock ++ le 4 most

-- the bytes of a record: a length that counts kind and body, the kind, the body
abbrev pub encode : Rec → List ℕ
encode r = le 2 (length (body_of r) + 2) ++ (le 2 (kind_number (record_kind r)) ++ body_of r)

-- the record that a body of this kind holds
abbrev pub decode : RecordKind → List ℕ → Rec
decode kinds.LinearRail b = part (linear (field b 0 4) (field b 4 4) (field b 8 1))
decode kinds.TableRail b = part (listed (words b))
decode kinds.DividerClock b = part (divider (field b 0 4) (field b 4 1))
decode kinds.TreeClock b = part (tree (field b 0 1) (words (drop 1 b)))
decode kinds.Window b = rule (Window (field b 0 1) (field b 1 4) (field b 5 4))
decode kinds.Spread b = rule (Spread (field b 0 1) (field b 1 1) (field b 2 4))
decode kinds.Step b = rule (Step (field b 0 1) (field b 1 4))
decode kinds.Need b = rule (Need (field b 0 1) (field b 1 4) (field b 5 1) (field b 6 4))
decode kinds.Cap b = rule (Cap (field b 0 1) (field b 1 4))

-- a rule's figure: 0 to 5,000,000
abbrev pub figure_ok : ℕ → Bool
figure_ok x = nat_le x 5000000

-- the figures of a rule, a window's floor not above its ceiling
abbrev pub rule_ok : Rule → Bool
rule_ok (Window rail floor ceiling) = nat_le floor ceiling && figure_ok ceiling
rule_ok (Spread rail other most) = figure_ok most
rule_ok (Step rail most) = figure_ok most
rule_ok (Need clock above rail least) = figure_ok above && figure_ok least
rule_ok (Cap clock most) = figure_ok most

-- every figure of a record in its range
abbrev pub figures_ok : Rec → Bool
figures_ok (part f) = ranged f
figures_ok (rule r) = rule_ok r

-- a part number takes one byte
abbrev pub parts_fit : Rule → Bool
parts_fit (Window rail floor ceiling) = nat_lt rail 256
parts_fit (Spread rail other most) = nat_lt rail 256 && nat_lt other 256
parts_fit (Step rail most) = nat_lt rail 256
parts_fit (Need clock above rail least) = nat_lt clock 256 && nat_lt rail 256
parts_fit (Cap clock most) = nat_lt clock 256

-- a list of a length that the kind has, a part number of one byte
abbrev pub shape_ok : Rec → Bool
shape_ok (part f) = length_ok f
shape_ok (rule r) = parts_fit r

-- a record in range
abbrev pub in_range : Rec → Bool
in_range r = shape_ok r && figures_ok r
