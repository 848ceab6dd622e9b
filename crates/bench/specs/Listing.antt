-- What the listing of a table prints.
--   code_lines   the codes of a part with their levels
--   part_lines   the codes of all parts, from a part number on
--   lines_of     the lines for what a table lists, or for why it is sent back
use Rattle.std.specs.Prelude.{ℕ, ◌+◌, List, Some, [], ◌∷◌, ◌++◌, map}
use Rattle.std.specs.List.{range_with_len}
use Rattle.device.specs.Figures.{Figures, kind_of, codes_of, level_of}
use Rattle.listing.specs.Lists.{Lists}
use Rattle.table.specs.Reading.{Verdict, accepted, sent_back}
use Rattle.bench.specs.declared.line.Line.{Line}
use Rattle.bench.specs.declared.line.Line.TheVariants.{Level, Rule, Refused}

-- each code of a part, with its level
abbrev pub code_lines : ℕ → Figures → List Line
code_lines number f = map (λ c. Level (Some (kind_of f)) number c (level_of f c)) (range_with_len 0 (codes_of f))

-- the codes of all parts, numbered from here on
abbrev pub part_lines : ℕ → List Figures → List Line
part_lines number [] = []
part_lines number (f ∷ fs) = code_lines number f ++ part_lines (number + 1) fs

-- the parts' codes and then the rules, or the refusal alone
abbrev pub lines_of : Verdict Lists → List Line
lines_of (accepted n l) = part_lines 0 l.parts ++ map Rule l.rules
lines_of (sent_back why place) = Refused why ∷ []
