-- The lines that the programs print, byte by byte, without the newline.
--   kind_word    the word for the kind of a part, or for an absent part
--   rule_bytes   a rule with its figures
--   line_bytes   a line
use Rattle.std.specs.Prelude.{ℕ, List, Option, Some, None, ◌++◌, codes, decimal}
use Rattle.answer.specs.Answers.{refusal_number}
use Rattle.device.specs.Answers as device
use Rattle.device.specs.declared.kind.Kind.{Kind}
use Rattle.table.specs.declared.rule.Rule.TheVariants as rules
use Rattle.table.specs.declared.rule.Rule.{Rule as BoardRule}
use Rattle.bench.specs.declared.line.Line.{Line}
use Rattle.bench.specs.declared.line.Line.TheVariants.{Level, Rule, States, Lawful, Refused}

-- the word for the kind of a part, or for a part that is absent
abbrev pub kind_word : Option Kind → List ℕ
kind_word (Some kind) = device.kind_word kind
kind_word None = codes "absent"

-- a rule with its figures: µV for rails, kHz for clocks
abbrev pub rule_bytes : BoardRule → List ℕ
rule_bytes (rules.Window rail floor ceiling) =
    codes "window rail " ++ (decimal rail ++ (codes " from " ++ (decimal floor ++ (codes " to " ++ decimal ceiling))))
rule_bytes (rules.Spread rail other most) =
    codes "spread rail " ++ (decimal rail ++ (codes " rail " ++ (decimal other ++ (codes " at most " ++ decimal most))))
rule_bytes (rules.Step rail most) = codes "step rail " ++ (decimal rail ++ (codes " at most " ++ decimal most))
rule_bytes (rules.Need clock above rail least) =
    codes "need clock " ++ (decimal clock ++ (codes " above " ++ (decimal above ++ (codes " rail " ++ (decimal rail ++ (codes " at least " ++ decimal least))))))
rule_bytes (rules.Cap clock most) = codes "cap clock " ++ (decimal clock ++ (codes " at most " ++ decimal most))

-- a line: a code of a part with its level, a rule, the number of states, how many are lawful, or a refusal by its number
abbrev pub line_bytes : Line → List ℕ
line_bytes (Level kind part code level) =
    kind_word kind ++ (codes " " ++ (decimal part ++ (codes " code " ++ (decimal code ++ (codes " at " ++ decimal level)))))
line_bytes (Rule rule) = rule_bytes rule
line_bytes (States n) = codes "states " ++ decimal n
line_bytes (Lawful n) = codes "lawful " ++ decimal n
line_bytes (Refused why) = codes "refused " ++ decimal (refusal_number why)
