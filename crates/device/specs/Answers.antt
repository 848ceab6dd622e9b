-- The numbers by which answers and kinds are known outside, case by case.
--   answer_number   of a device's answer to a write
--   kind_number     of a part's kind
--   kind_word       the word for a part's kind
use Rattle.std.specs.Prelude.{ℕ, List, Option, Some, None, codes}
use Rattle.device.specs.declared.answers.Answer.{Answer}
use Rattle.device.specs.declared.answers.Answer.TheVariants.{Done, Balked, Unsure, NoSuchWrite}
use Rattle.device.specs.declared.kind.Kind.{Kind}
use Rattle.device.specs.declared.kind.Kind.TheVariants.{Rail, Clock}

-- the number of a device's answer to a write
abbrev pub answer_number : Answer → ℕ
answer_number Done = 0
answer_number Balked = 1
answer_number Unsure = 2
answer_number NoSuchWrite = 3

-- the number of a part's kind, 2 for an absent part
abbrev pub kind_number : Option Kind → ℕ
kind_number (Some Rail) = 0
kind_number (Some Clock) = 1
kind_number None = 2

-- the word for a kind of part
abbrev pub kind_word : Kind → List ℕ
kind_word Rail = codes "rail"
kind_word Clock = codes "clock"
