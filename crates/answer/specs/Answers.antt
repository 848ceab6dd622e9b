-- The numbers of the answers: each enum's one definition, case by case.
--   refusal_number   why a call is sent back
--   layer_number     which layer sent it back
--   no_state         the state number that stands for no state
--   state_number     the number of a state outside
use Rattle.std.specs.Prelude.{ℕ, Option, Some, None}
use Rattle.answer.specs.declared.refusal.Refusal.{Refusal}
use Rattle.answer.specs.declared.refusal.Refusal.TheVariants.{Truncated, UnknownKind, WrongLength, OutOfRange, TooMany, WrongPart, NoPart, ShortBuffer, NoSuchState, Unlawful, NoChain, VoidNote, NoWriteLeft, OffPlan, NotJoined, Balked, Unsure, NoMemory}
use Rattle.answer.specs.declared.layer.Layer.{Layer}
use Rattle.answer.specs.declared.layer.Layer.TheVariants.{Table, Planner, Crossing, Device}

-- why a call is sent back: 1 to 17, and 255 for want of memory
abbrev pub refusal_number : Refusal → ℕ
refusal_number Truncated = 1
refusal_number UnknownKind = 2
refusal_number WrongLength = 3
refusal_number OutOfRange = 4
refusal_number TooMany = 5
refusal_number WrongPart = 6
refusal_number NoPart = 7
refusal_number ShortBuffer = 8
refusal_number NoSuchState = 9
refusal_number Unlawful = 10
refusal_number NoChain = 11
refusal_number VoidNote = 12
refusal_number NoWriteLeft = 13
refusal_number OffPlan = 14
refusal_number NotJoined = 15
refusal_number Balked = 16
refusal_number Unsure = 17
refusal_number NoMemory = 255

-- which layer sent it back
abbrev pub layer_number : Layer → ℕ
layer_number Table = 1
layer_number Planner = 2
layer_number Crossing = 3
layer_number Device = 4

-- the state number that stands for no state
abbrev pub no_state : ℕ
no_state = 65535

-- the number of a state outside
abbrev pub state_number : Option ℕ → ℕ
state_number (Some s) = s
state_number None = no_state
