-- Numbers in bytes, the lowest byte first.
--   field   the number that stands in some bytes from a place on
--   le      a number in that many bytes
--   words   the numbers of four bytes each that a list of bytes holds
--   Bytes   a list of bytes
use Rattle.std.specs.Prelude.{ℕ, zero, suc, ◌+◌, ◌*◌, ◌/◌, ◌%◌, ◌<◌, List, [], ◌∷◌, slice_index}

-- the number in w bytes from the place on, the lowest byte first; a byte past the end counts 0
abbrev pub field : List ℕ → ℕ → ℕ → ℕ
field bs at zero = 0
field bs at (suc w) = slice_index bs at + 256 * field bs (at + 1) w

-- a number in w bytes, the lowest first
abbrev pub le : ℕ → ℕ → List ℕ
le zero x = []
le (suc w) x = x % 256 ∷ le w (x / 256)

-- the numbers of four bytes each, one after the other; fewer than four bytes at the end are none
abbrev pub words : List ℕ → List ℕ
words [] = []
words (a ∷ []) = []
words (a ∷ (b ∷ [])) = []
words (a ∷ (b ∷ (c ∷ []))) = []
words (a ∷ (b ∷ (c ∷ (d ∷ bs)))) = field (a ∷ (b ∷ (c ∷ (d ∷ [])))) 0 4 ∷ words bs

-- each is a byte
abbrev pub Bytes : List ℕ → Type 0
Bytes [] = Unit {0}
Bytes (b ∷ bs) = (b < 256) × Bytes bs
