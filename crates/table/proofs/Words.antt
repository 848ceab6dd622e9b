-- The numbers of four bytes each, against the chunks of the bytes.
use Rattle.std.proofs.Common.{◌≡◌, ℕ, suc, ◌/◌, List, [], ◌∷◌, map, length, refl, ap₂, arith, w32}
use Rattle.std.specs.Int.{from_le_bytes}
use Rattle.std.specs.Simd.{first_chunks}
use Rattle.table.specs.Bytes.{words}

-- the numbers of four bytes each are those of the chunks of four bytes
pub words_chunks : (bs : List ℕ) → words bs ≡ map (from_le_bytes w32) (first_chunks 4 (length bs / 4) bs)
words_chunks [] = refl
words_chunks (a ∷ []) = refl
words_chunks (a ∷ (b ∷ [])) = refl
words_chunks (a ∷ (b ∷ (c ∷ []))) = refl
words_chunks (a ∷ (b ∷ (c ∷ (d ∷ bs)))) =
    let more : length (a ∷ (b ∷ (c ∷ (d ∷ bs)))) / 4 ≡ suc (length bs / 4) = omega arith in
    rw more (ap₂ ◌∷◌ (omega arith) (words_chunks bs))
