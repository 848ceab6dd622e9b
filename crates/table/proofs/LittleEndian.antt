-- Numbers in bytes, there and back.
use Rattle.std.proofs.Common.{◌≡◌, ℕ, zero, suc, ◌+◌, ◌*◌, ◌/◌, ◌%◌, ◌<◌, ◌≤◌, List, [], ◌∷◌, ◌++◌, length, get_or, take, drop, sym, refl, ap, ◌∙◌, ap₂, arith, w8, Fits}
use Rattle.std.specs.List.{flat_map}
use Rattle.std.proofs.lemmas.List.{drop_all, drop_more, append-nil}
use Rattle.table.specs.Bytes.{field, le, words, Bytes}

-- a number read from bytes is written as those bytes

-- what is left of bytes is bytes
pub bytes_drop : (n : ℕ) (bs : List ℕ) → Bytes bs → Bytes (drop n bs)
bytes_drop zero bs h = h
bytes_drop (suc n) [] h = tt
bytes_drop (suc n) (b ∷ bs) h = bytes_drop n bs h.1

pub bytes_take : (n : ℕ) (bs : List ℕ) → Bytes bs → Bytes (take n bs)
bytes_take zero bs h = tt
bytes_take (suc n) [] h = tt
bytes_take (suc n) (b ∷ bs) h = (h.0, bytes_take n bs h.1)

-- what a slice of bytes holds is bytes
pub bytes_from : (bs : List ℕ) → ((i : ℕ) → Fits w8 (get_or bs i 0)) → Bytes bs
bytes_from [] h = tt
bytes_from (b ∷ bs) h = ((let f = h 0 in omega arith), bytes_from bs (λ i. h (suc i)))

pub byte_at : (bs : List ℕ) (i : ℕ) → Bytes bs → get_or bs i 0 < 256
byte_at [] i h = omega arith
byte_at (b ∷ bs) zero h = h.0
byte_at (b ∷ bs) (suc i) h = byte_at bs i h.1

-- the w bytes at a place, written again, and what follows them
pub le_at : (w : ℕ) (bs tail : List ℕ) (at : ℕ) → Bytes bs → at + w ≤ length bs → tail ≡ drop (at + w) bs → le w (field bs at w) ++ tail ≡ drop at bs
le_at zero bs tail at b h e = e ∙ ap (λ n. drop n bs) (omega arith)
le_at (suc w) bs tail at b h e =
    let small : get_or bs at 0 < 256 = byte_at bs at b in
    let low : (get_or bs at 0 + 256 * field bs (at + 1) w) % 256 ≡ get_or bs at 0 = omega arith in
    let high : (get_or bs at 0 + 256 * field bs (at + 1) w) / 256 ≡ field bs (at + 1) w = omega arith in
    let rest : le w (field bs (at + 1) w) ++ tail ≡ drop (at + 1) bs =
    le_at w bs tail (at + 1) b (omega arith) (e ∙ ap (λ n. drop n bs) (omega arith)) in
    let here : drop at bs ≡ get_or bs at 0 ∷ drop (at + 1) bs = drop_more bs at 0 (omega arith) in
    simp (low, high, rest) (sym here)

-- the last w bytes, written again
pub le_last : (w : ℕ) (bs : List ℕ) (at : ℕ) → Bytes bs → at + w ≡ length bs → le w (field bs at w) ≡ drop at bs
le_last w bs at b h =
    sym (append-nil (le w (field bs at w))) ∙ le_at w bs [] at b (omega arith) (sym (drop_all (at + w) bs (omega arith)))

-- the words of a whole number of fours, written again
pub words_back : (bs : List ℕ) → Bytes bs → length bs % 4 ≡ 0 → flat_map (le 4) (words bs) ≡ bs
words_back [] b h = refl
words_back (x ∷ []) b h = absurd (omega arith)
words_back (x ∷ (y ∷ [])) b h = absurd (omega arith)
words_back (x ∷ (y ∷ (z ∷ []))) b h = absurd (omega arith)
words_back (x ∷ (y ∷ (z ∷ (v ∷ bs)))) b h =
    let four : List ℕ = x ∷ (y ∷ (z ∷ (v ∷ []))) in
    let bytes : Bytes four = (b.0, (b.1.0, (b.1.1.0, (b.1.1.1.0, tt)))) in
    let first : le 4 (field four 0 4) ≡ four = le_last 4 four 0 bytes refl in
    let rest : flat_map (le 4) (words bs) ≡ bs = words_back bs b.1.1.1.1 (omega arith) in
    ap₂ (λ (p q : List ℕ). p ++ q) first rest

pub length_words : (bs : List ℕ) → length (words bs) ≡ length bs / 4
length_words [] = refl
length_words (x ∷ []) = refl
length_words (x ∷ (y ∷ [])) = refl
length_words (x ∷ (y ∷ (z ∷ []))) = refl
length_words (x ∷ (y ∷ (z ∷ (v ∷ bs)))) = omega (arith, length_words bs)

-- and a number written in bytes is read as that number

pub word_back : (x : ℕ) → x < 4294967296 → field (le 4 x) 0 4 ≡ x
word_back x h = omega arith

pub half_back : (x : ℕ) → x < 65536 → field (le 2 x) 0 2 ≡ x
half_back x h = omega arith

pub byte_back : (x : ℕ) → x < 256 → field (le 1 x) 0 1 ≡ x
byte_back x h = omega arith

pub length_joined : (xs : List ℕ) → length (flat_map (le 4) xs) ≡ 4 * length xs
length_joined [] = refl
length_joined (x ∷ xs) = omega (arith, length_joined xs)
