-- Bodies of records, there and back, kind by kind.
use Rattle.std.proofs.Common.{◌≡◌, ℕ, ◌-◌, ◌*◌, ◌/◌, ◌%◌, ◌<◌, ◌≤◌, true, eqb, ltb, leb, List, [], ◌∷◌, length, drop, refl, ap, ap₂, arith, length-drop}
use Rattle.std.specs.List.{flat_map}
use Rattle.std.proofs.lemmas.Bool.{and_parts, and_from, eqb-true, leb-true, le-leb, ltb-true, lt-ltb}
use Rattle.std.proofs.lemmas.Bool.Decides.{nat_tests}
use Rattle.device.specs.Figures.{linear, listed, divider, tree, from_to, level_ok, levels_ok}
use Rattle.table.specs.Bytes.{field, le, words, Bytes}
use Rattle.table.specs.Kinds.{body_ok}
use Rattle.table.specs.Records.{Rec, part, rule, record_kind, body_of, decode, figures_ok, shape_ok, figure_ok}
use Rattle.table.specs.declared.kind.RecordKind.{RecordKind}
use Rattle.table.specs.declared.kind.RecordKind.TheVariants as kinds
use Rattle.table.specs.declared.rule.Rule.TheVariants.{Window, Spread, Step, Need, Cap}
use Rattle.table.proofs.LittleEndian.{bytes_drop, byte_at, le_at, le_last, words_back, length_words, word_back, byte_back, length_joined}

-- the bytes of the record that a body holds are that body
pub body_again : (k : RecordKind) (b : List ℕ) → Bytes b → body_ok k (length b) ≡ true → body_of (decode k b) ≡ b
body_again kinds.LinearRail b h t =
    let n : length b ≡ 9 = eqb-true (length b) 9 t in
    le_at 4 b _ 0 h (omega arith) (le_at 4 b _ 4 h (omega arith) (le_last 1 b 8 h (omega arith)))
body_again kinds.TableRail b h t = words_back b h (eqb-true (length b % 4) 0 (and_parts (eqb (length b % 4) 0) (from_to 4 256 (length b)) t).0)
body_again kinds.DividerClock b h t =
    let n : length b ≡ 5 = eqb-true (length b) 5 t in
    le_at 4 b _ 0 h (omega arith) (le_last 1 b 4 h (omega arith))
body_again kinds.TreeClock b h t =
    let n : length b % 4 ≡ 1 = eqb-true (length b % 4) 1 (and_parts (eqb (length b % 4) 1) (from_to 5 33 (length b)) t).0 in
    le_at 1 b _ 0 h (omega arith) (words_back (drop 1 b) (bytes_drop 1 b h) (omega (arith, length-drop 1 b)))
body_again kinds.Window b h t =
    let n : length b ≡ 9 = eqb-true (length b) 9 t in
    le_at 1 b _ 0 h (omega arith) (le_at 4 b _ 1 h (omega arith) (le_last 4 b 5 h (omega arith)))
body_again kinds.Spread b h t =
    let n : length b ≡ 6 = eqb-true (length b) 6 t in
    le_at 1 b _ 0 h (omega arith) (le_at 1 b _ 1 h (omega arith) (le_last 4 b 2 h (omega arith)))
body_again kinds.Step b h t =
    let n : length b ≡ 5 = eqb-true (length b) 5 t in
    le_at 1 b _ 0 h (omega arith) (le_last 4 b 1 h (omega arith))
body_again kinds.Need b h t =
    let n : length b ≡ 10 = eqb-true (length b) 10 t in
    le_at 1 b _ 0 h (omega arith) (le_at 4 b _ 1 h (omega arith) (le_at 1 b _ 5 h (omega arith) (le_last 4 b 6 h (omega arith))))
body_again kinds.Cap b h t =
    let n : length b ≡ 5 = eqb-true (length b) 5 t in
    le_at 1 b _ 0 h (omega arith) (le_last 4 b 1 h (omega arith))

-- a body that is read holds a record of its kind
pub kind_again : (k : RecordKind) (b : List ℕ) → record_kind (decode k b) ≡ k
kind_again kinds.LinearRail b = refl
kind_again kinds.TableRail b = refl
kind_again kinds.DividerClock b = refl
kind_again kinds.TreeClock b = refl
kind_again kinds.Window b = refl
kind_again kinds.Spread b = refl
kind_again kinds.Step b = refl
kind_again kinds.Need b = refl
kind_again kinds.Cap b = refl

one_byte : (b : List ℕ) (at : ℕ) → Bytes b → ltb (field b at 1) 256 ≡ true
one_byte b at h = lt-ltb (field b at 1) 256 (omega (arith, byte_at b at h))

-- and of a shape that the kind has
pub shape_again : (k : RecordKind) (b : List ℕ) → Bytes b → body_ok k (length b) ≡ true → shape_ok (decode k b) ≡ true
shape_again kinds.LinearRail b h t = refl
shape_again kinds.TableRail b h t = let n : length (words b) ≡ length b / 4 = length_words b in grind (arith, nat_tests)
shape_again kinds.DividerClock b h t = refl
shape_again kinds.TreeClock b h t =
    let n : length (words (drop 1 b)) ≡ length (drop 1 b) / 4 = length_words (drop 1 b) in
    let m : length (drop 1 b) ≡ length b - 1 = length-drop 1 b in
    grind (arith, nat_tests)
shape_again kinds.Window b h t = one_byte b 0 h
shape_again kinds.Spread b h t = and_from (ltb (field b 0 1) 256) (ltb (field b 1 1) 256) (one_byte b 0 h) (one_byte b 1 h)
shape_again kinds.Step b h t = one_byte b 0 h
shape_again kinds.Need b h t = and_from (ltb (field b 0 1) 256) (ltb (field b 5 1) 256) (one_byte b 0 h) (one_byte b 5 h)
shape_again kinds.Cap b h t = one_byte b 0 h

level_fits : (x : ℕ) → level_ok x ≡ true → field (le 4 x) 0 4 ≡ x
level_fits x h = word_back x (omega (arith, leb-true x 5000000 (and_parts (leb 1 x) (leb x 5000000) h).1))

figure_fits : (x : ℕ) → figure_ok x ≡ true → field (le 4 x) 0 4 ≡ x
figure_fits x h = word_back x (omega (arith, leb-true x 5000000 h))

small_fits : (low high x : ℕ) → high < 256 → from_to low high x ≡ true → field (le 1 x) 0 1 ≡ x
small_fits low high x few h = byte_back x (omega (arith, leb-true x high (and_parts (leb low x) (leb x high) h).1))

part_fits : (x : ℕ) → ltb x 256 ≡ true → field (le 1 x) 0 1 ≡ x
part_fits x h = byte_back x (ltb-true x 256 h)

levels_again : (xs : List ℕ) → levels_ok xs ≡ true → words (flat_map (le 4) xs) ≡ xs
levels_again [] h = refl
levels_again (x ∷ xs) h =
    let parts = and_parts (level_ok x) (levels_ok xs) h in
    ap₂ (λ (y : ℕ) (ys : List ℕ). y ∷ ys) (level_fits x parts.0) (levels_again xs parts.1)

-- the record that the body of a record in range holds is that record
pub record_again : (r : Rec) → shape_ok r ≡ true → figures_ok r ≡ true → decode (record_kind r) (body_of r) ≡ r
record_again (part (linear lowest step count)) s h =
    let p = and_parts (level_ok lowest) _ h in
    let q = and_parts (from_to 1 5000000 step) _ p.1 in
    let c = and_parts (from_to 1 64 count) _ q.1 in
    let e = level_fits lowest p.0 in
    let f = level_fits step q.0 in
    let g = small_fits 1 64 count (omega arith) c.0 in
    cc
record_again (part (listed levels)) s h = ap (λ xs. part (listed xs)) (levels_again levels h)
record_again (part (divider parent count)) s h =
    let p = and_parts (level_ok parent) _ h in
    let e = level_fits parent p.0 in
    let g = small_fits 1 64 count (omega arith) p.1 in
    cc
record_again (part (tree divisors parents)) s h =
    let p = and_parts (from_to 1 8 divisors) _ h in
    let e = small_fits 1 8 divisors (omega arith) p.0 in
    let g = levels_again parents p.1 in
    cc
record_again (rule (Window rail floor ceiling)) s h =
    let p = and_parts (leb floor ceiling) _ h in
    let e = part_fits rail s in
    let small : floor ≤ 5000000 = omega (arith, leb-true floor ceiling p.0, leb-true ceiling 5000000 p.1) in
    let f = figure_fits floor (le-leb floor 5000000 small) in
    let g = figure_fits ceiling p.1 in
    cc
record_again (rule (Spread rail other most)) s h =
    let p = and_parts (ltb rail 256) _ s in
    let e = part_fits rail p.0 in
    let f = part_fits other p.1 in
    let g = figure_fits most h in
    cc
record_again (rule (Step rail most)) s h =
    let e = part_fits rail s in
    let g = figure_fits most h in
    cc
record_again (rule (Need clock above rail least)) s h =
    let p = and_parts (ltb clock 256) _ s in
    let q = and_parts (figure_ok above) _ h in
    let e = part_fits clock p.0 in
    let f = part_fits rail p.1 in
    let g = figure_fits above q.0 in
    let i = figure_fits least q.1 in
    cc
record_again (rule (Cap clock most)) s h =
    let e = part_fits clock s in
    let g = figure_fits most h in
    cc

-- its body has a length that the kind has, at most 256 bytes
pub body_sized : (r : Rec) → shape_ok r ≡ true → (body_ok (record_kind r) (length (body_of r)) ≡ true) × (length (body_of r) ≤ 256)
body_sized (part (linear lowest step count)) s = (refl, omega arith)
body_sized (part (listed levels)) s =
    let n : length (flat_map (le 4) levels) ≡ 4 * length levels = length_joined levels in
    let many : length levels ≤ 64 = leb-true (length levels) 64 (and_parts (leb 1 (length levels)) (leb (length levels) 64) s).1 in
    let some : 1 ≤ length levels = leb-true 1 (length levels) (and_parts (leb 1 (length levels)) (leb (length levels) 64) s).0 in
    (grind (arith, nat_tests), omega arith)
body_sized (part (divider parent count)) s = (refl, omega arith)
body_sized (part (tree divisors parents)) s =
    let n : length (flat_map (le 4) parents) ≡ 4 * length parents = length_joined parents in
    let many : length parents ≤ 8 = leb-true (length parents) 8 (and_parts (leb 1 (length parents)) (leb (length parents) 8) s).1 in
    let some : 1 ≤ length parents = leb-true 1 (length parents) (and_parts (leb 1 (length parents)) (leb (length parents) 8) s).0 in
    (grind (arith, nat_tests), omega arith)
body_sized (rule (Window rail floor ceiling)) s = (refl, omega arith)
body_sized (rule (Spread rail other most)) s = (refl, omega arith)
body_sized (rule (Step rail most)) s = (refl, omega arith)
body_sized (rule (Need clock above rail least)) s = (refl, omega arith)
body_sized (rule (Cap clock most)) s = (refl, omega arith)
