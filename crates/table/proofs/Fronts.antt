-- What stands at the front of some bytes is a record exactly where they begin with the bytes of that record.
use Rattle.std.proofs.Common.{◌≡◌, ℕ, ◌+◌, ◌-◌, ◌<◌, ◌≤◌, Bool, true, false, cond, ◌&&◌, eqb, ltb, leb, List, [], ◌∷◌, ◌++◌, length, take, drop, Some, None, Option, sym, refl, ap, ◌∙◌, ap₂, arith, length-append, length-drop}
use Rattle.std.proofs.lemmas.List.{take-append-drop, drop-drop, take_at, length-take-le}
use Rattle.std.proofs.lemmas.Bool.{and_parts, and_from, eqb-true, leb-true, le-ltb, ne_eqb}
use Rattle.table.specs.Bytes.{field, le, Bytes}
use Rattle.table.specs.Kinds.{kind_number, body_ok, known, numbered, all_kinds}
use Rattle.table.specs.Records.{Rec, record_kind, body_of, encode, decode, figures_ok, shape_ok, in_range}
use Rattle.table.specs.Reading.{finished, found, refused, framed, front}
use Rattle.table.specs.declared.kind.RecordKind.{RecordKind}
use Rattle.table.specs.declared.kind.RecordKind.TheVariants as kinds
use Rattle.table.proofs.LittleEndian.{bytes_drop, bytes_take, le_at, half_back}
use Rattle.table.proofs.Bodies.{body_again, kind_again, shape_again, record_again, body_sized}
use Rattle.table.proofs.Frames.{framed_right}

-- a kind is known by its number
known_kind : (k : RecordKind) → known (kind_number k) ≡ Some k
known_kind kinds.LinearRail = refl
known_kind kinds.TableRail = refl
known_kind kinds.DividerClock = refl
known_kind kinds.TreeClock = refl
known_kind kinds.Window = refl
known_kind kinds.Spread = refl
known_kind kinds.Step = refl
known_kind kinds.Need = refl
known_kind kinds.Cap = refl

small_kind : (k : RecordKind) → kind_number k < 65536
small_kind kinds.LinearRail = omega arith
small_kind kinds.TableRail = omega arith
small_kind kinds.DividerClock = omega arith
small_kind kinds.TreeClock = omega arith
small_kind kinds.Window = omega arith
small_kind kinds.Spread = omega arith
small_kind kinds.Step = omega arith
small_kind kinds.Need = omega arith
small_kind kinds.Cap = omega arith

-- and only by its number
numbered_kind : (ks : List RecordKind) (n : ℕ) (k : RecordKind) → numbered ks n ≡ Some k → kind_number k ≡ n
numbered_kind [] n k e = let z : ◌≡◌ {A = ℕ} 0 1 = cc in absurd (omega arith)
numbered_kind (j ∷ ks) n k e = go (numbered_kind ks n k) (eqb (kind_number j) n) refl
  where
    go : (numbered ks n ≡ Some k → kind_number k ≡ n) → (t : Bool) → eqb (kind_number j) n ≡ t → kind_number k ≡ n
    go later true h =
        let s : cond (eqb (kind_number j) n) (Some j) (numbered ks n) ≡ Some j = simp h in
        let p : Some j ≡ Some k = sym s ∙ e in
        let same : j ≡ k = cc in
        ap kind_number (sym same) ∙ eqb-true (kind_number j) n h
    go later false h =
        let s : cond (eqb (kind_number j) n) (Some j) (numbered ks n) ≡ numbered ks n = simp h in
        later (sym s ∙ e)

-- the bytes of a record in range, whatever follows, begin with that record
pub front_encoded : (r : Rec) (rest : List ℕ) → in_range r ≡ true → front (encode r ++ rest) ≡ found r (length (encode r))
front_encoded r rest h =
    let p = and_parts (shape_ok r) (figures_ok r) h in
    let sized = body_sized r p.0 in
    let n : ℕ = length (body_of r) in
    let bs : List ℕ = encode r ++ rest in
    let stated : field bs 0 2 ≡ n + 2 = half_back (n + 2) (omega (arith, sized.1)) in
    let kind : field bs 2 2 ≡ kind_number (record_kind r) = half_back (kind_number (record_kind r)) (small_kind (record_kind r)) in
    let long : length bs ≡ 4 + (n + length rest) = omega (arith, length-append (body_of r) rest) in
    let some : eqb (length bs) 0 ≡ false = ne_eqb (length bs) 0 (omega arith) in
    let four : ltb (length bs) 4 ≡ false = le-ltb (length bs) 4 (omega arith) in
    let known_is : known (field bs 2 2) ≡ Some (record_kind r) = ap known kind ∙ known_kind (record_kind r) in
    let cut : body_of r ≡ take ((2 + (n + 2)) - 4) (drop 4 bs) =
    sym (ap (λ m. take m (body_of r ++ rest)) (omega arith) ∙ take_at (body_of r) rest n refl) in
    let fits : true ≡ body_ok (record_kind r) ((n + 2) - 2) =
    sym (ap (body_ok (record_kind r)) (omega arith) ∙ sized.0) in
    let right : framed (n + 2) bs (Some (record_kind r)) ≡ found r (2 + (n + 2)) =
    framed_right (record_kind r) (n + 2) bs (body_of r) r true (omega arith) fits (omega arith) cut (sym (record_again r p.0 p.1)) (sym p.1) in
    let size : 2 + (n + 2) ≡ length (encode r) = omega arith in
    simp (some, four, known_is, stated) (right ∙ ap (found r) size)

-- what a found record tells of its frame
pub record Within (bs : List ℕ) (size : ℕ) (kind : RecordKind) (r : Rec) (n : ℕ) : Type 0 where
  pub some : 2 ≤ size
  pub fits : body_ok kind (size - 2) ≡ true
  pub there : 2 + size ≤ length bs
  pub held : r ≡ decode kind (take (size - 2) (drop 4 bs))
  pub ranged : figures_ok r ≡ true
  pub whole : n ≡ 2 + size

-- a record that is found has passed each check
framed_found : (size : ℕ) (bs : List ℕ) (o : Option RecordKind) (r : Rec) (n : ℕ) → framed size bs o ≡ found r n
    → (kind : RecordKind) × (o ≡ Some kind) × Within bs size kind r n
framed_found size bs None r n e = let z : ◌≡◌ {A = ℕ} 0 1 = cc in absurd (omega arith)
framed_found size bs (Some kind) r n e = go (leb 2 size && body_ok kind (size - 2)) (leb (2 + size) (length bs)) (figures_ok held) refl refl refl
  where
    held : Rec
    held = decode kind (take (size - 2) (drop 4 bs))

    go : (a b c : Bool) → (leb 2 size && body_ok kind (size - 2)) ≡ a → leb (2 + size) (length bs) ≡ b → figures_ok held ≡ c
        → (kind' : RecordKind) × (Some kind ≡ Some kind') × Within bs size kind' r n
    go false b c x y w =
        let s : refused _ ≡ found r n = simp x at e in
        let z : ◌≡◌ {A = ℕ} 0 1 = cc in absurd (omega arith)
    go true false c x y w =
        let s : refused _ ≡ found r n = simp (x, y) at e in
        let z : ◌≡◌ {A = ℕ} 0 1 = cc in absurd (omega arith)
    go true true false x y w =
        let s : refused _ ≡ found r n = simp (x, y, w) at e in
        let z : ◌≡◌ {A = ℕ} 0 1 = cc in absurd (omega arith)
    go true true true x y w =
        let s : found held (2 + size) ≡ found r n = simp (x, y, w) at e in
        let p = and_parts (leb 2 size) (body_ok kind (size - 2)) x in
        let same : held ≡ r = cc in (
          kind,
          refl,
          record {
            some = leb-true 2 size p.0;
            fits = p.1;
            there = leb-true (2 + size) (length bs) y;
            held = sym same;
            ranged = ap figures_ok (sym same) ∙ w;
            whole = cc;
          },
        )

-- what a record at the front tells of the bytes
pub record Begins (bs : List ℕ) (r : Rec) (n : ℕ) : Type 0 where
  pub ranged : in_range r ≡ true
  pub bytes : encode r ++ drop n bs ≡ bs
  pub size : n ≡ length (encode r)
  pub some : 4 ≤ n
  pub inside : n ≤ length bs

-- the record that is found is the one whose bytes stand there
encoded : (bs : List ℕ) (size : ℕ) (kind : RecordKind) (r : Rec) (n : ℕ) → Bytes bs → size ≡ field bs 0 2 → kind_number kind ≡ field bs 2 2 → Within bs size kind r n → Begins bs r n
encoded bs size kind r n b stated number w =
    let there : 2 + size ≤ length bs = w.there in
    let some : 2 ≤ size = w.some in
    let body : List ℕ = take (size - 2) (drop 4 bs) in
    let body_bytes : Bytes body = bytes_take (size - 2) (drop 4 bs) (bytes_drop 4 bs b) in
    let long : length body ≡ size - 2 = length-take-le (size - 2) (drop 4 bs) (omega (arith, length-drop 4 bs)) in
    let fits : body_ok kind (length body) ≡ true = ap (body_ok kind) long ∙ w.fits in
    let written : body_of r ≡ body = ap body_of w.held ∙ body_again kind body body_bytes fits in
    let kinds_are : record_kind r ≡ kind = ap record_kind w.held ∙ kind_again kind body in
    let shaped : shape_ok r ≡ true = ap shape_ok w.held ∙ shape_again kind body body_bytes fits in
    let sized : length (body_of r) + 2 ≡ size = omega (arith, ap length written) in
    let count : n ≡ length (encode r) = omega (arith, w.whole) in
    let rest : body ++ drop (size - 2) (drop 4 bs) ≡ drop 4 bs = take-append-drop (size - 2) (drop 4 bs) in
    let behind : drop n bs ≡ drop (size - 2) (drop 4 bs) = sym (drop-drop (size - 2) 4 bs ∙ ap (λ m. drop m bs) (omega (arith, w.whole))) in
    let tail : body_of r ++ drop n bs ≡ drop 4 bs = ap₂ (λ (p q : List ℕ). p ++ q) written behind ∙ rest in
    let second : le 2 (field bs 2 2) ++ (body_of r ++ drop n bs) ≡ drop 2 bs = le_at 2 bs _ 2 b (omega arith) tail in
    let first : le 2 (field bs 0 2) ++ (le 2 (field bs 2 2) ++ (body_of r ++ drop n bs)) ≡ bs = le_at 2 bs _ 0 b (omega arith) second in
    let lengths : length (body_of r) + 2 ≡ field bs 0 2 = sized ∙ stated in
    let numbers : kind_number (record_kind r) ≡ field bs 2 2 = ap kind_number kinds_are ∙ number in
    record {
      ranged = and_from (shape_ok r) (figures_ok r) shaped w.ranged;
      bytes = ap₂ (λ (p q : ℕ). le 2 p ++ (le 2 q ++ (body_of r ++ drop n bs))) lengths numbers ∙ first;
      size = count;
      some = omega (arith, w.whole);
      inside = omega (arith, w.whole);
    }

-- bytes with a record at their front begin with the bytes of that record, which is in range
pub front_found : (bs : List ℕ) (r : Rec) (n : ℕ) → Bytes bs → front bs ≡ found r n → Begins bs r n
front_found bs r n b e = go (eqb (length bs) 0) (ltb (length bs) 4) refl refl
  where
    go : (s t : Bool) → eqb (length bs) 0 ≡ s → ltb (length bs) 4 ≡ t → Begins bs r n
    go true t x y =
        let w : finished ≡ found r n = simp x at e in
        let z : ◌≡◌ {A = ℕ} 0 1 = cc in absurd (omega arith)
    go false true x y =
        let w : refused _ ≡ found r n = simp (x, y) at e in
        let z : ◌≡◌ {A = ℕ} 0 1 = cc in absurd (omega arith)
    go false false x y =
        let w : framed (field bs 0 2) bs (known (field bs 2 2)) ≡ found r n = simp (x, y) at e in
        let f = framed_found (field bs 0 2) bs (known (field bs 2 2)) r n w in
        encoded bs (field bs 0 2) f.0 r n b refl (numbered_kind all_kinds (field bs 2 2) f.0 f.1) f.2

-- nothing stands at the front only where there are no bytes
pub front_finished : (bs : List ℕ) → front bs ≡ finished → length bs ≡ 0
front_finished bs e = go (eqb (length bs) 0) (ltb (length bs) 4) refl refl
  where
    never : (size : ℕ) (o : Option RecordKind) → framed size bs o ≡ finished → ⊥
    never size None w = let z : ◌≡◌ {A = ℕ} 0 1 = cc in omega arith
    never size (Some kind) w = cases (leb 2 size && body_ok kind (size - 2)) (leb (2 + size) (length bs)) (figures_ok (decode kind (take (size - 2) (drop 4 bs)))) refl refl refl
      where
        cases : (a b c : Bool) → (leb 2 size && body_ok kind (size - 2)) ≡ a → leb (2 + size) (length bs) ≡ b → figures_ok (decode kind (take (size - 2) (drop 4 bs))) ≡ c → ⊥
        cases false b c x y v = let s : refused _ ≡ finished = simp x at w in let z : ◌≡◌ {A = ℕ} 0 1 = cc in omega arith
        cases true false c x y v = let s : refused _ ≡ finished = simp (x, y) at w in let z : ◌≡◌ {A = ℕ} 0 1 = cc in omega arith
        cases true true false x y v = let s : refused _ ≡ finished = simp (x, y, v) at w in let z : ◌≡◌ {A = ℕ} 0 1 = cc in omega arith
        cases true true true x y v = let s : found _ _ ≡ finished = simp (x, y, v) at w in let z : ◌≡◌ {A = ℕ} 0 1 = cc in omega arith

    go : (s t : Bool) → eqb (length bs) 0 ≡ s → ltb (length bs) 4 ≡ t → length bs ≡ 0
    go true t x y = eqb-true (length bs) 0 x
    go false true x y =
        let w : refused _ ≡ finished = simp (x, y) at e in
        let z : ◌≡◌ {A = ℕ} 0 1 = cc in absurd (omega arith)
    go false false x y =
        let w : framed (field bs 0 2) bs (known (field bs 2 2)) ≡ finished = simp (x, y) at e in
        absurd (never (field bs 0 2) (known (field bs 2 2)) w)
