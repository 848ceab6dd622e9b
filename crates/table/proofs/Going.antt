-- The reading of all records, on its way.
use Rattle.std.proofs.Common.{◌≡◌, ℕ, ◌+◌, List, [], ◌∷◌, ◌++◌, map, length, None, Ok, Err, Option, sym, ap, ◌∙◌, subst, inr, arith, length-append}
use Rattle.std.specs.List.{flat_map}
use Rattle.std.proofs.lemmas.List.{map_push, length_push, flat_map_more}
use Rattle.answer.specs.declared.fault.Fault.{Fault}
use Rattle.table.specs.Records.{Rec, encode}
use Rattle.table.specs.Reading.{accepted}
use Rattle.table.specs.Tables.{keep, records_of}
use Rattle.table.specs.Meaning.{Next}
use Rattle.table.specs.Answered.{placed_record, PlacedFrom, RecordsRead, SentBack}
use Rattle.table.specs.declared.record.Placed.{Placed}
use Rattle.table.proofs.OnTheWay.{OnTheWay, Here, way_more, way_all, way_fault}

-- what is known where some records were read, with the cursor behind them
pub record Going (bs table : List ℕ) (ps : List Placed) (number offset : ℕ) : Type 0 where
  -- as many records as the reader has counted, each at its place, and the cursor behind the last
  pub count : number ≡ length ps
  pub placed : PlacedFrom 0 0 ps
  pub cursor : offset ≡ length (flat_map encode (map placed_record ps))
  pub way : OnTheWay keep [] bs table (map placed_record ps) number offset

placed_more : (ps : List Placed) (p : Placed) (number offset : ℕ) → PlacedFrom number offset ps
    → p.number ≡ number + length ps → p.offset ≡ offset + length (flat_map encode (map placed_record ps))
    → PlacedFrom number offset (ps ++ p ∷ [])
placed_more [] p number offset h n o = (omega arith, omega arith, tt)
placed_more (q ∷ ps) p number offset h n o = (
  h.0,
  h.1,
  placed_more ps p (number + 1) (offset + length (encode (placed_record q))) h.2 (omega arith)
      (omega (arith, length-append (encode (placed_record q)) (flat_map encode (map placed_record ps)))),
)

one_more : (bs table table' : List ℕ) (ps : List Placed) (p : Placed) (n at n' at' : ℕ) → Going bs table ps n at → table' ≡ table
    → Here bs p n at n' at' → Going bs table' (ps ++ p ∷ []) n' at'
one_more bs table table' ps p n at n' at' g e h =
    let rs : List Rec = map placed_record ps in
    let pushed : map placed_record (ps ++ p ∷ []) ≡ rs ++ placed_record p ∷ [] = map_push placed_record ps p in
    let bytes : flat_map encode rs ++ encode (placed_record p) ≡ flat_map encode (rs ++ placed_record p ∷ []) = flat_map_more encode [] rs (placed_record p) in
    record {
      count = omega (arith, h.next, g.count, length_push ps p);
      placed = placed_more ps p 0 0 g.placed (omega (arith, h.number, g.count)) (omega (arith, h.offset, g.cursor));
      cursor = omega (arith, h.moved, h.begins.size, g.cursor, ap length bytes, length-append (flat_map encode rs) (encode (placed_record p)), ap (λ q. length (flat_map encode q)) pushed);
      way = way_more keep [] bs table table' rs (map placed_record (ps ++ p ∷ [])) p n at n' at' g.way e h (ap Ok (sym pushed));
    }

-- one record more
pub going_more : (bs table table' : List ℕ) (ps ps' : List Placed) (p : Placed) (n at n' at' : ℕ) → Going bs table ps n at → table' ≡ table
    → Here bs p n at n' at' → ps' ≡ ps ++ p ∷ [] → Going bs table' ps' n' at'
going_more bs table table' ps ps' p n at n' at' g e h pushed =
    subst (λ (qs : List Placed). Going bs table' qs n' at') (sym pushed) (one_more bs table table' ps p n at n' at' g e h)

-- the end
pub going_all : (bs table : List ℕ) (ps : List Placed) (o : Option Placed) (n at n' at' : ℕ) → Going bs table ps n at → Next table n at (Ok o) n' at' → o ≡ None → RecordsRead bs ps
going_all bs table ps o n at n' at' g next is =
    record {
      read = way_all keep [] bs table (map placed_record ps) o n at n' at' g.way next is ∙ ap (λ m. accepted m (map placed_record ps)) g.count;
      placed = g.placed;
    }

-- a fault
pub going_fault : (bs table : List ℕ) (ps : List Placed) (n at n' at' : ℕ) (f : Fault) → Going bs table ps n at → Next table n at (Err f) n' at' → SentBack (records_of bs) f
going_fault bs table ps n at n' at' f g x = inr (way_fault keep [] bs table (map placed_record ps) n at n' at' f g.way x)
