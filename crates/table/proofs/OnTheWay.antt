-- The reading of a table, on its way, whatever is done with its records.
use Rattle.std.proofs.Common.{◌≡◌, ℕ, ◌+◌, ◌-◌, ◌<◌, ◌≤◌, List, length, drop, Some, None, Ok, Err, Option, Result, sym, ap, ◌∙◌, subst, arith}
use Rattle.std.proofs.lemmas.List.{drop-drop}
use Rattle.answer.specs.declared.refusal.Refusal.{Refusal}
use Rattle.answer.specs.declared.fault.Fault.{Fault}
use Rattle.answer.specs.Faults.{table_fault}
use Rattle.table.specs.Bytes.{Bytes}
use Rattle.table.specs.Records.{Rec}
use Rattle.table.specs.Reading.{walk, front, finished, found, refused, accepted, sent_back}
use Rattle.table.specs.Meaning.{Next}
use Rattle.table.specs.Answered.{placed_record}
use Rattle.table.specs.declared.record.Placed.{Placed}
use Rattle.table.proofs.LittleEndian.{bytes_drop}
use Rattle.table.proofs.Fronts.{front_found, Begins}
use Rattle.table.proofs.Walks.{walk_more, walk_refused, walk_not_added, walk_end}

-- the record at the cursor, where the reader has answered one
pub record Here (bs : List ℕ) (p : Placed) (n at n' at' : ℕ) : Type 0 where
  pub size : ℕ
  pub front_is : front (drop at bs) ≡ found (placed_record p) size
  pub begins : Begins (drop at bs) (placed_record p) size
  pub number : p.number ≡ n
  pub offset : p.offset ≡ at
  pub next : n' ≡ n + 1
  pub moved : at' ≡ at + size

pub here : (bs table : List ℕ) (o : Option Placed) (p : Placed) (n at n' at' : ℕ) → Bytes bs → table ≡ bs → Next table n at (Ok o) n' at' → o ≡ Some p → Here bs p n at n' at'
here bs table o p n at n' at' b same x is =
    let y : Next table n at (Ok (Some p)) n' at' = subst (λ (q : Option Placed). Next table n at (Ok q) n' at') is x in
    let f : front (drop at bs) ≡ found (placed_record p) y.3.0 = subst (λ t. front (drop at t) ≡ found (placed_record p) y.3.0) same y.3.1 in
    record {
      size = y.3.0;
      front_is = f;
      begins = front_found (drop at bs) (placed_record p) y.3.0 (bytes_drop at bs b) f;
      number = y.0;
      offset = y.1;
      next = y.2;
      moved = y.3.2;
    }

-- the cursor moves on, within the bytes
pub here_less : (bs table table' : List ℕ) (p : Placed) (n at n' at' : ℕ) → Here bs p n at n' at' → table' ≡ table → at' ≤ length table' → length table' - at' < length table - at
here_less bs table table' p n at n' at' h e inside = omega (arith, ap length e, h.moved, h.begins.some)

-- at the end the reader stays where it is
pub end_stays : (table : List ℕ) (o : Option Placed) (n at n' at' : ℕ) → Next table n at (Ok o) n' at' → o ≡ None → n' ≡ n
end_stays table o n at n' at' x is = let y : Next table n at (Ok None) n' at' = subst (λ (q : Option Placed). Next table n at (Ok q) n' at') is x in y.1

-- the reader reads these bytes, and the reading from here on gives what the whole reading gives
pub record OnTheWay {S : Type 0} (add : S → Rec → Result S Refusal) (start : S) (bs table : List ℕ) (s : S) (number offset : ℕ) : Type 0 where
  pub same : table ≡ bs
  pub rest : walk add 0 number s (drop offset bs) ≡ walk add 0 0 start bs

module _ {S : Type 0} (add : S → Rec → Result S Refusal) (start : S) (bs table : List ℕ) where
  pub way_none : (s : S) (n at : ℕ) → table ≡ bs → s ≡ start → n ≡ 0 → at ≡ 0 → OnTheWay add start bs table s n at
  way_none s n at e none first begun =
      record { same = e; rest = ap (λ m. walk add 0 m s (drop at bs)) first ∙ ap (λ m. walk add 0 0 s (drop m bs)) begun ∙ ap (λ u. walk add 0 0 u bs) none }

  -- one record more
  pub way_more : (table' : List ℕ) (s t : S) (p : Placed) (n at n' at' : ℕ) → OnTheWay add start bs table s n at → table' ≡ table
      → Here bs p n at n' at' → add s (placed_record p) ≡ Ok t → OnTheWay add start bs table' t n' at'
  way_more table' s t p n at n' at' w e h added =
      let size : ℕ = h.size in
      let behind : drop size (drop at bs) ≡ drop at' bs = drop-drop size at bs ∙ ap (λ m. drop m bs) (sym h.moved) in
      let on = walk_more add n s t (drop at bs) (placed_record p) size h.front_is (omega (arith, h.begins.some)) added in
      record {
        same = e ∙ w.same;
        rest = ap (λ m. walk add 0 m t (drop at' bs)) h.next ∙ ap (walk add 0 (n + 1) t) (sym behind) ∙ sym on ∙ w.rest;
      }

  -- the end
  pub way_all : (s : S) (o : Option Placed) (n at n' at' : ℕ) → OnTheWay add start bs table s n at → Next table n at (Ok o) n' at' → o ≡ None → walk add 0 0 start bs ≡ accepted n s
  way_all s o n at n' at' w next is =
      let x : Next table n at (Ok None) n' at' = subst (λ (q : Option Placed). Next table n at (Ok q) n' at') is next in
      let f : front (drop at bs) ≡ finished = subst (λ t. front (drop at t) ≡ finished) w.same x.0 in
      sym w.rest ∙ walk_end add n s (drop at bs) f

  -- a fault at the cursor
  pub way_fault : (s : S) (n at n' at' : ℕ) (f : Fault) → OnTheWay add start bs table s n at → Next table n at (Err f) n' at'
      → (walk add 0 0 start bs ≡ sent_back f.refusal f.place) × (f ≡ table_fault f.refusal f.place)
  way_fault s n at n' at' f w x =
      let e : front (drop at bs) ≡ refused f.refusal = subst (λ t. front (drop at t) ≡ refused f.refusal) w.same x.0 in
      let place : f.place ≡ n = ap (λ (q : Fault). q.place) x.1 in (
        sym w.rest ∙ walk_refused add n s (drop at bs) f.refusal e ∙ ap (sent_back f.refusal) (sym place),
        x.1 ∙ ap (table_fault f.refusal) (sym place),
      )

  -- a record that is not added
  pub way_not_added : (s : S) (p : Placed) (n at n' at' : ℕ) (f : Fault) → OnTheWay add start bs table s n at → Here bs p n at n' at'
      → add s (placed_record p) ≡ Err f.refusal → f ≡ table_fault f.refusal p.number
      → (walk add 0 0 start bs ≡ sent_back f.refusal f.place) × (f ≡ table_fault f.refusal f.place)
  way_not_added s p n at n' at' f w h added fault =
      let number : f.place ≡ p.number = ap (λ (q : Fault). q.place) fault in
      let place : f.place ≡ n = number ∙ h.number in (
        sym w.rest ∙ walk_not_added add n s (drop at bs) (placed_record p) h.size f.refusal h.front_is added ∙ ap (sent_back f.refusal) (sym place),
        fault ∙ ap (table_fault f.refusal) (sym number),
      )
