-- A whole table is accepted exactly when its records make the table of a board.
use Rattle.std.proofs.Common.{◌≡◌, ℕ, ◌≤◌, true, eqb, List, [], length, Ok, sym, refl, ap, ◌∙◌, subst, inl, inr, arith}
use Rattle.std.proofs.lemmas.Bool.{ne_eqb}
use Rattle.answer.specs.declared.refusal.Refusal.TheVariants.{NoPart}
use Rattle.answer.specs.declared.fault.Fault.{Fault}
use Rattle.answer.specs.Faults.{table_fault}
use Rattle.table.specs.Bytes.{Bytes}
use Rattle.table.specs.Records.{Rec}
use Rattle.table.specs.Reading.{accepted, sent_back, walk}
use Rattle.table.specs.Tables.{Encodes, run}
use Rattle.listing.specs.Lists.{Lists, nothing, admit, closed, listing, parts_of, rules_of, product, Fits}
use Rattle.table.specs.Answered.{SentBack}
use Rattle.listing.specs.Listed.{lists_of, BoardTable, OnlyFull}
use Rattle.listing.specs.declared.Listing.{Listing}
use Rattle.listing.proofs.Fitting.{run_taken, taken_run}
use Rattle.table.proofs.Walks.{walk_encoded, walk_accepted}

-- a table read to its end with a part is accepted
pub listed : (bs : List ℕ) (n : ℕ) (l : Lists) → walk admit 0 0 nothing bs ≡ accepted n l → (length l.parts ≡ 0 → ⊥) → listing bs ≡ accepted n l
listed bs n l h some = ap closed h ∙ simp (ne_eqb (length l.parts) 0 some)

-- one without is sent back at its end
pub listed_none : (bs : List ℕ) (n : ℕ) (l : Lists) (f : Fault) → walk admit 0 0 nothing bs ≡ accepted n l → l.parts ≡ [] → f ≡ table_fault NoPart n → SentBack (listing bs) f
listed_none bs n l f h none fault =
    let t : eqb (length l.parts) 0 ≡ true = ap (λ ps. eqb (length ps) 0) none in
    let back : listing bs ≡ sent_back NoPart n = ap closed h ∙ simp t in
    rw fault (inr (back, refl))

-- one that is sent back on its way is sent back
pub listed_back : (bs : List ℕ) (f : Fault) → (walk admit 0 0 nothing bs ≡ sent_back f.refusal f.place) × (f ≡ table_fault f.refusal f.place) → SentBack (listing bs) f
listed_back bs f h = inr (ap closed h.0, h.1)

-- the records of an accepted table
pub board_table : (bs : List ℕ) (n : ℕ) (l : Listing) → Bytes bs → walk admit 0 0 nothing bs ≡ accepted n (lists_of l) → (length (lists_of l).parts ≡ 0 → ⊥) → BoardTable bs l
board_table bs n l b h some =
    let read = walk_accepted admit (length bs) 0 n nothing (lists_of l) bs b (omega arith) h in
    let taken = run_taken read.0 nothing (lists_of l) (omega arith) (omega arith) (omega arith) read.2 in
    let parts : (lists_of l).parts ≡ parts_of read.0 = taken.parts in
    let rules : (lists_of l).rules ≡ rules_of read.0 = taken.rules in
    let one : 1 ≤ length (lists_of l).parts = omega arith in
    record {
      records = read.0;
      encoded = read.1;
      fits = record {
        some = subst (λ ps. 1 ≤ length ps) parts one;
        few = subst (λ ps. length ps ≤ 6) parts taken.few;
        ruled = subst (λ rs. length rs ≤ 24) rules taken.ruled;
        states = subst (λ ps. product ps ≤ 4096) parts taken.states;
        named = taken.earlier;
      };
      parts = parts;
      rules = rules;
    }

-- records that make the table of a board are accepted
accepted_whole : (bs : List ℕ) (rs : List Rec) → Encodes rs bs → Fits rs → listing bs ≡ accepted (length rs) (record { parts = parts_of rs; rules = rules_of rs })
accepted_whole bs rs e f =
    let l : Lists = record { parts = parts_of rs; rules = rules_of rs } in
    let ran : run admit nothing rs ≡ Ok l = taken_run rs [] [] e.ranged f.few f.ruled f.states f.named in
    let read : walk admit 0 0 nothing bs ≡ accepted (length rs) l = walk_encoded admit rs 0 nothing l bs e ran ∙ ap (λ n. accepted n l) (omega arith) in
    listed bs (length rs) l read (λ none. omega (arith, f.some))

pub only_full : (bs : List ℕ) (f : Fault) → SentBack (listing bs) f → OnlyFull bs f
only_full bs f (inl memory) rs e fits = memory
only_full bs f (inr back) rs e fits =
    let w = sym back.0 ∙ accepted_whole bs rs e fits in
    let z : ◌≡◌ {A = ℕ} 0 1 = cc in absurd (omega arith)
