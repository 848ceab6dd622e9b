-- A table is accepted exactly when it is the encoding of records in range.
use Rattle.std.proofs.Common.{◌≡◌, ℕ, List, [], ◌∷◌, ◌++◌, map, length, Ok, sym, ap, ◌∙◌, subst, inl, inr, arith}
use Rattle.std.proofs.lemmas.List.{append-nil, append_assoc}
use Rattle.answer.specs.declared.fault.Fault.{Fault}
use Rattle.table.specs.Bytes.{Bytes}
use Rattle.table.specs.Records.{Rec}
use Rattle.table.specs.Reading.{accepted, sent_back}
use Rattle.table.specs.Tables.{Encodes, run, keep, records_of}
use Rattle.table.specs.Answered.{placed_record, RecordsRead, SentBack, Exactly, OnlyMemory}
use Rattle.table.specs.declared.record.Placed.{Placed}
use Rattle.table.proofs.Walks.{walk_encoded, walk_accepted}

-- records that are kept one after the other are those records
run_keep : (rs before : List Rec) → run keep before rs ≡ Ok (before ++ rs)
run_keep [] before = ap Ok (sym (append-nil before))
run_keep (r ∷ rs) before = run_keep rs (before ++ r ∷ []) ∙ ap Ok (append_assoc before (r ∷ []) rs)

-- bytes of records in range are read as those records
read_back : (bs : List ℕ) (ss : List Rec) → Encodes ss bs → records_of bs ≡ accepted (length ss) ss
read_back bs ss e = walk_encoded keep ss 0 [] ss bs e (run_keep ss []) ∙ ap (λ n. accepted n ss) (omega arith)

pub exactly : (bs : List ℕ) (ps : List Placed) → Bytes bs → RecordsRead bs ps → Exactly bs (map placed_record ps)
exactly bs ps b h =
    let read = walk_accepted keep (length bs) 0 (length ps) [] (map placed_record ps) bs b (omega arith) h.read in
    let same : Ok read.0 ≡ Ok (map placed_record ps) = sym (run_keep read.0 []) ∙ read.2 in
    let records : read.0 ≡ map placed_record ps = cc in
    (subst (λ (rs : List Rec). Encodes rs bs) records read.1, λ ss e. (let w : accepted (length ss) ss ≡ accepted (length ps) (map placed_record ps) = sym (read_back bs ss e) ∙ h.read in cc))

pub only_memory : (bs : List ℕ) (f : Fault) → SentBack (records_of bs) f → OnlyMemory bs f
only_memory bs f (inl memory) ss e = memory
only_memory bs f (inr back) ss e =
    let w : sent_back f.refusal f.place ≡ accepted (length ss) ss = sym back.0 ∙ read_back bs ss e in
    let z : ◌≡◌ {A = ℕ} 0 1 = cc in absurd (omega arith)
