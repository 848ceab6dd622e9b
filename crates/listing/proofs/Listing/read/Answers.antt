use Rattle.std.proofs.Common.{◌≡◌, length, vec_items, vec_len, sym, ap, ◌∙◌, inl, inr, arith}
use Rattle.std.proofs.lemmas.List.{length-map, nil_from_length}
use Rattle.std.proofs.lemmas.Result.{err_from_is_err_and}
use Rattle.std.proofs.lemmas.Bool.{eqb-true, eqb-false}
use Rattle.answer.specs.declared.refusal.Refusal.TheVariants.{NoPart}
use Rattle.answer.specs.Faults.{table_fault}
use Rattle.listing.specs.Parts.{part_figures}
use Rattle.table.specs.Answered.{SentBack}
use Rattle.listing.specs.Listed.{lists_of}
use Rattle.listing.specs.Lists.{nothing, admit, listing}
use Rattle.table.specs.Reading.{walk, accepted}
use Rattle.table.proofs.LittleEndian.{bytes_from}
use Rattle.table.proofs.OnTheWay.{Here, here, here_less, way_more, way_all, way_fault, way_not_added, end_stays}
use Rattle.listing.proofs.Whole.{listed, listed_none, listed_back, board_table, only_full}
use Rattle.listing.proofs.Listing.read.Goals as goal
use Rattle.listing.proofs.Listing.read.Goals.{In-Some, In_default}

-- the record at the cursor
at_cursor : (c : In-Some) → Here c.args.table.now c.in-Some.placed c.records.reader.number c.records.reader.at c.next.new.self.number c.next.new.self.at
at_cursor c =
    here c.args.table.now c.records.reader.table.now c.in_ok-placed.field-0 c.in-Some.placed
    c.records.reader.number c.records.reader.at c.next.new.self.number c.next.new.self.at
    (bytes_from c.args.table.now c.type_inv.table) c.records.invariant.same c.in_ok-placed.ensures.read c.in-Some.is

-- the whole table, read to its end
at_end : (c : In_default) → walk admit 0 0 nothing c.args.table.now ≡ accepted c.records.reader.number (lists_of c.records.listing)
at_end c =
    way_all admit nothing c.args.table.now c.records.reader.table.now (lists_of c.records.listing) c.in_ok-placed.field-0
    c.records.reader.number c.records.reader.at c.next.new.self.number c.next.new.self.at
    c.records.invariant c.in_ok-placed.ensures.read c.in_default.is

-- the reader stays where it is at the end
moved_not : (c : In_default) → c.next.new.self.number ≡ c.records.reader.number
moved_not c =
    end_stays c.records.reader.table.now c.in_ok-placed.field-0 c.records.reader.number c.records.reader.at c.next.new.self.number c.next.new.self.at
    c.in_ok-placed.ensures.read c.in_default.is

pub returns-in_err-placed : goal.returns-in_err-placed
returns-in_err-placed c =
    let p = err_from_is_err_and c.from_residual.result c.from_residual.ensures.1 in
    let f = c.in_err-placed.field-0.0 in
    let back : SentBack (listing c.args.table.now) f =
    listed_back c.args.table.now f
    (way_fault admit nothing c.args.table.now c.records.reader.table.now (lists_of c.records.listing)
    c.records.reader.number c.records.reader.at c.next.new.self.number c.next.new.self.at f
    c.records.invariant c.in_err-placed.ensures.read) in
    rw (p.1, p.2) (record { read = back; exact = only_full c.args.table.now f back })

pub add-requires : goal.add-requires
add-requires c = (at_cursor (goal.at.add-requires c).In-Some).begins.ranged

pub records-smaller : goal.records-smaller
records-smaller c =
    here_less c.args.table.now c.records.reader.table.now c.next.new.self.table.now c.in-Some.placed
    c.records.reader.number c.records.reader.at c.next.new.self.number c.next.new.self.at
    (at_cursor (goal.at.records-smaller c).In-Some) c.in_ok-placed.ensures.bytes c.next.new.self.inside

pub records-preserved : goal.records-preserved
records-preserved c =
    way_more admit nothing c.args.table.now c.records.reader.table.now c.next.new.self.table.now (lists_of c.records.listing) (lists_of c.add.new.self) c.in-Some.placed
    c.records.reader.number c.records.reader.at c.next.new.self.number c.next.new.self.at
    c.records.invariant c.in_ok-placed.ensures.bytes (at_cursor (goal.at.records-preserved c).In-Some) c.in_ok-add.ensures

pub returns-in_err-add : goal.returns-in_err-add
returns-in_err-add c =
    let p = err_from_is_err_and c.from_residual-in_err-add.result c.from_residual-in_err-add.ensures.1 in
    let f = c.in_err-add.field-0.0 in
    let back : SentBack (listing c.args.table.now) f =
    elim c.in_err-add.ensures [
      | inl memory ↦ inl memory
      | inr why ↦
          listed_back c.args.table.now f
          (way_not_added admit nothing c.args.table.now c.records.reader.table.now (lists_of c.records.listing) c.in-Some.placed
          c.records.reader.number c.records.reader.at c.next.new.self.number c.next.new.self.at f
          c.records.invariant (at_cursor (goal.at.returns-in_err-add c).In-Some) why.0 why.1)
    ] in
    rw (p.1, p.2) (record { read = back; exact = only_full c.args.table.now f back })

pub returns-then-is_empty : goal.returns-then-is_empty
returns-then-is_empty c =
    let bs = c.args.table.now in
    let l = c.records.listing in
    let items = eqb-true (vec_len l.parts) 0 (sym c.if-is_empty.ensures) in
    let none = nil_from_length (lists_of l).parts (omega (arith, l.parts.ok.0, length-map (vec_items l.parts) part_figures)) in
    let back : SentBack (listing bs) c.table.result =
    listed_none bs c.records.reader.number (lists_of l) c.table.result (at_end (goal.at.returns-then-is_empty c).In_default) none
    (c.table.ensures ∙ ap (table_fault NoPart) (c.number.ensures ∙ moved_not (goal.at.returns-then-is_empty c).In_default)) in
    record { read = back; exact = only_full bs c.table.result back }

pub returns : goal.returns
returns c =
    let bs = c.args.table.now in
    let l = c.records.listing in
    let items = eqb-false (vec_len l.parts) 0 (sym c.if-is_empty.ensures) in
    let some = λ (none : length (lists_of l).parts ≡ 0). items (omega (arith, l.parts.ok.0, length-map (vec_items l.parts) part_figures)) in
    let read = at_end (goal.at.returns c).In_default in
    record {
      read = record { records = _; listed = listed bs _ (lists_of l) read some; fresh = l.fresh };
      exact = board_table bs _ l (bytes_from bs c.type_inv.table) read some;
    }
