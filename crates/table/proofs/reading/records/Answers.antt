use Rattle.std.proofs.Common.{vec_items}
use Rattle.std.proofs.lemmas.Result.{err_from_is_err_and}
use Rattle.table.proofs.Exact.{exactly, only_memory}
use Rattle.table.proofs.Going.{going_more, going_all, going_fault}
use Rattle.table.proofs.LittleEndian.{bytes_from}
use Rattle.table.proofs.OnTheWay.{Here, here, here_less}
use Rattle.table.proofs.reading.records.Goals as goal
use Rattle.table.proofs.reading.records.Goals.{In-Some}

-- the record at the cursor
at_cursor : (c : In-Some) → Here c.args.table.now c.in-Some.one c.records.reader.number c.records.reader.at c.next.new.self.number c.next.new.self.at
at_cursor c =
    here c.args.table.now c.records.reader.table.now c.in_ok-one.field-0 c.in-Some.one
    c.records.reader.number c.records.reader.at c.next.new.self.number c.next.new.self.at
    (bytes_from c.args.table.now c.type_inv.table) c.records.invariant.way.same c.in_ok-one.ensures.read c.in-Some.is

pub returns-in_err-one : goal.returns-in_err-one
returns-in_err-one c =
    let p = err_from_is_err_and c.from_residual.result c.from_residual.ensures.1 in
    let was = c.records.reader in
    let after = c.next.new.self in
    let back = going_fault c.args.table.now was.table.now (vec_items c.records.all) was.number was.at after.number after.at
    c.in_err-one.field-0.0 c.records.invariant c.in_err-one.ensures.read in
    rw (p.1, p.2) (record { read = back; exact = only_memory c.args.table.now c.in_err-one.field-0.0 back })

pub records-smaller : goal.records-smaller
records-smaller c =
    let was = c.records.reader in
    let after = c.next.new.self in
    here_less c.args.table.now was.table.now after.table.now c.in-Some.one was.number was.at after.number after.at
    (at_cursor (goal.at.records-smaller c).In-Some) c.in_ok-one.ensures.bytes after.inside

pub records-preserved : goal.records-preserved
records-preserved c =
    let was = c.records.reader in
    let after = c.next.new.self in
    going_more c.args.table.now was.table.now after.table.now (vec_items c.records.all) (vec_items c.push.new.self) c.in-Some.one
    was.number was.at after.number after.at c.records.invariant c.in_ok-one.ensures.bytes
    (at_cursor (goal.at.records-preserved c).In-Some) c.in_ok-push.ensures.items

pub returns : goal.returns
returns c =
    let was = c.records.reader in
    let after = c.next.new.self in
    let read = going_all c.args.table.now was.table.now (vec_items c.records.all) c.in_ok-one.field-0
    was.number was.at after.number after.at c.records.invariant c.in_ok-one.ensures.read c.in_default.is in
    record { read = read; exact = exactly c.args.table.now (vec_items c.records.all) (bytes_from c.args.table.now c.type_inv.table) read }
