use Rattle.std.proofs.Common.{true, false, refl, arith}
use Rattle.table.proofs.Frames.{framed_right}
use Rattle.table.specs.Meaning.{meant}
use Rattle.table.proofs.first.framed.Goals as goal

pub returns-then-in_range : goal.returns-then-in_range
returns-then-in_range c = (
  framed_right c.args.kind c.args.size c.args.rest.now _ (meant c.decode-record.result) true
      (omega arith) c.if-not-holds.ensures (omega arith) refl c.decode-record.ensures.held c.if-in_range.ensures,
  omega arith,
  omega arith,
  c.decode-record.ensures.own,
)

pub returns-else-in_range : goal.returns-else-in_range
returns-else-in_range c =
    framed_right c.args.kind c.args.size c.args.rest.now _ (meant c.decode-record.result) false
    (omega arith) c.if-not-holds.ensures (omega arith) refl c.decode-record.ensures.held c.if-in_range.ensures
