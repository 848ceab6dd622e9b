-- A record's frame: what its checks come to.
use Rattle.std.proofs.Common.{◌≡◌, ℕ, ◌+◌, ◌-◌, ◌≤◌, Bool, true, cond, leb, List, length, take, drop, Some, sym, ap, ◌∙◌, arith}
use Rattle.std.proofs.lemmas.Bool.{le-leb}
use Rattle.answer.specs.declared.refusal.Refusal.TheVariants.{OutOfRange}
use Rattle.table.specs.Kinds.{body_ok}
use Rattle.table.specs.Records.{Rec, decode, figures_ok}
use Rattle.table.specs.Reading.{framed, found, refused}
use Rattle.table.specs.declared.kind.RecordKind.{RecordKind}

-- where the length is one of the kind's and the body is there, the figures decide
pub framed_right : (kind : RecordKind) (size : ℕ) (bs body : List ℕ) (r : Rec) (b : Bool)
    → 2 ≤ size → true ≡ body_ok kind (size - 2) → 2 + size ≤ length bs
    → body ≡ take ((2 + size) - 4) (drop 4 bs) → r ≡ decode kind body → b ≡ figures_ok r
    → framed size bs (Some kind) ≡ cond b (found r (2 + size)) (refused OutOfRange)
framed_right kind size bs body r b some fits there cut held tested =
    let t : leb 2 size ≡ true = le-leb 2 size some in
    let u : leb (2 + size) (length bs) ≡ true = le-leb (2 + size) (length bs) there in
    let k : body_ok kind (size - 2) ≡ true = sym fits in
    let e : (2 + size) - 4 ≡ size - 2 = omega arith in
    let same : r ≡ decode kind (take (size - 2) (drop 4 bs)) = held ∙ ap (decode kind) (cut ∙ ap (λ n. take n (drop 4 bs)) e) in
    let f : figures_ok (decode kind (take (size - 2) (drop 4 bs))) ≡ b = sym (tested ∙ ap figures_ok same) in
    simp (t, u, k, f) (ap (λ x. cond b (found x (2 + size)) (refused OutOfRange)) (sym same))
