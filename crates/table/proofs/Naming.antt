-- The test of a rule's names tells that it names what is there, and the other way round.
use Rattle.std.proofs.Common.{◌≡◌, ℕ, true, not, ◌&&◌, Option, Some, None, eqb, refl, ap}
use Rattle.std.proofs.lemmas.Bool.{and_parts, and_from, eqb-false, ne_eqb, not-true, not_from_false, false≢true}
use Rattle.device.specs.declared.kind.Kind.{Kind}
use Rattle.device.specs.declared.kind.Kind.TheVariants.{Rail, Clock}
use Rattle.table.specs.Names.{is_rail, is_clock, names_ok, Names}
use Rattle.table.specs.declared.rule.Rule.{Rule}
use Rattle.table.specs.declared.rule.Rule.TheVariants.{Window, Spread, Step, Need, Cap}

rail_is : (k : Option Kind) → is_rail k ≡ true → k ≡ Some Rail
rail_is (Some Rail) h = refl
rail_is (Some Clock) h = absurd (false≢true h)
rail_is None h = absurd (false≢true h)

clock_is : (k : Option Kind) → is_clock k ≡ true → k ≡ Some Clock
clock_is (Some Rail) h = absurd (false≢true h)
clock_is (Some Clock) h = refl
clock_is None h = absurd (false≢true h)

pub named : (kind : ℕ → Option Kind) (r : Rule) → names_ok kind r ≡ true → Names kind r
named kind (Window rail floor ceiling) h = rail_is (kind rail) h
named kind (Spread rail other most) h =
    let p = and_parts (is_rail (kind rail)) (is_rail (kind other) && not (eqb rail other)) h in
    let q = and_parts (is_rail (kind other)) (not (eqb rail other)) p.1 in
    (rail_is (kind rail) p.0, rail_is (kind other) q.0, eqb-false rail other (not-true (eqb rail other) q.1))
named kind (Step rail most) h = rail_is (kind rail) h
named kind (Need clock above rail least) h =
    let p = and_parts (is_clock (kind clock)) (is_rail (kind rail)) h in
    (clock_is (kind clock) p.0, rail_is (kind rail) p.1)
named kind (Cap clock most) h = clock_is (kind clock) h

pub names : (kind : ℕ → Option Kind) (r : Rule) → Names kind r → names_ok kind r ≡ true
names kind (Window rail floor ceiling) h = ap is_rail h
names kind (Spread rail other most) h =
    and_from (is_rail (kind rail)) (is_rail (kind other) && not (eqb rail other)) (ap is_rail h.0)
    (and_from (is_rail (kind other)) (not (eqb rail other)) (ap is_rail h.1) (not_from_false (eqb rail other) (ne_eqb rail other h.2)))
names kind (Step rail most) h = ap is_rail h
names kind (Need clock above rail least) h = and_from (is_clock (kind clock)) (is_rail (kind rail)) (ap is_clock h.0) (ap is_rail h.1)
names kind (Cap clock most) h = ap is_clock h
