-- What the verdict on a layout tells.
use Rattle.std.specs.Prelude.{◌≡◌, ℕ, ◌<◌, Bool, true, false, ◌&&◌, ◌⊎◌, ◌↔◌, List, length, Some, None, Ok, Err, Decides, Option, ◌==◌, nat_eq, nat_le, refl}
use Rattle.std.proofs.Common.{sym, ap, ◌∙◌, inl, inr, arith}
use Rattle.std.proofs.lemmas.Bool.{and_parts, and_from, eqb-false, ne_eqb, leb-true, le-leb}
use Rattle.std.proofs.ByRecursion.{Decides-by_and}
use Rattle.std.specs.List.{list_all, AllByRecursion}
use Rattle.std.specs.Result.{result_unwrap_or, result_err}
use Rattle.answer.specs.declared.refusal.Refusal.{Refusal}
use Rattle.answer.specs.declared.refusal.Refusal.TheVariants.{NoPart, TooMany, WrongPart}
use Rattle.device.specs.declared.kind.Kind.{Kind}
use Rattle.table.specs.Names.{names_ok, Names}
use Rattle.table.specs.declared.rule.Rule.{Rule}
use Rattle.table.proofs.Naming.{named, names}
use Rattle.bank.specs.States.{weight}
use Rattle.board.specs.Layouts.{Layout, NoDefect, fits, verdict_of, states_of}

-- a layout with no defect
pub record Flawless (l : Layout) : Type 0 where
  pub verdict : verdict_of l ≡ Ok (weight l.count l.parts)
  pub whole : NoDefect l

-- the test of all names
decides_named : (kind : ℕ → Option Kind) (rules : List Rule) → Decides (list_all (names_ok kind) rules) (AllByRecursion (Names kind) rules)
decides_named kind rules = Decides-by_and (names_ok kind) (Names kind) (list_all (names_ok kind)) (λ r. (named kind r, names kind r)) refl (λ _ _. refl) rules

-- a layout with a defect
pub Flawed : Layout → Type 0
Flawed l = (why : Refusal) × (verdict_of l ≡ Err why)

pub cases_verdict : (l : Layout) → Flawless l ⊎ Flawed l
unfolding Flawed
cases_verdict l = go (l.parts == 0) (fits l) (list_all (names_ok l.kind) l.rules) refl refl refl
  where
    go : (a b c : Bool) → (l.parts == 0) ≡ a → fits l ≡ b → list_all (names_ok l.kind) l.rules ≡ c → Flawless l ⊎ Flawed l
    go true b c x y z = inr (NoPart, simp x)
    go false false c x y z = inr (TooMany, simp (x, y))
    go false true false x y z = inr (WrongPart, simp (x, y, z))
    go false true true x y z =
        let p = and_parts (nat_le l.parts 6) (nat_le (length l.rules) 24 && nat_le (weight l.count l.parts) 4096) y in
        let q = and_parts (nat_le (length l.rules) 24) (nat_le (weight l.count l.parts) 4096) p.1 in
        let none = eqb-false l.parts 0 x in
        inl (record {
          verdict = simp (x, y, z);
          whole = record {
            some = omega (arith, none);
            few = leb-true l.parts 6 p.0;
            ruled = leb-true (length l.rules) 24 q.0;
            bounded = leb-true (weight l.count l.parts) 4096 q.1;
            named = (decides_named l.kind l.rules).0 z;
          };
        })

-- with a defect there is no state
pub no_states : (l : Layout) → Flawed l → states_of l ≡ 0
unfolding Flawed
no_states l w = ap (λ v. result_unwrap_or v 0) w.1

-- without one the states are the product's
pub states_are : (l : Layout) → Flawless l → states_of l ≡ weight l.count l.parts
states_are l w = ap (λ v. result_unwrap_or v 0) w.verdict

-- where there is a state there is no defect
pub flawless : (l : Layout) → 0 < states_of l → Flawless l
flawless l h =
    elim (cases_verdict l) [
      | inl w ↦ w
      | inr w ↦ absurd (omega (arith, no_states l w))
    ]

-- an accepting verdict
pub flawless_ok : (l : Layout) (n : ℕ) → Ok n ≡ verdict_of l → Flawless l
unfolding Flawed
flawless_ok l n e =
    elim (cases_verdict l) [
      | inl w ↦ w
      | inr w ↦
          let other : verdict_of l ≡ Err w.0 = w.1 in
          let z : ◌≡◌ {A = ℕ} 0 1 = cc in
          absurd (omega arith)
    ]

-- a board without a defect is accepted
pub whole_ok : (l : Layout) → NoDefect l → verdict_of l ≡ Ok (weight l.count l.parts)
whole_ok l w =
    let a : nat_eq l.parts 0 ≡ false = ne_eqb l.parts 0 (λ e. omega (arith, w.some)) in
    let b : fits l ≡ true =
    and_from (nat_le l.parts 6) (nat_le (length l.rules) 24 && nat_le (weight l.count l.parts) 4096) (le-leb l.parts 6 w.few)
    (and_from (nat_le (length l.rules) 24) (nat_le (weight l.count l.parts) 4096) (le-leb (length l.rules) 24 w.ruled) (le-leb (weight l.count l.parts) 4096 w.bounded)) in
    let c : list_all (names_ok l.kind) l.rules ≡ true = (decides_named l.kind l.rules).1 w.named in
    simp (a, b, c)

-- no defect is found exactly where there is none
pub finds_none : (l : Layout) (r : Option Refusal) → r ≡ result_err (verdict_of l) → (r ≡ None) ↔ NoDefect l
unfolding Flawed
finds_none l r found = (
  (λ e. elim (cases_verdict l) [
    | inl w ↦ w.whole
    | inr w ↦
        let other : Some w.0 ≡ None = sym (ap result_err w.1) ∙ sym found ∙ e in
        let z : ◌≡◌ {A = ℕ} 0 1 = cc in
        absurd (omega arith)
  ]),
  λ w. found ∙ ap result_err (whole_ok l w),
)
