-- The tests of rules, of lawful states and of joined ones say what they are meant to say.
use Rattle.std.specs.Prelude.{◌≡◌, ℕ, ◌≤◌, Bool, true, false, cond, Decides, ◌==◌, nat_le, nat_lt, refl}
use Rattle.std.proofs.Common.{arith}
use Rattle.std.proofs.lemmas.Bool.{leb-true, le-leb}
use Rattle.std.proofs.lemmas.Bool.Decides.{Decides-and, Decides-eqb, Decides-ltb, Decides-like}
use Rattle.std.proofs.ByRecursion.{Decides-by_and}
use Rattle.std.specs.List.{list_all, AllByRecursion}
use Rattle.table.specs.declared.rule.Rule.{Rule}
use Rattle.table.specs.declared.rule.Rule.TheVariants.{Window, Spread, Step, Need, Cap}
use Rattle.board.specs.Layouts.{Layout, states_of, level_at}
use Rattle.board.specs.Lawfulness.{apart, holds, is_lawful, Near, Holds, Lawful}
use Rattle.board.specs.Joining.{allows, Allows}

decides_leb : (a b : ℕ) → Decides (nat_le a b) (a ≤ b)
decides_leb a b = (leb-true a b, le-leb a b)

-- a bounded difference
decides_near : (most a b : ℕ) → Decides (nat_le (apart a b) most) (Near most a b)
decides_near most a b =
    ((λ e. let h = leb-true (apart a b) most e in (omega arith, omega arith)), λ n. le-leb (apart a b) most (omega (arith, n)))

-- a test that matters only where another passes
decides_where : {P Q : Type 0} (x y : Bool) → Decides x P → Decides y Q → Decides (cond x y true) (P → Q)
decides_where true y p q = ((λ e h. q.0 e), λ f. q.1 (f (p.0 refl)))
decides_where false y p q = ((λ e h. let n : false ≡ true = p.1 h in let z : ◌≡◌ {A = ℕ} 0 1 = cc in absurd (omega arith)), λ f. refl)

always : Decides true (Unit {0})
always = ((λ _. tt), λ _. refl)

decides_holds : (l : Layout) (s : ℕ) (r : Rule) → Decides (holds l s r) (Holds l s r)
decides_holds l s (Window rail floor ceiling) =
    Decides-and (nat_le floor (level_at l s rail)) (nat_le (level_at l s rail) ceiling) (decides_leb floor (level_at l s rail)) (decides_leb (level_at l s rail) ceiling)
decides_holds l s (Spread rail other most) = decides_near most (level_at l s rail) (level_at l s other)
decides_holds l s (Step rail most) = always
decides_holds l s (Need clock above rail least) =
    decides_where (nat_lt above (level_at l s clock)) (nat_le least (level_at l s rail)) (Decides-ltb above (level_at l s clock)) (decides_leb least (level_at l s rail))
decides_holds l s (Cap clock most) = decides_leb (level_at l s clock) most

decides_allows : (l : Layout) (s t p : ℕ) (r : Rule) → Decides (allows l s t p r) (Allows l s t p r)
decides_allows l s t p (Window rail floor ceiling) = always
decides_allows l s t p (Spread rail other most) = always
decides_allows l s t p (Step rail most) =
    decides_where (rail == p) (nat_le (apart (level_at l s p) (level_at l t p)) most) (Decides-eqb rail p) (decides_near most (level_at l s p) (level_at l t p))
decides_allows l s t p (Need clock above rail least) = always
decides_allows l s t p (Cap clock most) = always

pub decides_lawful : (l : Layout) (s : ℕ) → Decides (is_lawful l s) (Lawful l s)
decides_lawful l s =
    Decides-like (is_lawful l s) (λ w. record { below = w.0; keeps = w.1 }) (λ w. (w.below, w.keeps))
    (Decides-and (nat_lt s (states_of l)) (list_all (holds l s) l.rules) (Decides-ltb s (states_of l)) (Decides-by_and (holds l s) (Holds l s) (list_all (holds l s)) (decides_holds l s) refl (λ _ _. refl) l.rules))

pub decides_steps : (l : Layout) (s t p : ℕ) → Decides (list_all (allows l s t p) l.rules) (AllByRecursion (Allows l s t p) l.rules)
decides_steps l s t p = Decides-by_and (allows l s t p) (Allows l s t p) (list_all (allows l s t p)) (decides_allows l s t p) refl (λ _ _. refl) l.rules
