-- Records are taken in one after the other exactly when they make the table of a board.
use Rattle.std.proofs.Common.{◌≡◌, ℕ, ◌*◌, ◌<◌, ◌≤◌, Bool, true, false, ◌&&◌, ltb, leb, List, [], ◌∷◌, ◌++◌, length, Ok, Err, Result, sym, refl, ap, ◌∙◌, ap₂, arith, length-append}
use Rattle.std.proofs.Math.Nat.{one-le-mul, le-mul_of_pos_right}
use Rattle.std.proofs.lemmas.Bool.Decides.{nat_tests}
use Rattle.std.proofs.lemmas.List.{append-nil, append_assoc}
use Rattle.std.proofs.lemmas.Bool.{and_parts, le-leb, lt-ltb}
use Rattle.std.specs.List.{AllByRecursion}
use Rattle.answer.specs.declared.refusal.Refusal.{Refusal}
use Rattle.answer.specs.declared.refusal.Refusal.TheVariants.{TooMany, WrongPart}
use Rattle.device.specs.Figures.{Figures, linear, listed, divider, tree, codes_of, from_to, level_ok, levels_ok, length_ok, ranged}
use Rattle.table.specs.Records.{Rec, part, rule, in_range}
use Rattle.table.specs.Reading.{by_added}
use Rattle.table.specs.Tables.{run}
use Rattle.listing.specs.Lists.{Lists, product, kind_at, admit, parts_of, rules_of, NamesEarlier}
use Rattle.table.specs.declared.rule.Rule.{Rule}
use Rattle.table.specs.Names.{names_ok}
use Rattle.table.proofs.Naming.{named, names}

-- the states of two lists of parts together
pub product_append : (ps qs : List Figures) → product (ps ++ qs) ≡ product ps * product qs
product_append [] qs = omega arith
product_append (p ∷ ps) qs = grind (arith, product_append ps qs)

-- what records that were all taken in have made of the lists
pub record Taken (l : Lists) (rs : List Rec) (t : Lists) : Type 0 where
  pub parts : t.parts ≡ l.parts ++ parts_of rs
  pub rules : t.rules ≡ l.rules ++ rules_of rs
  pub few : length t.parts ≤ 6
  pub ruled : length t.rules ≤ 24
  pub states : product t.parts ≤ 4096
  pub earlier : NamesEarlier l.parts rs

-- what is left to be taken in after a record, by what the lists make of it
run_more : (l : Lists) (r : Rec) (rs : List Rec) (v : Result Lists Refusal) → admit l r ≡ v → run admit l (r ∷ rs) ≡ by_added v (λ u. run admit u rs) (λ why. Err why)
run_more l r rs v e = ap (λ x. by_added x (λ u. run admit u rs) (λ why. Err why)) e

-- a record that is refused is not taken in
not_taken : {A : Type 0} (why : Refusal) (t : Lists) → Err why ≡ Ok t → A
not_taken why t e = let z : ◌≡◌ {A = ℕ} 0 1 = cc in absurd (omega arith)

pub run_taken : (rs : List Rec) (l t : Lists) → length l.parts ≤ 6 → length l.rules ≤ 24 → product l.parts ≤ 4096 → run admit l rs ≡ Ok t → Taken l rs t
run_taken [] l t few ruled states h =
    let same : l ≡ t = cc in
    let parts : l.parts ≡ t.parts = ap (λ (q : Lists). q.parts) same in
    let rules : l.rules ≡ t.rules = ap (λ (q : Lists). q.rules) same in
    record {
      parts = sym parts ∙ sym (append-nil l.parts);
      rules = sym rules ∙ sym (append-nil l.rules);
      few = omega (arith, ap length parts);
      ruled = omega (arith, ap length rules);
      states = omega (arith, ap product parts);
      earlier = tt;
    }
run_taken (part f ∷ rs) l t few ruled states h = go (run_taken rs more t) (ltb (length l.parts) 6 && leb (product l.parts * codes_of f) 4096) refl
  where
    more : Lists
    more = record { parts = l.parts ++ f ∷ []; rules = l.rules }

    go : (length more.parts ≤ 6 → length l.rules ≤ 24 → product more.parts ≤ 4096 → run admit more rs ≡ Ok t → Taken more rs t)
        → (b : Bool) → (ltb (length l.parts) 6 && leb (product l.parts * codes_of f) 4096) ≡ b → Taken l (part f ∷ rs) t
    go later false e = not_taken TooMany t (sym (run_more l (part f) rs (Err TooMany) (simp e)) ∙ h)
    go later true e =
        let w = sym (run_more l (part f) rs (Ok more) (simp e)) ∙ h in
        let rest = later (grind (arith, nat_tests, length-append l.parts (f ∷ []))) ruled (grind (arith, nat_tests, product_append l.parts (f ∷ []))) w in
        record {
          parts = rest.parts ∙ append_assoc l.parts (f ∷ []) (parts_of rs);
          rules = rest.rules;
          few = rest.few;
          ruled = rest.ruled;
          states = rest.states;
          earlier = rest.earlier;
        }
run_taken (rule r ∷ rs) l t few ruled states h = go (run_taken rs more t) (ltb (length l.rules) 24) (names_ok (kind_at l.parts) r) refl refl
  where
    more : Lists
    more = record { parts = l.parts; rules = l.rules ++ r ∷ [] }

    go : (length l.parts ≤ 6 → length more.rules ≤ 24 → product l.parts ≤ 4096 → run admit more rs ≡ Ok t → Taken more rs t)
        → (a b : Bool) → ltb (length l.rules) 24 ≡ a → names_ok (kind_at l.parts) r ≡ b → Taken l (rule r ∷ rs) t
    go later false b e k = not_taken TooMany t (sym (run_more l (rule r) rs (Err TooMany) (simp e)) ∙ h)
    go later true false e k = not_taken WrongPart t (sym (run_more l (rule r) rs (Err WrongPart) (simp (e, k))) ∙ h)
    go later true true e k =
        let w = sym (run_more l (rule r) rs (Ok more) (simp (e, k))) ∙ h in
        let rest = later few (grind (arith, nat_tests, length-append l.rules (r ∷ []))) states w in
        record {
          parts = rest.parts;
          rules = rest.rules ∙ append_assoc l.rules (r ∷ []) (rules_of rs);
          few = rest.few;
          ruled = rest.ruled;
          states = rest.states;
          earlier = (named (kind_at l.parts) r k, rest.earlier);
        }

lowest : (low high x : ℕ) → from_to low high x ≡ true → low ≤ x
lowest low high x h = grind (arith, nat_tests)

-- a part in range has a code
some_codes : (f : Figures) → length_ok f ≡ true → ranged f ≡ true → 1 ≤ codes_of f
some_codes (linear low step count) s h =
    let p = and_parts (level_ok low) _ h in
    let q = and_parts (from_to 1 5000000 step) _ p.1 in
    lowest 1 64 count (and_parts (from_to 1 64 count) _ q.1).0
some_codes (listed levels) s h = lowest 1 64 (length levels) s
some_codes (divider parent count) s h = lowest 1 64 count (and_parts (level_ok parent) (from_to 1 64 count) h).1
some_codes (tree divisors parents) s h =
    one-le-mul (lowest 1 8 (length parents) s) (lowest 1 8 divisors (and_parts (from_to 1 8 divisors) (levels_ok parents) h).0)

-- so parts in range make a state
some_states : (rs : List Rec) → AllByRecursion (λ r. in_range r ≡ true) rs → 1 ≤ product (parts_of rs)
some_states [] h = omega arith
some_states (part f ∷ rs) h =
    let p = and_parts (length_ok f) (ranged f) h.0 in
    one-le-mul (some_codes f p.0 p.1) (some_states rs h.1)
some_states (rule r ∷ rs) h = some_states rs h.1

-- records in range that make the table of a board are all taken in
pub taken_run : (rs : List Rec) (ps : List Figures) (qs : List Rule) → AllByRecursion (λ r. in_range r ≡ true) rs
    → length (ps ++ parts_of rs) ≤ 6 → length (qs ++ rules_of rs) ≤ 24 → product (ps ++ parts_of rs) ≤ 4096 → NamesEarlier ps rs
    → run admit (record { parts = ps; rules = qs }) rs ≡ Ok (record { parts = ps ++ parts_of rs; rules = qs ++ rules_of rs })
taken_run [] ps qs h few ruled states earlier =
    ap₂ (λ (a : List Figures) (b : List Rule). Ok (record { parts = a; rules = b })) (sym (append-nil ps)) (sym (append-nil qs))
taken_run (part f ∷ rs) ps qs h few ruled states earlier =
    let l : Lists = record { parts = ps; rules = qs } in
    let more : Lists = record { parts = ps ++ f ∷ []; rules = qs } in
    let whole : (ps ++ f ∷ []) ++ parts_of rs ≡ ps ++ f ∷ parts_of rs = append_assoc ps (f ∷ []) (parts_of rs) in
    let long : length ps < 6 = omega (arith, length-append ps (f ∷ parts_of rs)) in
    let parts : product (ps ++ f ∷ parts_of rs) ≡ product (ps ++ f ∷ []) * product (parts_of rs) = sym (ap product whole) ∙ product_append (ps ++ f ∷ []) (parts_of rs) in
    let least = le-mul_of_pos_right (product (ps ++ f ∷ [])) (some_states rs h.1) in
    let count : product ps * codes_of f ≤ 4096 = omega (arith, product_append ps (f ∷ [])) in
    let s = lt-ltb (length ps) 6 long in
    let t = le-leb (product ps * codes_of f) 4096 count in
    let rest = taken_run rs (ps ++ f ∷ []) qs h.1 (omega (arith, ap length whole)) ruled (omega (arith, ap product whole)) earlier in
    run_more l (part f) rs (Ok more) (simp (s, t)) ∙ rest ∙ ap (λ (a : List Figures). Ok (record { parts = a; rules = qs ++ rules_of rs })) whole
taken_run (rule r ∷ rs) ps qs h few ruled states earlier =
    let l : Lists = record { parts = ps; rules = qs } in
    let more : Lists = record { parts = ps; rules = qs ++ r ∷ [] } in
    let whole : (qs ++ r ∷ []) ++ rules_of rs ≡ qs ++ r ∷ rules_of rs = append_assoc qs (r ∷ []) (rules_of rs) in
    let long : length qs < 24 = omega (arith, length-append qs (r ∷ rules_of rs)) in
    let s = lt-ltb (length qs) 24 long in
    let t = names (kind_at ps) r earlier.0 in
    let rest = taken_run rs ps (qs ++ r ∷ []) h.1 few (omega (arith, ap length whole)) states earlier.1 in
    run_more l (rule r) rs (Ok more) (simp (s, t)) ∙ rest ∙ ap (λ (b : List Rule). Ok (record { parts = ps ++ parts_of rs; rules = b })) whole
