-- The best of the codes, kept from code to code.
use Rattle.std.proofs.Common.{◌≡◌, ℕ, zero, suc, ◌+◌, ◌<◌, ◌≤◌, Bool, true, false, ◌&&◌, cond, leb, List, [], ◌∷◌, Some, None, Option, sym, refl, ap, ap₂, ◌∙◌, subst, inl, inr, ◌≢◌, map-id, add-zero, zero-add, arith}
use Rattle.std.proofs.lemmas.Bool.{and_parts, and_from, leb-true, le-leb, cases_eq, cases_Bool, both_ways}
use Rattle.std.proofs.lemmas.Cmp.{ranked}
use Rattle.std.specs.Iterator.{KeyTurn, Drains, PicksMinByKey}
use Rattle.std.proofs.lemmas.Iterator.{YieldsList, items_from_drains}
use Rattle.std.specs.Fn.{CalledAt}
use Rattle.std.specs.List.{FoldsTo, filter, range_with_len}
use Rattle.std.specs.Option.{MatchOption}
use Rattle.std.specs.Ordering.{nat_cmp, min_by_ordering, MatchOrdering}
use Rattle.std.specs.declared.cmp.Ordering.{Ordering}
use Rattle.std.specs.declared.cmp.Ordering.TheVariants.{Less, Equal, Greater}
use denote.Param.Members.{Mut}
use denote.Ref.{Bor}
use Rattle.device.specs.Seek.{Lies, Found}

module _ (level : ℕ → ℕ) (low high : ℕ) where
  -- whether a code's level lies in the window
  abbrev pub inside : ℕ → Bool
  inside c = leb low (level c) && leb (level c) high

  inside_lies : (n c : ℕ) → inside c ≡ true → c < n → Lies n level low high c
  inside_lies n c e h =
      let ends = and_parts (leb low (level c)) (leb (level c) high) e in
      (h, leb-true low (level c) ends.0, leb-true (level c) high ends.1)

  lies_inside : (n c : ℕ) → Lies n level low high c → inside c ≡ true
  lies_inside n c l = and_from (leb low (level c)) (leb (level c) high) (le-leb low (level c) l.1) (le-leb (level c) high l.2)

  -- of the codes below one more, those but the last
  below : (a c : ℕ) → c ≢ a → Lies (a + 1) level low high c → Lies a level low high c
  below a c ne l = (omega arith, l.1, l.2)

  -- a code outside the window
  passed : (a : ℕ) (r : Option ℕ) → inside a ≡ false → Found a level low high r → Found (a + 1) level low high r
  passed a r e was = go r was
    where
      out : (c : ℕ) → Lies (a + 1) level low high c → Lies a level low high c
      out c l = below a c (λ h. both_ways (inside c) (ap inside h ∙ e) (lies_inside (a + 1) c l)) l

      go : (r : Option ℕ) → Found a level low high r → Found (a + 1) level low high r
      go None none = λ c l. none c (out c l)
      go (Some b) best = record {
        lies = (omega (arith, best.lies), best.lies.1, best.lies.2);
        lowest = λ c l. best.lowest c (out c l);
        first = best.first;
      }

  -- the first code in the window
  came : (a : ℕ) → inside a ≡ true → Found a level low high None → Found (a + 1) level low high (Some a)
  came a e none = record {
    lies = here;
    lowest = λ c l. elim (cases_eq c a) [
      | inl h ↦ let same = ap level h in omega arith
      | inr ne ↦ absurd (none c (below a c ne l))
    ];
    first = λ c h same. none c (h, omega (arith, here), omega (arith, here));
  }
    where
      here : Lies (a + 1) level low high a
      here = inside_lies (a + 1) a e (omega arith)

  -- a further one is better only where its level is lower
  kept : (a b : ℕ) → inside a ≡ true → Found a level low high (Some b)
      → (o : Ordering) → o ≡ nat_cmp (level b) (level a) → Found (a + 1) level low high (Some (min_by_ordering o b a))
  kept a b e best o is = go o (ranked (level b) (level a) o is)
    where
      stays : level b ≤ level a → Found (a + 1) level low high (Some b)
      stays h = record {
        lies = (omega (arith, best.lies), best.lies.1, best.lies.2);
        lowest = λ c l. elim (cases_eq c a) [
          | inl at ↦ let same = ap level at in omega arith
          | inr ne ↦ best.lowest c (below a c ne l)
        ];
        first = best.first;
      }

      here : Lies (a + 1) level low high a
      here = inside_lies (a + 1) a e (omega arith)

      go : (o : Ordering) → MatchOrdering o (level b < level a) (level b ≡ level a) (level a < level b) → Found (a + 1) level low high (Some (min_by_ordering o b a))
      go Less h = stays (omega arith)
      go Equal h = stays (omega arith)
      go Greater h = record {
        lies = here;
        lowest = λ c l. elim (cases_eq c a) [
          | inl at ↦ let same = ap level at in omega arith
          | inr ne ↦ let low = best.lowest c (below a c ne l) in omega arith
        ];
        first = λ c l same. let low = best.lowest c (l, omega (arith, here), omega (arith, here)) in absurd (omega arith);
      }

  module _ {F : Type 0} (g : Mut F (Bor ℕ × Unit {0}) ℕ) (f : F) (key : (x r : ℕ) (q : F) → CalledAt g f x r q → (q ≡ f) × (r ≡ level x)) where
    abbrev pub Turn : (F × ℕ) × ℕ → ℕ → (F × ℕ) × ℕ → Type 0
    Turn = KeyTurn min_by_ordering min_by_ordering g nat_cmp

    -- a turn takes the best so far and its key to the next
    better : (a : ℕ) (p q : (F × ℕ) × ℕ) → inside a ≡ true → p.0.0 ≡ f → p.0.1 ≡ level p.1 → Found a level low high (Some p.1) → Turn p a q
        → (q.0.0 ≡ f) × (q.0.1 ≡ level q.1) × Found (a + 1) level low high (Some q.1)
    better a p q e same is best t =
        let d = key a t.0 q.0.0 (subst (λ w. CalledAt g w a t.0 q.0.0) same t.2) in
        let order : t.1 ≡ nat_cmp (level p.1) (level a) = sym t.3 ∙ ap₂ nat_cmp is d.1 in (
          d.0,
          t.4 ∙ ap₂ (min_by_ordering t.1) is d.1 ∙ picks_level t.1 p.1 a ∙ ap level (sym t.5),
          subst (λ c. Found (a + 1) level low high (Some c)) (sym t.5) (kept a p.1 e best t.1 order),
        )
      where
        picks_level : (o : Ordering) (b c : ℕ) → min_by_ordering o (level b) (level c) ≡ level (min_by_ordering o b c)
        picks_level Less b c = refl
        picks_level Equal b c = refl
        picks_level Greater b c = refl

    -- over the n codes from a on, from the best before
    walked : (n a : ℕ) (p q : (F × ℕ) × ℕ) → p.0.0 ≡ f → p.0.1 ≡ level p.1 → Found a level low high (Some p.1) → FoldsTo Turn p (filter inside (range_with_len a n)) q
        → Found (a + n) level low high (Some q.1)
    walked zero a p q same is best t = subst (λ (z : (F × ℕ) × ℕ). Found (a + 0) level low high (Some z.1)) t (subst (λ k. Found k level low high (Some p.1)) (sym (add-zero a)) best)
    walked (suc n) a p q same is best t =
        let rest = filter inside (range_with_len (a + 1) n) in
        let step = λ (b : Bool). FoldsTo Turn p (cond b (a ∷ rest) rest) q in
        let next : a + 1 + n ≡ a + suc n = omega arith in
        subst (λ k. Found k level low high (Some q.1)) next (elim (cases_Bool (inside a)) [
          | inl e ↦
              let u = subst step e t in
              let d = better a p u.0 e same is best u.1 in
              walked n (a + 1) u.0 q d.0 d.1 d.2 u.2
          | inr e ↦ walked n (a + 1) p q same is (passed a (Some p.1) e best) (subst step e t)
        ])

    -- what is picked of some codes
    abbrev Picks : List ℕ → Option ℕ → Type 0
    Picks ys r = MatchOption r (ys ≡ [])
        (λ y. (x : ℕ) × (xs : List ℕ) × (k : ℕ) × (w : F) × (q : F × ℕ) × (ys ≡ x ∷ xs) × CalledAt g f x k w × FoldsTo Turn ((w, k), x) xs (q, y))

    -- from the first code in the window
    begun : (n a : ℕ) (r : Option ℕ) → inside a ≡ true → Found a level low high None → Picks (a ∷ filter inside (range_with_len (a + 1) n)) r
        → Found (a + 1 + n) level low high r
    begun n a None e none u = cc
    begun n a (Some y) e none u =
        let d = key u.0 u.2 u.3 u.6 in
        let first : u.0 ≡ a = (cc) in
        let others : u.1 ≡ filter inside (range_with_len (a + 1) n) = (cc) in
        walked n (a + 1) ((u.3, u.2), u.0) (u.4, y) d.0 d.1 (subst (λ c. Found (a + 1) level low high (Some c)) (sym first) (came a e none))
        (subst (λ l. FoldsTo Turn ((u.3, u.2), u.0) l (u.4, y)) others u.7)

    -- over the n codes from a on, from none before
    picked : (n a : ℕ) (r : Option ℕ) → Found a level low high None → Picks (filter inside (range_with_len a n)) r → Found (a + n) level low high r
    picked zero a None none h = subst (λ k. Found k level low high None) (sym (add-zero a)) none
    picked zero a (Some y) none h = cc
    picked (suc n) a r none h =
        let rest = filter inside (range_with_len (a + 1) n) in
        let step = λ (b : Bool). Picks (cond b (a ∷ rest) rest) r in
        let next : a + 1 + n ≡ a + suc n = omega arith in
        subst (λ k. Found k level low high r) next (elim (cases_Bool (inside a)) [
          | inl e ↦ begun n a r e none (subst step e h)
          | inr e ↦ picked n (a + 1) r (passed a None e none) (subst step e h)
        ])

    -- what is picked of all codes
    pub picked_all : {S : Type 0} {steps : S → Option ℕ → S → Type 0} {s : S} (n : ℕ) (r : Option ℕ) → PicksMinByKey steps g nat_cmp s f r
        → YieldsList steps (λ x. x) s (filter inside (range_with_len 0 n)) → Found n level low high r
    picked_all {S} {steps} {s} n r h all = subst (λ k. Found k level low high r) (zero-add n) (picked n 0 r (λ c l. absurd (omega (arith, l))) (go r h))
      where
        listed : (xs : List ℕ) → Drains steps s xs → filter inside (range_with_len 0 n) ≡ xs
        listed xs d = sym (items_from_drains xs (d.1.0, d.1.1, λ _. (d.0, d.1.2)) all) ∙ map-id xs

        go : (r : Option ℕ) → PicksMinByKey steps g nat_cmp s f r → Picks (filter inside (range_with_len 0 n)) r
        go None d = listed [] d
        go (Some y) d = (d.0, d.1, d.2, d.3, d.4, listed (d.0 ∷ d.1) d.5, d.6, d.7)
