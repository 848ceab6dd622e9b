-- The reading of whole tables: the bytes of records are read as those records.
use Rattle.std.proofs.Common.{◌≡◌, ℕ, zero, suc, ◌+◌, ◌-◌, ◌<◌, ◌≤◌, List, [], ◌∷◌, ◌++◌, length, drop, Ok, Err, Result, sym, refl, ap, ◌∙◌, ap₂, arith, length-drop}
use Rattle.std.specs.List.{flat_map}
use Rattle.std.proofs.lemmas.List.{drop_at, nil_from_length}
use Rattle.answer.specs.declared.refusal.Refusal.{Refusal}
use Rattle.table.specs.Bytes.{Bytes}
use Rattle.table.specs.Records.{Rec, encode}
use Rattle.table.specs.Reading.{Front, finished, found, refused, front, by_front, by_added, accepted, sent_back, walk}
use Rattle.table.specs.Tables.{Encodes, run}
use Rattle.table.proofs.LittleEndian.{bytes_drop}
use Rattle.table.proofs.Fronts.{front_encoded, front_found, front_finished, Begins}

module _ {S : Type 0} (add : S → Rec → Result S Refusal) where
  -- passing over bytes
  walk_skip : (k n : ℕ) (s : S) (bs : List ℕ) → walk add k n s bs ≡ walk add 0 n s (drop k bs)
  walk_skip zero n s bs = refl
  walk_skip (suc k) n s [] = refl
  walk_skip (suc k) n s (b ∷ bs) = walk_skip k n s bs

  -- the reading goes on behind a record that is added
  pub walk_more : (n : ℕ) (s t : S) (bs : List ℕ) (r : Rec) (size : ℕ) → front bs ≡ found r size → 1 ≤ size → add s r ≡ Ok t → walk add 0 n s bs ≡ walk add 0 (n + 1) t (drop size bs)
  walk_more n s t [] r size e h a = let z : ◌≡◌ {A = ℕ} 0 1 = cc in absurd (omega arith)
  walk_more n s t (b ∷ bs) r zero e h a = absurd (omega arith)
  walk_more n s t (b ∷ bs) r (suc k) e h a =
      ap (λ f. by_front f (accepted n s) (λ why. sent_back why n) (λ q m. by_added (add s q) (λ u. walk add (m - 1) (n + 1) u bs) (λ why. sent_back why n))) e
      ∙ ap (λ x. by_added x (λ u. walk add (suc k - 1) (n + 1) u bs) (λ why. sent_back why n)) a
      ∙ ap (λ m. walk add m (n + 1) t bs) (omega arith)
      ∙ walk_skip k (n + 1) t bs

  -- stops at one that is not added
  pub walk_not_added : (n : ℕ) (s : S) (bs : List ℕ) (r : Rec) (size : ℕ) (why : Refusal) → front bs ≡ found r size → add s r ≡ Err why → walk add 0 n s bs ≡ sent_back why n
  walk_not_added n s [] r size why e a = let z : ◌≡◌ {A = ℕ} 0 1 = cc in absurd (omega arith)
  walk_not_added n s (b ∷ bs) r size why e a =
      ap (λ f. by_front f (accepted n s) (λ v. sent_back v n) (λ q m. by_added (add s q) (λ u. walk add (m - 1) (n + 1) u bs) (λ v. sent_back v n))) e
      ∙ ap (λ x. by_added x (λ u. walk add (size - 1) (n + 1) u bs) (λ v. sent_back v n)) a

  -- and where there is none
  pub walk_refused : (n : ℕ) (s : S) (bs : List ℕ) (why : Refusal) → front bs ≡ refused why → walk add 0 n s bs ≡ sent_back why n
  walk_refused n s [] why e = let z : ◌≡◌ {A = ℕ} 0 1 = cc in absurd (omega arith)
  walk_refused n s (b ∷ bs) why e =
      ap (λ f. by_front f (accepted n s) (λ v. sent_back v n) (λ q m. by_added (add s q) (λ u. walk add (m - 1) (n + 1) u bs) (λ v. sent_back v n))) e

  -- and ends with the bytes
  pub walk_end : (n : ℕ) (s : S) (bs : List ℕ) → front bs ≡ finished → walk add 0 n s bs ≡ accepted n s
  walk_end n s bs e = ap (walk add 0 n s) (nil_from_length bs (front_finished bs e))

  -- the bytes of records in range are read as those records
  pub walk_encoded : (rs : List Rec) (n : ℕ) (s t : S) (bs : List ℕ) → Encodes rs bs → run add s rs ≡ Ok t → walk add 0 n s bs ≡ accepted (n + length rs) t
  walk_encoded [] n s t bs e h =
      let same : s ≡ t = cc in
      ap (walk add 0 n s) (sym e.bytes) ∙ ap₂ (λ (k : ℕ) (u : S). accepted k u) (omega arith) same
  walk_encoded (r ∷ rs) n s t bs e h =
      go (λ u. walk_encoded rs (n + 1) u t (flat_map encode rs) (record { ranged = e.ranged.1; bytes = refl })) (add s r) refl
    where
      here : front bs ≡ found r (length (encode r))
      here = ap front (sym e.bytes) ∙ front_encoded r (flat_map encode rs) e.ranged.0

      behind : drop (length (encode r)) bs ≡ flat_map encode rs
      behind = ap (drop (length (encode r))) (sym e.bytes) ∙ drop_at (encode r) (flat_map encode rs) (length (encode r)) refl

      go : ((u : S) → run add u rs ≡ Ok t → walk add 0 (n + 1) u (flat_map encode rs) ≡ accepted (n + 1 + length rs) t)
          → (x : Result S Refusal) → add s r ≡ x → walk add 0 n s bs ≡ accepted (n + length (r ∷ rs)) t
      go later (Err why) a =
          let w : Err why ≡ Ok t = sym (ap (λ x. by_added x (λ u. run add u rs) (λ v. Err v)) a) ∙ h in
          let z : ◌≡◌ {A = ℕ} 0 1 = cc in absurd (omega arith)
      go later (Ok u) a =
          let rest : run add u rs ≡ Ok t = sym (ap (λ x. by_added x (λ v. run add v rs) (λ v. Err v)) a) ∙ h in
          walk_more n s u bs r (length (encode r)) here (omega arith) a
          ∙ ap (walk add 0 (n + 1) u) behind
          ∙ later u rest
          ∙ ap (λ k. accepted k t) (omega arith)

  -- the records that bytes are read as
  abbrev ReadAs : ℕ → ℕ → S → S → List ℕ → Type 0
  ReadAs n m s t bs = (rs : List Rec) × Encodes rs bs × (run add s rs ≡ Ok t) × (m ≡ n + length rs)

  one_more : (n m : ℕ) (s t : S) (bs : List ℕ) → Bytes bs
      → ((n' : ℕ) (s' : S) (rest : List ℕ) → Bytes rest → length rest < length bs → walk add 0 n' s' rest ≡ accepted m t → ReadAs n' m s' t rest)
      → walk add 0 n s bs ≡ accepted m t → (f : Front) → front bs ≡ f → ReadAs n m s t bs
  one_more n m s t bs b later e finished f =
      let w : accepted n s ≡ accepted m t = sym (walk_end n s bs f) ∙ e in
      let same : s ≡ t = cc in
      let count : n ≡ m = cc in
      ([], record { ranged = tt; bytes = sym (nil_from_length bs (front_finished bs f)) }, ap Ok same, omega arith)
  one_more n m s t bs b later e (refused why) f =
      let w : sent_back why n ≡ accepted m t = sym (walk_refused n s bs why f) ∙ e in
      let z : ◌≡◌ {A = ℕ} 0 1 = cc in absurd (omega arith)
  one_more n m s t bs b later e (found r size) f = go (add s r) refl
    where
      begins : Begins bs r size
      begins = front_found bs r size b f

      go : (x : Result S Refusal) → add s r ≡ x → ReadAs n m s t bs
      go (Err why) a =
          let w : sent_back why n ≡ accepted m t = sym (walk_not_added n s bs r size why f a) ∙ e in
          let z : ◌≡◌ {A = ℕ} 0 1 = cc in absurd (omega arith)
      go (Ok u) a =
          let one : 1 ≤ size = omega (arith, begins.some) in
          let shorter : length (drop size bs) < length bs = omega (arith, length-drop size bs, begins.some, begins.inside) in
          let w : walk add 0 (n + 1) u (drop size bs) ≡ accepted m t = sym (walk_more n s u bs r size f one a) ∙ e in
          let rest = later (n + 1) u (drop size bs) (bytes_drop size bs b) shorter w in (
            r ∷ rest.0,
            record { ranged = (begins.ranged, rest.1.ranged); bytes = ap (λ q. encode r ++ q) rest.1.bytes ∙ begins.bytes },
            ap (λ x. by_added x (λ v. run add v rest.0) (λ v. Err v)) a ∙ rest.2,
            omega (arith, rest.3),
          )

  -- and bytes that are read to their end are the bytes of records in range
  pub walk_accepted : (k n m : ℕ) (s t : S) (bs : List ℕ) → Bytes bs → length bs ≤ k → walk add 0 n s bs ≡ accepted m t → ReadAs n m s t bs
  walk_accepted zero n m s t bs b h e = one_more n m s t bs b (λ n' s' rest b' h' e'. absurd (omega arith)) e (front bs) refl
  walk_accepted (suc k) n m s t bs b h e =
      one_more n m s t bs b (λ n' s' rest b' h' e'. walk_accepted k n' m s' t rest b' (omega arith) e') e (front bs) refl
