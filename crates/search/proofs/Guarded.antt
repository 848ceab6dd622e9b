-- A symmetric relation between different states, kept to lawful ones, makes a graph.
use Rattle.std.proofs.Common.{◌≡◌, ℕ, ◌<◌, ◌≤◌, Bool, true, ◌&&◌, ap₂}
use Rattle.std.proofs.Math.Bool.{and_comm}
use Rattle.std.proofs.lemmas.Bool.{and_parts}
use Rattle.search.specs.Graphs.{Meaning}

pub guarded : (n : ℕ) (lawful : ℕ → Bool) (apart : ℕ → ℕ → Bool)
    → n ≤ 4096
    → ((s : ℕ) → lawful s ≡ true → s < n)
    → ((s t : ℕ) → apart s t ≡ apart t s)
    → ((s t : ℕ) → apart s t ≡ true → s ≡ t → ⊥)
    → Meaning (record { states = n; lawful = lawful; joined = λ s t. apart s t && (lawful s && lawful t) })
guarded n lawful apart few within symmetric different = record {
  few = few;
  within = within;
  symmetric = λ s t. ap₂ (λ x y. x && y) (symmetric s t) (and_comm (lawful s) (lawful t));
  between = λ s t h. and_parts (lawful s) (lawful t) (and_parts (apart s t) (lawful s && lawful t) h).1;
  different = λ s t h. different s t (and_parts (apart s t) (lawful s && lawful t) h).0;
}
