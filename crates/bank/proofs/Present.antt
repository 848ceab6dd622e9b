-- Only parts that a bank has can be written.
use Rattle.std.proofs.Common.{◌≡◌, ℕ, ◌<◌, true, sym, ap, ◌∙◌, inl, inr}
use Rattle.std.proofs.lemmas.Bool.{cases_lt, false≢true}
use Rattle.device.specs.Device.{Device}
use Rattle.bank.specs.Banks.{BankModel, Sound}

-- a part with two codes that one write joins is there
pub linked_present : (m : BankModel) → Sound m → (p a b : ℕ) → (m.device p).linked a b ≡ true → p < m.parts
linked_present m s p a b h =
    elim (cases_lt p m.parts) [
      | inl l ↦ l
      | inr l ↦ absurd (false≢true (sym (ap (λ (d : Device). d.linked a b) (s.nothing p l)) ∙ h))
    ]
