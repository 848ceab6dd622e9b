-- The bank that a list of figures makes.
--   at_or     what stands at a place of a list, or something else past its end
--   bank_of   a bank of parts with these figures, each as it is made
use Rattle.std.specs.Prelude.{ℕ, List, map, length, Some, None, slice_index_or}
use Rattle.device.specs.Device.{no_device}
use Rattle.device.specs.Figures.{Figures, kind_of, device_of}
use Rattle.bank.specs.Banks.{BankModel}

-- a function of the element at place p, or z past the end
abbrev pub at_or : {X Y : Type 0} → (X → Y) → Y → List X → ℕ → Y
at_or f z xs p = slice_index_or (map f xs) p z

-- parts with these figures, in order, each at code 0 with no write counted
abbrev pub bank_of : List Figures → BankModel
bank_of fs = record {
  parts = length fs;
  kind = at_or (λ f. Some (kind_of f)) None fs;
  device = at_or (λ f. device_of f 0 0) no_device fs;
}
