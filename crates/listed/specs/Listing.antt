-- The listed bank.
--   bank_from   the bank that a list of parts is
--   listed_model   what a listed bank shows
--   Shows       what is told of a part that is looked up
--   Put         each part put on its code of a state
--   SetTo       the bank put on a state that it has
--   CameFrom    the bank and the rules that the bytes of a table list
use Rattle.std.specs.Prelude.{◌≡◌, ℕ, ◌<◌, List, length, Some, None, Option}
use Rattle.std.specs.Borrow.{Bor}
use Rattle.std.specs.Vec.{vec_items}
use Rattle.device.specs.Device.{no_device, set_on}
use Rattle.device.specs.Figures.{kind_of}
use Rattle.table.specs.Reading.{accepted}
use Rattle.table.specs.declared.rule.Rule.{Rule}
use Rattle.listing.specs.Lists.{Lists, listing}
use Rattle.listing.specs.Parts.{part_figures, part_model}
use Rattle.listing.specs.declared.part.Part.{Part}
use Rattle.bank.specs.Banks.{BankModel}
use Rattle.bank.specs.States.{number, digit, counts, spans}
use Rattle.listed.specs.Figured.{at_or, bank_of}
use Rattle.listed.specs.declared.Listed.{Listed}

-- the bank that a list of parts is
abbrev pub bank_from : List Part → BankModel
bank_from ps = record {
  parts = length ps;
  kind = at_or (λ x. Some (kind_of (part_figures x))) None ps;
  device = at_or part_model no_device ps;
}

-- what a listed bank shows
abbrev pub listed_model : Listed → BankModel
listed_model b = bank_from (vec_items b.parts)

-- what is told of part p: none where it is absent
abbrev pub Shows : BankModel → ℕ → Option (Bor Part) → Type 0
Shows m p None = (m.kind p ≡ None) × (m.device p ≡ no_device)
Shows m p (Some x) = (m.kind p ≡ Some (kind_of (part_figures x.now))) × (m.device p ≡ part_model x.now)

-- each part of bank m put on its code of state s makes bank n: the tallies stay
pub record Put (m : BankModel) (s : ℕ) (n : BankModel) : Type 0 where
  pub parts : n.parts ≡ m.parts
  pub kind : (q : ℕ) → n.kind q ≡ m.kind q
  pub device : (q : ℕ) → n.device q ≡ set_on (m.device q) (digit (counts m) s q)

-- bank m put on its state s is bank n, and its present codes make just that state
pub record SetTo (m : BankModel) (s : ℕ) (n : BankModel) : Type 0 where
  pub there : s < spans m
  pub put : Put m s n
  pub state : number (counts n) (λ q. (n.device q).code) n.parts ≡ s

-- the bytes of a table list this bank, as made, and these rules
pub record CameFrom (bs : List ℕ) (m : BankModel) (rules : List Rule) : Type 0 where
  pub records : ℕ
  pub lists : Lists
  pub listed : listing bs ≡ accepted records lists
  pub bank : m ≡ bank_of lists.parts
  pub ruled : rules ≡ lists.rules
