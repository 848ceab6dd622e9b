-- What the reading of a whole table answers.
--   lists_of     the parts' figures and the rules of a listing
--   AllFresh     every part as it was made
--   Read         the listing is what the bytes list
--   BoardTable   the bytes are those of records that make the table of a board, and these are listed
--   OnlyFull     such bytes are sent back only for want of memory
--   NotAdded     a record that is not taken in
use Rattle.std.specs.Prelude.{◌≡◌, ℕ, ◌⊎◌, List, map, Err, vec_items, Result}
use Rattle.std.specs.List.{All}
use Rattle.answer.specs.declared.refusal.Refusal.{Refusal}
use Rattle.answer.specs.declared.fault.Fault.{Fault}
use Rattle.answer.specs.Faults.{table_fault, memory_fault}
use Rattle.device.specs.Device.{Fresh}
use Rattle.listing.specs.Parts.{part_figures, part_model}
use Rattle.table.specs.Records.{Rec}
use Rattle.table.specs.Reading.{accepted}
use Rattle.table.specs.Tables.{Encodes}
use Rattle.listing.specs.Lists.{Lists, listing, parts_of, rules_of, Fits}
use Rattle.listing.specs.declared.Listing.{Listing}

-- what a listing lists
abbrev pub lists_of : Listing → Lists
lists_of l = record { parts = map part_figures (vec_items l.parts); rules = vec_items l.rules }

-- every part at code 0, with no write counted
abbrev pub AllFresh : Listing → Type 0
AllFresh l = All (λ p. Fresh (part_model p)) (vec_items l.parts)

-- the listing is what the bytes list, and its parts are as made
pub record Read (bs : List ℕ) (l : Listing) : Type 0 where
  pub records : ℕ
  pub listed : listing bs ≡ accepted records (lists_of l)
  pub fresh : AllFresh l

-- the bytes are those of records in range that make the table of a board, and the listing has just their parts and rules
pub record BoardTable (bs : List ℕ) (l : Listing) : Type 0 where
  pub records : List Rec
  pub encoded : Encodes records bs
  pub fits : Fits records
  pub parts : (lists_of l).parts ≡ parts_of records
  pub rules : (lists_of l).rules ≡ rules_of records

-- bytes of such records are sent back only for want of memory
abbrev pub OnlyFull : List ℕ → Fault → Type 0
OnlyFull bs f = (rs : List Rec) → Encodes rs bs → Fits rs → f ≡ memory_fault

-- a record that is not taken in: the fault for the reason why not, at the record's number, or want of memory
abbrev pub NotAdded : Result Lists Refusal → ℕ → Fault → Type 0
NotAdded verdict number f = (f ≡ memory_fault) ⊎ ((verdict ≡ Err f.refusal) × (f ≡ table_fault f.refusal number))
