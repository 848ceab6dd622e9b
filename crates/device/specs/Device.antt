-- What a device means, and what a write does to it. A device is a regulator or a clock.
--   Device      a device as its questions tell it
--   Sound       what every device keeps
--   any_two     the one-write relation of a regulator, and of a clock without restrictions
--   Written     what one write of a code does, whatever the device answers
--   Willing     the device never balks: the supplied kinds
--   Fresh       the device as it is made: code 0, no write counted
--   set_on      the device put on a code without a write
--   no_device   what is told of a part that is not there
use Rattle.std.specs.Prelude.{◌≡◌, ℕ, ◌+◌, ◌-◌, ◌^◌, ◌<◌, ◌≤◌, min, Bool, true, false, cond, not, ◌&&◌, ◌⊎◌, ◌==◌, ◌≢◌, nat_lt}
use Rattle.device.specs.declared.answers.Answer.{Answer}
use Rattle.device.specs.declared.answers.Answer.TheVariants.{Done, Balked, Unsure, NoSuchWrite}

-- a device: how many codes it has, the level of each (0 for an absent one), which codes one write joins,
-- the present code, and the tally of the writes asked for
pub record Device : Type 0 where
  pub count : ℕ
  pub level : ℕ → ℕ
  pub linked : ℕ → ℕ → Bool
  pub code : ℕ
  pub tally : ℕ

-- what every device keeps
pub record Sound (d : Device) : Type 0 where
  -- 1 to 64 codes
  pub some : 1 ≤ d.count
  pub few : d.count ≤ 64
  -- a level from 1 to 5,000,000 for each code, and 0 for an absent one
  pub low : (c : ℕ) → c < d.count → 1 ≤ d.level c
  pub high : (c : ℕ) → d.level c ≤ 5000000
  pub absent : (c : ℕ) → d.count ≤ c → d.level c ≡ 0
  -- the present code is one of them, and the tally has 64 bits
  pub within : d.code < d.count
  pub counted : d.tally < 2 ^ 64
  -- the one-write relation is symmetric and joins only different codes that the device has
  pub symmetric : (a b : ℕ) → d.linked a b ≡ d.linked b a
  pub from_code : (a b : ℕ) → d.linked a b ≡ true → a < d.count
  pub to_code : (a b : ℕ) → d.linked a b ≡ true → b < d.count
  pub different : (a b : ℕ) → d.linked a b ≡ true → a ≢ b

-- any two different codes below the count
abbrev pub any_two : ℕ → ℕ → ℕ → Bool
any_two count a b = nat_lt a count && (nat_lt b count && not (a == b))

-- one more write counted, and no more at the top of 64 bits
abbrev pub counted_on : ℕ → ℕ
counted_on tally = min (tally + 1) (2 ^ 64 - 1)

-- where a write of a code leaves code and tally, by the answer; 'no such write' exactly where nothing joins the two codes
abbrev pub Left : Device → ℕ → Answer → Device → Type 0
Left d c NoSuchWrite e = (d.linked d.code c ≡ false) × (e.code ≡ d.code) × (e.tally ≡ d.tally)
Left d c Done e = (d.linked d.code c ≡ true) × (e.code ≡ c) × (e.tally ≡ counted_on d.tally)
Left d c Balked e = (d.linked d.code c ≡ true) × (e.code ≡ d.code) × (e.tally ≡ counted_on d.tally)
Left d c Unsure e = (d.linked d.code c ≡ true) × ((e.code ≡ d.code) ⊎ (e.code ≡ c)) × (e.tally ≡ counted_on d.tally)

-- a write of code c turned d into e and was answered a: no write changes a level or the relation
pub record Written (d : Device) (c : ℕ) (a : Answer) (e : Device) : Type 0 where
  pub count : e.count ≡ d.count
  pub level : (b : ℕ) → e.level b ≡ d.level b
  pub linked : (b b' : ℕ) → e.linked b b' ≡ d.linked b b'
  pub left : Left d c a e

-- the answer of a device that never balks
abbrev pub Willing : Device → ℕ → Answer → Type 0
Willing d c a = a ≡ cond (d.linked d.code c) Done NoSuchWrite

-- as made: code 0, no write counted
abbrev pub Fresh : Device → Type 0
Fresh d = (d.code ≡ 0) × (d.tally ≡ 0)

-- put on a code that the device has, without a write: the tally stays; an absent code changes nothing
abbrev pub set_on : Device → ℕ → Device
set_on d c = record { count = d.count; level = d.level; linked = d.linked; code = cond (nat_lt c d.count) c d.code; tally = d.tally }

-- no codes, no levels, no write
abbrev pub no_device : Device
no_device = record { count = 0; level = λ _. 0; linked = λ _ _. false; code = 0; tally = 0 }
