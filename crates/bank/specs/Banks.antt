-- What a bank of parts means, and what a write does to it. A part is a device, numbered from 0, and its kind.
--   BankModel   a bank as its questions tell it
--   Sound       what every bank keeps
--   Written     what one write to a part does, whatever the bank answers
--   Willing     the bank never balks
--   one_part    a bank of one part
--   pair_of     the parts of a second bank numbered after those of a first
use Rattle.std.specs.Prelude.{◌≡◌, ℕ, ◌+◌, ◌-◌, ◌<◌, ◌≤◌, min, cond, Option, Some, None, ◌==◌, ◌≢◌, nat_lt}
use Rattle.device.specs.Device.{Device, any_two, no_device}
use Rattle.device.specs.Device as device
use Rattle.device.specs.declared.answers.Answer.{Answer}
use Rattle.device.specs.declared.kind.Kind.{Kind}
use Rattle.device.specs.declared.kind.Kind.TheVariants.{Rail}

-- a bank: how many parts it has, the kind that each is (none of an absent one), and the device that it is
pub record BankModel : Type 0 where
  pub parts : ℕ
  pub kind : ℕ → Option Kind
  pub device : ℕ → Device

-- what every bank keeps
pub record Sound (m : BankModel) : Type 0 where
  -- at most 32 parts, each a rail or a clock, and no other part
  pub few : m.parts ≤ 32
  pub present : (p : ℕ) → p < m.parts → m.kind p ≢ None
  pub absent : (p : ℕ) → m.parts ≤ p → m.kind p ≡ None
  -- each part keeps what a device keeps, and of an absent one there is nothing to tell
  pub sound : (p : ℕ) → p < m.parts → device.Sound (m.device p)
  pub nothing : (p : ℕ) → m.parts ≤ p → m.device p ≡ no_device
  -- one write joins any two different codes of a rail
  pub free : (p a b : ℕ) → m.kind p ≡ Some Rail → (m.device p).linked a b ≡ any_two (m.device p).count a b

-- a write of code c to part p turned m into n and was answered a: the part acts as a device does, and no other changes
pub record Written (m : BankModel) (p c : ℕ) (a : Answer) (n : BankModel) : Type 0 where
  pub parts : n.parts ≡ m.parts
  pub kind : (q : ℕ) → n.kind q ≡ m.kind q
  pub here : device.Written (m.device p) c a (n.device p)
  pub others : (q : ℕ) → (q ≢ p) → n.device q ≡ m.device q

-- the answer of a bank that never balks
abbrev pub Willing : BankModel → ℕ → ℕ → Answer → Type 0
Willing m p c a = device.Willing (m.device p) c a

-- one device, as part 0
abbrev pub one_part : Kind → Device → BankModel
one_part kind d = record {
  parts = 1;
  kind = λ p. cond (p == 0) (Some kind) None;
  device = λ p. cond (p == 0) d no_device;
}

-- the parts of a, then those of b, and none past 32
abbrev pub pair_of : BankModel → BankModel → BankModel
pair_of a b = record {
  parts = min (a.parts + b.parts) 32;
  kind = λ p. cond (nat_lt p 32) (cond (nat_lt p a.parts) (a.kind p) (b.kind (p - a.parts))) None;
  device = λ p. cond (nat_lt p 32) (cond (nat_lt p a.parts) (a.device p) (b.device (p - a.parts))) no_device;
}
