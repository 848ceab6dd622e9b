-- A write between joined states leaves the board at one of the two.
use Rattle.std.proofs.Common.{◌≡◌, ℕ, ◌<◌, true, List, sym, ap, ◌∙◌, subst, ap₂, inl, inr, arith}
use Rattle.std.proofs.lemmas.Bool.{cases_eq, false≢true}
use Rattle.device.specs.Device.{Device, Left}
use Rattle.device.specs.declared.answers.Answer.{Answer}
use Rattle.device.specs.declared.answers.Answer.TheVariants.{Done, Balked, Unsure, NoSuchWrite}
use Rattle.table.specs.declared.rule.Rule.{Rule}
use Rattle.bank.specs.Banks.{BankModel, Sound, Written}
use Rattle.bank.specs.States.{number, counts}
use Rattle.bank.proofs.Digits.{number_same, number_one}
use Rattle.board.specs.Layouts.{Layout, layout_of, verdict_of, states_of, code_at, present_codes, state_by, present}
use Rattle.board.specs.Lawfulness.{Lawful}
use Rattle.board.specs.Joining.{JoinedBy}
use Rattle.board.specs.Moves.{Lands, Moved, OneDigit}
use Rattle.board.specs.Numbering.{present_is, present_numbered, decoded}
use Rattle.board.specs.Verdicts.{Flawless, flawless}

module _ (m n : BankModel) (rules : List Rule) (p c : ℕ) (a : Answer) (w : Written m p c a n) where
  -- a fact of each device that holds at the written part and follows where nothing changed
  each : (P : Device → Device → Type 0) → ((d e : Device) → e ≡ d → P d e) → P (m.device p) (n.device p) → (q : ℕ) → P (m.device q) (n.device q)
  each P same here q =
      elim (cases_eq q p) [
        | inl e ↦ subst (λ r. P (m.device r) (n.device r)) (sym e) here
        | inr ne ↦ same (m.device q) (n.device q) (w.others q ne)
      ]

  -- no write changes the layout
  pub same_layout : layout_of n rules ≡ layout_of m rules
  same_layout = λ i. record {
    parts = w.parts i;
    kind = λ q. w.kind q i;
    count = λ q. each (λ d e. e.count ≡ d.count) (λ d e s. ap (λ (x : Device). x.count) s) w.here.count q i;
    level = λ q b. each (λ d e. e.level b ≡ d.level b) (λ d e s. ap (λ (x : Device). x.level b) s) (w.here.level b) q i;
    linked = λ q x y. each (λ d e. e.linked x y ≡ d.linked x y) (λ d e s. ap (λ (v : Device). v.linked x y) s) (w.here.linked x y) q i;
    rules = rules;
  }

  -- the state after the write, by the old counts
  pub after_is : Flawless (layout_of m rules) → present n rules ≡ number (counts m) (present_codes n) m.parts
  after_is fine =
      ap (λ (l : Layout). state_by (verdict_of l) (number l.count (present_codes n) l.parts)) same_layout
      ∙ ap (λ v. state_by v (number (counts m) (present_codes n) m.parts)) fine.verdict

  module _ (sound : Sound m) (t : ℕ) (j : JoinedBy (layout_of m rules) (present m rules) t p) (asked : code_at (layout_of m rules) t p ≡ c) where
    fine : Flawless (layout_of m rules)
    fine = let below = j.to_lawful.below in flawless (layout_of m rules) (omega arith)

    -- the present code of a part is that of the present state
    code_is : (q : ℕ) → q < m.parts → code_at (layout_of m rules) (present m rules) q ≡ (m.device q).code
    code_is = (present_numbered m sound rules (let below = j.from_lawful.below in omega arith)).1

    -- the write did not take
    stays : (n.device p).code ≡ (m.device p).code → present n rules ≡ present m rules
    stays e =
        after_is fine
        ∙ number_same (counts m) (present_codes n) (present_codes m) m.parts
        (λ q _. each (λ d f. f.code ≡ d.code) (λ d f s. ap (λ (x : Device). x.code) s) e q)
        ∙ sym (present_is m rules fine)

    -- the write took
    takes : (n.device p).code ≡ c → present n rules ≡ t
    takes e =
        after_is fine
        ∙ number_same (counts m) (present_codes n) (code_at (layout_of m rules) t) m.parts
        (λ q h. elim (cases_eq q p) [
          | inl s ↦ subst (λ r. (n.device r).code ≡ code_at (layout_of m rules) t r) (sym s) (e ∙ sym asked)
          | inr ne ↦ ap (λ (x : Device). x.code) (w.others q ne) ∙ sym (code_is q h) ∙ j.alike q h ne
        ])
        ∙ (decoded m sound rules t j.to_lawful.below).1

    lawful_at : (u : ℕ) → present n rules ≡ u → Lawful (layout_of m rules) u → Lawful (layout_of n rules) (present n rules)
    lawful_at u e h =
        subst (λ (l : Layout). Lawful l (present n rules)) (sym same_layout) (subst (λ s. Lawful (layout_of m rules) s) (sym e) h)

    exists : (m.device p).linked (m.device p).code c ≡ true
    exists = ap₂ (λ x y. (m.device p).linked x y) (sym (code_is p j.here)) (sym asked) ∙ j.linked

    pub lands : (b : Answer) → Left (m.device p) c b (n.device p)
        → Lands b (present m rules) t (present n rules) × Lawful (layout_of n rules) (present n rules)
    lands Done left = let e = takes left.1 in (e, lawful_at t e j.to_lawful)
    lands Balked left = let e = stays left.1 in (e, lawful_at (present m rules) e j.from_lawful)
    lands Unsure left =
        elim left.1 [
          | inl h ↦ let e = stays h in (inl e, lawful_at (present m rules) e j.from_lawful)
          | inr h ↦ let e = takes h in (inr e, lawful_at t e j.to_lawful)
        ]
    lands NoSuchWrite left = absurd (false≢true (sym left.0 ∙ exists))

-- whatever the answer
pub moved : (m n : BankModel) (rules : List Rule) (p c : ℕ) (a : Answer) → Sound m → Written m p c a n → Moved m rules p c a n
moved m n rules p c a sound w t j asked = lands m n rules p c a w sound t j asked a w.here.left

-- whatever is written
pub one_digit : (m n : BankModel) (rules : List Rule) (p c : ℕ) (a : Answer) → Sound m → Sound n → Written m p c a n → OneDigit m rules p n
one_digit m n rules p c a sm sn w here some =
    let states = ap states_of (same_layout m n rules p c a w) in
    let fine = flawless (layout_of m rules) some in
    let before = present_is m rules fine in
    let after = after_is m n rules p c a w fine in
    let shift = number_one (counts m) (present_codes m) (present_codes n) m.parts p here (λ q _ ne. ap (λ (x : Device). x.code) (w.others q ne)) in (
      omega arith,
      λ q h ne. (present_numbered n sn rules (omega (arith, states))).1 q (omega (arith, w.parts))
          ∙ ap (λ (x : Device). x.code) (w.others q ne)
          ∙ sym ((present_numbered m sm rules some).1 q h),
    )
