-- Joined states: the test says what is meant, and the relation is symmetric.
use Rattle.std.specs.Prelude.{◌≡◌, ℕ, ◌-◌, ◌≤◌, true, cond, ◌&&◌, List, Decides, ◌==◌, ◌≢◌, nat_le, nat_lt}
use Rattle.std.specs.List.{list_all}
use Rattle.std.proofs.Math.Path.{refl, sym, ap}
use Rattle.std.proofs.Common.{ap₂, ◌∙◌, inl, inr, arith, add_comm}
use Rattle.std.proofs.lemmas.Bool.{and_parts, and_from, cases_lt, false≢true, ltb-true}
use Rattle.device.specs.Device.{Device}
use Rattle.table.specs.declared.rule.Rule.{Rule}
use Rattle.table.specs.declared.rule.Rule.TheVariants.{Window, Spread, Step, Need, Cap}
use Rattle.search.specs.Graphs.{Meaning}
use Rattle.search.proofs.Guarded.{guarded}
use Rattle.bank.specs.Banks.{BankModel, Sound}
use Rattle.bank.specs.States.{digit}
use Rattle.board.specs.Boards.{board_graph}
use Rattle.board.specs.Layouts.{Layout, layout_of, states_of, code_at, level_at}
use Rattle.board.specs.Lawfulness.{holds, is_lawful}
use Rattle.board.specs.Joining.{allows, one_write, change, adjacent, are_joined, Joined}
use Rattle.board.specs.declared.change.Change.{Change}
use Rattle.board.specs.declared.change.Change.TheVariants.{Same, Only, Several}
use Rattle.board.specs.Changes.{just_one, one_change, same_agree, change_turned}
use Rattle.board.specs.Deciding.{decides_lawful, decides_steps}
use Rattle.board.specs.Numbering.{code_there}
use Rattle.board.specs.Verdicts.{cases_verdict, states_are, no_states}

module _ (l : Layout) (s t : ℕ) where
  -- what adjacent states tell
  Apart : ℕ → Type 0
  Apart p = (change l.count s t l.parts ≡ Only p) × (l.linked p (code_at l s p) (code_at l t p) ≡ true) × (list_all (allows l s t p) l.rules ≡ true)

  adjacent_part : adjacent l s t ≡ true → (p : ℕ) × Apart p
  unfolding Apart
  adjacent_part h = go (change l.count s t l.parts) refl
    where
      go : (w : Change) → change l.count s t l.parts ≡ w → (p : ℕ) × Apart p
      go Same e = absurd (false≢true (sym (ap (one_write l s t) e) ∙ h))
      go (Only p) e =
          let both = and_parts (l.linked p (code_at l s p) (code_at l t p)) (list_all (allows l s t p) l.rules) (sym (ap (one_write l s t) e) ∙ h) in
          (p, (e, both.0, both.1))
      go Several e = absurd (false≢true (sym (ap (one_write l s t) e) ∙ h))

  part_adjacent : (p : ℕ) → Apart p → adjacent l s t ≡ true
  unfolding Apart
  part_adjacent p w =
      ap (one_write l s t) w.0 ∙ and_from (l.linked p (code_at l s p) (code_at l t p)) (list_all (allows l s t p) l.rules) w.1 w.2

  joined_is : are_joined l s t ≡ true → Joined l s t
  unfolding Apart
  joined_is h =
      let x = and_parts (adjacent l s t) (is_lawful l s && is_lawful l t) h in
      let y = and_parts (is_lawful l s) (is_lawful l t) x.1 in
      let w = adjacent_part x.0 in
      let p = w.0 in
      let j = just_one l.count s t l.parts p w.1.0 in (
        p,
        record {
          from_lawful = (decides_lawful l s).0 y.0;
          to_lawful = (decides_lawful l t).0 y.1;
          here = j.0;
          differ = λ e. j.1 (sym (code_there l s p j.0) ∙ e ∙ code_there l t p j.0);
          alike = λ q a b. code_there l s q a ∙ j.2 q a b ∙ sym (code_there l t q a);
          linked = w.1.1;
          steps = (decides_steps l s t p).0 w.1.2;
        },
      )

  is_joined : Joined l s t → are_joined l s t ≡ true
  unfolding Apart
  is_joined w =
      let p = w.0 in
      let j = w.1 in
      let only = one_change l.count s t l.parts p (
        j.here,
        (λ e. j.differ (code_there l s p j.here ∙ e ∙ sym (code_there l t p j.here))),
        λ q a b. sym (code_there l s q a) ∙ j.alike q a b ∙ code_there l t q a,
      ) in
      and_from (adjacent l s t) (is_lawful l s && is_lawful l t) (part_adjacent p (only, j.linked, (decides_steps l s t p).1 j.steps))
      (and_from (is_lawful l s) (is_lawful l t) ((decides_lawful l s).1 j.from_lawful) ((decides_lawful l t).1 j.to_lawful))

pub decides_joined : (l : Layout) (s t : ℕ) → Decides (are_joined l s t) (Joined l s t)
decides_joined l s t = (joined_is l s t, is_joined l s t)

-- a step rule allows a write and its way back alike
allows_turned : (l : Layout) (s t p : ℕ) (r : Rule) → allows l s t p r ≡ allows l t s p r
allows_turned l s t p (Window rail floor ceiling) = refl
allows_turned l s t p (Spread rail other most) = refl
allows_turned l s t p (Step rail most) =
    ap (λ n. cond (rail == p) (nat_le n most) true) (add_comm (level_at l s p - level_at l t p) (level_at l t p - level_at l s p))
allows_turned l s t p (Need clock above rail least) = refl
allows_turned l s t p (Cap clock most) = refl

module _ (l : Layout) (turned : (p a b : ℕ) → l.linked p a b ≡ l.linked p b a) where
  write_turned : (s t : ℕ) (w : Change) → one_write l s t w ≡ one_write l t s w
  write_turned s t Same = refl
  write_turned s t (Only p) =
      ap₂ (λ a b. a && b) (turned p (code_at l s p) (code_at l t p)) (λ i. list_all (λ r. allows_turned l s t p r i) l.rules)
  write_turned s t Several = refl

  adjacent_turned : (s t : ℕ) → adjacent l s t ≡ adjacent l t s
  adjacent_turned s t = write_turned s t (change l.count s t l.parts) ∙ ap (one_write l t s) (change_turned l.count s t l.parts)

adjacent_other : (l : Layout) (s t : ℕ) → adjacent l s t ≡ true → s ≢ t
adjacent_other l s t h e =
    let same = same_agree l.count s t l.parts (λ q _. ap (λ n. digit l.count n q) e) in
    false≢true (sym (ap (one_write l s t) same) ∙ h)

-- at most 4,096 states
pub few_states : (l : Layout) → states_of l ≤ 4096
few_states l =
    elim (cases_verdict l) [
      | inl w ↦ omega (arith, states_are l w, w.whole.bounded)
      | inr w ↦ omega (arith, no_states l w)
    ]

-- the one-write relation of a bank's part is symmetric
linked_turned : (m : BankModel) → Sound m → (p a b : ℕ) → (m.device p).linked a b ≡ (m.device p).linked b a
linked_turned m sound p a b =
    elim (cases_lt p m.parts) [
      | inl h ↦ (sound.sound p h).symmetric a b
      | inr h ↦ let e = sound.nothing p h in ap (λ (d : Device). d.linked a b) e ∙ sym (ap (λ (d : Device). d.linked b a) e)
    ]

-- a board over any bank is a graph
pub board_meaning : (m : BankModel) → Sound m → (rules : List Rule) → Meaning (board_graph (layout_of m rules))
board_meaning m sound rules =
    let l = layout_of m rules in
    guarded (states_of l) (is_lawful l) (adjacent l) (few_states l)
    (λ s h. ltb-true s (states_of l) (and_parts (nat_lt s (states_of l)) (list_all (holds l s) rules) h).0)
    (adjacent_turned l (linked_turned m sound)) (adjacent_other l)
