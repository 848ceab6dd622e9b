-- A list of levels that passes the test has each of its levels in range.
use Rattle.std.proofs.Common.{◌≡◌, ℕ, ◌<◌, ◌≤◌, true, leb, List, length, get_or}
use Rattle.std.proofs.lemmas.Bool.{and_parts, leb-true}
use Rattle.std.proofs.lemmas.List.Sums.{AllPass-from_list_all}
use Rattle.device.specs.Figures.{level_ok, levels_ok}

-- each of the levels that pass
pub levels_within : (xs : List ℕ) → levels_ok xs ≡ true → (k : ℕ) → k < length xs → (1 ≤ get_or xs k 0) × (get_or xs k 0 ≤ 5000000)
levels_within xs e k h =
    let parts = and_parts (leb 1 (get_or xs k 0)) (leb (get_or xs k 0) 5000000) (AllPass-from_list_all level_ok xs e k 0 h) in
    (leb-true 1 (get_or xs k 0) parts.0, leb-true (get_or xs k 0) 5000000 parts.1)
